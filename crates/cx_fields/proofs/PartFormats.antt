-- The shared parts are read as they are spelled.
use Rattle.std.proofs.Common.{◌≡◌, ℕ, zero, suc, ◌^◌, ◌<◌, ◌≤◌, Bool, true, false, cond, eqb, List, [], ◌∷◌, ◌++◌, length, refl, sym, ap, ◌∙◌, append_assoc, arith}
use Rattle.std.specs.Prelude.{◌||◌}
use Rattle.std.specs.List.{AllByRecursion}
use Rattle.std.proofs.lemmas.List.{append-nil}
use Rattle.cx_code.specs.declared.code.Instruction.{Instruction}
use Rattle.cx_code.specs.declared.code.Region.{Region}
use Rattle.cx_code.specs.declared.image.Initial.{Initial}
use Rattle.cx_code.specs.declared.image.Initial.TheVariants as initials
use Rattle.cx_code.specs.declared.image.Assertion.{Assertion}
use Rattle.cx_code.specs.declared.image.AssertionKind.{AssertionKind}
use Rattle.cx_code.specs.declared.image.AssertionKind.TheVariants as kinds
use Rattle.cx_code.specs.Spelling.{number, list, instruction, region, initial, kind_code, assertion}
use Rattle.cx_code.specs.Storable.{IsStorableRegion}
use Rattle.cx_fields.specs.declared.bounds.Bounds.{Bounds}
use Rattle.cx_fields.specs.declared.fault.Why.TheVariants.{Limit, Range, Index}
use Rattle.cx_fields.specs.Parts.{unbounded, operand_end, instruction_at, code_at, caught_end, region_at, value_at, initial_at, kind_of, assertion_at, assertions_at}
use Rattle.cx_fields.specs.Numbers.{OfWords, OfPlaces, OfHalves}
use Rattle.cx_fields.proofs.Format.{IsFormat, IsIn, IsWithin, looser, finished, followed, restated, byte_format, number_format, byte_in_format, number_in_format, zero_format, many_format}

pub record HoldsInstruction (bounds : Bounds) (i : Instruction) : Type 0 where
  pub words : OfWords i
  pub index : i.a < operand_end bounds i.code

pub instruction_format : (bounds : Bounds) → IsFormat (instruction_at bounds) instruction (HoldsInstruction bounds)
unfolding instruction_at
instruction_format bounds = restated
    (followed byte_format (λ i. i.code) (λ code i p h. cc) (λ code p.
    followed (number_in_format 0 (operand_end bounds code) Index) (λ i. i.a) (λ a i p h. cc) (λ a p.
    followed number_format (λ i. i.b) (λ b i p h. cc) (λ b p. finished (record { code = code; a = a; b = b })))))
    (λ i h. simp (append_assoc, append-nil))
    (λ i h. record { words = record { a = h.1.0.1; b = h.1.1.0 }; index = h.1.0.0.below })
    (λ i h. (tt, ((record { from = omega arith; below = h.index }, h.words.a), (h.words.b, refl))))

pub code_format : (bounds : Bounds) (room : ℕ) → IsFormat (code_at bounds room) (list instruction) (λ code. (length code < room) × (length code < 2 ^ 32) × AllByRecursion (HoldsInstruction bounds) code)
unfolding code_at
code_format bounds room = restated (followed (number_in_format 0 room Limit) (λ code. length code) (λ count code p h. h.0) (λ count h. many_format (instruction_format bounds) count))
    (λ code h. refl) (λ code h. (h.0.0.below, h.0.1, h.1.1)) (λ code h. ((record { from = omega arith; below = h.0 }, h.1), (refl, h.2)))

pub record HoldsRegion (bounds : Bounds) (r : Region) : Type 0 where
  pub places : OfPlaces r
  pub storable : IsStorableRegion r
  pub index : r.of < caught_end bounds r.kind

pub region_format : (bounds : Bounds) → IsFormat (region_at bounds) region (HoldsRegion bounds)
unfolding region_at
region_format bounds = restated
    (followed number_format (λ r. r.start) (λ start r p h. cc) (λ start p.
    followed number_format (λ r. r.end) (λ end r p h. cc) (λ end p.
    followed (byte_in_format 1 5 Range) (λ r. r.kind) (λ kind r p h. cc) (λ kind p.
    followed (number_in_format 0 (caught_end bounds kind) Index) (λ r. r.of) (λ of r p h. cc) (λ of p.
    followed number_format (λ r. r.target) (λ target r p h. cc) (λ target p.
    followed number_format (λ r. r.depth) (λ depth r p h. cc) (λ depth p.
    finished (record { start = start; end = end; kind = kind; of = of; target = target; depth = depth }))))))))
    (λ r h. simp (append_assoc, append-nil))
    (λ r h. record {
      places = record { start = h.0; end = h.1.0; of = h.1.1.1.0.1; target = h.1.1.1.1.0; depth = h.1.1.1.1.1.0 };
      storable = record { some_kind = h.1.1.0.from; kind = omega (arith, h.1.1.0.below) };
      index = h.1.1.1.0.0.below;
    })
    (λ r h. (h.places.start, (h.places.end, (record { from = h.storable.some_kind; below = omega (arith, h.storable.kind) }, ((record { from = omega arith; below = h.index }, h.places.of), (h.places.target, (h.places.depth, refl)))))))

high_half : Initial → ℕ
high_half (initials.Number high low) = high
high_half initials.Null = 0

low_half : Initial → ℕ
low_half (initials.Number high low) = low
low_half initials.Null = 0

sort_code : Initial → ℕ
sort_code (initials.Number high low) = 0
sort_code initials.Null = 1

abbrev halves : Initial → List ℕ
halves value = number (high_half value) ++ number (low_half value)

number_holds : (value : Initial) → (high_half value < 2 ^ 32) × ((low_half value < 2 ^ 32) × (value ≡ initials.Number (high_half value) (low_half value))) → OfHalves value × (sort_code value ≡ 0)
unfolding high_half low_half sort_code
number_holds (initials.Number high low) h = ((h.0, h.1.0), refl)
number_holds initials.Null h = absurd cc

holds_number : (value : Initial) → OfHalves value × (sort_code value ≡ 0) → (high_half value < 2 ^ 32) × ((low_half value < 2 ^ 32) × (value ≡ initials.Number (high_half value) (low_half value)))
unfolding high_half low_half sort_code
holds_number (initials.Number high low) h = (h.0.0, (h.0.1, refl))
holds_number initials.Null h = absurd cc

null_holds : (value : Initial) → value ≡ initials.Null → OfHalves value × (sort_code value ≡ 1)
unfolding sort_code
null_holds (initials.Number high low) h = absurd cc
null_holds initials.Null h = (tt, refl)

holds_null : (value : Initial) → OfHalves value × (sort_code value ≡ 1) → value ≡ initials.Null
unfolding sort_code
holds_null (initials.Number high low) h = absurd cc
holds_null initials.Null h = refl

value_format : (sort : ℕ) → IsIn 0 2 sort → IsFormat (value_at sort) halves (λ value. OfHalves value × (sort_code value ≡ sort))
unfolding value_at high_half low_half
value_format zero p = restated
    (followed number_format high_half (λ high value p h. ap high_half h.1) (λ high p.
    followed number_format low_half (λ low value p h. ap low_half h) (λ low p. finished (initials.Number high low))))
    (λ value h. simp append-nil) number_holds holds_number
value_format (suc zero) p = restated
    (followed zero_format high_half (λ high value p h. ap high_half h.1 ∙ sym p) (λ high p.
    followed zero_format low_half (λ low value p h. ap low_half h ∙ sym p) (λ low p. finished initials.Null)))
    (λ value h. simp append-nil) (λ value h. null_holds value h.1.1) (λ value h. let e = holds_null value h in (ap high_half e, (ap low_half e, e)))
value_format (suc (suc sort)) p = absurd (omega (arith, p.below))

initial_spelled : (value : Initial) → (sort_code value ∷ []) ++ halves value ≡ initial value
unfolding high_half low_half sort_code
initial_spelled (initials.Number high low) = sym (append_assoc (0 ∷ []) (number high) (number low))
initial_spelled initials.Null = sym (append_assoc (1 ∷ []) (number 0) (number 0))

sort_in : (value : Initial) → IsIn 0 2 (sort_code value)
unfolding sort_code
sort_in (initials.Number high low) = record { from = omega arith; below = omega arith }
sort_in initials.Null = record { from = omega arith; below = omega arith }

pub initial_format : IsFormat initial_at initial OfHalves
unfolding initial_at
initial_format = restated (followed (byte_in_format 0 2 Range) sort_code (λ sort value p h. h.1) (λ sort p. value_format sort p))
    (λ value h. initial_spelled value) (λ value h. h.1.0) (λ value h. (sort_in value, (h, refl)))

-- ---- assertions

kind_again : (code : ℕ) → IsIn 1 4 code → kind_code (kind_of code) ≡ code
kind_again zero p = absurd (omega (arith, p.from))
kind_again (suc zero) p = refl
kind_again (suc (suc zero)) p = refl
kind_again (suc (suc (suc zero))) p = refl
kind_again (suc (suc (suc (suc code)))) p = absurd (omega (arith, p.below))

kind_back : (kind : AssertionKind) → kind_of (kind_code kind) ≡ kind
kind_back kinds.Pre = refl
kind_back kinds.Post = refl
kind_back kinds.Assert = refl

kind_in : (kind : AssertionKind) → IsIn 1 4 (kind_code kind)
kind_in kinds.Pre = record { from = omega arith; below = omega arith }
kind_in kinds.Post = record { from = omega arith; below = omega arith }
kind_in kinds.Assert = record { from = omega arith; below = omega arith }

pub record HoldsAssertion (bounds : Bounds) (a : Assertion) : Type 0 where
  pub function : IsWithin bounds.functions a.function
  pub ordinal : IsIn 1 (2 ^ 32) a.ordinal
  pub file : IsWithin bounds.texts a.file
  pub comment : IsWithin bounds.texts a.comment
  pub line : a.line < 2 ^ 32
  pub column : a.column < 2 ^ 32

pub assertion_format : (bounds : Bounds) → IsFormat (assertion_at bounds) assertion (HoldsAssertion bounds)
unfolding assertion_at
assertion_format bounds = restated
    (followed (number_in_format 0 bounds.functions Index) (λ a. a.function) (λ function a p h. cc) (λ function p.
    followed (byte_in_format 1 4 Range) (λ a. kind_code a.kind) (λ kind a p h. ap (λ (a : Assertion). kind_code a.kind) h.1.1.1.1.1 ∙ kind_again kind p) (λ kind p.
    followed (number_in_format 1 (2 ^ 32) Range) (λ a. a.ordinal) (λ ordinal a p h. cc) (λ ordinal p.
    followed (number_in_format 0 bounds.texts Index) (λ a. a.file) (λ file a p h. cc) (λ file p.
    followed (number_in_format 0 bounds.texts Index) (λ a. a.comment) (λ comment a p h. cc) (λ comment p.
    followed number_format (λ a. a.line) (λ line a p h. cc) (λ line p.
    followed number_format (λ a. a.column) (λ column a p h. cc) (λ column p.
    finished (record { function = function; kind = kind_of kind; ordinal = ordinal; file = file; comment = comment; line = line; column = column })))))))))
    (λ a h. simp (append_assoc, append-nil))
    (λ a h. record { function = h.0; ordinal = h.1.1.0.0; file = h.1.1.1.0; comment = h.1.1.1.1.0; line = h.1.1.1.1.1.0; column = h.1.1.1.1.1.1.0 })
    (λ a h. (
      h.function,
      (
        kind_in a.kind,
        (
          (h.ordinal, h.ordinal.below),
          (
            h.file,
            (
              h.comment,
              (
                h.line,
                (
                  h.column,
                  ap (λ (kind : AssertionKind). record { function = a.function; kind = kind; ordinal = a.ordinal; file = a.file; comment = a.comment; line = a.line; column = a.column }) (sym (kind_back a.kind)),
                ),
              ),
            ),
          ),
        ),
      ),
    ))

pub assertions_format : (bounds : Bounds) → IsFormat (assertions_at bounds) (list assertion) (λ xs. (length xs ≤ 4096) × AllByRecursion (HoldsAssertion bounds) xs)
unfolding assertions_at
assertions_format bounds = restated (followed (number_in_format 0 4097 Limit) (λ xs. length xs) (λ count xs p h. h.0) (λ count h. many_format (assertion_format bounds) count))
    (λ xs h. refl) (λ xs h. (omega (arith, h.0.0.below), h.1.1)) (λ xs h. ((record { from = omega arith; below = omega (arith, h.0) }, omega (arith, h.0)), (refl, h.1)))

-- ---- without bounds

same_either : {X : Type 0} (b : Bool) (x y : X) → y ≡ x → cond b x y ≡ x
same_either true x y e = refl
same_either false x y e = e

operand_unbounded : (code : ℕ) → operand_end unbounded code ≡ 2 ^ 32
operand_unbounded code =
    same_either (eqb code 38) _ _ (same_either (eqb code 40) _ _ (same_either (eqb code 43) _ _
    (same_either (eqb code 44 || eqb code 45 || eqb code 46) _ _ (same_either (eqb code 49 || eqb code 54) _ _ refl))))

pub free_instruction : (i : Instruction) → OfWords i → HoldsInstruction unbounded i
free_instruction i words = record { words = words; index = rw (operand_unbounded i.code) words.a }

pub free_region : (r : Region) → OfPlaces r → IsStorableRegion r → HoldsRegion unbounded r
free_region r places storable = record { places = places; storable = storable; index = rw (same_either (eqb r.kind 2) _ _ refl) places.of }

pub assertion_looser : (bounds : Bounds) (a : Assertion) → HoldsAssertion bounds a → HoldsAssertion unbounded a
assertion_looser bounds a h = record {
  function = looser bounds.functions a.function h.function;
  ordinal = h.ordinal;
  file = looser bounds.texts a.file h.file;
  comment = looser bounds.texts a.comment h.comment;
  line = h.line;
  column = h.column;
}
