-- An image is read as it is spelled.
use Rattle.std.proofs.Common.{◌≡◌, ℕ, ◌+◌, ◌^◌, ◌<◌, ◌≤◌, List, length, Result, Ok, Err, refl, sym, ap, ◌∙◌, append_assoc, arith}
use Rattle.std.specs.Prelude.{codes, IfOk}
use Rattle.std.specs.List.{AllByRecursion}
use Rattle.std.proofs.lemmas.List.{append-nil}
use Rattle.std.proofs.lemmas.List.Elements.{All-from_recursion, recursion_from_All}
use Rattle.cx_code.specs.declared.image.Image.{Image}
use Rattle.cx_code.specs.declared.image.TypeEntry.{TypeEntry}
use Rattle.cx_code.specs.declared.image.GlobalEntry.{GlobalEntry}
use Rattle.cx_code.specs.declared.image.Function.{Function}
use Rattle.cx_code.specs.declared.image.Assertion.{Assertion}
use Rattle.cx_code.specs.Spelling.{number, list, type_entry, global, function, image_spelling}
use Rattle.cx_code.specs.Storable.{IsShort, IsStorable, IsStorableType, IsStorableGlobal, IsStorableFunction, IsStorableRegion, IsStorableAssertion}
use Rattle.cx_fields.specs.declared.bounds.Bounds.{Bounds}
use Rattle.cx_fields.specs.declared.fault.Why.TheVariants.{Limit, Range, Index}
use Rattle.cx_fields.specs.declared.fault.ReadFault.{ReadFault}
use Rattle.cx_fields.specs.Reading.{Gives}
use Rattle.cx_fields.specs.Parts.{unbounded}
use Rattle.cx_fields.specs.Numbers.{OfWords, OfPlaces, OfHalves, OfPosition}
use Rattle.cx_fields.proofs.Format.{IsFormat, IsIn, IsBytes, IsWithin, within, looser, ok_is, HoldsEach, finished, followed, restated, number_in_format, flag_format, text_format, head_format, list_format, each_format}
use Rattle.cx_fields.proofs.PartFormats.{HoldsInstruction, HoldsRegion, HoldsAssertion, code_format, region_format, free_instruction, free_region, initial_format, assertion_looser, assertions_format}
use Rattle.cx_fields.proofs.Weights.{all_of, each_of, each_of_both, each_looser, weights_fit, all_of_weighed, weighed_of}
use Rattle.cx_fields.proofs.Whole.{whole_takes, whole_again}
use Rattle.cx_image.specs.Words.{GlobalOfWords, FunctionOfWords, ImageOfWords}
use Rattle.cx_image.specs.Reading.{type_at, global_at, function_at, code_length, functions_at, image_at, tables_of, read_image}

pub record HoldsType (bounds : Bounds) (t : TypeEntry) : Type 0 where
  name : IsShort t.name
  leaves : IsIn 1 257 t.leaves
  dropper : IsWithin bounds.functions_or_none t.dropper

type_format : (bounds : Bounds) → IsFormat (type_at bounds) type_entry (HoldsType bounds)
unfolding type_at
type_format bounds = restated
    (followed text_format (λ t. t.name) (λ name t p h. cc) (λ name p.
    followed (number_in_format 1 257 Range) (λ t. t.leaves) (λ leaves t p h. cc) (λ leaves p.
    followed (number_in_format 0 bounds.functions_or_none Index) (λ t. t.dropper) (λ dropper t p h. cc) (λ dropper p.
    finished (record { name = name; leaves = leaves; dropper = dropper })))))
    (λ t h. simp (append_assoc, append-nil))
    (λ t h. record { name = h.0; leaves = h.1.0.0; dropper = h.1.1.0 })
    (λ t h. (h.name, ((h.leaves, omega (arith, h.leaves.below)), (h.dropper, refl))))

pub record HoldsGlobal (g : GlobalEntry) : Type 0 where
  name : IsShort g.name
  initial : OfHalves g.initial

global_format : IsFormat global_at global HoldsGlobal
unfolding global_at
global_format = restated
    (followed text_format (λ g. g.name) (λ name g p h. cc) (λ name p.
    followed initial_format (λ g. g.initial) (λ initial g p h. cc) (λ initial p. finished (record { name = name; initial = initial }))))
    (λ g h. simp (append_assoc, append-nil))
    (λ g h. record { name = h.0; initial = h.1.0 })
    (λ g h. (h.name, (h.initial, refl)))

pub record HoldsFunction (room : ℕ) (f : Function) : Type 0 where
  name : IsShort f.name
  parameters : f.parameters ≤ f.slots
  slots : f.slots ≤ 8192
  code : (length f.code < room) × (length f.code < 2 ^ 32) × AllByRecursion (HoldsInstruction unbounded) f.code
  regions : (length f.regions < 2 ^ 32) × AllByRecursion (HoldsRegion unbounded) f.regions

function_format : (room : ℕ) → IsFormat (function_at room) function (HoldsFunction room)
unfolding function_at
function_format room = restated
    (followed text_format (λ f. f.name) (λ name f p h. cc) (λ name p.
    followed flag_format (λ f. f.counted) (λ counted f p h. cc) (λ counted p.
    followed (number_in_format 0 8193 Range) (λ f. f.parameters) (λ parameters f p h. cc) (λ parameters p.
    followed (number_in_format parameters 8193 Range) (λ f. f.slots) (λ slots f p h. cc) (λ slots p.
    followed flag_format (λ f. f.result) (λ result f p h. cc) (λ result p.
    followed (code_format unbounded room) (λ f. f.code) (λ code f p h. cc) (λ code p.
    followed (list_format (region_format unbounded)) (λ f. f.regions) (λ regions f p h. cc) (λ regions p.
    finished (record { name = name; counted = counted; parameters = parameters; slots = slots; result = result; code = code; regions = regions })))))))))
    (λ f h. simp (append_assoc, append-nil))
    (λ f h. record { name = h.0; parameters = h.1.1.1.0.0.from; slots = omega (arith, h.1.1.1.0.0.below); code = h.1.1.1.1.1.0; regions = h.1.1.1.1.1.1.0 })
    (λ f h. (
      h.name,
      (
        tt,
        (
          (record { from = omega arith; below = omega (arith, h.parameters, h.slots) }, omega (arith, h.parameters, h.slots)),
          ((record { from = h.parameters; below = omega (arith, h.slots) }, omega (arith, h.slots)), (tt, (h.code, (h.regions, refl)))),
        ),
      ),
    ))

functions_format : IsFormat functions_at (list function) (λ fs. (length fs ≤ 262144) × HoldsEach code_length HoldsFunction 8388609 fs)
unfolding functions_at
functions_format = restated (followed (number_in_format 0 262145 Limit) (λ fs. length fs) (λ count fs p h. h.0) (λ count h. each_format code_length function_at function HoldsFunction function_format count 8388609))
    (λ fs h. refl) (λ fs h. (omega (arith, h.0.0.below), h.1.1)) (λ fs h. ((record { from = omega arith; below = omega (arith, h.0) }, omega (arith, h.0)), (refl, h.1)))

pub record HoldsImage (bounds : Bounds) (image : Image) : Type 0 where
  texts : (length image.texts < 2 ^ 32) × AllByRecursion IsShort image.texts
  types : (length image.types < 2 ^ 32) × AllByRecursion (HoldsType bounds) image.types
  globals : (length image.globals < 2 ^ 32) × AllByRecursion HoldsGlobal image.globals
  functions : (length image.functions ≤ 262144) × HoldsEach code_length HoldsFunction 8388609 image.functions
  assertions : (length image.assertions ≤ 4096) × AllByRecursion (HoldsAssertion bounds) image.assertions
  main : IsWithin bounds.functions image.main
  handler : IsWithin bounds.functions_or_none image.handler

word_is : number 1129859405 ≡ codes "CXIM"
unfolding number
word_is = refl

image_format : (bounds : Bounds) → IsFormat (image_at bounds) image_spelling (HoldsImage bounds)
unfolding image_at image_spelling
image_format bounds = restated
    (followed (head_format 1129859405 (omega arith)) (λ image. 1) (λ version image p h. sym p) (λ version p.
    followed (list_format text_format) (λ image. image.texts) (λ texts image p h. cc) (λ texts p.
    followed (list_format (type_format bounds)) (λ image. image.types) (λ types image p h. cc) (λ types p.
    followed (list_format global_format) (λ image. image.globals) (λ globals image p h. cc) (λ globals p.
    followed functions_format (λ image. image.functions) (λ functions image p h. cc) (λ functions p.
    followed (assertions_format bounds) (λ image. image.assertions) (λ assertions image p h. cc) (λ assertions p.
    followed (number_in_format 0 bounds.functions Index) (λ image. image.main) (λ main image p h. cc) (λ main p.
    followed (number_in_format 0 bounds.functions_or_none Index) (λ image. image.handler) (λ handler image p h. cc) (λ handler p.
    finished (record { texts = texts; types = types; globals = globals; functions = functions; assertions = assertions; main = main; handler = handler }))))))))))
    (λ image h. rw word_is (simp (append_assoc, append-nil)))
    (λ image h. record { texts = h.1.0; types = h.1.1.0; globals = h.1.1.1.0; functions = h.1.1.1.1.0; assertions = h.1.1.1.1.1.0; main = h.1.1.1.1.1.1.0; handler = h.1.1.1.1.1.1.1.0 })
    (λ image h. (refl, (h.texts, (h.types, (h.globals, (h.functions, (h.assertions, (h.main, (h.handler, refl)))))))))

-- ---- without bounds

type_looser : (bounds : Bounds) (t : TypeEntry) → HoldsType bounds t → HoldsType unbounded t
type_looser bounds t h = record { name = h.name; leaves = h.leaves; dropper = looser bounds.functions_or_none t.dropper h.dropper }

image_looser : (bounds : Bounds) (image : Image) → HoldsImage bounds image → HoldsImage unbounded image
image_looser bounds image h = record {
  texts = h.texts;
  types = (h.types.0, each_looser (HoldsType bounds) (HoldsType unbounded) (type_looser bounds) image.types h.types.1);
  globals = h.globals;
  functions = h.functions;
  assertions = (h.assertions.0, each_looser (HoldsAssertion bounds) (HoldsAssertion unbounded) (assertion_looser bounds) image.assertions h.assertions.1);
  main = looser bounds.functions image.main h.main;
  handler = looser bounds.functions_or_none image.handler h.handler;
}

-- ---- what can be stored

storable_type : (image : Image) (t : TypeEntry) → HoldsType (tables_of image) t → IsStorableType image t
storable_type image t h = record { name = h.name; some_leaf = h.leaves.from; leaves = omega (arith, h.leaves.below); dropper = omega (arith, h.dropper.0.below) }

storable_function : (room : ℕ) (f : Function) → room ≤ 8388609 → HoldsFunction room f → IsStorableFunction f
storable_function room f le h = record {
  name = h.name;
  parameters = h.parameters;
  slots = h.slots;
  code = omega (arith, h.code.0, le);
  regions = h.regions.0;
  each_region = all_of (HoldsRegion unbounded) IsStorableRegion (λ r p. p.storable) f.regions h.regions.1;
}

function_words : (room : ℕ) (f : Function) → room ≤ 8388609 → HoldsFunction room f → FunctionOfWords f
function_words room f le h = record {
  code = all_of (HoldsInstruction unbounded) OfWords (λ i p. p.words) f.code h.code.2;
  regions = all_of (HoldsRegion unbounded) OfPlaces (λ r p. p.places) f.regions h.regions.1;
}

storable_assertion : (image : Image) (a : Assertion) → HoldsAssertion (tables_of image) a → IsStorableAssertion image a
storable_assertion image a h = record { function = h.function.0.below; ordinal = h.ordinal.from; file = h.file.0.below; comment = h.comment.0.below }

storable : (image : Image) → HoldsImage (tables_of image) image → IsShort (image_spelling image) → IsStorable image
storable image h short = record {
  texts = h.texts.0;
  each_text = All-from_recursion IsShort image.texts h.texts.1;
  types = h.types.0;
  each_type = all_of (HoldsType (tables_of image)) (IsStorableType image) (storable_type image) image.types h.types.1;
  globals = h.globals.0;
  each_global = all_of HoldsGlobal IsStorableGlobal (λ g p. record { name = p.name }) image.globals h.globals.1;
  functions = h.functions.0;
  each_function = All-from_recursion IsStorableFunction image.functions (all_of_weighed code_length HoldsFunction IsStorableFunction 8388609 storable_function 8388609 image.functions (omega arith) h.functions.1);
  instructions = omega (arith, weights_fit code_length HoldsFunction (λ room f some p. p.code.0) 8388609 image.functions (omega arith) h.functions.1);
  assertions = h.assertions.0;
  each_assertion = all_of (HoldsAssertion (tables_of image)) (IsStorableAssertion image) (storable_assertion image) image.assertions h.assertions.1;
  main = h.main.0.below;
  handler = omega (arith, h.handler.0.below);
  bytes = short;
}

words : (image : Image) → HoldsImage (tables_of image) image → ImageOfWords image
words image h = record {
  globals = all_of HoldsGlobal GlobalOfWords (λ g p. p.initial) image.globals h.globals.1;
  functions = All-from_recursion FunctionOfWords image.functions (all_of_weighed code_length HoldsFunction FunctionOfWords 8388609 function_words 8388609 image.functions (omega arith) h.functions.1);
  assertions = all_of (HoldsAssertion (tables_of image)) OfPosition (λ a p. record { ordinal = p.ordinal.below; line = p.line; column = p.column }) image.assertions h.assertions.1;
}

-- ---- and the other way

holds_type : (image : Image) → length image.functions ≤ 262144 → (t : TypeEntry) → IsStorableType image t → HoldsType (tables_of image) t
holds_type image few t s = record {
  name = s.name;
  leaves = record { from = s.some_leaf; below = omega (arith, s.leaves) };
  dropper = within (length image.functions + 1) t.dropper (omega (arith, s.dropper)) (omega (arith, s.dropper, few));
}

abbrev KeptFunction : Function → Type 0
KeptFunction f = IsStorableFunction f × FunctionOfWords f

holds_function : (room : ℕ) (f : Function) → room ≤ 8388609 → code_length f < room → KeptFunction f → HoldsFunction room f
holds_function room f le fit s = record {
  name = s.0.name;
  parameters = s.0.parameters;
  slots = s.0.slots;
  code = (fit, omega (arith, s.0.code), each_of OfWords (HoldsInstruction unbounded) free_instruction f.code s.1.code);
  regions = (s.0.regions, each_of_both OfPlaces IsStorableRegion (HoldsRegion unbounded) free_region f.regions s.1.regions s.0.each_region);
}

holds_assertion : (image : Image) → length image.functions ≤ 262144 → length image.texts < 2 ^ 32 → (a : Assertion) → IsStorableAssertion image a → OfPosition a → HoldsAssertion (tables_of image) a
holds_assertion image few texts a s p = record {
  function = within (length image.functions) a.function s.function (omega (arith, s.function, few));
  ordinal = record { from = s.ordinal; below = p.ordinal };
  file = within (length image.texts) a.file s.file (omega (arith, s.file, texts));
  comment = within (length image.texts) a.comment s.comment (omega (arith, s.comment, texts));
  line = p.line;
  column = p.column;
}

holds : (image : Image) → IsStorable image → ImageOfWords image → HoldsImage (tables_of image) image
holds image s w = record {
  texts = (s.texts, recursion_from_All IsShort image.texts s.each_text);
  types = (s.types, each_of (IsStorableType image) (HoldsType (tables_of image)) (holds_type image s.functions) image.types s.each_type);
  globals = (s.globals, each_of_both IsStorableGlobal GlobalOfWords HoldsGlobal (λ g p q. record { name = p.name; initial = q }) image.globals s.each_global w.globals);
  functions = (
    s.functions,
    weighed_of code_length HoldsFunction KeptFunction 8388609 holds_function 8388609 image.functions (omega arith) (omega (arith, s.instructions))
        (each_of_both IsStorableFunction FunctionOfWords KeptFunction (λ f p q. (p, q)) image.functions s.each_function w.functions),
  );
  assertions = (s.assertions, each_of_both (IsStorableAssertion image) OfPosition (HoldsAssertion (tables_of image)) (holds_assertion image s.functions s.texts) image.assertions s.each_assertion w.assertions);
  main = within (length image.functions) image.main s.main (omega (arith, s.main, s.functions));
  handler = within (length image.functions + 1) image.handler (omega (arith, s.handler)) (omega (arith, s.handler, s.functions));
}

-- ---- the laws

-- an image that was read
pub record IsRead (bytes : List ℕ) (image : Image) : Type 0 where
  pub storable : IsStorable image
  pub words : ImageOfWords image
  pub same : bytes ≡ image_spelling image

pub image_takes : (bytes : List ℕ) (image : Image) → IsBytes bytes → read_image bytes ≡ Ok image → IsRead bytes image
image_takes bytes image fits e =
    let s = whole_takes image_at tables_of image_spelling HoldsImage image_format image_looser bytes image fits e in
    record { storable = storable image s.holds s.short; words = words image s.holds; same = s.same }

pub image_again : (image : Image) → IsStorable image → ImageOfWords image → read_image (image_spelling image) ≡ Ok image
image_again image s w = whole_again image_at tables_of image_spelling HoldsImage image_format image_looser image (holds image s w) s.bytes

pub one_image : (image other : Image) → IsStorable image → ImageOfWords image → IsStorable other → ImageOfWords other → image_spelling image ≡ image_spelling other → image ≡ other
one_image image other s w t v e = ok_is image other (sym (image_again image s w) ∙ ap read_image e ∙ image_again other t v)

pub is_found : (bytes : List ℕ) (r : Result Image ReadFault) → IsBytes bytes → Gives (λ image. image) r (read_image bytes) → IfOk r (λ image. IsStorable image × (bytes ≡ image_spelling image))
is_found bytes (Ok image) fits given = let r = image_takes bytes image fits given in (r.storable, r.same)
is_found bytes (Err e) fits given = tt
