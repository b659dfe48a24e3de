-- An object that is read can be stored, and what can be stored is read.
use Rattle.std.proofs.Common.{◌≡◌, ℕ, ◌+◌, ◌^◌, ◌<◌, ◌≤◌, Bool, true, false, cond, eqb, List, length, Option, Some, None, Result, Ok, Err, refl, sym, ap, subst, ◌∙◌, arith}
use Rattle.std.specs.Prelude.{IfOk, IfSome, ◌||◌}
use Rattle.std.proofs.lemmas.Bool.{eqb-true}
use Rattle.std.proofs.lemmas.List.Elements.{All-from_recursion, recursion_from_All}
use Rattle.cx_code.specs.declared.code.Instruction.{Instruction}
use Rattle.cx_code.specs.declared.code.Region.{Region}
use Rattle.cx_code.specs.declared.image.Assertion.{Assertion}
use Rattle.cx_code.specs.declared.object.Object.{Object}
use Rattle.cx_code.specs.declared.object.UnitType.{UnitType}
use Rattle.cx_code.specs.declared.object.UnitFunction.{UnitFunction}
use Rattle.cx_code.specs.declared.object.FunctionForm.{FunctionForm}
use Rattle.cx_code.specs.declared.object.FunctionForm.TheVariants as forms
use Rattle.cx_code.specs.declared.object.FunctionBody.{FunctionBody}
use Rattle.cx_code.specs.ObjectSpelling.{object_spelling}
use Rattle.cx_code.specs.Storable.{IsShort, IsStorableRegion}
use Rattle.cx_code.specs.ObjectStorable.{body_of, instruction_count, HasIndex, HasCaught, IsStorableUnitType, IsStorableUnitGlobal, IsStorableBody, IsStorableUnitFunction, IsStorableUnitAssertion, IsStorableObject}
use Rattle.cx_fields.specs.declared.bounds.Bounds.{Bounds}
use Rattle.cx_fields.specs.declared.fault.ReadFault.{ReadFault}
use Rattle.cx_fields.specs.Reading.{Gives}
use Rattle.cx_fields.specs.Parts.{unbounded, operand_end, caught_end}
use Rattle.cx_fields.specs.Numbers.{OfWords, OfPlaces, OfPosition}
use Rattle.cx_fields.proofs.Format.{IsBytes, within, looser, ok_is}
use Rattle.cx_fields.proofs.PartFormats.{HoldsInstruction, HoldsRegion, HoldsAssertion, free_instruction, free_region, assertion_looser}
use Rattle.cx_fields.proofs.Weights.{all_of, each_of, each_of_both, each_looser, weights_fit, all_of_weighed, weighed_of, weighed_looser}
use Rattle.cx_fields.proofs.Whole.{whole_takes, whole_again}
use Rattle.cx_object.specs.Words.{GlobalOfWords, BodyOfWords, FunctionOfWords, ObjectOfWords}
use Rattle.cx_object.specs.Reading.{code_length, object_at, tables_of, read_object}
use Rattle.cx_object.proofs.ObjectFormat.{HoldsType, HoldsGlobal, HoldsBody, HoldsFunction, HoldsObject, object_format}

-- ---- without bounds

some_looser : {A : Type 0} (P Q : A → Type 0) → ((x : A) → P x → Q x) → (o : Option A) → IfSome o P → IfSome o Q
some_looser P Q f None h = tt
some_looser P Q f (Some x) h = f x h

type_looser : (bounds : Bounds) (t : UnitType) → HoldsType bounds t → HoldsType unbounded t
type_looser bounds t h = record { name = h.name; definition = h.definition; leaves = h.leaves; dropper = looser bounds.functions_or_none t.dropper h.dropper }

body_looser : (bounds : Bounds) (room : ℕ) (b : FunctionBody) → HoldsBody bounds room b → HoldsBody unbounded room b
body_looser bounds room b h = record {
  parameters = h.parameters;
  slots = h.slots;
  code = (h.code.0, h.code.1, each_looser (HoldsInstruction bounds) (HoldsInstruction unbounded) (λ i p. free_instruction i p.words) b.code h.code.2);
  regions = (h.regions.0, each_looser (HoldsRegion bounds) (HoldsRegion unbounded) (λ r p. free_region r p.places p.storable) b.regions h.regions.1);
}

function_looser : (bounds : Bounds) (room : ℕ) (f : UnitFunction) → HoldsFunction bounds room f → HoldsFunction unbounded room f
function_looser bounds room f h = record {
  name = h.name;
  signature = h.signature;
  specifiers = h.specifiers;
  form = record {
    definition = h.form.definition;
    body = some_looser (HoldsBody bounds room) (HoldsBody unbounded room) (body_looser bounds room) (body_of f.form) h.form.body;
  };
}

object_looser : (bounds : Bounds) (object : Object) → HoldsObject bounds object → HoldsObject unbounded object
object_looser bounds object h = record {
  unit = h.unit;
  texts = h.texts;
  types = (h.types.0, each_looser (HoldsType bounds) (HoldsType unbounded) (type_looser bounds) object.types h.types.1);
  globals = h.globals;
  functions = (h.functions.0, weighed_looser code_length (HoldsFunction bounds) (HoldsFunction unbounded) (function_looser bounds) 8388609 object.functions h.functions.1);
  assertions = (h.assertions.0, each_looser (HoldsAssertion bounds) (HoldsAssertion unbounded) (assertion_looser bounds) object.assertions h.assertions.1);
}

-- ---- indices

some_below : (b : Bool) (bound n end : ℕ) (other : Option ℕ) → (n < end → IfSome other (λ x. n < x)) → n < cond b bound end → IfSome (cond b (Some bound) other) (λ x. n < x)
some_below true bound n end other f h = h
some_below false bound n end other f h = f h

below_some : (b : Bool) (bound n end : ℕ) (other : Option ℕ) → (IfSome other (λ x. n < x) → n < end) → IfSome (cond b (Some bound) other) (λ x. n < x) → n < cond b bound end
below_some true bound n end other f h = h
below_some false bound n end other f h = f h

has_index : (object : Object) (i : Instruction) → i.a < operand_end (tables_of object) i.code → HasIndex object i
has_index object i h =
    some_below (eqb i.code 38) (length object.functions) i.a _ _
    (some_below (eqb i.code 40) (length object.globals) i.a _ _
    (some_below (eqb i.code 43) (length object.texts + 1) i.a _ _
    (some_below (eqb i.code 44 || eqb i.code 45 || eqb i.code 46) (length object.assertions) i.a _ _
    (some_below (eqb i.code 49 || eqb i.code 54) (length object.types) i.a (2 ^ 32) None (λ h. tt))))) h

index_below : (object : Object) (i : Instruction) → OfWords i → HasIndex object i → HoldsInstruction (tables_of object) i
index_below object i words h = record {
  words = words;
  index = below_some (eqb i.code 38) (length object.functions) i.a _ _
      (below_some (eqb i.code 40) (length object.globals) i.a _ _
      (below_some (eqb i.code 43) (length object.texts + 1) i.a _ _
      (below_some (eqb i.code 44 || eqb i.code 45 || eqb i.code 46) (length object.assertions) i.a _ _
      (below_some (eqb i.code 49 || eqb i.code 54) (length object.types) i.a (2 ^ 32) None (λ h. words.a))))) h;
}

has_caught : (object : Object) (r : Region) → r.of < caught_end (tables_of object) r.kind → HasCaught object r
has_caught object r h e =
    let of : r.of < length object.types + 1 = subst (λ (kind : ℕ). r.of < caught_end (tables_of object) kind) e h in
    omega arith

caught_below : (object : Object) (r : Region) → r.of < 2 ^ 32 → HasCaught object r → (b : Bool) → eqb r.kind 2 ≡ b → r.of < cond b (length object.types + 1) (2 ^ 32)
caught_below object r word h true t = omega (arith, h (eqb-true _ _ t))
caught_below object r word h false t = word

-- ---- what can be stored

storable_type : (object : Object) (t : UnitType) → HoldsType (tables_of object) t → IsStorableUnitType object t
storable_type object t h = record { name = h.name; definition = h.definition; some_leaf = h.leaves.from; leaves = omega (arith, h.leaves.below); dropper = omega (arith, h.dropper.0.below) }

storable_body : (object : Object) (room : ℕ) (b : FunctionBody) → HoldsBody (tables_of object) room b → IsStorableBody object b
storable_body object room b h = record {
  parameters = h.parameters;
  slots = h.slots;
  regions = h.regions.0;
  each_region = all_of (HoldsRegion (tables_of object)) IsStorableRegion (λ r p. p.storable) b.regions h.regions.1;
  indices = all_of (HoldsInstruction (tables_of object)) (HasIndex object) (λ i p. has_index object i p.index) b.code h.code.2;
  caught = all_of (HoldsRegion (tables_of object)) (HasCaught object) (λ r p. has_caught object r p.index) b.regions h.regions.1;
}

body_words : (object : Object) (room : ℕ) (b : FunctionBody) → HoldsBody (tables_of object) room b → BodyOfWords b
body_words object room b h = record {
  code = all_of (HoldsInstruction (tables_of object)) OfWords (λ i p. p.words) b.code h.code.2;
  regions = all_of (HoldsRegion (tables_of object)) OfPlaces (λ r p. p.places) b.regions h.regions.1;
}

storable_function : (object : Object) (room : ℕ) (f : UnitFunction) → room ≤ 8388609 → HoldsFunction (tables_of object) room f → IsStorableUnitFunction object f
storable_function object room f le h = record {
  name = h.name;
  signature = h.signature;
  specifiers = h.specifiers;
  definition = h.form.definition;
  body = some_looser (HoldsBody (tables_of object) room) (IsStorableBody object) (storable_body object room) (body_of f.form) h.form.body;
}

function_words : (object : Object) (room : ℕ) (f : UnitFunction) → room ≤ 8388609 → HoldsFunction (tables_of object) room f → FunctionOfWords f
function_words object room f le h = some_looser (HoldsBody (tables_of object) room) BodyOfWords (body_words object room) (body_of f.form) h.form.body

form_fits : (bounds : Bounds) (room : ℕ) (form : FunctionForm) → 0 < room → IfSome (body_of form) (HoldsBody bounds room) → instruction_count form < room
form_fits bounds room forms.Needed some h = some
form_fits bounds room (forms.Defined body) some h = h.code.0
form_fits bounds room (forms.Inline tokens body) some h = h.code.0
form_fits bounds room (forms.Helper body) some h = h.code.0
form_fits bounds room forms.Declared some h = some

storable_assertion : (object : Object) (a : Assertion) → HoldsAssertion (tables_of object) a → IsStorableUnitAssertion object a
storable_assertion object a h = record { function = h.function.0.below; ordinal = h.ordinal.from; file = h.file.0.below; comment = h.comment.0.below }

storable : (object : Object) → HoldsObject (tables_of object) object → IsShort (object_spelling object) → IsStorableObject object
storable object h short = record {
  unit = h.unit;
  texts = h.texts.0;
  each_text = All-from_recursion IsShort object.texts h.texts.1;
  types = h.types.0;
  each_type = all_of (HoldsType (tables_of object)) (IsStorableUnitType object) (storable_type object) object.types h.types.1;
  globals = h.globals.0;
  each_global = all_of HoldsGlobal IsStorableUnitGlobal (λ g p. record { name = p.name; type_name = p.type_name }) object.globals h.globals.1;
  functions = h.functions.0;
  each_function = All-from_recursion (IsStorableUnitFunction object) object.functions (all_of_weighed code_length (HoldsFunction (tables_of object)) (IsStorableUnitFunction object) 8388609 (storable_function object) 8388609 object.functions (omega arith) h.functions.1);
  instructions = omega (arith, weights_fit code_length (HoldsFunction (tables_of object)) (λ room f some p. form_fits (tables_of object) room f.form some p.form.body) 8388609 object.functions (omega arith) h.functions.1);
  assertions = h.assertions.0;
  each_assertion = all_of (HoldsAssertion (tables_of object)) (IsStorableUnitAssertion object) (storable_assertion object) object.assertions h.assertions.1;
  bytes = short;
}

words : (object : Object) → HoldsObject (tables_of object) object → ObjectOfWords object
words object h = record {
  globals = all_of HoldsGlobal GlobalOfWords (λ g p. p.state) object.globals h.globals.1;
  functions = All-from_recursion FunctionOfWords object.functions (all_of_weighed code_length (HoldsFunction (tables_of object)) FunctionOfWords 8388609 (function_words object) 8388609 object.functions (omega arith) h.functions.1);
  assertions = all_of (HoldsAssertion (tables_of object)) OfPosition (λ a p. record { ordinal = p.ordinal.below; line = p.line; column = p.column }) object.assertions h.assertions.1;
}

-- ---- and the other way

holds_type : (object : Object) → length object.functions ≤ 262144 → (t : UnitType) → IsStorableUnitType object t → HoldsType (tables_of object) t
holds_type object few t s = record {
  name = s.name;
  definition = s.definition;
  leaves = record { from = s.some_leaf; below = omega (arith, s.leaves) };
  dropper = within (length object.functions + 1) t.dropper (omega (arith, s.dropper)) (omega (arith, s.dropper, few));
}

abbrev KeptRegion : Object → Region → Type 0
KeptRegion object r = IsStorableRegion r × HasCaught object r

holds_body : (object : Object) (room : ℕ) (b : FunctionBody) → room ≤ 8388609 → length b.code < room → IsStorableBody object b → BodyOfWords b → HoldsBody (tables_of object) room b
holds_body object room b le fit s w = record {
  parameters = s.parameters;
  slots = s.slots;
  code = (fit, omega (arith, fit, le), each_of_both OfWords (HasIndex object) (HoldsInstruction (tables_of object)) (index_below object) b.code w.code s.indices);
  regions = (
    s.regions,
    each_of_both OfPlaces (KeptRegion object) (HoldsRegion (tables_of object))
        (λ r places kept. record { places = places; storable = kept.0; index = caught_below object r places.of kept.1 (eqb r.kind 2) refl })
        b.regions w.regions (λ k d lt. (s.each_region k d lt, s.caught k d lt)),
  );
}

holds_some : (object : Object) (room : ℕ) (form : FunctionForm) → room ≤ 8388609 → instruction_count form < room → IfSome (body_of form) (IsStorableBody object) → IfSome (body_of form) BodyOfWords → IfSome (body_of form) (HoldsBody (tables_of object) room)
holds_some object room forms.Needed le fit s w = tt
holds_some object room (forms.Defined body) le fit s w = holds_body object room body le fit s w
holds_some object room (forms.Inline tokens body) le fit s w = holds_body object room body le fit s w
holds_some object room (forms.Helper body) le fit s w = holds_body object room body le fit s w
holds_some object room forms.Declared le fit s w = tt

abbrev KeptFunction : Object → UnitFunction → Type 0
KeptFunction object f = IsStorableUnitFunction object f × FunctionOfWords f

holds_function : (object : Object) (room : ℕ) (f : UnitFunction) → room ≤ 8388609 → code_length f < room → KeptFunction object f → HoldsFunction (tables_of object) room f
holds_function object room f le fit s = record {
  name = s.0.name;
  signature = s.0.signature;
  specifiers = s.0.specifiers;
  form = record { definition = s.0.definition; body = holds_some object room f.form le fit s.0.body s.1 };
}

holds_assertion : (object : Object) → length object.functions ≤ 262144 → length object.texts < 2 ^ 32 → (a : Assertion) → IsStorableUnitAssertion object a → OfPosition a → HoldsAssertion (tables_of object) a
holds_assertion object few texts a s p = record {
  function = within (length object.functions) a.function s.function (omega (arith, s.function, few));
  ordinal = record { from = s.ordinal; below = p.ordinal };
  file = within (length object.texts) a.file s.file (omega (arith, s.file, texts));
  comment = within (length object.texts) a.comment s.comment (omega (arith, s.comment, texts));
  line = p.line;
  column = p.column;
}

holds : (object : Object) → IsStorableObject object → ObjectOfWords object → HoldsObject (tables_of object) object
holds object s w = record {
  unit = s.unit;
  texts = (s.texts, recursion_from_All IsShort object.texts s.each_text);
  types = (s.types, each_of (IsStorableUnitType object) (HoldsType (tables_of object)) (holds_type object s.functions) object.types s.each_type);
  globals = (s.globals, each_of_both IsStorableUnitGlobal GlobalOfWords HoldsGlobal (λ g p q. record { name = p.name; type_name = p.type_name; state = q }) object.globals s.each_global w.globals);
  functions = (
    s.functions,
    weighed_of code_length (HoldsFunction (tables_of object)) (KeptFunction object) 8388609 (holds_function object) 8388609 object.functions (omega arith) (omega (arith, s.instructions))
        (each_of_both (IsStorableUnitFunction object) FunctionOfWords (KeptFunction object) (λ f p q. (p, q)) object.functions s.each_function w.functions),
  );
  assertions = (s.assertions, each_of_both (IsStorableUnitAssertion object) OfPosition (HoldsAssertion (tables_of object)) (holds_assertion object s.functions s.texts) object.assertions s.each_assertion w.assertions);
}

-- ---- the laws

-- an object that was read
pub record IsRead (bytes : List ℕ) (object : Object) : Type 0 where
  pub storable : IsStorableObject object
  pub words : ObjectOfWords object
  pub same : bytes ≡ object_spelling object

pub object_takes : (bytes : List ℕ) (object : Object) → IsBytes bytes → read_object bytes ≡ Ok object → IsRead bytes object
object_takes bytes object fits e =
    let s = whole_takes object_at tables_of object_spelling HoldsObject object_format object_looser bytes object fits e in
    record { storable = storable object s.holds s.short; words = words object s.holds; same = s.same }

pub object_again : (object : Object) → IsStorableObject object → ObjectOfWords object → read_object (object_spelling object) ≡ Ok object
object_again object s w = whole_again object_at tables_of object_spelling HoldsObject object_format object_looser object (holds object s w) s.bytes

pub one_object : (object other : Object) → IsStorableObject object → ObjectOfWords object → IsStorableObject other → ObjectOfWords other → object_spelling object ≡ object_spelling other → object ≡ other
one_object object other s w t v e = ok_is object other (sym (object_again object s w) ∙ ap read_object e ∙ object_again other t v)

pub is_found : (bytes : List ℕ) (r : Result Object ReadFault) → IsBytes bytes → Gives (λ object. object) r (read_object bytes) → IfOk r (λ object. IsStorableObject object × (bytes ≡ object_spelling object))
is_found bytes (Ok object) fits given = let r = object_takes bytes object fits given in (r.storable, r.same)
is_found bytes (Err e) fits given = tt
