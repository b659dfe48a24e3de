-- An object is read as it is spelled.
use Rattle.std.proofs.Common.{◌≡◌, ℕ, zero, suc, ◌^◌, ◌<◌, ◌≤◌, false, List, [], ◌∷◌, ◌++◌, length, refl, sym, ap, subst, ◌∙◌, append_assoc, arith}
use Rattle.std.specs.Prelude.{codes, IfSome}
use Rattle.std.specs.List.{AllByRecursion}
use Rattle.std.proofs.lemmas.List.{append-nil}
use Rattle.cx_code.specs.declared.object.Object.{Object}
use Rattle.cx_code.specs.declared.object.UnitType.{UnitType}
use Rattle.cx_code.specs.declared.object.UnitGlobal.{UnitGlobal}
use Rattle.cx_code.specs.declared.object.GlobalState.{GlobalState}
use Rattle.cx_code.specs.declared.object.GlobalState.TheVariants as states
use Rattle.cx_code.specs.declared.image.Initial.{Initial}
use Rattle.cx_code.specs.declared.image.Initial.TheVariants as initials
use Rattle.cx_code.specs.declared.object.UnitFunction.{UnitFunction}
use Rattle.cx_code.specs.declared.object.FunctionForm.{FunctionForm}
use Rattle.cx_code.specs.declared.object.FunctionForm.TheVariants as forms
use Rattle.cx_code.specs.declared.object.FunctionBody.{FunctionBody}
use Rattle.cx_code.specs.Spelling.{number, flag, text, list, instruction, region, initial}
use Rattle.cx_code.specs.ObjectSpelling.{unit_type, global_state, unit_global, form_code, definition_text, function_body, no_body, form_body, unit_function, object_spelling}
use Rattle.cx_code.specs.Storable.{IsShort}
use Rattle.cx_code.specs.ObjectStorable.{body_of}
use Rattle.cx_fields.specs.declared.bounds.Bounds.{Bounds}
use Rattle.cx_fields.specs.declared.fault.Why.TheVariants.{Limit, Range, Index}
use Rattle.cx_fields.specs.Numbers.{OfHalves}
use Rattle.cx_fields.proofs.Format.{IsFormat, IsIn, IsWithin, HoldsEach, finished, followed, restated, byte_in_format, number_in_format, zero_format, flag_format, text_format, head_format, list_format, each_format}
use Rattle.cx_fields.proofs.PartFormats.{HoldsInstruction, HoldsRegion, HoldsAssertion, code_format, region_format, initial_format, assertions_format}
use Rattle.cx_object.specs.Words.{StateOfWords}
use Rattle.cx_object.specs.Reading.{type_at, no_value_at, state_at, global_at, body_at, no_body_at, form_at, function_at, code_length, functions_at, object_at}

-- ---- types

pub record HoldsType (bounds : Bounds) (t : UnitType) : Type 0 where
  pub name : IsShort t.name
  pub definition : IsShort t.definition
  pub leaves : IsIn 1 257 t.leaves
  pub dropper : IsWithin bounds.functions_or_none t.dropper

type_format : (bounds : Bounds) → IsFormat (type_at bounds) unit_type (HoldsType bounds)
unfolding type_at
type_format bounds = restated
    (followed text_format (λ t. t.name) (λ name t p h. cc) (λ name p.
    followed text_format (λ t. t.definition) (λ definition t p h. cc) (λ definition p.
    followed (number_in_format 1 257 Range) (λ t. t.leaves) (λ leaves t p h. cc) (λ leaves p.
    followed (number_in_format 0 bounds.functions_or_none Index) (λ t. t.dropper) (λ dropper t p h. cc) (λ dropper p.
    finished (record { name = name; definition = definition; leaves = leaves; dropper = dropper }))))))
    (λ t h. simp (append_assoc, append-nil))
    (λ t h. record { name = h.0; definition = h.1.0; leaves = h.1.1.0.0; dropper = h.1.1.1.0 })
    (λ t h. (h.name, (h.definition, ((h.leaves, omega (arith, h.leaves.below)), (h.dropper, refl)))))

-- ---- globals

abbrev no_value : List ℕ
no_value = (0 ∷ []) ++ number 0 ++ number 0

no_value_format : IsFormat no_value_at (λ n. no_value) (λ n. n ≡ 0)
unfolding no_value_at
no_value_format = restated
    (followed (byte_in_format 0 1 Range) (λ n. 0) (λ sort n p h. omega (arith, p.below)) (λ sort p.
    followed zero_format (λ n. 0) (λ high n p h. sym p) (λ high p. zero_format)))
    (λ n h. rw h.1.1 (simp append_assoc))
    (λ n h. h.1.1)
    (λ n h. (record { from = omega arith; below = omega arith }, (refl, h)))

state_code : GlobalState → ℕ
state_code states.Named = 0
state_code (states.Defined value) = 1
state_code states.Declared = 2

value_in : GlobalState → Initial
value_in states.Named = initials.Null
value_in (states.Defined value) = value
value_in states.Declared = initials.Null

-- what follows the first byte
state_value : GlobalState → List ℕ
state_value states.Named = no_value
state_value (states.Defined value) = initial value
state_value states.Declared = no_value

named : (state : GlobalState) → state_code state ≡ 0 → state ≡ states.Named
unfolding state_code
named states.Named e = refl
named (states.Defined value) e = absurd cc
named states.Declared e = absurd cc

defined : (state : GlobalState) → state_code state ≡ 1 → state ≡ states.Defined (value_in state)
unfolding state_code value_in
defined states.Named e = absurd cc
defined (states.Defined value) e = refl
defined states.Declared e = absurd cc

declared : (state : GlobalState) → state_code state ≡ 2 → state ≡ states.Declared
unfolding state_code
declared states.Named e = absurd cc
declared (states.Defined value) e = absurd cc
declared states.Declared e = refl

halves_in : (state : GlobalState) → state_code state ≡ 1 → StateOfWords state → OfHalves (value_in state)
unfolding state_code value_in
halves_in states.Named e h = absurd cc
halves_in (states.Defined value) e h = h
halves_in states.Declared e h = absurd cc

abbrev HoldsState : ℕ → GlobalState → Type 0
HoldsState code state = StateOfWords state × (state_code state ≡ code)

state_format : (code : ℕ) → IsIn 0 3 code → IsFormat (state_at code) state_value (HoldsState code)
unfolding state_at state_code state_value value_in
state_format zero p = restated (followed no_value_format (λ state. 0) (λ n state p h. sym p) (λ n p. finished states.Named))
    (λ state h. rw h.1 (simp append-nil))
    (λ state h. subst (HoldsState 0) (sym h.1) (tt, refl))
    (λ state h. (refl, named state h.1))
state_format (suc zero) p = restated (followed initial_format value_in (λ value state p h. ap value_in h) (λ value p. finished (states.Defined value)))
    (λ state h. subst (λ (s : GlobalState). initial (value_in s) ++ [] ≡ state_value s) (sym h.1) (append-nil (initial (value_in state))))
    (λ state h. subst (HoldsState 1) (sym h.1) (h.0, refl))
    (λ state h. (halves_in state h.1 h.0, defined state h.1))
state_format (suc (suc zero)) p = restated (followed no_value_format (λ state. 0) (λ n state p h. sym p) (λ n p. finished states.Declared))
    (λ state h. rw h.1 (simp append-nil))
    (λ state h. subst (HoldsState 2) (sym h.1) (tt, refl))
    (λ state h. (refl, declared state h.1))
state_format (suc (suc (suc code))) p = absurd (omega (arith, p.below))

state_spelled : (state : GlobalState) → (state_code state ∷ []) ++ state_value state ≡ global_state state
unfolding state_code state_value
state_spelled states.Named = simp append_assoc
state_spelled (states.Defined value) = refl
state_spelled states.Declared = simp append_assoc

state_in : (state : GlobalState) → IsIn 0 3 (state_code state)
unfolding state_code
state_in states.Named = record { from = omega arith; below = omega arith }
state_in (states.Defined value) = record { from = omega arith; below = omega arith }
state_in states.Declared = record { from = omega arith; below = omega arith }

pub record HoldsGlobal (g : UnitGlobal) : Type 0 where
  pub name : IsShort g.name
  pub type_name : IsShort g.type_name
  pub state : StateOfWords g.state

global_format : IsFormat global_at unit_global HoldsGlobal
unfolding global_at
global_format = restated
    (followed text_format (λ g. g.name) (λ name g p h. cc) (λ name p.
    followed text_format (λ g. g.type_name) (λ type_name g p h. cc) (λ type_name p.
    followed (byte_in_format 0 3 Range) (λ g. state_code g.state) (λ code g p h. h.0.1) (λ code p.
    followed (state_format code p) (λ g. g.state) (λ state g p h. ap (λ (g : UnitGlobal). g.state) h) (λ state p.
    finished (record { name = name; type_name = type_name; state = state }))))))
    (λ g h. rw (← state_spelled g.state) (simp (append_assoc, append-nil)))
    (λ g h. record { name = h.0; type_name = h.1.0; state = h.1.1.1.0.0 })
    (λ g h. (h.name, (h.type_name, (state_in g.state, ((h.state, refl), refl)))))

-- ---- bodies

pub record HoldsBody (bounds : Bounds) (room : ℕ) (b : FunctionBody) : Type 0 where
  pub parameters : b.parameters ≤ b.slots
  pub slots : b.slots ≤ 8192
  pub code : (length b.code < room) × (length b.code < 2 ^ 32) × AllByRecursion (HoldsInstruction bounds) b.code
  pub regions : (length b.regions < 2 ^ 32) × AllByRecursion (HoldsRegion bounds) b.regions

six_parts : (a b c d e f : List ℕ) → a ++ (b ++ (c ++ (d ++ (e ++ (f ++ []))))) ≡ a ++ b ++ c ++ d ++ e ++ f
six_parts a b c d e f = simp (append_assoc, append-nil)

body_format : (bounds : Bounds) (room : ℕ) → IsFormat (body_at bounds room) function_body (HoldsBody bounds room)
unfolding body_at
body_format bounds room = restated
    (followed flag_format (λ b. b.counted) (λ counted b p h. cc) (λ counted p.
    followed (number_in_format 0 8193 Range) (λ b. b.parameters) (λ parameters b p h. cc) (λ parameters p.
    followed (number_in_format parameters 8193 Range) (λ b. b.slots) (λ slots b p h. cc) (λ slots p.
    followed flag_format (λ b. b.result) (λ result b p h. cc) (λ result p.
    followed (code_format bounds room) (λ b. b.code) (λ code b p h. cc) (λ code p.
    followed (list_format (region_format bounds)) (λ b. b.regions) (λ regions b p h. cc) (λ regions p.
    finished (record { counted = counted; parameters = parameters; slots = slots; result = result; code = code; regions = regions }))))))))
    (λ b h. six_parts (flag b.counted) (number b.parameters) (number b.slots) (flag b.result) (list instruction b.code) (list region b.regions))
    (λ b h. record { parameters = h.1.1.0.0.from; slots = omega (arith, h.1.1.0.0.below); code = h.1.1.1.1.0; regions = h.1.1.1.1.1.0 })
    (λ b h. (
      tt,
      (
        (record { from = omega arith; below = omega (arith, h.parameters, h.slots) }, omega (arith, h.parameters, h.slots)),
        ((record { from = h.parameters; below = omega (arith, h.slots) }, omega (arith, h.slots)), (tt, (h.code, (h.regions, refl)))),
      ),
    ))

no_body_format : IsFormat no_body_at (λ n. no_body) (λ n. n ≡ 0)
unfolding no_body_at
no_body_format = restated
    (followed (byte_in_format 0 1 Range) (λ n. 0) (λ counted n p h. omega (arith, p.below)) (λ counted p.
    followed zero_format (λ n. 0) (λ parameters n p h. sym p) (λ parameters p.
    followed zero_format (λ n. 0) (λ slots n p h. sym p) (λ slots p.
    followed (byte_in_format 0 1 Range) (λ n. 0) (λ result n p h. omega (arith, p.below)) (λ result p.
    followed zero_format (λ n. 0) (λ code n p h. sym p) (λ code p. zero_format))))))
    (λ n h. rw h.1.1.1.1.1 (simp append_assoc))
    (λ n h. h.1.1.1.1.1)
    (λ n h. let none : IsIn 0 1 0 = record { from = omega arith; below = omega arith } in (none, (refl, (refl, (none, (refl, h))))))

-- ---- forms

empty_body : FunctionBody
empty_body = record { counted = false; parameters = 0; slots = 0; result = false; code = []; regions = [] }

body_in : FunctionForm → FunctionBody
body_in forms.Needed = empty_body
body_in (forms.Defined body) = body
body_in (forms.Inline tokens body) = body
body_in (forms.Helper body) = body
body_in forms.Declared = empty_body

needed : (form : FunctionForm) → form_code form ≡ 0 → form ≡ forms.Needed
needed forms.Needed e = refl
needed (forms.Defined body) e = absurd cc
needed (forms.Inline tokens body) e = absurd cc
needed (forms.Helper body) e = absurd cc
needed forms.Declared e = absurd cc

defined_form : (form : FunctionForm) → form_code form ≡ 1 → form ≡ forms.Defined (body_in form)
unfolding body_in
defined_form forms.Needed e = absurd cc
defined_form (forms.Defined body) e = refl
defined_form (forms.Inline tokens body) e = absurd cc
defined_form (forms.Helper body) e = absurd cc
defined_form forms.Declared e = absurd cc

inline_form : (form : FunctionForm) → form_code form ≡ 2 → form ≡ forms.Inline (definition_text form) (body_in form)
unfolding body_in
inline_form forms.Needed e = absurd cc
inline_form (forms.Defined body) e = absurd cc
inline_form (forms.Inline tokens body) e = refl
inline_form (forms.Helper body) e = absurd cc
inline_form forms.Declared e = absurd cc

helper_form : (form : FunctionForm) → form_code form ≡ 3 → form ≡ forms.Helper (body_in form)
unfolding body_in
helper_form forms.Needed e = absurd cc
helper_form (forms.Defined body) e = absurd cc
helper_form (forms.Inline tokens body) e = absurd cc
helper_form (forms.Helper body) e = refl
helper_form forms.Declared e = absurd cc

declared_form : (form : FunctionForm) → form_code form ≡ 4 → form ≡ forms.Declared
declared_form forms.Needed e = absurd cc
declared_form (forms.Defined body) e = absurd cc
declared_form (forms.Inline tokens body) e = absurd cc
declared_form (forms.Helper body) e = absurd cc
declared_form forms.Declared e = refl

code_in : (form : FunctionForm) → IsIn 0 5 (form_code form)
code_in forms.Needed = record { from = omega arith; below = omega arith }
code_in (forms.Defined body) = record { from = omega arith; below = omega arith }
code_in (forms.Inline tokens body) = record { from = omega arith; below = omega arith }
code_in (forms.Helper body) = record { from = omega arith; below = omega arith }
code_in forms.Declared = record { from = omega arith; below = omega arith }

-- its body holds, where it has one, and the tokens of its definition are short
pub record HoldsForm (bounds : Bounds) (room : ℕ) (form : FunctionForm) : Type 0 where
  pub definition : IsShort (definition_text form)
  pub body : IfSome (body_of form) (HoldsBody bounds room)

abbrev HoldsCode : Bounds → ℕ → ℕ → FunctionForm → Type 0
HoldsCode bounds room code form = HoldsForm bounds room form × (form_code form ≡ code)

-- what follows the specifiers
abbrev form_spelled : FunctionForm → List ℕ
form_spelled form = text (definition_text form) ++ form_body form

empty_then : (count bytes : List ℕ) → count ++ (bytes ++ []) ≡ (count ++ []) ++ bytes
empty_then count bytes = ap (λ (tail : List ℕ). count ++ tail) (append-nil bytes) ∙ sym (ap (λ (front : List ℕ). front ++ bytes) (append-nil count))

nothing_short : IsShort []
nothing_short = omega arith

form_format : (bounds : Bounds) (room code : ℕ) → IsIn 0 5 code → IsFormat (form_at bounds room code) form_spelled (HoldsCode bounds room code)
unfolding form_at body_in
form_format bounds room zero p = restated
    (followed zero_format (λ form. 0) (λ n form p h. sym p) (λ n p. followed no_body_format (λ form. 0) (λ n form p h. sym p) (λ n p. finished forms.Needed)))
    (λ form h. rw h.1.1 (empty_then (number 0) no_body))
    (λ form h. subst (HoldsCode bounds room 0) (sym h.1.1) (record { definition = nothing_short; body = tt }, refl))
    (λ form h. (refl, (refl, needed form h.1)))
form_format bounds room (suc zero) p = restated
    (followed zero_format (λ form. 0) (λ n form p h. sym p) (λ n p. followed (body_format bounds room) body_in (λ body form p h. ap body_in h) (λ body p. finished (forms.Defined body))))
    (λ form h. subst (λ (f : FunctionForm). number 0 ++ (function_body (body_in f) ++ []) ≡ form_spelled f) (sym h.1.1) (empty_then (number 0) (function_body (body_in form))))
    (λ form h. subst (HoldsCode bounds room 1) (sym h.1.1) (record { definition = nothing_short; body = h.1.0 }, refl))
    (λ form h. let e = defined_form form h.1 in (refl, ((subst (λ (f : FunctionForm). HoldsForm bounds room f) e h.0).body, e)))
form_format bounds room (suc (suc zero)) p = restated
    (followed text_format definition_text (λ tokens form p h. ap definition_text h.1) (λ tokens p. followed (body_format bounds room) body_in (λ body form p h. ap body_in h) (λ body p. finished (forms.Inline tokens body))))
    (λ form h. subst (λ (f : FunctionForm). text (definition_text f) ++ (function_body (body_in f) ++ []) ≡ form_spelled f) (sym h.1.1) (ap (λ (tail : List ℕ). text (definition_text form) ++ tail) (append-nil (function_body (body_in form)))))
    (λ form h. subst (HoldsCode bounds room 2) (sym h.1.1) (record { definition = h.0; body = h.1.0 }, refl))
    (λ form h. let e = inline_form form h.1 in (h.0.definition, ((subst (λ (f : FunctionForm). HoldsForm bounds room f) e h.0).body, e)))
form_format bounds room (suc (suc (suc zero))) p = restated
    (followed zero_format (λ form. 0) (λ n form p h. sym p) (λ n p. followed (body_format bounds room) body_in (λ body form p h. ap body_in h) (λ body p. finished (forms.Helper body))))
    (λ form h. subst (λ (f : FunctionForm). number 0 ++ (function_body (body_in f) ++ []) ≡ form_spelled f) (sym h.1.1) (empty_then (number 0) (function_body (body_in form))))
    (λ form h. subst (HoldsCode bounds room 3) (sym h.1.1) (record { definition = nothing_short; body = h.1.0 }, refl))
    (λ form h. let e = helper_form form h.1 in (refl, ((subst (λ (f : FunctionForm). HoldsForm bounds room f) e h.0).body, e)))
form_format bounds room (suc (suc (suc (suc zero)))) p = restated
    (followed zero_format (λ form. 0) (λ n form p h. sym p) (λ n p. followed no_body_format (λ form. 0) (λ n form p h. sym p) (λ n p. finished forms.Declared)))
    (λ form h. rw h.1.1 (empty_then (number 0) no_body))
    (λ form h. subst (HoldsCode bounds room 4) (sym h.1.1) (record { definition = nothing_short; body = tt }, refl))
    (λ form h. (refl, (refl, declared_form form h.1)))
form_format bounds room (suc (suc (suc (suc (suc code))))) p = absurd (omega (arith, p.below))

-- ---- functions

pub record HoldsFunction (bounds : Bounds) (room : ℕ) (f : UnitFunction) : Type 0 where
  pub name : IsShort f.name
  pub signature : IsShort f.signature
  pub specifiers : IsShort f.specifiers
  pub form : HoldsForm bounds room f.form

function_format : (bounds : Bounds) (room : ℕ) → IsFormat (function_at bounds room) unit_function (HoldsFunction bounds room)
unfolding function_at
function_format bounds room = restated
    (followed text_format (λ f. f.name) (λ name f p h. cc) (λ name p.
    followed (byte_in_format 0 5 Range) (λ f. form_code f.form) (λ code f p h. h.1.1.0.1) (λ code sort.
    followed text_format (λ f. f.signature) (λ signature f p h. cc) (λ signature p.
    followed text_format (λ f. f.specifiers) (λ specifiers f p h. cc) (λ specifiers p.
    followed (form_format bounds room code sort) (λ f. f.form) (λ form f p h. ap (λ (f : UnitFunction). f.form) h) (λ form p.
    finished (record { name = name; signature = signature; specifiers = specifiers; form = form })))))))
    (λ f h. simp (append_assoc, append-nil))
    (λ f h. record { name = h.0; signature = h.1.1.0; specifiers = h.1.1.1.0; form = h.1.1.1.1.0.0 })
    (λ f h. (h.name, (code_in f.form, (h.signature, (h.specifiers, ((h.form, refl), refl))))))

functions_format : (bounds : Bounds) → IsFormat (functions_at bounds) (list unit_function) (λ fs. (length fs ≤ 262144) × HoldsEach code_length (HoldsFunction bounds) 8388609 fs)
unfolding functions_at
functions_format bounds = restated (followed (number_in_format 0 262145 Limit) (λ fs. length fs) (λ count fs p h. h.0) (λ count h. each_format code_length (function_at bounds) unit_function (HoldsFunction bounds) (function_format bounds) count 8388609))
    (λ fs h. refl) (λ fs h. (omega (arith, h.0.0.below), h.1.1)) (λ fs h. ((record { from = omega arith; below = omega (arith, h.0) }, omega (arith, h.0)), (refl, h.1)))

-- ---- objects

pub record HoldsObject (bounds : Bounds) (object : Object) : Type 0 where
  pub unit : IsShort object.unit
  pub texts : (length object.texts < 2 ^ 32) × AllByRecursion IsShort object.texts
  pub types : (length object.types < 2 ^ 32) × AllByRecursion (HoldsType bounds) object.types
  pub globals : (length object.globals < 2 ^ 32) × AllByRecursion HoldsGlobal object.globals
  pub functions : (length object.functions ≤ 262144) × HoldsEach code_length (HoldsFunction bounds) 8388609 object.functions
  pub assertions : (length object.assertions ≤ 4096) × AllByRecursion (HoldsAssertion bounds) object.assertions

word_is : number 1129860930 ≡ codes "CXOB"
unfolding number
word_is = refl

pub object_format : (bounds : Bounds) → IsFormat (object_at bounds) object_spelling (HoldsObject bounds)
unfolding object_at object_spelling
object_format bounds = restated
    (followed (head_format 1129860930 (omega arith)) (λ object. 1) (λ version object p h. sym p) (λ version p.
    followed text_format (λ object. object.unit) (λ unit object p h. cc) (λ unit p.
    followed (list_format text_format) (λ object. object.texts) (λ texts object p h. cc) (λ texts p.
    followed (list_format (type_format bounds)) (λ object. object.types) (λ types object p h. cc) (λ types p.
    followed (list_format global_format) (λ object. object.globals) (λ globals object p h. cc) (λ globals p.
    followed (functions_format bounds) (λ object. object.functions) (λ functions object p h. cc) (λ functions p.
    followed (assertions_format bounds) (λ object. object.assertions) (λ assertions object p h. cc) (λ assertions p.
    finished (record { unit = unit; texts = texts; types = types; globals = globals; functions = functions; assertions = assertions })))))))))
    (λ object h. rw word_is (simp (append_assoc, append-nil)))
    (λ object h. record { unit = h.1.0; texts = h.1.1.0; types = h.1.1.1.0; globals = h.1.1.1.1.0; functions = h.1.1.1.1.1.0; assertions = h.1.1.1.1.1.1.0 })
    (λ object h. (refl, (h.unit, (h.texts, (h.types, (h.globals, (h.functions, (h.assertions, refl))))))))
