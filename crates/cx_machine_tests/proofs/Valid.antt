-- An image that passes the test is valid.
use Rattle.std.proofs.Common.{◌≡◌, ℕ, ◌-◌, ◌^◌, ◌==◌, ◌&&◌, not, nat_lt, nat_le, Bool, true, false, IfSome, length, Option, Some, None, slice_get, refl}
use Rattle.std.specs.Prelude.{sum_by}
use Rattle.std.specs.List.{All, list_all}
use Rattle.cx_code.specs.declared.code.Region.{Region}
use Rattle.cx_code.specs.declared.image.Image.{Image}
use Rattle.cx_code.specs.declared.image.Function.{Function}
use Rattle.cx_code.specs.declared.image.TypeEntry.{TypeEntry}
use Rattle.cx_code.specs.declared.image.GlobalEntry.{GlobalEntry}
use Rattle.cx_code.specs.declared.image.Assertion.{Assertion}
use Rattle.cx_code.specs.Operation.{operation_of}
use Rattle.cx_code.specs.Spelling.{image_spelling}
use Rattle.cx_code.specs.Storable.{IsShort, IsStorableType, IsStorableGlobal, IsStorableRegion, IsStorableFunction, IsStorableAssertion, IsStorable}
use Rattle.cx_code.specs.Rules.{IsEntry, IsHook, IsHookAt, HasDropper, IsValidFunction, IsValid}
use Rattle.cx_machine_tests.specs.Checked.{marks_of, is_valid_function, is_entry, is_hook, is_hook_at, is_short, is_storable_type, is_storable_function, is_storable_assertion, is_storable, is_valid}
use Rattle.cx_machine_tests.proofs.Asked.{lt_when, le_when, eq_when, le_is, and_left, and_right, implied, all_when}
use Rattle.cx_machine_tests.proofs.Functions.{is_valid_function_when, droppers_when}

-- ---- what a file can hold

type_when : (image : Image) (entry : TypeEntry) → is_storable_type image entry ≡ true → IsStorableType image entry
type_when image entry e =
    let a = is_short entry.name in
    let b = nat_le 1 entry.leaves in
    let c = nat_le entry.leaves 256 in
    let d = nat_le entry.dropper (length image.functions) in
    record {
      name = le_when (length entry.name) 134217728 (and_left a b (and_left (a && b) (c && d) e));
      some_leaf = le_when 1 entry.leaves (and_right a b (and_left (a && b) (c && d) e));
      leaves = le_when entry.leaves 256 (and_left c d (and_right (a && b) (c && d) e));
      dropper = le_when entry.dropper (length image.functions) (and_right c d (and_right (a && b) (c && d) e));
    }

region_when : (region : Region) → (nat_le 1 region.kind && nat_le region.kind 4) ≡ true → IsStorableRegion region
region_when region e = record {
  some_kind = le_when 1 region.kind (and_left (nat_le 1 region.kind) (nat_le region.kind 4) e);
  kind = le_when region.kind 4 (and_right (nat_le 1 region.kind) (nat_le region.kind 4) e);
}

function_when : (function : Function) → is_storable_function function ≡ true → IsStorableFunction function
function_when function e =
    let a = is_short function.name in
    let b = nat_le function.parameters function.slots in
    let c = nat_le function.slots 8192 in
    let d = nat_le (length function.code) 8388608 in
    let f = nat_lt (length function.regions) 0x1_0000_0000 in
    let g = list_all (λ (region : Region). nat_le 1 region.kind && nat_le region.kind 4) function.regions in
    let first = and_left (a && (b && c)) (d && (f && g)) e in
    let second = and_right (a && (b && c)) (d && (f && g)) e in
    record {
      name = le_when (length function.name) 134217728 (and_left a (b && c) first);
      parameters = le_when function.parameters function.slots (and_left b c (and_right a (b && c) first));
      slots = le_when function.slots 8192 (and_right b c (and_right a (b && c) first));
      code = le_when (length function.code) 8388608 (and_left d (f && g) second);
      regions = lt_when (length function.regions) (2 ^ 32) (and_left f g (and_right d (f && g) second));
      each_region = all_when (λ (region : Region). nat_le 1 region.kind && nat_le region.kind 4) IsStorableRegion region_when function.regions (and_right f g (and_right d (f && g) second));
    }

assertion_when : (image : Image) (assertion : Assertion) → is_storable_assertion image assertion ≡ true → IsStorableAssertion image assertion
assertion_when image assertion e =
    let a = nat_lt assertion.function (length image.functions) in
    let b = nat_le 1 assertion.ordinal in
    let c = nat_lt assertion.file (length image.texts) in
    let d = nat_lt assertion.comment (length image.texts) in
    record {
      function = lt_when assertion.function (length image.functions) (and_left a b (and_left (a && b) (c && d) e));
      ordinal = le_when 1 assertion.ordinal (and_right a b (and_left (a && b) (c && d) e));
      file = lt_when assertion.file (length image.texts) (and_left c d (and_right (a && b) (c && d) e));
      comment = lt_when assertion.comment (length image.texts) (and_right c d (and_right (a && b) (c && d) e));
    }

storable_when : (image : Image) → is_storable image ≡ true → IsStorable image
storable_when image e =
    let a = nat_lt (length image.texts) 0x1_0000_0000 in
    let b = list_all is_short image.texts in
    let c = nat_lt (length image.types) 0x1_0000_0000 in
    let d = list_all (is_storable_type image) image.types in
    let f = nat_lt (length image.globals) 0x1_0000_0000 in
    let g = list_all (λ (global : GlobalEntry). is_short global.name) image.globals in
    let h = nat_le (length image.functions) 262144 in
    let i = list_all is_storable_function image.functions in
    let j = nat_le (sum_by (λ (f : Function). length f.code) image.functions) 8388608 in
    let k = nat_le (length image.assertions) 4096 in
    let l = list_all (is_storable_assertion image) image.assertions in
    let m = nat_lt image.main (length image.functions) in
    let n = nat_le image.handler (length image.functions) in
    let o = is_short (image_spelling image) in
    let rest = (((f && g) && (h && i)) && ((j && (k && l)) && ((m && n) && o))) in
    let first = and_left ((a && b) && (c && d)) rest e in
    let second = and_right ((a && b) && (c && d)) rest e in
    let third = and_left ((f && g) && (h && i)) ((j && (k && l)) && ((m && n) && o)) second in
    let fourth = and_right ((f && g) && (h && i)) ((j && (k && l)) && ((m && n) && o)) second in
    let fifth = and_left (j && (k && l)) ((m && n) && o) fourth in
    let sixth = and_right (j && (k && l)) ((m && n) && o) fourth in
    record {
      texts = lt_when (length image.texts) (2 ^ 32) (and_left a b (and_left (a && b) (c && d) first));
      each_text = all_when is_short IsShort (λ text e. le_when (length text) 134217728 e) image.texts (and_right a b (and_left (a && b) (c && d) first));
      types = lt_when (length image.types) (2 ^ 32) (and_left c d (and_right (a && b) (c && d) first));
      each_type = all_when (is_storable_type image) (IsStorableType image) (type_when image) image.types (and_right c d (and_right (a && b) (c && d) first));
      globals = lt_when (length image.globals) (2 ^ 32) (and_left f g (and_left (f && g) (h && i) third));
      each_global = all_when (λ (global : GlobalEntry). is_short global.name) IsStorableGlobal (λ global e. record { name = le_when (length global.name) 134217728 e }) image.globals (and_right f g (and_left (f && g) (h && i) third));
      functions = le_when (length image.functions) 262144 (and_left h i (and_right (f && g) (h && i) third));
      each_function = all_when is_storable_function IsStorableFunction function_when image.functions (and_right h i (and_right (f && g) (h && i) third));
      instructions = le_when (sum_by (λ (f : Function). length f.code) image.functions) 8388608 (and_left j (k && l) fifth);
      assertions = le_when (length image.assertions) 4096 (and_left k l (and_right j (k && l) fifth));
      each_assertion = all_when (is_storable_assertion image) (IsStorableAssertion image) (assertion_when image) image.assertions (and_right k l (and_right j (k && l) fifth));
      main = lt_when image.main (length image.functions) (and_left m n (and_left (m && n) o sixth));
      handler = le_when image.handler (length image.functions) (and_right m n (and_left (m && n) o sixth));
      bytes = le_when (length (image_spelling image)) 134217728 (and_right (m && n) o sixth);
    }

-- ---- the functions that are called by themselves

is_false_when : (b : Bool) → not b ≡ true → b ≡ false
is_false_when true e = absurd (cc)
is_false_when false e = refl

entry_when : (function : Option Function) → is_entry function ≡ true → IfSome function IsEntry
entry_when None e = tt
entry_when (Some function) e =
    record { parameters = eq_when function.parameters 0 (and_left (function.parameters == 0) function.result e); result = and_right (function.parameters == 0) function.result e }

hook_when : (function : Option Function) → is_hook function ≡ true → IfSome function IsHook
hook_when None e = tt
hook_when (Some function) e = record {
  parameters = eq_when function.parameters 1 (and_left (function.parameters == 1) (not function.result) e);
  result = is_false_when function.result (and_right (function.parameters == 1) (not function.result) e);
}

hook_at_when : (image : Image) (index : ℕ) → is_hook_at image index ≡ true → IsHookAt image index
hook_at_when image index e some = hook_when (slice_get image.functions (index - 1)) (implied (nat_le 1 index) (is_hook (slice_get image.functions (index - 1))) e (le_is 1 index some))

-- ---- the image

pub valid_when : (image : Image) → is_valid image ≡ true → IsValid image
unfolding is_valid
valid_when image e =
    let a = is_storable image in
    let b = list_all (λ function. is_valid_function image function (marks_of image function)) image.functions in
    let c = is_entry (slice_get image.functions image.main) in
    let d = is_hook_at image image.handler in
    let f = list_all (λ (entry : TypeEntry). is_hook_at image entry.dropper) image.types in
    let rest = and_right a (b && (c && (d && f))) e in
    let last = and_right b (c && (d && f)) rest in
    record {
      storable = storable_when image (and_left a (b && (c && (d && f))) e);
      each_function = all_when (λ function. is_valid_function image function (marks_of image function)) (IsValidFunction image) (is_valid_function_when image) image.functions (and_left b (c && (d && f)) rest);
      main = entry_when (slice_get image.functions image.main) (and_left c (d && f) last);
      handler = hook_at_when image image.handler (and_left d f (and_right c (d && f) last));
      droppers = all_when (λ (entry : TypeEntry). is_hook_at image entry.dropper) (λ (entry : TypeEntry). IsHookAt image entry.dropper) (λ entry e. hook_at_when image entry.dropper e) image.types (and_right d f (and_right c (d && f) last));
      thrown = all_when (λ function. is_valid_function image function (marks_of image function)) (λ (function : Function). All (λ i. HasDropper image (operation_of i)) function.code) (droppers_when image) image.functions (and_left b (c && (d && f)) rest);
    }
