-- This decides by computing whether an image is valid: the places that are reached are gathered, and each rule is asked; it is this project's own.
use Rattle.std.specs.Prelude.{ℕ, zero, suc, ◌+◌, ◌-◌, ◌*◌, ◌==◌, ◌&&◌, ◌||◌, not, Bool, true, false, if◌then◌else◌, nat_lt, nat_le, List, [], ◌∷◌, ◌++◌, map, length, max, min, Option, Some, None, slice_get, sum_by}
use Rattle.std.specs.List.{list_all, list_any}
use Rattle.cx_code.specs.declared.code.Instruction.{Instruction}
use Rattle.cx_code.specs.declared.code.Region.{Region}
use Rattle.cx_code.specs.declared.image.Image.{Image}
use Rattle.cx_code.specs.declared.image.Function.{Function}
use Rattle.cx_code.specs.declared.image.TypeEntry.{TypeEntry}
use Rattle.cx_code.specs.declared.image.GlobalEntry.{GlobalEntry}
use Rattle.cx_code.specs.declared.image.Assertion.{Assertion}
use Rattle.cx_code.specs.declared.operation.Operation.{Operation}
use Rattle.cx_code.specs.declared.operation.Operation.TheVariants as does
use Rattle.cx_code.specs.Operation.{operation_of}
use Rattle.cx_code.specs.Reached.{Origin, Plain, Cleanup, operation_at, taken_count, depth_after, origin_of}
use Rattle.cx_code.specs.Spelling.{image_spelling}

-- ---- what is reached

-- a place is reached, from there and with so many operands
pub record Mark : Type 0 where
  pub origin : Origin
  pub place : ℕ
  pub depth : ℕ

abbrev pub is_cleanup : Origin → Bool
is_cleanup Plain = false
is_cleanup Cleanup = true

abbrev pub same_origin : Origin → Origin → Bool
same_origin Plain origin = not (is_cleanup origin)
same_origin Cleanup origin = is_cleanup origin

abbrev pub is_mark : Mark → Mark → Bool
is_mark a b = same_origin a.origin b.origin && ((a.place == b.place) && (a.depth == b.depth))

abbrev pub has_mark : List Mark → Mark → Bool
has_mark marks mark = list_any (is_mark mark) marks

-- the places that may come next
abbrev pub next_places : Operation → ℕ → List ℕ
next_places (does.Jump to) place = to ∷ []
next_places (does.JumpZero to) place = to ∷ (place + 1) ∷ []
next_places (does.JumpNonzero to) place = to ∷ (place + 1) ∷ []
next_places does.Return place = []
next_places does.ContractEnd place = []
next_places (does.Throw of) place = []
next_places does.Rethrow place = []
next_places does.Resume place = []
next_places does.Flow place = []
next_places operation place = (place + 1) ∷ []

abbrev pub marks_after : Image → Function → Mark → Option Operation → List Mark
marks_after image function mark None = []
marks_after image function mark (Some operation) =
    map (λ next. record { origin = mark.origin; place = next; depth = depth_after image function operation mark.depth }) (next_places operation mark.place)

abbrev pub next_marks : Image → Function → Mark → List Mark
next_marks image function mark = marks_after image function mark (operation_at function.code mark.place)

-- those of the marks that are in the code
abbrev pub within : Function → List Mark → List Mark
within function [] = []
within function (mark ∷ marks) = if nat_lt mark.place (length function.code) then mark ∷ within function marks else within function marks

-- the marks that are left to look at, and those that were met
abbrev pub gathered : Image → Function → ℕ → List Mark → List Mark → List Mark
gathered image function zero left met = met
gathered image function (suc n) [] met = met
gathered image function (suc n) (mark ∷ left) met =
    gathered image function n
    (if has_mark met mark then left else (within function (next_marks image function mark) ++ left))
    (if has_mark met mark then met else (mark ∷ met))

abbrev pub target_mark : Region → Mark
target_mark region = record { origin = origin_of region; place = region.target; depth = region.depth }

abbrev pub first_marks : Function → List Mark
first_marks function = record { origin = Plain; place = 0; depth = 0 } ∷ map target_mark function.regions

abbrev pub marks_of : Image → Function → List Mark
marks_of image function = gathered image function (3 * length function.code + length function.regions + 1) (first_marks function) []

-- nothing is reached that isn't among them
abbrev pub is_closed : Image → Function → List Mark → Bool
is_closed image function marks =
    list_all (has_mark marks) (first_marks function)
    && list_all (λ mark. list_all (λ next. nat_lt next.place (length function.code) && has_mark marks next) (next_marks image function mark)) marks

-- ---- V1, V2, V5

abbrev pub has_indices : Image → Operation → Bool
has_indices image (does.Call function count) = nat_lt function (length image.functions)
has_indices image (does.Global index) = nat_lt index (length image.globals)
has_indices image (does.TextOf text) = nat_lt text (length image.texts)
has_indices image (does.Begin assertion party semantic) = nat_lt assertion (length image.assertions)
has_indices image (does.Verdict assertion) = nat_lt assertion (length image.assertions)
has_indices image (does.Violate assertion mode semantic) = nat_lt assertion (length image.assertions)
has_indices image (does.Throw of) = nat_lt of (length image.types)
has_indices image (does.Destroyed class) = nat_lt class (length image.types)
has_indices image operation = true

abbrev pub has_places : Function → Operation → Bool
has_places function (does.Jump to) = nat_lt to (length function.code)
has_places function (does.JumpZero to) = nat_lt to (length function.code)
has_places function (does.JumpNonzero to) = nat_lt to (length function.code)
has_places function (does.Get slot) = nat_lt slot function.slots
has_places function (does.Set slot) = nat_lt slot function.slots
has_places function (does.Make leaves slot) = nat_lt slot function.slots
has_places function operation = true

abbrev pub has_parameters : Option Function → ℕ → Bool
has_parameters None count = true
has_parameters (Some callee) count = callee.parameters == count

abbrev pub passes : Image → Operation → Bool
passes image (does.Call function count) = has_parameters (slice_get image.functions function) count
passes image operation = true

abbrev pub drops : Option TypeEntry → Bool
drops None = true
drops (Some entry) = nat_le 1 entry.dropper

abbrev pub is_dropped : Image → Operation → Bool
is_dropped image (does.Throw of) = drops (slice_get image.types of)
is_dropped image operation = true

abbrev pub is_fine : Image → Function → Option Operation → Bool
is_fine image function None = false
is_fine image function (Some operation) = (has_indices image operation && has_places function operation) && (passes image operation && is_dropped image operation)

-- ---- V3, V6

abbrev pub is_deep_enough : Function → Mark → Option Operation → Bool
is_deep_enough function mark None = true
is_deep_enough function mark (Some operation) = nat_le (taken_count function operation) mark.depth

abbrev pub agree : Mark → Mark → Bool
agree a b = not (a.place == b.place) || ((a.depth == b.depth) && same_origin a.origin b.origin)

abbrev pub has_cleanup : List Mark → ℕ → Bool
has_cleanup marks place = list_any (λ mark. (mark.place == place) && is_cleanup mark.origin) marks

abbrev pub is_ordered : List Mark → Option Operation → ℕ → Bool
is_ordered marks (Some does.Resume) place = has_cleanup marks place
is_ordered marks (Some does.Return) place = not (has_cleanup marks place)
is_ordered marks operation place = true

-- the rest of the code, from a place on
abbrev pub all_ordered : List Mark → List Instruction → ℕ → Bool
all_ordered marks [] place = true
all_ordered marks (i ∷ code) place = is_ordered marks (operation_of i) place && all_ordered marks code (suc place)

-- ---- V4

abbrev pub covers : Region → ℕ → Bool
covers region place = nat_le region.start place && nat_lt place region.end

abbrev pub leaves_enough : Function → Region → Mark → Option Operation → Bool
leaves_enough function region mark None = true
leaves_enough function region mark (Some operation) = nat_le (region.depth + taken_count function operation) mark.depth

abbrev pub is_region : Image → Function → List Mark → Region → Bool
is_region image function marks region =
    ((nat_lt region.start region.end && nat_le region.end (length function.code)) && (nat_lt region.target (length function.code) && (not (region.kind == 2) || nat_le region.of (length image.types))))
    && ((nat_lt region.target region.start || nat_le region.end region.target)
    && list_all (λ mark. not (covers region mark.place) || leaves_enough function region mark (operation_at function.code mark.place)) marks)

abbrev pub is_around : Region → Region → Bool
is_around a b = not (nat_lt (max a.start b.start) (min a.end b.end)) || (nat_le b.start a.start && nat_le a.end b.end)

abbrev pub is_nested : List Region → Bool
is_nested [] = true
is_nested (region ∷ regions) = list_all (is_around region) regions && is_nested regions

abbrev pub is_valid_function : Image → Function → List Mark → Bool
is_valid_function image function marks =
    (nat_lt 0 (length function.code) && list_all (λ i. is_fine image function (operation_of i)) function.code)
    && (is_closed image function marks
    && ((list_all (λ mark. is_deep_enough function mark (operation_at function.code mark.place) && nat_le mark.depth 4096) marks && list_all (λ a. list_all (agree a) marks) marks)
    && (all_ordered marks function.code 0
    && (is_nested function.regions && list_all (is_region image function marks) function.regions))))

-- ---- V7

abbrev pub is_entry : Option Function → Bool
is_entry None = true
is_entry (Some function) = (function.parameters == 0) && function.result

abbrev pub is_hook : Option Function → Bool
is_hook None = true
is_hook (Some function) = (function.parameters == 1) && not function.result

abbrev pub is_hook_at : Image → ℕ → Bool
is_hook_at image index = not (nat_le 1 index) || is_hook (slice_get image.functions (index - 1))

-- ---- what a file can hold

abbrev pub is_short : List ℕ → Bool
is_short bytes = nat_le (length bytes) 134217728

abbrev pub is_storable_type : Image → TypeEntry → Bool
is_storable_type image entry = (is_short entry.name && nat_le 1 entry.leaves) && (nat_le entry.leaves 256 && nat_le entry.dropper (length image.functions))

abbrev pub is_storable_function : Function → Bool
is_storable_function function =
    (is_short function.name && (nat_le function.parameters function.slots && nat_le function.slots 8192))
    && (nat_le (length function.code) 8388608 && (nat_lt (length function.regions) 0x1_0000_0000 && list_all (λ (region : Region). nat_le 1 region.kind && nat_le region.kind 4) function.regions))

abbrev pub is_storable_assertion : Image → Assertion → Bool
is_storable_assertion image assertion =
    (nat_lt assertion.function (length image.functions) && nat_le 1 assertion.ordinal) && (nat_lt assertion.file (length image.texts) && nat_lt assertion.comment (length image.texts))

abbrev pub is_storable : Image → Bool
is_storable image =
    ((nat_lt (length image.texts) 0x1_0000_0000 && list_all is_short image.texts) && (nat_lt (length image.types) 0x1_0000_0000 && list_all (is_storable_type image) image.types))
    && (((nat_lt (length image.globals) 0x1_0000_0000 && list_all (λ (global : GlobalEntry). is_short global.name) image.globals) && (nat_le (length image.functions) 262144 && list_all is_storable_function image.functions))
    && ((nat_le (sum_by (λ (f : Function). length f.code) image.functions) 8388608 && (nat_le (length image.assertions) 4096 && list_all (is_storable_assertion image) image.assertions))
    && ((nat_lt image.main (length image.functions) && nat_le image.handler (length image.functions)) && is_short (image_spelling image))))

-- ---- the image

unfoldable pub is_valid : Image → Bool
is_valid image =
    is_storable image
    && (list_all (λ function. is_valid_function image function (marks_of image function)) image.functions
    && (is_entry (slice_get image.functions image.main) && (is_hook_at image image.handler && list_all (λ (entry : TypeEntry). is_hook_at image entry.dropper) image.types)))
