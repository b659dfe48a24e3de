-- This defines the lowest type whose dropper breaks a rule; it is this project's own.
use Rattle.std.specs.Prelude.{◌≡◌, ℕ, ◌<◌, ◌≤◌, min, Option, Some, None, slice_get}
use Rattle.cx_code.specs.declared.code.Instruction.{Instruction}
use Rattle.cx_code.specs.declared.image.Image.{Image}
use Rattle.cx_code.specs.declared.image.Function.{Function}
use Rattle.cx_code.specs.declared.image.TypeEntry.{TypeEntry}
use Rattle.cx_code.specs.declared.operation.Operation.TheVariants as does
use Rattle.cx_code.specs.Operation.{operation_of}
use Rattle.cx_code.specs.Rules.{IsHookAt}
use Rattle.cx_reach.specs.Broken.{IsBadDropper, IsThrown}

-- the lowest number of which it holds, if it holds of one
abbrev pub IsLowest : (ℕ → Type 0) → Option ℕ → Type 0
IsLowest holds None = (n : ℕ) → ¬ holds n
IsLowest holds (Some n) = holds n × ((m : ℕ) → holds m → n ≤ m)

abbrev pub lesser_of : Option ℕ → Option ℕ → Option ℕ
lesser_of None b = b
lesser_of (Some a) None = Some a
lesser_of (Some a) (Some b) = Some (min a b)

abbrev pub HasNoDropper : Image → ℕ → Type 0
HasNoDropper image type = (entry : TypeEntry) × (slice_get image.types type ≡ Some entry) × (entry.dropper ≡ 0)

abbrev pub ThrowsAt : Function → ℕ → ℕ → Type 0
ThrowsAt function place type = (instruction : Instruction) × (slice_get function.code place ≡ Some instruction) × (operation_of instruction ≡ Some (does.Throw type))

-- a type without a dropper is thrown at the place, before it, or in a function before the one of an index
abbrev pub IsLostAt : Image → Function → ℕ → ℕ → Type 0
IsLostAt image function place type = HasNoDropper image type × ThrowsAt function place type

abbrev pub IsLostBefore : Image → Function → ℕ → ℕ → Type 0
IsLostBefore image function place type = (earlier : ℕ) × (earlier < place) × IsLostAt image function earlier type

abbrev pub IsLostIn : Image → Function → ℕ → Type 0
IsLostIn image function type = (place : ℕ) × IsLostAt image function place type

abbrev pub IsLostInFirst : Image → ℕ → ℕ → Type 0
IsLostInFirst image count type = (index : ℕ) × (function : Function) × (index < count) × (slice_get image.functions index ≡ Some function) × IsLostIn image function type

abbrev pub IsLost : Image → ℕ → Type 0
IsLost image type = HasNoDropper image type × IsThrown image type

-- the type's dropper isn't such as the machine calls
abbrev pub IsUnfit : Image → ℕ → Type 0
IsUnfit image type = (entry : TypeEntry) × (slice_get image.types type ≡ Some entry) × ¬ IsHookAt image entry.dropper

abbrev pub BreaksDropper : Image → ℕ → Type 0
BreaksDropper image type = (entry : TypeEntry) × (slice_get image.types type ≡ Some entry) × IsBadDropper image type entry
