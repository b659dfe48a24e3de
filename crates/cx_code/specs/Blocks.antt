-- This defines what a memory of blocks holds, by the list of the objects that were made; it is this project's own.
use Rattle.std.specs.Prelude.{ℕ, ◌+◌, ◌-◌, ◌==◌, List, Option, None, if◌then◌else◌, length, slice_get}
use Rattle.std.specs.Option.{option_map, option_and_then}
use Rattle.std.specs.Global.{Vec}
use Rattle.cx_code.specs.declared.block_map.BlockMap.{BlockMap}
use Rattle.cx_code.specs.declared.run.Value.{Value}
use Rattle.cx_code.specs.Store.{Store, Leaves}

-- the leaves of the object of a number; the first one is 1
abbrev pub leaves_at : List (Option (Vec (Option Value))) → ℕ → Option Leaves
leaves_at objects number = if number == 0 then None else option_and_then (option_map (λ block. block.items)) (slice_get objects (number - 1))

abbrev pub store_of : BlockMap → Store
store_of memory = record { leaves = leaves_at memory.objects.items; next = length memory.objects.items + 1 }
