-- This defines which places of a function are reached, and with how many operands, over all ways that its jumps and regions allow; it is this project's own.
use Rattle.std.specs.Prelude.{◌≡◌, ◌⊎◌, ℕ, ◌+◌, ◌-◌, ◌==◌, ◌<◌, List, length, Option, Some, None, slice_get, if◌then◌else◌, ⊤}
use Rattle.std.specs.Option.{option_and_then}
use Rattle.cx_code.specs.declared.code.Instruction.{Instruction}
use Rattle.cx_code.specs.declared.code.Region.{Region}
use Rattle.cx_code.specs.declared.image.Image.{Image}
use Rattle.cx_code.specs.declared.image.Function.{Function}
use Rattle.cx_code.specs.declared.operation.Operation.{Operation}
use Rattle.cx_code.specs.declared.operation.Operation.TheVariants as does
use Rattle.cx_code.specs.Operation.{operation_of}

-- the instruction at a place, if its numbers are in range
abbrev pub operation_at : List Instruction → ℕ → Option Operation
operation_at code place = option_and_then operation_of (slice_get code place)

-- each index is in its table
abbrev pub HasIndices : Image → Operation → Type 0
HasIndices image (does.Call function count) = function < length image.functions
HasIndices image (does.Global index) = index < length image.globals
HasIndices image (does.TextOf text) = text < length image.texts
HasIndices image (does.Begin assertion party semantic) = assertion < length image.assertions
HasIndices image (does.Verdict assertion) = assertion < length image.assertions
HasIndices image (does.Violate assertion mode semantic) = assertion < length image.assertions
HasIndices image (does.Throw of) = of < length image.types
HasIndices image (does.Destroyed class) = class < length image.types
HasIndices image operation = ⊤

-- ---- operands

abbrev pub result_count : Option Function → ℕ
result_count None = 0
result_count (Some function) = if function.result then 1 else 0

-- how many operands an instruction of the function takes
abbrev pub taken_count : Function → Operation → ℕ
taken_count function does.Duplicate = 1
taken_count function does.Discard = 1
taken_count function does.Swap = 2
taken_count function (does.Set slot) = 1
taken_count function does.End = 1
taken_count function does.Load = 1
taken_count function does.Store = 2
taken_count function (does.Offset by) = 1
taken_count function does.Copy = 2
taken_count function (does.Negate scalar) = 1
taken_count function (does.Not scalar) = 1
taken_count function (does.Complement scalar) = 1
taken_count function (does.Add scalar) = 2
taken_count function (does.Subtract scalar) = 2
taken_count function (does.Multiply scalar) = 2
taken_count function (does.Divide scalar) = 2
taken_count function (does.Remainder scalar) = 2
taken_count function (does.ShiftLeft scalar) = 2
taken_count function (does.ShiftRight scalar) = 2
taken_count function (does.BitAnd scalar) = 2
taken_count function (does.BitOr scalar) = 2
taken_count function (does.BitXor scalar) = 2
taken_count function does.Equal = 2
taken_count function does.NotEqual = 2
taken_count function does.Less = 2
taken_count function does.LessOrEqual = 2
taken_count function does.Greater = 2
taken_count function does.GreaterOrEqual = 2
taken_count function (does.Convert scalar) = 1
taken_count function (does.JumpZero to) = 1
taken_count function (does.JumpNonzero to) = 1
taken_count function (does.Call callee count) = count
taken_count function does.Return = result_count (Some function)
taken_count function does.Out = 1
taken_count function does.TextAt = 2
taken_count function (does.TextOf text) = 1
taken_count function (does.Verdict assertion) = 1
taken_count function (does.Field field) = 1
taken_count function (does.Throw of) = 1
taken_count function (does.Destroyed class) = 1
taken_count function operation = 0

-- how many it gives
abbrev pub given_count : Image → Operation → ℕ
given_count image (does.Push n) = 1
given_count image (does.PushBig n) = 1
given_count image does.PushNull = 1
given_count image does.Duplicate = 2
given_count image does.Swap = 2
given_count image (does.Get slot) = 1
given_count image does.Load = 1
given_count image (does.Offset by) = 1
given_count image (does.Negate scalar) = 1
given_count image (does.Not scalar) = 1
given_count image (does.Complement scalar) = 1
given_count image (does.Add scalar) = 1
given_count image (does.Subtract scalar) = 1
given_count image (does.Multiply scalar) = 1
given_count image (does.Divide scalar) = 1
given_count image (does.Remainder scalar) = 1
given_count image (does.ShiftLeft scalar) = 1
given_count image (does.ShiftRight scalar) = 1
given_count image (does.BitAnd scalar) = 1
given_count image (does.BitOr scalar) = 1
given_count image (does.BitXor scalar) = 1
given_count image does.Equal = 1
given_count image does.NotEqual = 1
given_count image does.Less = 1
given_count image does.LessOrEqual = 1
given_count image does.Greater = 1
given_count image does.GreaterOrEqual = 1
given_count image (does.Convert scalar) = 1
given_count image (does.Call callee count) = result_count (slice_get image.functions callee)
given_count image (does.Global index) = 1
given_count image does.Out = 1
given_count image does.In = 1
given_count image does.TextAt = 1
given_count image (does.TextOf text) = 1
given_count image (does.Verdict assertion) = 1
given_count image (does.Field field) = 1
given_count image does.Held = 1
given_count image operation = 0

abbrev pub depth_after : Image → Function → Operation → ℕ → ℕ
depth_after image function operation depth = depth - taken_count function operation + given_count image operation

-- ---- places

-- the place may come next
abbrev pub Follows : Operation → ℕ → ℕ → Type 0
Follows (does.Jump to) place next = next ≡ to
Follows (does.JumpZero to) place next = (next ≡ to) ⊎ (next ≡ place + 1)
Follows (does.JumpNonzero to) place next = (next ≡ to) ⊎ (next ≡ place + 1)
Follows does.Return place next = ⊥
Follows does.ContractEnd place next = ⊥
Follows (does.Throw of) place next = ⊥
Follows does.Rethrow place next = ⊥
Follows does.Resume place next = ⊥
Follows does.Flow place next = ⊥
Follows operation place next = next ≡ place + 1

-- what a place is reached from: the start or a region's target, and then whether the region is a Cleanup
pub data Origin : Type 0 where
  Plain : Origin
  Cleanup : Origin

abbrev pub origin_of : Region → Origin
origin_of region = if region.kind == 1 then Cleanup else Plain

-- a place is reached with so many operands
pub data IsReached (image : Image) (function : Function) : Origin → ℕ → ℕ → Type 0 where
  start : IsReached image function Plain 0 0
  target : (index : ℕ) (region : Region) → slice_get function.regions index ≡ Some region
      → IsReached image function (origin_of region) region.target region.depth
  onwards : (origin : Origin) (place depth : ℕ) (operation : Operation) (next : ℕ)
      → IsReached image function origin place depth
      → operation_at function.code place ≡ Some operation → HasIndices image operation
      → Follows operation place next → next < length function.code
      → IsReached image function origin next (depth_after image function operation depth)
