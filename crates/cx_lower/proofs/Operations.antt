-- What the instructions of compiled code do.
use Rattle.std.proofs.Common.{◌≡◌, ℕ, ◌+◌, ◌≤◌, ℤ, pos, Option, Some, refl, ap, ◌∙◌, arith}
use Rattle.std.specs.Int.{w64, cast_signed}
use Rattle.std.proofs.lemmas.Int.{to_z_pos}
use Rattle.cx_code.specs.declared.code.Instruction.{Instruction}
use Rattle.cx_code.specs.declared.image.Image.{Image}
use Rattle.cx_code.specs.declared.image.Function.{Function}
use Rattle.cx_code.specs.declared.operation.Operation.{Operation}
use Rattle.cx_code.specs.declared.operation.Operation.TheVariants as does
use Rattle.cx_code.specs.Operation.{operation_of}
use Rattle.cx_code.specs.Reached.{taken_count, given_count, Follows}
use Rattle.cx_core.specs.declared.number.IntegerType.{IntegerType}
use Rattle.cx_core.specs.declared.number.IntegerType.TheVariants as types
use Rattle.cx_core.specs.declared.number.BinaryOperator.{BinaryOperator}
use Rattle.cx_core.specs.declared.number.BinaryOperator.TheVariants as operators
use Rattle.cx_core.specs.declared.number.UnaryOperator.{UnaryOperator}
use Rattle.cx_core.specs.declared.number.UnaryOperator.TheVariants as unary_operators
use Rattle.cx_core.specs.Words.{Definer, Semantic, Ignore, Observe, Enforce, QuickEnforce, PredicateFalse}
use Rattle.cx_emit.specs.Operations.{scalar_of, unary_operation, binary_operation}
use Rattle.cx_typed.specs.Typed.{greatest_int, unary_type}
use Rattle.cx_lower.specs.Code.{push, discard, swap, get, make, end, load, store, convert, unary_instruction, binary_instruction, jump, jump_zero, jump_nonzero, call, returns, out, begin, verdict, violate, contract_end}

-- ---- operands and objects

pub push_is : (n : ℕ) → n ≤ greatest_int → operation_of (push n) ≡ Some (does.Push (pos n))
unfolding operation_of
push_is n le =
    let e : 0 + n ≡ n = omega arith in
    ap (λ (z : ℤ). Some (does.Push z)) (ap (cast_signed w64) e ∙ to_z_pos w64 n (omega (arith, le)))

pub discard_is : operation_of discard ≡ Some does.Discard
unfolding operation_of
discard_is = refl

pub swap_is : operation_of swap ≡ Some does.Swap
unfolding operation_of
swap_is = refl

pub get_is : (slot : ℕ) → operation_of (get slot) ≡ Some (does.Get slot)
unfolding operation_of
get_is slot = refl

pub make_is : (slot : ℕ) → operation_of (make slot) ≡ Some (does.Make 1 slot)
unfolding operation_of
make_is slot = refl

pub end_is : operation_of end ≡ Some does.End
unfolding operation_of
end_is = refl

pub load_is : operation_of load ≡ Some does.Load
unfolding operation_of
load_is = refl

pub store_is : operation_of store ≡ Some does.Store
unfolding operation_of
store_is = refl

pub out_is : operation_of out ≡ Some does.Out
unfolding operation_of
out_is = refl

-- ---- operators and conversions

pub convert_is : (type : IntegerType) → operation_of (convert type) ≡ Some (does.Convert (scalar_of type))
unfolding operation_of
convert_is types.Bool = refl
convert_is type = refl

-- an instruction computes what is asked of it, from so many operands, and goes on behind it
pub record Computes (i : Instruction) (asked : Option Operation) (taken : ℕ) : Type 0 where
  pub operation : Operation
  pub is_asked : asked ≡ Some operation
  pub is : operation_of i ≡ Some operation
  pub takes : (function : Function) → taken_count function operation ≡ taken
  pub gives : (image : Image) → given_count image operation ≡ 1
  pub goes : (place next : ℕ) → Follows operation place next → next ≡ place + 1

pub unary_computes : (operator : UnaryOperator) → Computes (unary_instruction operator (unary_type operator)) (unary_operation operator (unary_type operator)) 1
unfolding operation_of
unary_computes unary_operators.Minus = record { operation = _; is_asked = refl; is = refl; takes = λ f. refl; gives = λ i. refl; goes = λ p n follows. follows }
unary_computes operator = record { operation = _; is_asked = refl; is = refl; takes = λ f. refl; gives = λ i. refl; goes = λ p n follows. follows }

pub binary_computes : (operator : BinaryOperator) → Computes (binary_instruction operator types.Int) (binary_operation operator types.Int) 2
unfolding operation_of
binary_computes operators.Multiply = record { operation = _; is_asked = refl; is = refl; takes = λ f. refl; gives = λ i. refl; goes = λ p n follows. follows }
binary_computes operator = record { operation = _; is_asked = refl; is = refl; takes = λ f. refl; gives = λ i. refl; goes = λ p n follows. follows }

-- ---- jumps and calls

pub jump_is : (to : ℕ) → operation_of (jump to) ≡ Some (does.Jump to)
unfolding operation_of
jump_is to = refl

pub jump_zero_is : (to : ℕ) → operation_of (jump_zero to) ≡ Some (does.JumpZero to)
unfolding operation_of
jump_zero_is to = refl

pub jump_nonzero_is : (to : ℕ) → operation_of (jump_nonzero to) ≡ Some (does.JumpNonzero to)
unfolding operation_of
jump_nonzero_is to = refl

pub call_is : (function : ℕ) → operation_of (call function) ≡ Some (does.Call function 0)
unfolding operation_of
call_is function = refl

pub returns_is : operation_of returns ≡ Some does.Return
unfolding operation_of
returns_is = refl

-- ---- assertions

pub begin_is : (semantic : Semantic) (index : ℕ) → operation_of (begin semantic index) ≡ Some (does.Begin index Definer semantic)
unfolding operation_of
begin_is Ignore index = refl
begin_is Observe index = refl
begin_is Enforce index = refl
begin_is QuickEnforce index = refl

pub verdict_is : (index : ℕ) → operation_of (verdict index) ≡ Some (does.Verdict index)
unfolding operation_of
verdict_is index = refl

pub violate_is : (semantic : Semantic) (index : ℕ) → operation_of (violate semantic index) ≡ Some (does.Violate index PredicateFalse semantic)
unfolding operation_of
violate_is Ignore index = refl
violate_is Observe index = refl
violate_is Enforce index = refl
violate_is QuickEnforce index = refl

pub contract_end_is : operation_of contract_end ≡ Some does.ContractEnd
unfolding operation_of
contract_end_is = refl
