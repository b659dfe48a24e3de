-- No instruction of compiled code reads the program's input.
use Rattle.std.proofs.Common.{◌≢◌, ℕ, zero, suc, ◌+◌, ◌-◌, ◌*◌, pos, List, [], ◌∷◌, ◌++◌, length, Option, Some, None, All}
use Rattle.std.proofs.lemmas.List.Elements.{All-nil, All-cons, All-append, All-from_recursion}
use Rattle.cx_code.specs.declared.code.Instruction.{Instruction}
use Rattle.cx_code.specs.declared.image.Function.{Function}
use Rattle.cx_code.specs.declared.operation.Operation.{Operation}
use Rattle.cx_code.specs.declared.operation.Operation.TheVariants as does
use Rattle.cx_code.specs.declared.operation.Scalar.{Scalar}
use Rattle.cx_code.specs.Operation.{operation_of, scalar_of, typed}
use Rattle.cx_sound.specs.Unread.{ReadsNo, ReadsNothing}
use Rattle.cx_core.specs.declared.number.IntegerType.{IntegerType}
use Rattle.cx_core.specs.declared.number.IntegerType.TheVariants as types
use Rattle.cx_core.specs.declared.number.BinaryOperator.{BinaryOperator}
use Rattle.cx_core.specs.declared.number.BinaryOperator.TheVariants as operators
use Rattle.cx_core.specs.declared.number.UnaryOperator.{UnaryOperator}
use Rattle.cx_core.specs.declared.number.UnaryOperator.TheVariants as unary_operators
use Rattle.cx_core.specs.declared.unit.CoreUnit.{CoreUnit}
use Rattle.cx_core.specs.Words.{Semantic, Ignore, Observe, Enforce, QuickEnforce}
use Rattle.cx_core.specs.Operators.{integer_of}
use Rattle.cx_core.specs.Tree.{ObjectType, scalar, number, Expr, literal, variable, unary, binary, assign, putchar, Operand, operand, value, Check, Stmt, Stmts, expression, variable_declaration, block, if_else, while_loop, contract_assert, return_value, done, next}
use Rattle.cx_lower.specs.Code.{push, discard, swap, get, make, end, load, store, type_number, unary_instruction, binary_instruction, convert, jump, jump_zero, jump_nonzero, call, returns, out, begin, verdict, violate, contract_end, conversion_code, load_code, read_code, expr_code, operand_code, truth_code, discarded_code, violated_code, verdict_code, evaluation_code, times_code, check_code, ends_code, stmt_code, stmts_code, body_code}
use Rattle.cx_lower.specs.Tables.{index_of, main_function, body_function, image_of, image_with}
use Rattle.cx_lower.proofs.Operations.{discard_is, swap_is, get_is, make_is, end_is, load_is, store_is, out_is, convert_is, jump_is, jump_zero_is, jump_nonzero_is, call_is, returns_is, begin_is, verdict_is, violate_is, contract_end_is}

-- ---- instructions

push_unread : (n : ℕ) → ReadsNo (push n)
unfolding operation_of
push_unread n = λ same. cc

discard_unread : ReadsNo discard
discard_unread = λ same. cc discard_is

swap_unread : ReadsNo swap
swap_unread = λ same. cc swap_is

get_unread : (slot : ℕ) → ReadsNo (get slot)
get_unread slot = λ same. cc (get_is slot)

make_unread : (slot : ℕ) → ReadsNo (make slot)
make_unread slot = λ same. cc (make_is slot)

end_unread : ReadsNo end
end_unread = λ same. cc end_is

load_unread : ReadsNo load
load_unread = λ same. cc load_is

store_unread : ReadsNo store
store_unread = λ same. cc store_is

out_unread : ReadsNo out
out_unread = λ same. cc out_is

convert_unread : (type : IntegerType) → ReadsNo (convert type)
convert_unread type = λ same. cc (convert_is type)

jump_unread : (to : ℕ) → ReadsNo (jump to)
jump_unread to = λ same. cc (jump_is to)

jump_zero_unread : (to : ℕ) → ReadsNo (jump_zero to)
jump_zero_unread to = λ same. cc (jump_zero_is to)

jump_nonzero_unread : (to : ℕ) → ReadsNo (jump_nonzero to)
jump_nonzero_unread to = λ same. cc (jump_nonzero_is to)

call_unread : (function : ℕ) → ReadsNo (call function)
call_unread function = λ same. cc (call_is function)

returns_unread : ReadsNo returns
returns_unread = λ same. cc returns_is

begin_unread : (semantic : Semantic) (index : ℕ) → ReadsNo (begin semantic index)
begin_unread semantic index = λ same. cc (begin_is semantic index)

verdict_unread : (index : ℕ) → ReadsNo (verdict index)
verdict_unread index = λ same. cc (verdict_is index)

violate_unread : (semantic : Semantic) (index : ℕ) → ReadsNo (violate semantic index)
violate_unread semantic index = λ same. cc (violate_is semantic index)

contract_end_unread : ReadsNo contract_end
contract_end_unread = λ same. cc contract_end_is

-- an operation on numbers of a type, whether there is such a type or not
typed_unread : (operation : Scalar → Operation) (type : Option Scalar) → ((s : Scalar) → Some (operation s) ≢ Some does.In) → typed operation type ≢ Some does.In
typed_unread operation None other = λ same. cc
typed_unread operation (Some s) other = other s

unary_unread : (operator : UnaryOperator) (type : IntegerType) → ReadsNo (unary_instruction operator type)
unfolding operation_of
unary_unread unary_operators.Minus type = typed_unread does.Negate (scalar_of (type_number type)) (λ s same. cc)
unary_unread unary_operators.Not type = typed_unread does.Not (scalar_of (type_number type)) (λ s same. cc)
unary_unread unary_operators.Complement type = typed_unread does.Complement (scalar_of (type_number type)) (λ s same. cc)

binary_unread : (operator : BinaryOperator) (type : IntegerType) → ReadsNo (binary_instruction operator type)
unfolding operation_of
binary_unread operators.Multiply type = typed_unread does.Multiply (scalar_of (type_number type)) (λ s same. cc)
binary_unread operators.Divide type = typed_unread does.Divide (scalar_of (type_number type)) (λ s same. cc)
binary_unread operators.Remainder type = typed_unread does.Remainder (scalar_of (type_number type)) (λ s same. cc)
binary_unread operators.Add type = typed_unread does.Add (scalar_of (type_number type)) (λ s same. cc)
binary_unread operators.Subtract type = typed_unread does.Subtract (scalar_of (type_number type)) (λ s same. cc)
binary_unread operators.ShiftLeft type = typed_unread does.ShiftLeft (scalar_of (type_number type)) (λ s same. cc)
binary_unread operators.ShiftRight type = typed_unread does.ShiftRight (scalar_of (type_number type)) (λ s same. cc)
binary_unread operators.BitAnd type = typed_unread does.BitAnd (scalar_of (type_number type)) (λ s same. cc)
binary_unread operators.BitXor type = typed_unread does.BitXor (scalar_of (type_number type)) (λ s same. cc)
binary_unread operators.BitOr type = typed_unread does.BitOr (scalar_of (type_number type)) (λ s same. cc)
binary_unread comparison type = λ same. cc

-- ---- codes that are joined

record AreUnread (code : List Instruction) : Type 0 where
  pub each : All ReadsNo code

nothing : AreUnread []
nothing = record { each = All-nil ReadsNo }

-- one instruction, and what comes behind it
before : {i : Instruction} {code : List Instruction} → ReadsNo i → AreUnread code → AreUnread (i ∷ code)
before {i} {code} first rest = record { each = All-cons ReadsNo i code first rest.each }

-- one code after the other
joined : {a b : List Instruction} → AreUnread a → AreUnread b → AreUnread (a ++ b)
joined {a} {b} first rest = record { each = All-append ReadsNo a b first.each rest.each }

-- ---- expressions

conversion_unread : (to : Option IntegerType) → AreUnread (conversion_code to)
conversion_unread None = nothing
conversion_unread (Some type) = before (convert_unread type) nothing

loaded_unread : (type : Option IntegerType) → AreUnread (load_code type)
loaded_unread None = nothing
loaded_unread (Some types.UnsignedLongLong) = before load_unread (before (convert_unread types.UnsignedLongLong) nothing)
loaded_unread (Some type) = before load_unread nothing

read_unread : (read : Option ObjectType) → AreUnread (read_code read)
read_unread (Some (scalar s)) = loaded_unread (integer_of s)
read_unread other = nothing

mutual
  unfolding expr_code

  expr_unread : (e : Expr) → AreUnread (expr_code e)
  expr_unread (literal (number (pos n))) = before (push_unread n) nothing
  expr_unread (variable slot) = before (get_unread slot) nothing
  expr_unread (unary operator type a) = joined (operand_unread a) (before (unary_unread operator type) nothing)
  expr_unread (binary operator type a b) = joined (operand_unread a) (joined (operand_unread b) (before (binary_unread operator type) nothing))
  expr_unread other = nothing

  operand_unread : (a : Operand) → AreUnread (operand_code a)
  operand_unread (operand read to e) = joined (expr_unread e) (joined (read_unread read) (conversion_unread to))

truth_unread : (a : Operand) → AreUnread (truth_code a)
truth_unread a = joined (operand_unread a) (before (convert_unread types.Bool) nothing)

discarded_unread : (start : ℕ) (e : Operand) → AreUnread (discarded_code start e)
discarded_unread start (operand None None (assign a b)) = joined (operand_unread b) (joined (expr_unread a) (before swap_unread (before store_unread nothing)))
discarded_unread start (operand None None (putchar a)) = joined (operand_unread a) (before (jump_unread (start + length (operand_code a) + 1)) (before out_unread (before discard_unread nothing)))
discarded_unread start other = nothing

-- ---- assertions

violated_unread : (semantic : Semantic) (index : ℕ) → AreUnread (violated_code semantic index)
violated_unread Ignore index = nothing
violated_unread Observe index = before (violate_unread Observe index) nothing
violated_unread Enforce index = before (violate_unread Enforce index) (before contract_end_unread nothing)
violated_unread QuickEnforce index = before contract_end_unread nothing

verdict_code_unread : (semantic : Semantic) (start index : ℕ) → AreUnread (verdict_code semantic start index)
verdict_code_unread semantic start index =
    before (verdict_unread index) (before (jump_nonzero_unread (start + 2 + length (violated_code semantic index))) (violated_unread semantic index))

evaluation_unread : (semantic : Semantic) (start index : ℕ) (predicate : Operand) → AreUnread (evaluation_code semantic start index predicate)
evaluation_unread semantic start index predicate =
    before (begin_unread semantic index) (joined (truth_unread predicate) (verdict_code_unread semantic (start + 1 + length (truth_code predicate)) index))

times_unread : (times : ℕ) (code : List Instruction) → AreUnread code → AreUnread (times_code times code)
times_unread zero code unread = nothing
times_unread (suc n) code unread = unread

check_unread : (index : List ℕ → ℕ) (start : ℕ) (c : Check) (predicate : Operand) → AreUnread (check_code index start c predicate)
check_unread index start c predicate =
    let i = index c.assertion.name in
    times_unread c.times (evaluation_code c.semantic start i predicate) (evaluation_unread c.semantic start i predicate)

-- ---- statements

ends_unread : (base count : ℕ) → AreUnread (ends_code base count)
unfolding ends_code
ends_unread base zero = nothing
ends_unread base (suc n) = before (get_unread (base + n)) (before end_unread (ends_unread base n))

module _ {A : Type 0} (asserted : ℕ → A → Operand → List Instruction) (unread : (start : ℕ) (a : A) (predicate : Operand) → AreUnread (asserted start a predicate)) where
  module _ (exit : ℕ) where
    mutual
      unfolding stmt_code

      stmt_unread : (s : Stmt A) (live start : ℕ) → AreUnread (stmt_code asserted exit live start s)
      stmt_unread (expression a) live start = discarded_unread start a
      stmt_unread (variable_declaration slot type (value a)) live start = before (make_unread slot) (before (get_unread slot) (joined (operand_unread a) (before store_unread nothing)))
      stmt_unread (block b) live start = stmts_unread b live 0 start
      stmt_unread (if_else c a b) live start = joined (truth_unread c) (before (jump_zero_unread _) (joined (stmt_unread a live _) (before (jump_unread _) (stmt_unread b live _))))
      stmt_unread (while_loop c body) live start =
          before (jump_unread (start + 1)) (joined (truth_unread c) (before (jump_zero_unread _) (joined (stmt_unread body live _) (before (jump_unread (start + 1)) nothing))))
      stmt_unread (contract_assert c predicate) live start = unread start c predicate
      stmt_unread (return_value a) live start = joined (operand_unread a) (before (jump_unread (exit - 2 * live)) nothing)
      stmt_unread other live start = nothing

      stmts_unread : (b : Stmts A) (base count start : ℕ) → AreUnread (stmts_code asserted exit base count start b)
      stmts_unread done base count start = ends_unread base count
      stmts_unread (next s rest) base count start = joined (stmt_unread s (base + count) start) (stmts_unread rest base _ _)

  -- ---- the body and the image

  body_unread : (b : Stmts A) → AreUnread (body_code asserted b)
  unfolding body_code
  body_unread b = joined (stmts_unread _ b 0 0 0) (before (push_unread 0) (before (jump_unread _) (joined (ends_unread 0 _) (before returns_unread nothing))))

main_unread : AreUnread main_function.code
main_unread = before (call_unread 1) (before returns_unread nothing)

pub reads_nothing : (unit : CoreUnit) (b : Stmts Check) → ReadsNothing (image_of unit b)
unfolding image_with
reads_nothing unit b =
    let asserted = check_code (index_of unit.assertions) in
    let unread = body_unread asserted (check_unread (index_of unit.assertions)) b in
    record { each = All-from_recursion (λ (f : Function). All ReadsNo f.code) (main_function ∷ body_function asserted b ∷ []) (main_unread.each, (unread.each, tt)) }
