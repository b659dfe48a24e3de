-- The instructions that stand for statements of the typed program, by cases on the tree: what is evaluated follows [expr], [stmt] and [conv] of the C++ draft and [basic.contract.eval] of P2900R14; the instructions and their numbers are this project's own.
use Rattle.std.specs.Prelude.{ℕ, ◌+◌, ◌-◌, ◌*◌, zero, suc, max, pos, List, [], ◌∷◌, ◌++◌, length, Option, Some, None}
use Rattle.cx_code.specs.declared.code.Instruction.{Instruction}
use Rattle.cx_core.specs.declared.number.IntegerType.{IntegerType}
use Rattle.cx_core.specs.declared.number.IntegerType.TheVariants as types
use Rattle.cx_core.specs.declared.number.BinaryOperator.{BinaryOperator}
use Rattle.cx_core.specs.declared.number.BinaryOperator.TheVariants as operators
use Rattle.cx_core.specs.declared.number.UnaryOperator.{UnaryOperator}
use Rattle.cx_core.specs.declared.number.UnaryOperator.TheVariants as unary_operators
use Rattle.cx_core.specs.Words.{Semantic, Ignore, Observe, Enforce, QuickEnforce}
use Rattle.cx_core.specs.Operators.{integer_of}
use Rattle.cx_core.specs.Tree.{ObjectType, scalar, number, Expr, literal, variable, unary, binary, assign, putchar, Operand, operand, value, Check, Stmt, Stmts, expression, variable_declaration, block, if_else, while_loop, contract_assert, return_value, done, next}

-- ---- the machine's instructions that are used, by name

abbrev pub instruction : ℕ → ℕ → ℕ → Instruction
instruction code a b = record { code = code; a = a; b = b }

abbrev pub push : ℕ → Instruction
push n = instruction 1 0 n

abbrev pub discard : Instruction
discard = instruction 5 0 0

abbrev pub swap : Instruction
swap = instruction 6 0 0

-- the place of the object in a slot
abbrev pub get : (slot : ℕ) → Instruction
get slot = instruction 7 slot 0

-- an object of one leaf is made in a slot
abbrev pub make : (slot : ℕ) → Instruction
make slot = instruction 9 1 slot

abbrev pub end : Instruction
end = instruction 10 0 0

abbrev pub load : Instruction
load = instruction 11 0 0

abbrev pub store : Instruction
store = instruction 12 0 0

-- the number of a type
abbrev pub type_number : IntegerType → ℕ
type_number types.Bool = 1
type_number types.Char = 2
type_number types.Int = 3
type_number types.Unsigned = 4
type_number types.LongLong = 5
type_number types.UnsignedLongLong = 6

-- an operator that computes a number of a type
abbrev pub computes : (code : ℕ) → IntegerType → Instruction
computes code type = instruction code (type_number type) 0

-- a comparison, which is of any two numbers
abbrev pub compares : (code : ℕ) → Instruction
compares code = instruction code 0 0

abbrev pub unary_instruction : UnaryOperator → IntegerType → Instruction
unary_instruction unary_operators.Minus type = computes 15 type
unary_instruction unary_operators.Not type = computes 16 type
unary_instruction unary_operators.Complement type = computes 17 type

abbrev pub binary_instruction : BinaryOperator → IntegerType → Instruction
binary_instruction operators.Multiply type = computes 20 type
binary_instruction operators.Divide type = computes 21 type
binary_instruction operators.Remainder type = computes 22 type
binary_instruction operators.Add type = computes 18 type
binary_instruction operators.Subtract type = computes 19 type
binary_instruction operators.ShiftLeft type = computes 23 type
binary_instruction operators.ShiftRight type = computes 24 type
binary_instruction operators.Less type = compares 30
binary_instruction operators.Greater type = compares 32
binary_instruction operators.LessEqual type = compares 31
binary_instruction operators.GreaterEqual type = compares 33
binary_instruction operators.Equal type = compares 28
binary_instruction operators.NotEqual type = compares 29
binary_instruction operators.BitAnd type = computes 25 type
binary_instruction operators.BitXor type = computes 27 type
binary_instruction operators.BitOr type = computes 26 type

abbrev pub convert : IntegerType → Instruction
convert type = instruction 34 (type_number type) 0

abbrev pub jump : (to : ℕ) → Instruction
jump to = instruction 35 to 0

abbrev pub jump_zero : (to : ℕ) → Instruction
jump_zero to = instruction 36 to 0

abbrev pub jump_nonzero : (to : ℕ) → Instruction
jump_nonzero to = instruction 37 to 0

-- a call without arguments
abbrev pub call : (function : ℕ) → Instruction
call function = instruction 38 function 0

abbrev pub returns : Instruction
returns = instruction 39 0 0

-- a byte is written
abbrev pub out : Instruction
out = instruction 41 0 0

abbrev pub number_of : Semantic → ℕ
number_of Ignore = 1
number_of Observe = 2
number_of Enforce = 3
number_of QuickEnforce = 4

-- the definer evaluates an assertion
abbrev pub begin : Semantic → (index : ℕ) → Instruction
begin semantic index = instruction 44 index (number_of semantic)

abbrev pub verdict : (index : ℕ) → Instruction
verdict index = instruction 45 index 0

-- its predicate was false
abbrev pub violate : Semantic → (index : ℕ) → Instruction
violate semantic index = instruction 46 index (8 + number_of semantic)

abbrev pub contract_end : Instruction
contract_end = instruction 48 0 0

-- ---- expressions

abbrev pub conversion_code : Option IntegerType → List Instruction
conversion_code None = []
conversion_code (Some type) = convert type ∷ []

-- a number of the greatest type may stand in an object less 2^64
abbrev pub load_code : Option IntegerType → List Instruction
load_code None = []
load_code (Some types.UnsignedLongLong) = load ∷ convert types.UnsignedLongLong ∷ []
load_code (Some type) = load ∷ []

abbrev pub read_code : Option ObjectType → List Instruction
read_code (Some (scalar s)) = load_code (integer_of s)
read_code other = []

unfoldable mutual
  -- an operator computes behind its operands, the left one first
  pub expr_code : Expr → List Instruction
  expr_code (literal (number (pos n))) = push n ∷ []
  expr_code (variable slot) = get slot ∷ []
  expr_code (unary operator type a) = operand_code a ++ unary_instruction operator type ∷ []
  expr_code (binary operator type a b) = operand_code a ++ (operand_code b ++ binary_instruction operator type ∷ [])
  expr_code other = []

  -- its expression, what reads it, and its conversion
  pub operand_code : Operand → List Instruction
  operand_code (operand read to e) = expr_code e ++ (read_code read ++ conversion_code to)

-- a number, which is zero for false
abbrev pub truth_code : Operand → List Instruction
truth_code a = operand_code a ++ convert types.Bool ∷ []

-- an expression from this place on, whose value is discarded; `putchar` has a jump to the next place as the instruction of a unit of its own
abbrev pub discarded_code : (start : ℕ) → Operand → List Instruction
discarded_code start (operand None None (assign a b)) = operand_code b ++ (expr_code a ++ swap ∷ store ∷ [])
discarded_code start (operand None None (putchar a)) = operand_code a ++ jump (start + length (operand_code a) + 1) ∷ out ∷ discard ∷ []
discarded_code start other = []

-- ---- assertions

-- what is done of a violation
abbrev pub violated_code : Semantic → (index : ℕ) → List Instruction
violated_code Ignore index = []
violated_code Observe index = violate Observe index ∷ []
violated_code Enforce index = violate Enforce index ∷ contract_end ∷ []
violated_code QuickEnforce index = contract_end ∷ []

-- behind the predicate's truth, from this place on: where it holds, past what is done of a violation
abbrev pub verdict_code : Semantic → (start index : ℕ) → List Instruction
verdict_code semantic start index =
    verdict index ∷ jump_nonzero (start + 2 + length (violated_code semantic index)) ∷ violated_code semantic index

abbrev pub evaluation_code : Semantic → (start index : ℕ) → Operand → List Instruction
evaluation_code semantic start index predicate =
    begin semantic index ∷ (truth_code predicate ++ verdict_code semantic (start + 1 + length (truth_code predicate)) index)

abbrev pub times_code : (times : ℕ) → List Instruction → List Instruction
times_code zero code = []
times_code (suc n) code = code

-- nothing where it isn't evaluated, as under `ignore`; `index` tells the place of an assertion in the image's table by its name
abbrev pub check_code : (index : List ℕ → ℕ) → (start : ℕ) → Check → (predicate : Operand) → List Instruction
check_code index start c predicate = times_code c.times (evaluation_code c.semantic start (index c.assertion.name) predicate)

-- ---- statements

-- the objects in so many slots from `base` on end, the latest first
unfoldable pub ends_code : (base count : ℕ) → List Instruction
ends_code base zero = []
ends_code base (suc n) = get (base + n) ∷ end ∷ ends_code base n

-- how many variables are visible behind a statement
abbrev pub live_behind : {A : Type 0} → (live : ℕ) → Stmt A → ℕ
live_behind live (variable_declaration slot type i) = suc live
live_behind live other = live

-- `asserted` is the code of an assertion from a place on; `exit` is the place where a value is returned, before which the objects in all slots end, so that a
-- `return` enters there where those that are live do
module _ {A : Type 0} (asserted : (start : ℕ) → A → (predicate : Operand) → List Instruction) (exit : ℕ) where
  unfoldable mutual
    -- from this place on, where so many variables are visible
    pub stmt_code : (live start : ℕ) → Stmt A → List Instruction
    stmt_code live start (expression a) = discarded_code start a
    stmt_code live start (variable_declaration slot type (value a)) = make slot ∷ get slot ∷ (operand_code a ++ store ∷ [])
    stmt_code live start (block b) = stmts_code live 0 start b
    stmt_code live start (if_else c a b) =
        let then_start = start + length (truth_code c) + 1 in
        let then_code = stmt_code live then_start a in
        let else_start = then_start + length then_code + 1 in
        let else_code = stmt_code live else_start b in
        truth_code c ++ jump_zero else_start ∷ (then_code ++ jump (else_start + length else_code) ∷ else_code)
    -- a loop is entered by a jump, since each turn begins with a unit that has no instruction of its own
    stmt_code live start (while_loop c body) =
        let body_start = start + 1 + length (truth_code c) + 1 in
        let body_code = stmt_code live body_start body in
        jump (start + 1) ∷ (truth_code c ++ jump_zero (body_start + length body_code + 1) ∷ (body_code ++ jump (start + 1) ∷ []))
    stmt_code live start (contract_assert c predicate) = asserted start c predicate
    stmt_code live start (return_value a) = operand_code a ++ jump (exit - 2 * live) ∷ []
    stmt_code live start other = []

    -- the statements of a block that began with `base` variables and has declared `count` so far
    pub stmts_code : (base count start : ℕ) → Stmts A → List Instruction
    stmts_code base count start done = ends_code base count
    stmts_code base count start (next s rest) =
        let code = stmt_code (base + count) start s in
        code ++ stmts_code base (live_behind count s) (start + length code) rest

-- ---- the body of a function

unfoldable mutual
  -- the most variables that are visible at one place in a statement, where so many are before it
  pub stmt_most : {A : Type 0} → (live : ℕ) → Stmt A → ℕ
  stmt_most live (variable_declaration slot type i) = suc live
  stmt_most live (block b) = stmts_most live b
  stmt_most live (if_else c a b) = max (stmt_most live a) (stmt_most live b)
  stmt_most live (while_loop c body) = stmt_most live body
  stmt_most live other = live

  pub stmts_most : {A : Type 0} → (live : ℕ) → Stmts A → ℕ
  stmts_most live done = live
  stmts_most live (next s rest) = max (stmt_most live s) (stmts_most (live_behind live s) rest)

-- 0 is returned where the end of `main` is reached [basic.start.main]; then come the places that a `return` leads to
abbrev pub exit_code : (exit most : ℕ) → List Instruction
exit_code exit most = push 0 ∷ jump exit ∷ (ends_code 0 most ++ returns ∷ [])

-- the code's length doesn't depend on where it exits to
abbrev pub exit_of : {A : Type 0} → (asserted : ℕ → A → Operand → List Instruction) → Stmts A → ℕ
exit_of asserted b = length (stmts_code asserted 0 0 0 0 b) + 2 + 2 * stmts_most 0 b

unfoldable pub body_code : {A : Type 0} → (asserted : ℕ → A → Operand → List Instruction) → Stmts A → List Instruction
body_code asserted b = stmts_code asserted (exit_of asserted b) 0 0 0 b ++ exit_code (exit_of asserted b) (stmts_most 0 b)
