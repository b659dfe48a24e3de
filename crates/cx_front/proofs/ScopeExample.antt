-- What the definitions give on a program with blocks, a hidden variable, conversions and assertions, written out; and what isn't built.
use Rattle.std.proofs.Common.{◌≡◌, ℕ, ◌+◌, List, [], ◌∷◌, Option, Some, None, pos, refl, codes, lit<}
use Rattle.std.specs.Fmt.{digits}
use Rattle.cx_types.specs.declared.value_type.Scalar.{Scalar}
use Rattle.cx_types.specs.declared.value_type.Scalar.TheVariants as scalars
use Rattle.cx_code.specs.declared.image.AssertionKind.TheVariants as assertion_kinds
use Rattle.cx_syntax.specs.declared.token.TokenKind.{TokenKind}
use Rattle.cx_syntax.specs.declared.token.TokenKind.TheVariants as kinds
use Rattle.cx_syntax.specs.declared.mark.Mark.TheVariants as M
use Rattle.cx_syntax.specs.declared.mark.Punct.TheVariants as P
use Rattle.cx_syntax.specs.declared.mark.Word.{Word}
use Rattle.cx_syntax.specs.declared.mark.Word.TheVariants as W
use Rattle.cx_syntax.specs.Tree as grammar
use Rattle.cx_syntax.specs.Tree.{UnitTree, args, asserts, block, branches, call, compound, declare, defined, equals, evaluate, function, leaf, local, more_items, more_stmts, no_items, no_params, no_specs, no_stars, no_stmts, one, returns, suffix, type_tree, word_base}
use Rattle.cx_syntax.specs.Spell.{numbered, spell}
use Rattle.cx_marks.specs.Marks.{marks_from, name_mark, number, first_place, some_below, declares_at}
use Rattle.cx_marks.specs.Words.{puncts, words}
use Rattle.cx_includes.specs.declared.assembled.Assembled.{Assembled}
use Rattle.cx_includes.specs.declared.assembled.Placed.{Placed}
use Rattle.cx_faults.specs.Faults.{marks_of}
use Rattle.cx_core.specs.declared.number.IntegerType.{IntegerType}
use Rattle.cx_core.specs.declared.number.IntegerType.TheVariants as types
use Rattle.cx_core.specs.declared.number.BinaryOperator.TheVariants as operators
use Rattle.cx_core.specs.declared.number.UnaryOperator.TheVariants as unary_operators
use Rattle.cx_core.specs.declared.unit.Assertion.{Assertion}
use Rattle.cx_core.specs.Tree.{Operand, Stmts, binary, contract_assert, done, expression, if_else, literal, next, operand, putchar, return_value, scalar, unary, value, variable, variable_declaration}
use Rattle.cx_core.specs.Tree as core
use Rattle.cx_front.specs.Front.{body_in, statements_in, table_in, stmt_in, stmts_in, assertions_in, expr_in}

token : TokenKind → ℕ → ℕ → Placed
token kind start end = record { token = record { kind = kind; start = start; end = end }; file = 0; line = 1; column = start + 1 }

-- the tokens and their places, where <cstdio> was included before the first one or not at all
list : Option ℕ → Assembled
list cstdio = record {
  files = record { name = codes "a.cpp"; text = codes "int main(){bool b='a'<2;{char b=b;contract_assert(b);if(!b)putchar(b);else contract_assert(true);}contract_assert(-b==0);return b;}" } ∷ [];
  placed =
      token kinds.Word 0 3 ∷ token kinds.Name 4 8 ∷ token kinds.Punct 8 9 ∷ token kinds.Punct 9 10 ∷ token kinds.Punct 10 11 ∷
      token kinds.Word 11 15 ∷ token kinds.Name 16 17 ∷ token kinds.Punct 17 18 ∷ token kinds.Char 18 21 ∷ token kinds.Punct 21 22 ∷ token kinds.Number 22 23 ∷ token kinds.Punct 23 24 ∷
      token kinds.Punct 24 25 ∷ token kinds.Word 25 29 ∷ token kinds.Name 30 31 ∷ token kinds.Punct 31 32 ∷ token kinds.Name 32 33 ∷ token kinds.Punct 33 34 ∷
      token kinds.Word 34 49 ∷ token kinds.Punct 49 50 ∷ token kinds.Name 50 51 ∷ token kinds.Punct 51 52 ∷ token kinds.Punct 52 53 ∷
      token kinds.Word 53 55 ∷ token kinds.Punct 55 56 ∷ token kinds.Punct 56 57 ∷ token kinds.Name 57 58 ∷ token kinds.Punct 58 59 ∷ token kinds.Name 59 66 ∷ token kinds.Punct 66 67 ∷ token kinds.Name 67 68 ∷ token kinds.Punct 68 69 ∷ token kinds.Punct 69 70 ∷ token kinds.Word 70 74 ∷ token kinds.Word 75 90 ∷ token kinds.Punct 90 91 ∷ token kinds.Word 91 95 ∷ token kinds.Punct 95 96 ∷ token kinds.Punct 96 97 ∷ token kinds.Punct 97 98 ∷
      token kinds.Word 98 113 ∷ token kinds.Punct 113 114 ∷ token kinds.Punct 114 115 ∷ token kinds.Name 115 116 ∷ token kinds.Punct 116 118 ∷ token kinds.Number 118 119 ∷ token kinds.Punct 119 120 ∷ token kinds.Punct 120 121 ∷
      token kinds.Word 121 127 ∷ token kinds.Name 128 129 ∷ token kinds.Punct 129 130 ∷ token kinds.Punct 130 131 ∷ [];
  contracts = None;
  cstdio = cstdio;
  small = lit< tt;
}

included : Assembled
included = list (Some 0)

-- ---- the tree of the grammar

-- `b` at a place; its name has the number 9, since it stands first at 6, and that of `putchar` the number 31
b_at : ℕ → grammar.Expr
b_at i = leaf i (M.Name 9)

-- `TYPE b = VALUE;` from a place on
declared_at : ℕ → Word → (semicolon : ℕ) → grammar.Expr → grammar.Stmt
declared_at i type semicolon e = declare (local (type_tree None (word_base type i) no_stars None) 9 (i + 1) (equals (i + 2) e)) semicolon

outer_declared : grammar.Stmt
outer_declared = declared_at 5 W.Bool 11 (grammar.binary 8 (leaf 8 M.Char) P.Less 9 (leaf 10 M.Number))

inner_declared : grammar.Stmt
inner_declared = declared_at 13 W.Char 17 (b_at 16)

written : grammar.Stmt
written = evaluate (call 28 (leaf 28 (M.Name 31)) (args 29 (one (b_at 30)) 31)) 32

choice : grammar.Stmt
choice = branches 23 24 (grammar.unary 25 P.Not (b_at 26)) 27 written 33 (asserts 34 35 (leaf 36 (M.Word W.True)) 37 38)

inner : grammar.Stmts
inner = more_stmts (more_stmts (more_stmts no_stmts inner_declared) (asserts 18 19 (b_at 20) 21 22)) choice

last_assertion : grammar.Stmt
last_assertion = asserts 40 41 (grammar.binary 42 (grammar.unary 42 P.Minus (b_at 43)) P.Equal 44 (leaf 45 M.Number)) 46 47

outer : grammar.Stmts
outer = more_stmts (more_stmts (more_stmts (more_stmts no_stmts outer_declared) (compound (block 12 inner 39))) last_assertion) (returns 48 (Some (b_at 49)) 50)

tree : UnitTree
tree = more_items no_items (function None (type_tree None (word_base W.Int 0) no_stars None) 4 1 (no_params 2 3) (suffix None no_specs) (defined (block 4 outer 51)))

-- ---- the typed program, whose assertions are named by their indices in the table

constant : Option IntegerType → ℕ → Operand
constant to n = operand None to (literal (core.number (pos n)))

-- a variable that is read as an object of the type, and its value converted or not
read : ℕ → Scalar → Option IntegerType → Operand
read slot type to = operand (Some (scalar type)) to (variable slot)

entry : List ℕ → ℕ → List ℕ → Assertion
entry name column comment = record { kind = assertion_kinds.Assert; name = name; file = codes "a.cpp"; line = 1; column = column; comment = comment }

first : Assertion
first = entry (codes "main#assert1") 35 (codes "b")

second : Assertion
second = entry (codes "main#assert2") 76 (codes "true")

third : Assertion
third = entry (codes "main#assert3") 99 (codes "- b == 0")

-- the variable of the block hides the outer one, and is seen in its own initialiser
typed_inner : Stmts ℕ
typed_inner =
    next (variable_declaration 1 (scalar scalars.Char) (value (read 1 scalars.Char None)))
    (next (contract_assert 0 (read 1 scalars.Char None))
    (next (if_else (operand None None (unary unary_operators.Not types.Bool (read 1 scalars.Char (Some types.Bool)))) (expression (operand None None (putchar (read 1 scalars.Char (Some types.Int))))) (contract_assert 1 (constant None 1)))
    done))

typed : Stmts ℕ
typed =
    next (variable_declaration 0 (scalar scalars.Bool) (value (operand None None (binary operators.Less types.Int (constant (Some types.Int) 97) (constant None 2)))))
    (next (core.block typed_inner)
    (next (contract_assert 2 (operand None None (binary operators.Equal types.Int (operand None None (unary unary_operators.Minus types.Int (read 0 scalars.Bool (Some types.Int)))) (constant None 0))))
    (next (return_value (read 0 scalars.Bool (Some types.Int))) done)))

-- ---- each is the one of the other

trees : ℕ
unfolding list included b_at declared_at outer_declared inner_declared written choice inner last_assertion outer tree token
trees = 0

spelled : spell tree ≡ numbered 0 (marks_of included)
unfolding trees token marks_from name_mark number first_place some_below declares_at words puncts
spelled = refl

is_typed : body_in included (statements_in included tree) ≡ Some typed
unfolding trees constant read typed_inner typed stmt_in assertions_in digits
is_typed = refl

are_listed : table_in included (statements_in included tree) ≡ first ∷ second ∷ third ∷ []
unfolding trees entry first second third assertions_in digits
are_listed = refl

-- ---- what isn't built

-- a second variable of the name in one block
declared_twice : stmts_in included 1 0 [] (more_stmts (more_stmts no_stmts outer_declared) inner_declared) ≡ None
unfolding trees stmt_in
declared_twice = refl

-- a declaration that is a branch
declared_alone : stmt_in included 1 0 [] (grammar.branch 23 24 (leaf 36 (M.Word W.True)) 27 inner_declared) ≡ None
unfolding trees stmt_in
declared_alone = refl

-- a name that no variable has
undeclared : expr_in included [] (b_at 16) ≡ None
unfolding trees
undeclared = refl

-- without <cstdio>
not_included : stmt_in (list None) 1 0 (record { name = 9; of = types.Char } ∷ []) written ≡ None
unfolding trees stmt_in
not_included = refl
