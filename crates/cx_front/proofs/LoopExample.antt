-- What the definitions give on a program with a variable and a loop, written out.
use Rattle.std.proofs.Common.{◌≡◌, ℕ, ◌+◌, [], ◌∷◌, Some, None, pos, refl, codes, lit<}
use Rattle.cx_types.specs.declared.value_type.Scalar.TheVariants as scalars
use Rattle.cx_syntax.specs.declared.token.TokenKind.{TokenKind}
use Rattle.cx_syntax.specs.declared.token.TokenKind.TheVariants as kinds
use Rattle.cx_syntax.specs.declared.mark.Mark.TheVariants as M
use Rattle.cx_syntax.specs.declared.mark.Punct.TheVariants as P
use Rattle.cx_syntax.specs.declared.mark.Word.TheVariants as W
use Rattle.cx_syntax.specs.Tree as grammar
use Rattle.cx_syntax.specs.Tree.{UnitTree, block, declare, defined, equals, evaluate, function, leaf, local, more_items, more_stmts, no_items, no_params, no_specs, no_stars, no_stmts, returns, suffix, type_tree, word_base}
use Rattle.cx_syntax.specs.Spell.{numbered, spell}
use Rattle.cx_marks.specs.Marks.{marks_from, name_mark, number, first_place, some_below, declares_at}
use Rattle.cx_marks.specs.Words.{puncts, words}
use Rattle.cx_includes.specs.declared.assembled.Assembled.{Assembled}
use Rattle.cx_includes.specs.declared.assembled.Placed.{Placed}
use Rattle.cx_faults.specs.Faults.{marks_of}
use Rattle.cx_core.specs.declared.number.IntegerType.TheVariants as types
use Rattle.cx_core.specs.declared.number.BinaryOperator.TheVariants as operators
use Rattle.cx_core.specs.Tree.{Operand, Stmt, Stmts, assign, binary, done, expression, literal, next, operand, return_value, scalar, value, variable, variable_declaration, while_loop}
use Rattle.cx_core.specs.Tree as core
use Rattle.cx_front.specs.Front.{body_in, statements_in, table_in, stmt_in, assertions_in}

token : TokenKind → ℕ → ℕ → Placed
token kind start end = record { token = record { kind = kind; start = start; end = end }; file = 0; line = 1; column = start + 1 }

-- the tokens and their places
list : Assembled
list = record {
  files = record { name = codes "a.cpp"; text = codes "int main(){int k=0;while(k<3)k=k+1;return k;}" } ∷ [];
  placed =
      token kinds.Word 0 3 ∷ token kinds.Name 4 8 ∷ token kinds.Punct 8 9 ∷ token kinds.Punct 9 10 ∷ token kinds.Punct 10 11 ∷
      token kinds.Word 11 14 ∷ token kinds.Name 15 16 ∷ token kinds.Punct 16 17 ∷ token kinds.Number 17 18 ∷ token kinds.Punct 18 19 ∷
      token kinds.Word 19 24 ∷ token kinds.Punct 24 25 ∷ token kinds.Name 25 26 ∷ token kinds.Punct 26 27 ∷ token kinds.Number 27 28 ∷ token kinds.Punct 28 29 ∷
      token kinds.Name 29 30 ∷ token kinds.Punct 30 31 ∷ token kinds.Name 31 32 ∷ token kinds.Punct 32 33 ∷ token kinds.Number 33 34 ∷ token kinds.Punct 34 35 ∷
      token kinds.Word 35 41 ∷ token kinds.Name 42 43 ∷ token kinds.Punct 43 44 ∷ token kinds.Punct 44 45 ∷ [];
  contracts = None;
  cstdio = None;
  small = lit< tt;
}

-- ---- the tree of the grammar

-- `k` at a place; its name has the number 9, since it stands first at 6
k_at : ℕ → grammar.Expr
k_at i = leaf i (M.Name 9)

zero_set : grammar.Stmt
zero_set = declare (local (type_tree None (word_base W.Int 5) no_stars None) 9 6 (equals 7 (leaf 8 M.Number))) 9

step : grammar.Stmt
step = evaluate (grammar.assign 16 (k_at 16) P.Assign 17 (grammar.binary 18 (k_at 18) P.Plus 19 (leaf 20 M.Number))) 21

loop : grammar.Stmt
loop = grammar.while_loop 10 11 (grammar.binary 12 (k_at 12) P.Less 13 (leaf 14 M.Number)) 15 step

tree : UnitTree
tree = more_items no_items (function None (type_tree None (word_base W.Int 0) no_stars None) 4 1 (no_params 2 3) (suffix None no_specs) (defined (block 4 (more_stmts (more_stmts (more_stmts no_stmts zero_set) loop) (returns 22 (Some (k_at 23)) 24)) 25)))

-- ---- the typed program

constant : ℕ → Operand
constant n = operand None None (literal (core.number (pos n)))

-- the value of `k`, which has the first slot
k_read : Operand
k_read = operand (Some (scalar scalars.Int)) None (variable 0)

typed_step : Stmt ℕ
typed_step = expression (operand None None (assign (variable 0) (operand None None (binary operators.Add types.Int k_read (constant 1)))))

typed : Stmts ℕ
typed =
    next (variable_declaration 0 (scalar scalars.Int) (value (constant 0)))
    (next (while_loop (operand None None (binary operators.Less types.Int k_read (constant 3))) typed_step)
    (next (return_value k_read) done))

-- ---- each is the one of the other

spelled : spell tree ≡ numbered 0 (marks_of list)
unfolding list token k_at zero_set step loop tree marks_from name_mark number first_place some_below declares_at words puncts
spelled = refl

is_typed : body_in list (statements_in list tree) ≡ Some typed
unfolding list token k_at zero_set step loop tree constant k_read typed_step typed stmt_in
is_typed = refl

no_assertions : table_in list (statements_in list tree) ≡ []
unfolding list token k_at zero_set step loop tree assertions_in
no_assertions = refl
