-- Which unit of the typed program a tree of the grammar is, by cases on the tree: `main` of blocks, variables, assignments, `if`, `while`, `return`, `putchar` and assertion statements over literals, names and the operators that compute numbers; a part of [expr], [stmt], [basic.scope] and [basic.start.main]. The names of assertions and the slots of variables are this project's own.
use Rattle.std.specs.Prelude.{◌≡◌, ◌⊎◌, ℕ, ◌+◌, ◌-◌, ◌<◌, suc, ◌&&◌, not, Bool, true, false, if◌then◌else◌, List, [], ◌∷◌, ◌++◌, Option, Some, None, codes, length, slice_get, unwrap_or, nat_eq, nat_le, min, sum_by, pos}
use Rattle.std.specs.Option.{option_map}
use Rattle.std.specs.List.{All, join_with_byte, list_all}
use Rattle.std.specs.Str.{bytes_eq}
use Rattle.std.specs.Fmt.{decimal}
use Rattle.cx_types.specs.declared.value_type.Scalar.{Scalar}
use Rattle.cx_types.specs.declared.value_type.Scalar.TheVariants as scalars
use Rattle.cx_types.specs.declared.value_type.Base.TheVariants as bases
use Rattle.cx_types.specs.declared.value_type.ValueType.{ValueType}
use Rattle.cx_code.specs.declared.image.AssertionKind.TheVariants as kinds
use Rattle.cx_syntax.specs.declared.mark.Mark.{Mark}
use Rattle.cx_syntax.specs.declared.mark.Mark.TheVariants as M
use Rattle.cx_syntax.specs.declared.mark.Punct.{Punct}
use Rattle.cx_syntax.specs.declared.mark.Punct.TheVariants as P
use Rattle.cx_syntax.specs.declared.mark.Word.{Word}
use Rattle.cx_syntax.specs.declared.mark.Word.TheVariants as W
use Rattle.cx_syntax.specs.Tree as grammar
use Rattle.cx_syntax.specs.Tree.{Base, Item, Params, Specs, Stars, Suffix, TypeTree, UnitTree, Local, local, asserts, block, branch, branches, call, args, one, compound, declare, defined, empty, equals, evaluate, function, leaf, more_items, more_stmts, no_items, no_params, no_specs, no_stars, no_stmts, paren, returns, suffix, type_tree, while_loop, word_base}
use Rattle.cx_syntax.specs.Place.{IsTree}
use Rattle.cx_includes.specs.declared.assembled.Assembled.{Assembled}
use Rattle.cx_includes.specs.declared.assembled.Placed.{Placed}
use Rattle.cx_includes.specs.declared.assembled.SourceFile.{SourceFile}
use Rattle.cx_includes.specs.Assembled.{bytes_of_placed}
use Rattle.cx_faults.specs.Faults.{marks_of}
use Rattle.cx_core.specs.declared.number.IntegerType.{IntegerType}
use Rattle.cx_core.specs.declared.number.IntegerType.TheVariants as types
use Rattle.cx_core.specs.declared.number.BinaryOperator.{BinaryOperator}
use Rattle.cx_core.specs.declared.number.BinaryOperator.TheVariants as operators
use Rattle.cx_core.specs.declared.number.UnaryOperator.{UnaryOperator}
use Rattle.cx_core.specs.declared.number.UnaryOperator.TheVariants as unary_operators
use Rattle.cx_core.specs.declared.unit.CoreUnit.{CoreUnit}
use Rattle.cx_core.specs.declared.unit.Assertion.{Assertion}
use Rattle.cx_core.specs.declared.unit.Function.{Function}
use Rattle.cx_core.specs.declared.unit.FunctionType.{FunctionType}
use Rattle.cx_core.specs.declared.statement.Statement.{Statement}
use Rattle.cx_core.specs.Tree as core
use Rattle.cx_core.specs.Tree.{Stmt, Stmts, done, next}
use Rattle.cx_core.specs.View.{stmts_of}
use Rattle.cx_typed.specs.Typed.{unary_type, binary_type}
use Rattle.cx_typed.specs.Unit.{IsMainAlone}
use Rattle.cx_front.specs.declared.names.Variable.{Variable}
use Rattle.cx_front.specs.declared.names.Slot.{Slot}
use Rattle.cx_front.specs.Literal.{int_value, char_value}

-- where both are there
abbrev pub both : {A B C : Type 0} → (A → B → C) → Option A → Option B → Option C
both f (Some a) (Some b) = Some (f a b)
both f a b = None

abbrev pub only_if : {A : Type 0} → Bool → Option A → Option A
only_if condition a = if condition then a else None

-- ---- tokens

-- the bytes of the token at a place
abbrev pub word_at : Assembled → ℕ → List ℕ
word_at list i = unwrap_or (option_map (bytes_of_placed list) (slice_get list.placed i)) []

abbrev pub name_of_file : Assembled → ℕ → List ℕ
name_of_file list file = unwrap_or (option_map (λ (source : SourceFile). source.name) (slice_get list.files file)) []

-- ---- variables

-- those that are visible, by their slots, the latest last
abbrev pub Names : Type 0
Names = List Variable

abbrev pub or_later : Option Slot → Option Slot → Option Slot
or_later earlier (Some s) = Some s
or_later earlier None = earlier

-- the latest variable of the name, which hides the others [basic.scope.block]
abbrev pub found_from : (slot : ℕ) → (name : ℕ) → Names → Option Slot
found_from slot name [] = None
found_from slot name (v ∷ names) = or_later (if nat_eq v.name name then Some (record { slot = slot; of = v.of }) else None) (found_from (suc slot) name names)

abbrev pub found : (name : ℕ) → Names → Option Slot
found name names = found_from 0 name names

-- ---- expressions

-- the type of an object
abbrev pub scalar_of : IntegerType → Scalar
scalar_of types.Bool = scalars.Bool
scalar_of types.Char = scalars.Char
scalar_of types.Int = scalars.Int
scalar_of types.Unsigned = scalars.Unsigned
scalar_of types.LongLong = scalars.LongLong
scalar_of types.UnsignedLongLong = scalars.UnsignedLongLong

-- the same, as the trees of a unit have it
abbrev pub value_type : IntegerType → ValueType
value_type type = record { base = bases.Scalar (scalar_of type); constant = false; pointers = 0; pointer_consts = 0; reference = false }

-- an expression: how its value is read, where it is an lvalue, and its type
pub record Typed : Type 0 where
  pub read : Option core.ObjectType
  pub type : IntegerType
  pub of : core.Expr

abbrev pub prvalue : IntegerType → core.Expr → Typed
prvalue type e = record { read = None; type = type; of = e }

-- to a type, where a value isn't of it already [conv]
abbrev pub conversion : (from to : IntegerType) → Option IntegerType
conversion types.Int types.Int = None
conversion types.Bool types.Bool = None
conversion types.Char types.Char = None
conversion from to = Some to

-- where a value of a type is wanted
abbrev pub as_type : IntegerType → Typed → core.Operand
as_type to e = core.operand e.read (conversion e.type to) e.of

-- where its truth is asked: the conversion to `bool` [conv.bool] is the statement's
abbrev pub as_condition : Typed → core.Operand
as_condition e = core.operand e.read None e.of

abbrev pub number_of : IntegerType → Option ℕ → Option Typed
number_of type value = option_map (λ (n : ℕ). prvalue type (core.literal (core.number (pos n)))) value

abbrev pub truth_of : Word → Option Typed
truth_of W.True = Some (prvalue types.Bool (core.literal (core.number (pos 1))))
truth_of W.False = Some (prvalue types.Bool (core.literal (core.number (pos 0))))
truth_of word = None

abbrev pub variable_of : Slot → Typed
variable_of s = record { read = Some (core.scalar (scalar_of s.of)); type = s.of; of = core.variable s.slot }

abbrev pub leaf_of : Names → List ℕ → Mark → Option Typed
leaf_of names word M.Number = number_of types.Int (int_value word)
leaf_of names word M.Char = number_of types.Char (char_value word)
leaf_of names word (M.Word k) = truth_of k
leaf_of names word (M.Name n) = option_map variable_of (found n names)
leaf_of names word mark = None

-- the operators with one operand that are built
abbrev pub unary_operator : Punct → Option UnaryOperator
unary_operator P.Minus = Some unary_operators.Minus
unary_operator P.Not = Some unary_operators.Not
unary_operator P.Tilde = Some unary_operators.Complement
unary_operator punct = None

-- those with two
abbrev pub binary_operator : Punct → Option BinaryOperator
binary_operator P.Star = Some operators.Multiply
binary_operator P.Slash = Some operators.Divide
binary_operator P.Percent = Some operators.Remainder
binary_operator P.Plus = Some operators.Add
binary_operator P.Minus = Some operators.Subtract
binary_operator P.ShiftLeft = Some operators.ShiftLeft
binary_operator P.ShiftRight = Some operators.ShiftRight
binary_operator P.Less = Some operators.Less
binary_operator P.Greater = Some operators.Greater
binary_operator P.LessEqual = Some operators.LessEqual
binary_operator P.GreaterEqual = Some operators.GreaterEqual
binary_operator P.Equal = Some operators.Equal
binary_operator P.NotEqual = Some operators.NotEqual
binary_operator P.And = Some operators.BitAnd
binary_operator P.Xor = Some operators.BitXor
binary_operator P.Or = Some operators.BitOr
binary_operator punct = None

abbrev pub with_operand : UnaryOperator → Typed → Typed
with_operand operator e = prvalue (unary_type operator) (core.unary operator (unary_type operator) (as_type (unary_type operator) e))

abbrev pub with_both : BinaryOperator → Typed → Typed → Typed
with_both operator l r = prvalue (binary_type operator) (core.binary operator types.Int (as_type types.Int l) (as_type types.Int r))

abbrev pub with_operands : Option BinaryOperator → Option Typed → Option Typed → Option Typed
with_operands None l r = None
with_operands (Some operator) l r = both (with_both operator) l r

abbrev pub expr_in : Assembled → Names → grammar.Expr → Option Typed
expr_in list names (leaf i m) = leaf_of names (word_at list i) m
expr_in list names (paren i e j) = expr_in list names e
expr_in list names (grammar.unary i p e) = both with_operand (unary_operator p) (expr_in list names e)
expr_in list names (grammar.binary i l p j r) = with_operands (binary_operator p) (expr_in list names l) (expr_in list names r)
expr_in list names other = None

-- ---- assertions

-- the tokens of an expression that is built
abbrev pub words_in : Assembled → grammar.Expr → List (List ℕ)
words_in list (leaf i m) = word_at list i ∷ []
words_in list (paren i e j) = word_at list i ∷ (words_in list e ++ word_at list j ∷ [])
words_in list (grammar.unary i p e) = word_at list i ∷ words_in list e
words_in list (grammar.binary i l p j r) = words_in list l ++ word_at list j ∷ words_in list r
words_in list other = []

-- with one space between two
abbrev pub comment_in : Assembled → grammar.Expr → List ℕ
comment_in list e = join_with_byte 32 (words_in list e)

-- the assertion that has this ordinal in `main`, from 1; it stands where its word does
abbrev pub entry_at : Assembled → (ordinal : ℕ) → Placed → grammar.Expr → Assertion
entry_at list ordinal word e = record {
  kind = kinds.Assert;
  name = codes "main#assert" ++ decimal ordinal;
  file = name_of_file list word.file;
  line = word.line;
  column = word.column;
  comment = comment_in list e;
}

-- ---- statements

-- the assertion that has this ordinal, from 1, by its index in the table, from 0
abbrev pub asserted_at : (ordinal : ℕ) → Placed → Typed → Stmt ℕ
asserted_at ordinal word predicate = core.contract_assert (ordinal - 1) (as_condition predicate)

-- an assignment to a variable
abbrev pub assigned : Slot → Typed → Stmt ℕ
assigned s e = core.expression (core.operand None None (core.assign (core.variable s.slot) (as_type s.of e)))

abbrev pub target_in : Names → grammar.Expr → Option Slot
target_in names (leaf i (M.Name n)) = found n names
target_in names other = None

abbrev pub is_assign : Punct → Bool
is_assign P.Assign = true
is_assign punct = false

-- the header was included before the place
abbrev pub is_after : Option ℕ → ℕ → Bool
is_after None i = false
is_after (Some first) i = nat_le first i

-- the function of <cstdio>, by its plain name; no variable has it
abbrev pub is_putchar : Assembled → grammar.Expr → Bool
is_putchar list (leaf i (M.Name n)) = is_after list.cstdio i && bytes_eq (word_at list i) (codes "putchar")
is_putchar list other = false

abbrev pub argument_in : Assembled → Names → grammar.Args → Option Typed
argument_in list names (args i (one e) j) = expr_in list names e
argument_in list names other = None

abbrev pub written : Typed → Stmt ℕ
written e = core.expression (core.operand None None (core.putchar (as_type types.Int e)))

-- an assignment, or a byte that is written
abbrev pub discarded_in : Assembled → Names → grammar.Expr → Option (Stmt ℕ)
discarded_in list names (grammar.assign i l p j r) = only_if (is_assign p) (both assigned (target_in names l) (expr_in list names r))
discarded_in list names (call i f a) = only_if (is_putchar list f) (option_map written (argument_in list names a))
discarded_in list names other = None

-- the types that variables may have so far
abbrev pub type_of_word : Word → Option IntegerType
type_of_word W.Bool = Some types.Bool
type_of_word W.Char = Some types.Char
type_of_word W.Int = Some types.Int
type_of_word word = None

abbrev pub type_of_base : Base → Option IntegerType
type_of_base (word_base k i) = type_of_word k
type_of_base other = None

abbrev pub has_no_stars : Stars → Bool
has_no_stars no_stars = true
has_no_stars other = false

-- `bool`, `char` or `int` alone
abbrev pub type_in : TypeTree → Option IntegerType
type_in (type_tree None base stars None) = only_if (has_no_stars stars) (type_of_base base)
type_in other = None

-- it isn't declared yet in the block that began with `base` variables
abbrev pub is_new : (base : ℕ) → Option Slot → Bool
is_new base None = true
is_new base (Some s) = not (nat_le base s.slot)

-- a name that a variable may have
abbrev pub may_name : List ℕ → Bool
may_name word = not (bytes_eq word (codes "main")) && not (bytes_eq word (codes "putchar"))

abbrev pub with_name : Names → (name : ℕ) → IntegerType → Names
with_name names name type = names ++ record { name = name; of = type } ∷ []

abbrev pub declared : Names → IntegerType → Typed → Stmt ℕ
declared names type e = core.variable_declaration (length names) (core.scalar (scalar_of type)) (core.value (as_type type e))

-- a variable is visible in its own initialiser [basic.scope.pdecl]
abbrev pub initialised_in : Assembled → Names → (name : ℕ) → grammar.Init → IntegerType → Option (Stmt ℕ)
initialised_in list names name (equals i e) type = option_map (declared names type) (expr_in list (with_name names name type) e)
initialised_in list names name other type = None

abbrev pub of_type : {A : Type 0} → (IntegerType → Option A) → Option IntegerType → Option A
of_type f None = None
of_type f (Some type) = f type

abbrev pub declared_in : Assembled → (base : ℕ) → Names → Local → Option (Stmt ℕ)
declared_in list base names (local type name i init) =
    only_if (is_new base (found name names) && may_name (word_at list i)) (of_type (initialised_in list names name init) (type_in type))

abbrev pub with_typed_name : Names → (name : ℕ) → Option IntegerType → Names
with_typed_name names name None = names
with_typed_name names name (Some type) = with_name names name type

-- what the statements behind it see
abbrev pub names_behind : Names → grammar.Stmt → Names
names_behind names (declare (local type name i init) j) = with_typed_name names name (type_in type)
names_behind names other = names

-- a declaration doesn't stand alone where a statement is a scope of its own [stmt.select.general]
abbrev pub is_declaration : grammar.Stmt → Bool
is_declaration (declare l i) = true
is_declaration other = false

abbrev pub entries : Assembled → (ordinal : ℕ) → grammar.Expr → Option Placed → List Assertion
entries list ordinal e None = []
entries list ordinal e (Some word) = entry_at list ordinal word e ∷ []

unfoldable mutual
  -- the assertions of the assertion statements in a statement, in order, where the first one has this ordinal
  pub assertions_in : Assembled → (ordinal : ℕ) → grammar.Stmt → List Assertion
  assertions_in list ordinal (compound (block i b j)) = all_assertions_in list ordinal b
  assertions_in list ordinal (branch i j c k a) = assertions_in list ordinal a
  assertions_in list ordinal (branches i j c k a l b) =
      assertions_in list ordinal a ++ assertions_in list (ordinal + length (assertions_in list ordinal a)) b
  assertions_in list ordinal (while_loop i j c k body) = assertions_in list ordinal body
  assertions_in list ordinal (asserts i j e k l) = entries list ordinal e (slice_get list.placed i)
  assertions_in list ordinal other = []

  pub all_assertions_in : Assembled → (ordinal : ℕ) → grammar.Stmts → List Assertion
  all_assertions_in list ordinal no_stmts = []
  all_assertions_in list ordinal (more_stmts b s) =
      all_assertions_in list ordinal b ++ assertions_in list (ordinal + length (all_assertions_in list ordinal b)) s

-- what is seen behind statements
abbrev pub names_after : Names → grammar.Stmts → Names
names_after names no_stmts = names
names_after names (more_stmts b s) = names_behind (names_after names b) s

abbrev pub with_last : Stmts ℕ → Stmt ℕ → Stmts ℕ
with_last done s = next s done
with_last (next a rest) s = next a (with_last rest s)

abbrev pub if_of : Option Typed → Option (Stmt ℕ) → Option (Stmt ℕ) → Option (Stmt ℕ)
if_of None a b = None
if_of (Some c) a b = both (core.if_else (as_condition c)) a b

abbrev pub while_of : Typed → Stmt ℕ → Stmt ℕ
while_of c body = core.while_loop (as_condition c) body

abbrev pub return_of : Typed → Stmt ℕ
return_of e = core.return_value (as_type types.Int e)

module _ (list : Assembled) where
  unfoldable mutual
    -- where the next assertion has this ordinal, in a block that began with `base` variables
    pub stmt_in : (ordinal base : ℕ) → Names → grammar.Stmt → Option (Stmt ℕ)
    stmt_in ordinal base names (empty i) = Some core.empty
    stmt_in ordinal base names (compound (block i b j)) = option_map core.block (stmts_in ordinal (length names) names b)
    stmt_in ordinal base names (evaluate e i) = discarded_in list names e
    stmt_in ordinal base names (declare l i) = declared_in list base names l
    stmt_in ordinal base names (branch i j c k a) = if_of (expr_in list names c) (only_if (not (is_declaration a)) (stmt_in ordinal (length names) names a)) (Some core.empty)
    stmt_in ordinal base names (branches i j c k a l b) =
        if_of (expr_in list names c) (only_if (not (is_declaration a)) (stmt_in ordinal (length names) names a)) (only_if (not (is_declaration b)) (stmt_in (ordinal + length (assertions_in list ordinal a)) (length names) names b))
    stmt_in ordinal base names (while_loop i j c k body) = both while_of (expr_in list names c) (only_if (not (is_declaration body)) (stmt_in ordinal (length names) names body))
    stmt_in ordinal base names (returns i (Some e) j) = option_map return_of (expr_in list names e)
    stmt_in ordinal base names (asserts i j e k l) = both (asserted_at ordinal) (slice_get list.placed i) (expr_in list names e)
    stmt_in ordinal base names other = None

    -- the statements of a block
    pub stmts_in : (ordinal base : ℕ) → Names → grammar.Stmts → Option (Stmts ℕ)
    stmts_in ordinal base names no_stmts = Some done
    stmts_in ordinal base names (more_stmts b s) =
        both with_last (stmts_in ordinal base names b) (stmt_in (ordinal + length (all_assertions_in list ordinal b)) base (names_after names b) s)

-- ---- the unit

abbrev pub is_int : Option IntegerType → Bool
is_int (Some types.Int) = true
is_int other = false

abbrev pub is_empty : Params → Bool
is_empty (no_params i j) = true
is_empty other = false

abbrev pub has_no_specs : Specs → Bool
has_no_specs no_specs = true
has_no_specs other = false

-- no `noexcept` and no contract
abbrev pub is_bare : Suffix → Bool
is_bare (suffix None specs) = has_no_specs specs
is_bare other = false

-- the statements of `int main()`, not inline, with a body
abbrev pub main_in : Assembled → Item → Option grammar.Stmts
main_in list (function None t n i p s (defined (block j b k))) = only_if (is_int (type_in t) && is_empty p && is_bare s && bytes_eq (word_at list i) (codes "main")) (Some b)
main_in list other = None

-- one function alone
abbrev pub statements_in : Assembled → UnitTree → Option grammar.Stmts
statements_in list (more_items no_items item) = main_in list item
statements_in list other = None

-- the most bytes of a token in a unit that is built
abbrev pub longest_token : ℕ
longest_token = 1024

abbrev pub has_short_tokens : Assembled → Bool
has_short_tokens list = list_all (λ (placed : Placed). nat_le (length (bytes_of_placed list placed)) longest_token) list.placed

abbrev pub body_in : Assembled → Option grammar.Stmts → Option (Stmts ℕ)
body_in list None = None
body_in list (Some b) = only_if (has_short_tokens list) (stmts_in list 1 0 [] b)

abbrev pub table_in : Assembled → Option grammar.Stmts → List Assertion
table_in list None = []
table_in list (Some b) = all_assertions_in list 1 b

-- the bytes of the files that were taken, as far as they can be counted
abbrev pub bytes_of : Assembled → ℕ
bytes_of list = min (sum_by (λ (file : SourceFile). length file.text) list.files) 4294967295

-- the type of `main`: it gives an `int` and takes nothing
abbrev pub main_type : FunctionType
main_type = record { text = codes "int ( )"; result = value_type types.Int; parameters = [] }

-- what linking will compare of `main`; its type is the first one of the unit's table
pub record DeclaresMain (list : Assembled) (main : Function) : Type 0 where
  pub type : main.of ≡ 0
  pub signature : main.signature ≡ codes "int ( )"
  pub specifiers : main.specifiers ≡ []
  pub not_inline : main.is_inline ≡ false
  pub no_inline_text : main.inline_text ≡ []
  pub not_needed : main.is_needed ≡ false
  pub no_parameters : main.named_parameters ≡ 0
  pub declaration : main.declaration_tokens ≡ 4
  pub definition : main.definition_tokens ≡ length list.placed

-- the unit is that of the list's tree
pub record IsUnitOf (list : Assembled) (unit : CoreUnit) : Type 0 where
  pub tree : UnitTree
  pub is_tree : IsTree (marks_of list) tree
  pub statements : List Statement
  pub alone : IsMainAlone unit statements
  pub declares : All (DeclaresMain list) unit.functions
  pub function_types : unit.function_types ≡ main_type ∷ []
  pub definitions : unit.definitions ≡ 0 ∷ []
  pub body : body_in list (statements_in list tree) ≡ Some (stmts_of statements)
  pub assertions : unit.assertions ≡ table_in list (statements_in list tree)
  pub name : unit.name ≡ name_of_file list 0
  pub no_calls : unit.calls ≡ []
  pub tokens : unit.tokens ≡ length list.placed
  pub bytes : unit.bytes ≡ bytes_of list

-- the most tokens of a unit that is built
abbrev pub most_tokens : ℕ
most_tokens = 4096

-- a list that isn't built: it is no such unit, or it is too long
abbrev pub IsOutside : Assembled → Type 0
IsOutside list = ((unit : CoreUnit) → IsUnitOf list unit → ⊥) ⊎ (most_tokens < length list.placed)
