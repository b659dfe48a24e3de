-- How much a unit weighs, for the limits on its size: its tokens, and for each `return`, `break` and `continue` the named variables and parameters whose scopes it leaves; this project's own.
use Rattle.std.specs.Prelude.{ℕ, ◌+◌, if◌then◌else◌, List, [], ◌∷◌, Option, Some, None}
use Rattle.cx_core.specs.Outcome.{Nothing, nothing}
use Rattle.cx_core.specs.Tree.{CatchParameter, unnamed, reference, object, Stmt, variable_declaration, reference_declaration, block, if_else, while_loop, for_loop, break, continue, return, return_value, return_reference, return_object, try, Stmts, done, next, Handlers, none, catch_all, catch}
use Rattle.cx_core.specs.Program.{Body, function, constructor, destructor}
use Rattle.cx_core.specs.Unit.{UnitFunction, TranslationUnit}

-- at a place, how many named variables and parameters each word leaves
pub record Leaves : Type 0 where
  pub by_return : ℕ
  pub by_break : ℕ
  pub by_continue : ℕ

-- so many more are visible
abbrev pub with_named : ℕ → Leaves → Leaves
with_named n l = record { by_return = l.by_return + n; by_break = l.by_break + n; by_continue = l.by_continue + n }

-- in the body of a loop; `break` leaves what its first part declares, `continue` doesn't
abbrev pub in_loop : (declared : ℕ) → Leaves → Leaves
in_loop declared l = record { by_return = l.by_return + declared; by_break = declared; by_continue = 0 }

abbrev pub declared_by : {A : Type 0} → Stmt A → ℕ
declared_by (variable_declaration slot type i) = 1
declared_by (reference_declaration slot e) = 1
declared_by other = 0

abbrev pub named_parameters : CatchParameter → ℕ
named_parameters unnamed = 0
named_parameters (reference slot) = 1
named_parameters (object slot is_named i) = if is_named then 1 else 0

unfoldable mutual
  pub stmt_leaves : {A : Type 0} → Stmt A → Leaves → ℕ
  stmt_leaves return l = l.by_return
  stmt_leaves (return_value a) l = l.by_return
  stmt_leaves (return_reference e) l = l.by_return
  stmt_leaves (return_object i) l = l.by_return
  stmt_leaves break l = l.by_break
  stmt_leaves continue l = l.by_continue
  stmt_leaves (block b) l = stmts_leave b l
  stmt_leaves (if_else c a b) l = stmt_leaves a l + stmt_leaves b l
  stmt_leaves (while_loop c body) l = stmt_leaves body (in_loop 0 l)
  stmt_leaves (for_loop first c step body) l = stmt_leaves body (in_loop (declared_by first) l)
  stmt_leaves (try b h) l = stmts_leave b l + handlers_leave h l
  stmt_leaves other l = 0

  pub stmts_leave : {A : Type 0} → Stmts A → Leaves → ℕ
  stmts_leave done l = 0
  stmts_leave (next s rest) l = stmt_leaves s l + stmts_leave rest (with_named (declared_by s) l)

  pub handlers_leave : {A : Type 0} → Handlers A → Leaves → ℕ
  handlers_leave none l = 0
  handlers_leave (catch_all b rest) l = stmts_leave b l + handlers_leave rest l
  handlers_leave (catch type parameter b rest) l = stmts_leave b (with_named (named_parameters parameter) l) + handlers_leave rest l

-- with so many named parameters
abbrev pub body_leaves : {A : Type 0} → Body A → ℕ → ℕ
body_leaves (function b) n = stmts_leave b (record { by_return = n; by_break = 0; by_continue = 0 })
body_leaves (constructor fields b) n = stmts_leave b (record { by_return = n; by_break = 0; by_continue = 0 })
body_leaves (destructor c b) n = stmts_leave b (record { by_return = n; by_break = 0; by_continue = 0 })
body_leaves implicit n = 0

abbrev pub definition_leaves : Option (Body ℕ) → ℕ → ℕ
definition_leaves None n = 0
definition_leaves (Some b) n = body_leaves b n

abbrev pub functions_leave : List UnitFunction → ℕ
functions_leave [] = 0
functions_leave (f ∷ functions) = definition_leaves f.body f.named_parameters + functions_leave functions

abbrev pub weight : TranslationUnit → ℕ
weight unit = unit.tokens + functions_leave unit.functions

-- what unfolds where a weight is computed
unfoldable pub weighing : Nothing
unfolding stmt_leaves
weighing = nothing
