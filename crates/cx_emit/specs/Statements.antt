-- Which code stands for statements: a relation between a tree and the places where its code begins and where it goes on, by recursion on the tree. This is this project's own.
use Rattle.std.specs.Prelude.{◌≡◌, ℕ, suc, ◌<◌, pos, Bool, true, false, List, [], ◌∷◌, Some, None, length}
use Rattle.cx_code.specs.declared.image.Image.{Image}
use Rattle.cx_code.specs.declared.operation.Operation.TheVariants as does
use Rattle.cx_core.specs.declared.number.IntegerType.{IntegerType}
use Rattle.cx_core.specs.declared.number.BinaryOperator.{BinaryOperator}
use Rattle.cx_core.specs.Words.{Definer}
use Rattle.cx_core.specs.Number.{promoted}
use Rattle.cx_core.specs.Tree.{scalar, pointer, Check, Expr, assign, prefix_step, postfix_step, Operand, operand, value, Stmt, Stmts, empty, expression, variable_declaration, reference_declaration, block, if_else, while_loop, for_loop, Condition, always, while, break, continue, contract_assert, return_value, done, next}
use Rattle.cx_emit.specs.Configuration.{operation_at, Has}
use Rattle.cx_emit.specs.Operations.{scalar_of, binary_operation}
use Rattle.cx_emit.specs.Stands.{HasSome, StandsNumberLoad, StandsExpr, StandsOperand}
use Rattle.cx_emit.specs.Checks.{GoesOn, StandsTruth, StandsCheck}
use Rattle.cx_emit.specs.Scopes.{Loop, Surroundings, inside, in_loop, IsUnused, slot_count, StandsEnds, StandsExit}

-- the slots of a scope's objects behind a statement
abbrev pub behind : {A : Type 0} → Stmt A → List ℕ → List ℕ
behind (variable_declaration slot type init) now = slot ∷ now
behind other now = now

-- a branch or the body of a loop that declares a variable is a scope of its own, a block [stmt.select.general]
abbrev pub declares : {A : Type 0} → Stmt A → Bool
declares (variable_declaration slot type init) = true
declares other = false

-- what always goes on with what follows it, as the first part of a `for` and its step are
abbrev pub goes_on : {A : Type 0} → Stmt A → Bool
goes_on empty = true
goes_on (expression a) = true
goes_on (variable_declaration slot type init) = true
goes_on (reference_declaration slot e) = true
goes_on other = false

module _ (image : Image) (function : ℕ) where
  -- 1 is added to what an object holds, or subtracted, from its place on the operands
  abbrev pub StandsStep : BinaryOperator → IntegerType → ℕ → ℕ → Type 0
  StandsStep operator type from to =
      (p q r t u v : ℕ) × Has image function from does.Duplicate p × StandsNumberLoad image function (Some type) p q × Has image function q (does.Convert (scalar_of (promoted type))) r
      × Has image function r (does.Push (pos 1)) t × HasSome image function t (binary_operation operator (promoted type)) u × Has image function u (does.Convert (scalar_of type)) v × Has image function v does.Store to

  -- the value of an expression is dropped; what stores one leaves none
  abbrev pub StandsDiscarded : Expr → ℕ → ℕ → Type 0
  StandsDiscarded (assign a b) from to = (p q r : ℕ) × StandsOperand image function b from p × StandsExpr image function a p q × Has image function q does.Swap r × Has image function r does.Store to
  StandsDiscarded (prefix_step operator type a) from to = (p : ℕ) × StandsExpr image function a from p × StandsStep operator type p to
  StandsDiscarded (postfix_step operator type a) from to = (p : ℕ) × StandsExpr image function a from p × StandsStep operator type p to
  StandsDiscarded e from to = (p : ℕ) × StandsExpr image function e from p × Has image function p does.Discard to

  -- what is read or converted is dropped then
  abbrev pub StandsDropped : Operand → ℕ → ℕ → Type 0
  StandsDropped (operand None None e) from to = StandsDiscarded e from to
  StandsDropped a from to = (p : ℕ) × StandsOperand image function a from p × Has image function p does.Discard to

  -- an object is made in a slot of its own, and its value is stored
  pub record StandsDeclaration (scopes : List (List ℕ)) (slot : ℕ) (a : Operand) (from to : ℕ) : Type 0 where
    pub is_unused : IsUnused slot scopes
    pub is_slot : slot < slot_count image function
    pub made : ℕ
    pub placed : ℕ
    pub valued : ℕ
    pub makes : Has image function from (does.Make 1 slot) made
    pub gets : Has image function made (does.Get slot) placed
    pub stands : StandsOperand image function a placed valued
    pub stores : Has image function valued does.Store to

  -- a name of a place; it denotes nothing while that is evaluated
  pub record StandsReference (scopes : List (List ℕ)) (slot : ℕ) (e : Expr) (from to : ℕ) : Type 0 where
    pub is_unused : IsUnused slot scopes
    pub is_slot : slot < slot_count image function
    pub pushed : ℕ
    pub emptied : ℕ
    pub placed : ℕ
    pub pushes : Has image function from does.PushNull pushed
    pub empties : Has image function pushed (does.Set slot) emptied
    pub stands : StandsExpr image function e emptied placed
    pub binds : Has image function placed (does.Set slot) to

  -- the code goes on behind it where the condition holds, and else at another place
  abbrev pub StandsCondition : Condition → (from to other : ℕ) → Type 0
  StandsCondition always from to other = to ≡ from
  StandsCondition (while c) from to other = (p : ℕ) × StandsTruth image function c from p × Has image function p (does.JumpZero other) to

  unfoldable mutual
    -- no operand stands where a statement begins; the innermost scope has declared objects in these slots so far
    pub StandsStmt : Surroundings → List ℕ → Stmt Check → ℕ → ℕ → Type 0
    StandsStmt around now empty from to = to ≡ from
    StandsStmt around now (expression a) from to = StandsDropped a from to
    StandsStmt around now (variable_declaration slot (scalar type) (value a)) from to = StandsDeclaration (now ∷ around.scopes) slot a from to
    StandsStmt around now (variable_declaration slot (pointer t) (value a)) from to = StandsDeclaration (now ∷ around.scopes) slot a from to
    StandsStmt around now (reference_declaration slot e) from to = StandsReference (now ∷ around.scopes) slot e from to
    StandsStmt around now (block b) from to = StandsStmts (inside around now) [] b from to
    StandsStmt around now (if_else c a b) from to =
        (declares a ≡ false) × (declares b ≡ false) × (p q other : ℕ) × StandsCondition (while c) from p other × StandsStmt around now a p q × GoesOn image function q to × StandsStmt around now b other to
    -- a loop is entered by a jump, since each turn begins with a unit that has no instruction of its own
    StandsStmt around now (while_loop c body) from to =
        (declares body ≡ false) × (top p q : ℕ) × (operation_at image function from ≡ Some (does.Jump top)) × StandsCondition (while c) top p to
        × StandsStmt (in_loop around to q) now body p q × (operation_at image function q ≡ Some (does.Jump top))
    -- a scope of what is declared first; `continue` goes to the step
    StandsStmt around now (for_loop first c step body) from to =
        (goes_on first ≡ true) × (goes_on step ≡ true) × (declares step ≡ false) × (declares body ≡ false) × (start top p again end over : ℕ)
        × StandsStmt (inside around now) [] first from start × (operation_at image function start ≡ Some (does.Jump top)) × StandsCondition c top p over
        × StandsStmt (in_loop (inside around now) over again) (behind first []) body p again × StandsStmt (inside around now) (behind first []) step again end
        × (operation_at image function end ≡ Some (does.Jump top)) × StandsEnds image function (behind first []) over to
    StandsStmt around now break from to = (l : Loop) × (around.loop ≡ Some l) × StandsExit image function l.depth (now ∷ around.scopes) from l.break_to
    StandsStmt around now continue from to = (l : Loop) × (around.loop ≡ Some l) × StandsExit image function l.depth (now ∷ around.scopes) from l.continue_to
    StandsStmt around now (contract_assert c predicate) from to = StandsCheck image function Definer c predicate from to
    -- the value stays on the operands while the objects of all scopes end, which several such statements may share
    StandsStmt around now (return_value a) from to =
        (p q : ℕ) × StandsOperand image function a from p × GoesOn image function p q × StandsExit image function (suc (length around.scopes)) (now ∷ around.scopes) q around.exit
    StandsStmt around now other from to = ⊥

    -- the statements of a scope, at whose end its objects end
    pub StandsStmts : Surroundings → List ℕ → Stmts Check → ℕ → ℕ → Type 0
    StandsStmts around now done from to = StandsEnds image function now from to
    StandsStmts around now (next a rest) from to = (p : ℕ) × StandsStmt around now a from p × StandsStmts around (behind a now) rest p to
