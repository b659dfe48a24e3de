-- Where code stands for an expression the machine follows its meaning: this project's own.
use Rattle.std.specs.Prelude.{◌≡◌, ℕ, List, [], ◌∷◌}
use Rattle.cx_code.specs.declared.code.Region.{Region}
use Rattle.cx_code.specs.declared.image.Image.{Image}
use Rattle.cx_code.specs.declared.run.Value.{Value}
use Rattle.cx_code.specs.State.{State}
use Rattle.cx_core.specs.Tree.{Expr, Operand, Check}
use Rattle.cx_core.specs.Program.{Program}
use Rattle.cx_core.specs.Leaving.{Calls}
use Rattle.cx_core.specs.Meaning.{expr, used, checked}
use Rattle.cx_core.specs.Outcome as source
use Rattle.cx_core.specs.Store as store
use Rattle.cx_simulation.specs.Machine.{begins_ahead}
use Rattle.cx_simulation.specs.ImageMachine.{image_step}
use Rattle.cx_simulation.specs.Parts.{Account, Follows}
use Rattle.cx_emit.specs.Configuration.{running_at, Agrees, IsAt, Gives, Flies}
use Rattle.cx_core.specs.Words.{Party}
use Rattle.cx_emit.specs.Stands.{StandsExpr, StandsOperand}
use Rattle.cx_emit.specs.Checks.{HaveDefaultHandler, StandsCheck}

-- each expression spends a unit; its operands keep what pays for their own instructions without a unit
abbrev pub of_expression : Account
of_expression = record { saves = 16; owes = 0; late = 0; hand = 0 }

-- a statement asks for no more steps than its units pay for
abbrev pub of_statement : Account
of_statement = record { saves = 0; owes = 0; late = 0; hand = 0 }

-- a load and two conversions spend no unit
abbrev pub of_operand : Account
of_operand = record { saves = 12; owes = 0; late = 0; hand = 0 }

module _ (image : Image) (function : ℕ) (outer : List (ℕ × Region)) where
  -- what the code from the one place to the other does is what a part that gives a value means, with any operands below
  -- that stay there and in any state
  abbrev pub FollowsValue : Account → source.Does store.Value → ℕ → ℕ → Type 0
  FollowsValue account part from to =
      (n : ℕ) (operands : List Value) (s : source.State) (m : State) → Agrees function s m → s.begins ≡ begins_ahead (image_step image) n (running_at m from operands)
      → Follows (image_step image) n s (running_at m from operands) account (Gives function to operands s m) (Flies image function outer s m) (part s)

  -- the same of a part that gives nothing and leaves the operands as they are
  abbrev pub FollowsEffect : {A : Type 0} → Account → source.Does A → ℕ → ℕ → Type 0
  FollowsEffect account part from to =
      (n : ℕ) (operands : List Value) (s : source.State) (m : State) → Agrees function s m → s.begins ≡ begins_ahead (image_step image) n (running_at m from operands)
      → Follows (image_step image) n s (running_at m from operands) account (λ _ d t. IsAt function to operands s m d t) (Flies image function outer s m) (part s)

-- expressions and operands without calls of functions of the program, whatever undefined behaviour they come to
abbrev pub ExpressionsAreFollowed : Type 0
ExpressionsAreFollowed =
    (image : Image) (function : ℕ) (outer : List (ℕ × Region)) (program : Program) (calls : Calls) (e : Expr) (from to : ℕ)
    → StandsExpr image function e from to → FollowsValue image function outer of_expression (expr program calls e) from to

abbrev pub OperandsAreFollowed : Type 0
OperandsAreFollowed =
    (image : Image) (function : ℕ) (outer : List (ℕ × Region)) (program : Program) (calls : Calls) (a : Operand) (from to : ℕ)
    → StandsOperand image function a from to → FollowsValue image function outer of_operand (used program calls a) from to

-- a contract assertion that is evaluated once or not at all, under each semantic, where no handler is defined and no
-- exception leaves the predicate
abbrev pub ChecksAreFollowed : Type 0
ChecksAreFollowed =
    (image : Image) (function : ℕ) (outer : List (ℕ × Region)) (program : Program) (calls : Calls) (party : Party) (check : Check) (predicate : Operand) (from to : ℕ)
    → HaveDefaultHandler image program → StandsCheck image function party check predicate from to
    → FollowsEffect image function outer of_statement (checked program calls party (record { of = check; predicate = predicate } ∷ [])) from to
