-- Which code stands for a contract assertion that one party evaluates in the order of the source and at most once: the patterns follow [basic.contract.eval] and [basic.contract.handler] of P2900R14; the instructions are this project's own.
use Rattle.std.specs.Prelude.{◌≡◌, ◌⊎◌, ℕ, Some, None, slice_get}
use Rattle.cx_code.specs.declared.image.Image.{Image}
use Rattle.cx_code.specs.declared.operation.Operation.TheVariants as does
use Rattle.cx_code.specs.declared.operation.Scalar.TheVariants as scalars
use Rattle.cx_core.specs.Words.{Party, Semantic, Ignore, Observe, Enforce, QuickEnforce, DetectionMode, PredicateFalse}
use Rattle.cx_core.specs.Tree.{Assertion, Check, Operand}
use Rattle.cx_core.specs.Program.{Program}
use Rattle.cx_core.specs.Check as source
use Rattle.cx_simulation.specs.ImageMachine.{assertion_name, violation_at}
use Rattle.cx_emit.specs.Configuration.{operation_at, Has}
use Rattle.cx_emit.specs.Stands.{StandsOperand}

-- the image's assertion has the name of the source's, and its violations tell the same
pub record IsAssertion (image : Image) (index : ℕ) (a : Assertion) : Type 0 where
  pub same_name : assertion_name image (slice_get image.assertions index) ≡ a.name
  pub same_violation : (mode : DetectionMode) (semantic : Semantic) → violation_at image (slice_get image.assertions index) mode semantic ≡ source.violation_of a mode semantic

-- neither defines a handler of its own
pub record HaveDefaultHandler (image : Image) (program : Program) : Type 0 where
  pub in_image : image.handler ≡ 0
  pub in_program : program.handler ≡ None

module _ (image : Image) (function : ℕ) where
  -- there already, or by a jump
  abbrev pub GoesOn : ℕ → ℕ → Type 0
  GoesOn from to = (to ≡ from) ⊎ (operation_at image function from ≡ Some (does.Jump to))

  -- behind the verdict that the predicate is false
  abbrev pub StandsViolated : ℕ → Semantic → ℕ → ℕ → Type 0
  StandsViolated index Ignore from to = GoesOn from to
  StandsViolated index Observe from to = (p : ℕ) × Has image function from (does.Violate index PredicateFalse Observe) p × GoesOn p to
  StandsViolated index Enforce from to = (p : ℕ) × Has image function from (does.Violate index PredicateFalse Enforce) p × (operation_at image function p ≡ Some does.ContractEnd)
  StandsViolated index QuickEnforce from to = operation_at image function from ≡ Some does.ContractEnd

  -- a value that is contextually converted to `bool`: a number, which is zero for false
  abbrev pub StandsTruth : Operand → ℕ → ℕ → Type 0
  StandsTruth a from to = (p : ℕ) × StandsOperand image function a from p × Has image function p (does.Convert scalars.Bool) to

  abbrev pub StandsEvaluation : Party → ℕ → Semantic → (predicate : Operand) → ℕ → ℕ → Type 0
  StandsEvaluation party index semantic predicate from to =
      (p q r v : ℕ) × Has image function from (does.Begin index party semantic) p × StandsTruth predicate p q
      × Has image function q (does.Verdict index) r × Has image function r (does.JumpNonzero to) v × StandsViolated index semantic v to

  -- nothing where it is not evaluated, as under `ignore`
  abbrev pub StandsCheck : Party → Check → (predicate : Operand) → ℕ → ℕ → Type 0
  StandsCheck party c predicate from to =
      ((c.times ≡ 0) × (to ≡ from)) ⊎ ((c.times ≡ 1) × (index : ℕ) × IsAssertion image index c.assertion × StandsEvaluation party index c.semantic predicate from to)
