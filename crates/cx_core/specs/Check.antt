-- What one evaluation of a contract assertion does: [basic.contract.eval] and [basic.contract.handler] of P2900R14, with this project's own rule that a chosen predicate is always evaluated.
use Rattle.std.specs.Prelude.{Bool, true, false, not, ℕ, [], ◌∷◌, Option, Some, None, pos}
use Rattle.std.specs.Ordering.{int_eq}
use Rattle.cx_core.specs.Words.{Semantic, Ignore, Observe, Enforce, QuickEnforce, Holds, False, Threw, DetectionMode, PredicateFalse, EvaluationException, Mixed, ContractTerminated, Violation}
use Rattle.cx_core.specs.Tree.{Assertion, Check}
use Rattle.cx_core.specs.Program.{Program}
use Rattle.cx_core.specs.Store.{Value, number, address, null, function, violation}
use Rattle.cx_core.specs.Event.{verdict, handler, ended}
use Rattle.cx_core.specs.Outcome.{Exception, Does, Nothing, either, ◌>>=◌, ◌>>◌, gives, skip, ends, undefined, current_frame, append, spend}
use Rattle.cx_core.specs.Leaving.{Calls, holding}

abbrev pub violation_of : Assertion → DetectionMode → Semantic → Violation
violation_of a mode semantic = record {
  kind = a.kind;
  semantic = semantic;
  mode = mode;
  file = a.file;
  line = a.line;
  column = a.column;
  assertion = a.name;
  comment = a.comment;
}

-- a value that is contextually converted to `bool` [conv.general]: not zero, or not null
abbrev pub truth : Value → Does Bool
truth (number n) = gives (not (int_eq n (pos 0)))
truth (address a) = gives true
truth null = gives false
truth (function f) = gives true
truth (violation v) = undefined Mixed

module _ (program : Program) (calls : Calls) where
  -- the handler that a unit defines, or the default one
  abbrev pub handle_by : Option ℕ → Violation → Does Nothing
  handle_by None v = spend >> append (handler v)
  handle_by (Some f) v = do
    frame ← current_frame
    calls (record { function = f; caller = None; unit = frame.unit; reports = Some v; arguments = violation v ∷ []; result = None })
    skip

  abbrev pub handle : Violation → Does Nothing
  handle v = handle_by program.handler v

  -- the predicate didn't hold
  abbrev pub violated : Semantic → Does Nothing → Does Nothing
  violated Ignore response = skip
  violated Observe response = response
  violated Enforce response = response >> ends (ended ContractTerminated)
  violated QuickEnforce response = ends (ended ContractTerminated)

  abbrev pub verdict_on : Assertion → Semantic → Bool → Does Nothing
  verdict_on a semantic true = append (verdict Holds)
  verdict_on a semantic false = append (verdict False) >> violated semantic (handle (violation_of a PredicateFalse semantic))

  -- the exception of a predicate is held while the handler runs
  abbrev pub verdict_threw : Assertion → Semantic → Exception → Does Nothing
  verdict_threw a semantic e =
      append (verdict Threw) >> violated semantic (holding program calls e (handle (violation_of a EvaluationException semantic)))

  -- what follows the beginning of an evaluation, given what its predicate does
  abbrev pub evaluation : Check → Does Value → Does Nothing
  evaluation c predicate =
      either (predicate >>= truth) (verdict_on c.assertion c.semantic) (verdict_threw c.assertion c.semantic)
