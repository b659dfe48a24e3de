-- What a run does that can be seen from outside, by names and as plain data: this project's own, for the evaluations, verdicts and handler calls of [basic.contract.eval] and [basic.contract.handler] in P2900R14, and the exceptions and destructions of [except] and [class.dtor].
use Rattle.std.specs.Prelude.{ℕ, List, [], ◌∷◌, Bool, ◌&&◌, nat_eq, bytes_eq}
use Rattle.cx_core.specs.Words.{Party, Definer, Caller, Semantic, Ignore, Observe, Enforce, QuickEnforce, Verdict, Violation, Ending}

-- an evaluation of an assertion, as it begins
pub record Evaluation : Type 0 where
  pub assertion : List ℕ
  pub party : Party
  pub semantic : Semantic

pub data Event : Type 0 where
  out : (byte : ℕ) → Event
  input : (byte : ℕ) → Event
  input_end : Event
  begin : Evaluation → Event
  verdict : Verdict → Event
  handler : Violation → Event
  throw : (type : List ℕ) → Event
  catch : (type : List ℕ) → Event
  destroyed : (class : List ℕ) → (object leaf : ℕ) → Event

-- what the meaning answers: how the run ends, or why it doesn't say
pub data Answer : Type 0 where
  ended : Ending → Answer
  -- the budget is spent
  going : Answer
  -- the next evaluation isn't told
  waiting : Answer
  -- the next evaluation that is told is none that the block permits
  not_a_run : Answer

abbrev pub semantic_number : Semantic → ℕ
semantic_number Ignore = 1
semantic_number Observe = 2
semantic_number Enforce = 3
semantic_number QuickEnforce = 4

abbrev pub party_number : Party → ℕ
party_number Definer = 0
party_number Caller = 1

abbrev pub same_evaluation : Evaluation → Evaluation → Bool
same_evaluation a b =
    bytes_eq a.assertion b.assertion
    && nat_eq (party_number a.party) (party_number b.party)
    && nat_eq (semantic_number a.semantic) (semantic_number b.semantic)

-- the evaluations that a list of events begins, in order
abbrev pub begins_of : List Event → List Evaluation
begins_of [] = []
begins_of (begin e ∷ events) = e ∷ begins_of events
begins_of (event ∷ events) = begins_of events

-- the bytes of the input that they read, in order
abbrev pub inputs_of : List Event → List ℕ
inputs_of [] = []
inputs_of (input b ∷ events) = b ∷ inputs_of events
inputs_of (event ∷ events) = inputs_of events
