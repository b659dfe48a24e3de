-- What a part of a run comes to: a value and a state of a property, or an end that a well made program may have; and how parts go together.
use Rattle.std.proofs.Common.{zero, suc, ℕ, List, [], ◌∷◌, Bool, true, false, if◌then◌else◌}
use Rattle.cx_core.specs.Words.{Kind, Mixed, ContractTerminated, Undefined}
use Rattle.cx_core.specs.Event.{Evaluation, Event, begin, Answer, ended}
use Rattle.cx_core.specs.Outcome.{Exception, State, Outcome, on, thrown, over, Does, after, either, gives, ends, append, spend, spend_of}
use Rattle.cx_core.specs.Block.{next_told, next_of, begin_told, begin_of}

-- a kind of undefined behaviour that a well made program may have
abbrev pub IsProper : Kind → Type 0
IsProper Mixed = ⊥
IsProper other = Unit {0}

-- the run is ended by a contract or by such a kind, or no more is said of it
abbrev pub IsEnd : Answer → Type 0
IsEnd (ended ContractTerminated) = Unit {0}
IsEnd (ended (Undefined kind)) = IsProper kind
IsEnd (ended other) = ⊥
IsEnd other = Unit {0}

-- no exception leaves the part
abbrev pub ComesTo : {A : Type 0} → (A → State → Type 0) → Outcome A → Type 0
ComesTo P (on a t) = P a t
ComesTo P (thrown e t) = ⊥
ComesTo P (over answer trace) = IsEnd answer

-- from a state where I holds
pub record Comes {A : Type 0} (I : State → Type 0) (P : A → State → Type 0) (m : Does A) : Type 0 where
  pub comes : (s : State) → I s → ComesTo P (m s)

-- the value has the one property, and the state the other
abbrev pub With : {A : Type 0} → (A → Type 0) → (State → Type 0) → A → State → Type 0
With P N a t = P a × N t

abbrev pub Always : {A : Type 0} → A → Type 0
Always a = Unit {0}

-- ---- how parts follow each other

after_comes : {A B : Type 0} (Q : A → State → Type 0) (P : B → State → Type 0) (o : Outcome A) (next : A → Does B) (handler : Exception → Does B)
    → ComesTo Q o → ((a : A) → Comes (Q a) P (next a)) → ComesTo P (after o next handler)
after_comes Q P (on a t) next handler h k = (k a).comes t h
after_comes Q P (thrown e t) next handler h k = absurd h
after_comes Q P (over answer trace) next handler h k = h

-- no handler comes to be asked
pub either_comes : {A B : Type 0} (I : State → Type 0) (Q : A → State → Type 0) (P : B → State → Type 0) (m : Does A) (next : A → Does B) (handler : Exception → Does B)
    → Comes I Q m → ((a : A) → Comes (Q a) P (next a)) → Comes I P (either m next handler)
unfolding either
either_comes I Q P m next handler h k = record { comes = λ s i. after_comes Q P (m s) next handler (h.comes s i) k }

pub then_comes : {A B : Type 0} {I : State → Type 0} (N : State → Type 0) {P : B → State → Type 0} {m : Does A} {next : A → Does B} (Q : A → Type 0) (handler : Exception → Does B)
    → Comes I (With Q N) m → ((a : A) → Q a → Comes N P (next a)) → Comes I P (either m next handler)
then_comes N Q handler h k = either_comes _ (With Q N) _ _ _ handler h (λ a. record { comes = λ s q. (k a q.0).comes s q.1 })

pub gives_comes : {A : Type 0} (I : State → Type 0) (P : A → Type 0) (a : A) → P a → Comes I (With P I) (gives a)
unfolding gives
gives_comes I P a h = record { comes = λ s i. (h, i) }

pub ends_come : {A : Type 0} (I : State → Type 0) (P : A → State → Type 0) (answer : Answer) → IsEnd answer → Comes I P (ends answer)
unfolding ends
ends_come I P answer h = record { comes = λ s i. h }

weaker : {A : Type 0} (P Q : A → State → Type 0) → ((a : A) (t : State) → P a t → Q a t) → (o : Outcome A) → ComesTo P o → ComesTo Q o
weaker P Q f (on a t) h = f a t h
weaker P Q f (thrown e t) h = h
weaker P Q f (over answer trace) h = h

-- what is said of a part may be said of more states before it, and less after it
pub comes_less : {A : Type 0} (I N : State → Type 0) (P Q : A → State → Type 0) (m : Does A)
    → ((s : State) → N s → I s) → ((a : A) (t : State) → P a t → Q a t) → Comes I P m → Comes N Q m
comes_less I N P Q m before behind h = record { comes = λ s i. weaker P Q behind (m s) (h.comes s (before s i)) }

pub if_comes : {A : Type 0} (I : State → Type 0) (P : A → State → Type 0) (b : Bool) (m n : Does A) → Comes I P m → Comes I P n → Comes I P (if b then m else n)
if_comes I P true m n h k = h
if_comes I P false m n h k = k

-- ---- single changes that a property of the objects and their names doesn't see

abbrev pub IsOfObjects : (State → Type 0) → Type 0
IsOfObjects I = (s : State) (begins : List Evaluation) (budget : ℕ) (trace : List Event) → I s → I (record s { begins = begins; budget = budget; trace = trace })

module _ (I : State → Type 0) (of_objects : IsOfObjects I) where
  spent : (n : ℕ) (s : State) → I s → ComesTo (With Always I) (spend_of n s)
  spent zero s i = tt {0}
  spent (suc zero) s i = tt {0}
  spent (suc (suc n)) s i = (tt {0}, of_objects s s.begins (suc n) s.trace i)

  pub spend_comes : Comes I (With Always I) spend
  unfolding spend
  spend_comes = record { comes = λ s i. spent s.budget s i }

  pub append_comes : (event : Event) → Comes I (With Always I) (append event)
  unfolding append
  append_comes event = record { comes = λ s i. (tt {0}, of_objects s s.begins s.budget (event ∷ s.trace) i) }

  told : (begins : List Evaluation) (s : State) → I s → ComesTo (With Always I) (next_of begins s)
  told [] s i = tt {0}
  told (e ∷ begins) s i = (tt {0}, i)

  pub next_told_comes : Comes I (With Always I) next_told
  unfolding next_told
  next_told_comes = record { comes = λ s i. told s.begins s i }

  begun : (begins : List Evaluation) (s : State) → I s → ComesTo (With Always I) (begin_of begins s)
  begun [] s i = tt {0}
  begun (e ∷ begins) s i = (tt {0}, of_objects s begins s.budget (begin e ∷ s.trace) i)

  pub begin_told_comes : Comes I (With Always I) begin_told
  unfolding begin_told
  begin_told_comes = record { comes = λ s i. begun s.begins s i }
