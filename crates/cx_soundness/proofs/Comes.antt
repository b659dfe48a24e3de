-- What a part of a run comes to: a value and a typed state, a typed exception and a typed state, or an end that a well made program may have; and how parts go together.
use Rattle.std.proofs.Common.{zero, suc, ℕ, List, [], ◌∷◌, Bool, true, false, if◌then◌else◌}
use Rattle.cx_core.specs.Words.{Kind, Mixed, Returned, Undefined}
use Rattle.cx_core.specs.Event.{Evaluation, Event, begin, Answer, ended}
use Rattle.cx_core.specs.Outcome.{Exception, State, Outcome, on, thrown, over, Does, nothing, after, either, gives, throws, ends, ◌>>=◌, append, spend, spend_of, spend_all}
use Rattle.cx_core.specs.Block.{next_told, next_of, begin_told, begin_of}
use Rattle.cx_soundness.proofs.Worlds.{World, Extends, same_world, longer}

-- a kind of undefined behaviour that a well made program may have
abbrev pub IsProper : Kind → Type 0
IsProper Mixed = ⊥
IsProper other = Unit {0}

-- the run doesn't end by `return` here, nor in the other kind
abbrev pub IsEnd : Answer → Type 0
IsEnd (ended (Undefined kind)) = IsProper kind
IsEnd (ended (Returned n)) = ⊥
IsEnd other = Unit {0}

abbrev pub Always : {A : Type 0} → A → Type 0
Always a = Unit {0}

-- ---- parts that make no objects and throw nothing

abbrev pub StaysTo : {A : Type 0} → (State → Type 0) → (A → Type 0) → Outcome A → Type 0
StaysTo J P (on a t) = P a × J t
StaysTo J P (thrown e t) = ⊥
StaysTo J P (over answer trace) = IsEnd answer

pub record Stays {A : Type 0} (I J : State → Type 0) (P : A → Type 0) (m : Does A) : Type 0 where
  pub stays : (s : State) → I s → StaysTo J P (m s)

after_stays : {A B : Type 0} (K J : State → Type 0) (Q : A → Type 0) (P : B → Type 0) (o : Outcome A) (next : A → Does B) (handler : Exception → Does B)
    → StaysTo K Q o → ((a : A) → Q a → Stays K J P (next a)) → StaysTo J P (after o next handler)
after_stays K J Q P (on a t) next handler h k = (k a h.0).stays t h.1
after_stays K J Q P (thrown e t) next handler h k = absurd h
after_stays K J Q P (over answer trace) next handler h k = h

-- no handler comes to be asked
pub either_stays : {A B : Type 0} (I K J : State → Type 0) (Q : A → Type 0) (P : B → Type 0) (m : Does A) (next : A → Does B) (handler : Exception → Does B)
    → Stays I K Q m → ((a : A) → Q a → Stays K J P (next a)) → Stays I J P (either m next handler)
unfolding either
either_stays I K J Q P m next handler h k = record { stays = λ s i. after_stays K J Q P (m s) next handler (h.stays s i) k }

pub then_stays : {A B : Type 0} {I J : State → Type 0} {P : B → Type 0} {m : Does A} {next : A → Does B} (K : State → Type 0) (Q : A → Type 0)
    → Stays I K Q m → ((a : A) → Q a → Stays K J P (next a)) → Stays I J P (m >>= next)
then_stays {A} {B} {I} {J} {P} {m} {next} K Q h k = either_stays I K J Q P m next throws h k

pub gives_stays : {A : Type 0} (I : State → Type 0) (P : A → Type 0) (a : A) → P a → Stays I I P (gives a)
unfolding gives
gives_stays I P a h = record { stays = λ s i. (h, i) }

pub ends_stays : {A : Type 0} (I J : State → Type 0) (P : A → Type 0) (answer : Answer) → IsEnd answer → Stays I J P (ends answer)
unfolding ends
ends_stays I J P answer h = record { stays = λ s i. h }

pub if_stays : {A : Type 0} (I J : State → Type 0) (P : A → Type 0) (b : Bool) (m n : Does A) → Stays I J P m → Stays I J P n → Stays I J P (if b then m else n)
if_stays I J P true m n h k = h
if_stays I J P false m n h k = k

less_stays : {A : Type 0} (J : State → Type 0) (P Q : A → Type 0) → ((a : A) → P a → Q a) → (o : Outcome A) → StaysTo J P o → StaysTo J Q o
less_stays J P Q f (on a t) h = (f a h.0, h.1)
less_stays J P Q f (thrown e t) h = h
less_stays J P Q f (over answer trace) h = h

pub stays_less : {A : Type 0} (I J : State → Type 0) (P Q : A → Type 0) (m : Does A) → ((a : A) → P a → Q a) → Stays I J P m → Stays I J Q m
stays_less I J P Q m f h = record { stays = λ s i. less_stays J P Q f (m s) (h.stays s i) }

-- ---- single changes that a typed state doesn't see

abbrev pub IsOfObjects : (State → Type 0) → Type 0
IsOfObjects I = (s : State) (begins : List Evaluation) (budget : ℕ) (trace : List Event) → I s → I (record s { begins = begins; budget = budget; trace = trace })

module _ (I : State → Type 0) (of_objects : IsOfObjects I) where
  spent : (n : ℕ) (s : State) → I s → StaysTo I Always (spend_of n s)
  spent zero s i = tt {0}
  spent (suc zero) s i = tt {0}
  spent (suc (suc n)) s i = (tt {0}, of_objects s s.begins (suc n) s.trace i)

  pub spend_stays : Stays I I Always spend
  unfolding spend
  spend_stays = record { stays = λ s i. spent s.budget s i }

  pub append_stays : (event : Event) → Stays I I Always (append event)
  unfolding append
  append_stays event = record { stays = λ s i. (tt {0}, of_objects s s.begins s.budget (event ∷ s.trace) i) }

  told : (begins : List Evaluation) (s : State) → I s → StaysTo I Always (next_of begins s)
  told [] s i = tt {0}
  told (e ∷ begins) s i = (tt {0}, i)

  pub next_told_stays : Stays I I Always next_told
  unfolding next_told
  next_told_stays = record { stays = λ s i. told s.begins s i }

  begun : (begins : List Evaluation) (s : State) → I s → StaysTo I Always (begin_of begins s)
  begun [] s i = tt {0}
  begun (e ∷ begins) s i = (tt {0}, of_objects s begins s.budget (begin e ∷ s.trace) i)

  pub begin_told_stays : Stays I I Always begin_told
  unfolding begin_told
  begin_told_stays = record { stays = λ s i. begun s.begins s i }

  pub spend_all_stays : (n : ℕ) → Stays I I Always (spend_all n)
  spend_all_stays zero = gives_stays I Always nothing (tt {0})
  spend_all_stays (suc n) = then_stays I Always spend_stays (λ _ _. spend_all_stays n)

-- ---- parts that may make objects and throw

-- what is said of states, by the types of the objects that were made
abbrev pub Family : Type 1
Family = World → State → Type 0

module _ (IsFlying : World → Exception → Type 0) where
  -- T is said where an exception leaves the part, J where it goes on
  abbrev pub ComesTo : {A : Type 0} → World → (T J : Family) → (World → A → Type 0) → Outcome A → Type 0
  ComesTo W T J P (on a t) = (V : World) × Extends W V × P V a × J V t
  ComesTo W T J P (thrown e t) = (V : World) × Extends W V × IsFlying V e × T V t
  ComesTo W T J P (over answer trace) = IsEnd answer

  pub record Comes {A : Type 0} (W : World) (I : State → Type 0) (T J : Family) (P : World → A → Type 0) (m : Does A) : Type 0 where
    pub comes : (s : State) → I s → ComesTo W T J P (m s)

  comes_longer : {A : Type 0} (U V : World) (T J : Family) (P : World → A → Type 0) → Extends U V → (o : Outcome A) → ComesTo V T J P o → ComesTo U T J P o
  comes_longer U V T J P e (on a t) h = (h.0, longer U V h.0 e h.1, h.2, h.3)
  comes_longer U V T J P e (thrown x t) h = (h.0, longer U V h.0 e h.1, h.2, h.3)
  comes_longer U V T J P e (over answer trace) h = h

  after_comes : {A B : Type 0} (W : World) (K S T J : Family) (Q : World → A → Type 0) (P : World → B → Type 0) (o : Outcome A) (next : A → Does B) (handler : Exception → Does B)
      → ComesTo W S K Q o
      → ((V : World) → Extends W V → (a : A) → Q V a → Comes V (K V) T J P (next a))
      → ((V : World) → Extends W V → (e : Exception) → IsFlying V e → Comes V (S V) T J P (handler e))
      → ComesTo W T J P (after o next handler)
  after_comes W K S T J Q P (on a t) next handler h k l = comes_longer W h.0 T J P h.1 (next a t) ((k h.0 h.1 a h.2).comes t h.3)
  after_comes W K S T J Q P (thrown e t) next handler h k l = comes_longer W h.0 T J P h.1 (handler e t) ((l h.0 h.1 e h.2).comes t h.3)
  after_comes W K S T J Q P (over answer trace) next handler h k l = h

  pub either_comes : {A B : Type 0} (W : World) (I : State → Type 0) (K S T J : Family) (Q : World → A → Type 0) (P : World → B → Type 0) (m : Does A) (next : A → Does B) (handler : Exception → Does B)
      → Comes W I S K Q m
      → ((V : World) → Extends W V → (a : A) → Q V a → Comes V (K V) T J P (next a))
      → ((V : World) → Extends W V → (e : Exception) → IsFlying V e → Comes V (S V) T J P (handler e))
      → Comes W I T J P (either m next handler)
  unfolding either
  either_comes W I K S T J Q P m next handler h k l = record { comes = λ s i. after_comes W K S T J Q P (m s) next handler (h.comes s i) k l }

  pub throws_comes : {A : Type 0} (W : World) (T J : Family) (P : World → A → Type 0) (e : Exception) → IsFlying W e → Comes W (T W) T J P (throws {A = A} e)
  unfolding throws
  throws_comes W T J P e h = record { comes = λ s i. (W, same_world W, h, i) }

  pub then_comes : {A B : Type 0} {W : World} {I : State → Type 0} {T J : Family} {P : World → B → Type 0} {m : Does A} {next : A → Does B} (K : Family) (Q : World → A → Type 0)
      → Comes W I T K Q m → ((V : World) → Extends W V → (a : A) → Q V a → Comes V (K V) T J P (next a)) → Comes W I T J P (m >>= next)
  then_comes {A} {B} {W} {I} {T} {J} {P} {m} {next} K Q h k = either_comes W I K T T J Q P m next throws h k (λ V e x f. throws_comes V T J P x f)

  -- a part that stays goes first
  after_staying : {A B : Type 0} (W : World) (K : State → Type 0) (T J : Family) (Q : A → Type 0) (P : World → B → Type 0) (o : Outcome A) (next : A → Does B) (handler : Exception → Does B)
      → StaysTo K Q o → ((a : A) → Q a → Comes W K T J P (next a)) → ComesTo W T J P (after o next handler)
  after_staying W K T J Q P (on a t) next handler h k = (k a h.0).comes t h.1
  after_staying W K T J Q P (thrown e t) next handler h k = absurd h
  after_staying W K T J Q P (over answer trace) next handler h k = h

  pub first_comes : {A B : Type 0} {W : World} {I : State → Type 0} {T J : Family} {P : World → B → Type 0} {m : Does A} {next : A → Does B} (K : State → Type 0) (Q : A → Type 0)
      → Stays I K Q m → ((a : A) → Q a → Comes W K T J P (next a)) → Comes W I T J P (m >>= next)
  unfolding either
  first_comes {A} {B} {W} {I} {T} {J} {P} {m} {next} K Q h k = record { comes = λ s i. after_staying W K T J Q P (m s) next throws (h.stays s i) k }

  staying : {A : Type 0} (W : World) (T J : Family) (P : World → A → Type 0) (o : Outcome A) → StaysTo (J W) (P W) o → ComesTo W T J P o
  staying W T J P (on a t) h = (W, same_world W, h.0, h.1)
  staying W T J P (thrown e t) h = absurd h
  staying W T J P (over answer trace) h = h

  pub stays_comes : {A : Type 0} (W : World) (I : State → Type 0) (T J : Family) (P : World → A → Type 0) (m : Does A) → Stays I (J W) (P W) m → Comes W I T J P m
  stays_comes W I T J P m h = record { comes = λ s i. staying W T J P (m s) (h.stays s i) }

  pub gives_comes : {A : Type 0} (W : World) (T J : Family) (P : World → A → Type 0) (a : A) → P W a → Comes W (J W) T J P (gives a)
  gives_comes W T J P a h = stays_comes W (J W) T J P (gives a) (gives_stays (J W) (P W) a h)

  pub ends_comes : {A : Type 0} (W : World) (I : State → Type 0) (T J : Family) (P : World → A → Type 0) (answer : Answer) → IsEnd answer → Comes W I T J P (ends {A = A} answer)
  ends_comes W I T J P answer h = stays_comes W I T J P (ends answer) (ends_stays I (J W) (P W) answer h)

  pub if_comes : {A : Type 0} (W : World) (I : State → Type 0) (T J : Family) (P : World → A → Type 0) (b : Bool) (m n : Does A) → Comes W I T J P m → Comes W I T J P n → Comes W I T J P (if b then m else n)
  if_comes W I T J P true m n h k = h
  if_comes W I T J P false m n h k = k

  weaker : {A : Type 0} (W : World) (S T K J : Family) (Q P : World → A → Type 0) → ((V : World) (t : State) → S V t → T V t) → ((V : World) (t : State) → K V t → J V t) → ((V : World) (a : A) → Q V a → P V a)
      → (o : Outcome A) → ComesTo W S K Q o → ComesTo W T J P o
  weaker W S T K J Q P f g p (on a t) h = (h.0, h.1, p h.0 a h.2, g h.0 t h.3)
  weaker W S T K J Q P f g p (thrown e t) h = (h.0, h.1, h.2, f h.0 t h.3)
  weaker W S T K J Q P f g p (over answer trace) h = h

  -- what is said of a part may be said of fewer states before it, and less behind it
  pub comes_less : {A : Type 0} (W : World) (N I : State → Type 0) (S T K J : Family) (Q P : World → A → Type 0) (m : Does A)
      → ((s : State) → N s → I s) → ((V : World) (t : State) → S V t → T V t) → ((V : World) (t : State) → K V t → J V t) → ((V : World) (a : A) → Q V a → P V a)
      → Comes W I S K Q m → Comes W N T J P m
  comes_less W N I S T K J Q P m before f g p h = record { comes = λ s i. weaker W S T K J Q P f g p (m s) (h.comes s (before s i)) }
