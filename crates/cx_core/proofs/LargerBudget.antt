-- A run under a larger budget goes the same way, and further.
use Rattle.std.proofs.Common.{◌≡◌, refl, sym, ap, subst, ◌∙◌, arith, ℕ, zero, suc, ◌+◌, ◌≤◌, Bool, true, false, if◌then◌else◌, List, [], ◌∷◌, ◌++◌, Result, Ok, Err}
use Rattle.cx_core.specs.Words.{Kind}
use Rattle.cx_core.specs.Store.{Address, Leaf, Store, written}
use Rattle.cx_core.specs.Event.{Evaluation, Event, Answer, ended, going, waiting, not_a_run}
use Rattle.cx_core.specs.Outcome.{Living, Exception, Frame, State, Outcome, on, thrown, over, Does, nothing, after, either, gives, throws, ends, current_frame, current_store, current_living, current_temporaries, current_held, set_frame, set_living, set_temporaries, set_held, append, spend, spend_of, add, remove, write, with_store}
use Rattle.cx_core.specs.Block.{next_told, next_of, begin_told, begin_of}
use Rattle.cx_core.specs.Library.{next_byte, read_byte}
use Rattle.cx_core.specs.Statements.{Completion, on_to_next, break, continue, return, turns, loop, after_turn}
use Rattle.cx_core.proofs.Everywhere.{IsClosed}
use Rattle.cx_core.proofs.Invariant.{IsInvariant, Leaves, Keeps, invariant_is_closed, either_keeps, then_keeps, if_keeps, after_turn_keeps, turns_keep}
use Rattle.cx_core.proofs.Invariant as invariant

-- ---- events are only added, and the budget only falls

abbrev pub Grown : List Event → List Event → Type 0
Grown from trace = (new : List Event) × (trace ≡ new ++ from)

abbrev pub GrownFrom : List Event → State → Type 0
GrownFrom from s = Grown from s.trace

grown_by : (from trace : List Event) (event : Event) → Grown from trace → Grown from (event ∷ trace)
grown_by from trace event h = (event ∷ h.0, ap (λ l. event ∷ l) h.1)

pub events_are_added : (from : List Event) → IsInvariant (GrownFrom from) (Grown from)
events_are_added from = record {
  at_the_end = λ s h. h;
  with_unit = λ s left e h. h;
  with_frame = λ s frame h. h;
  with_living = λ s living h. h;
  with_temporaries = λ s temporaries h. h;
  with_held = λ s held h. h;
  with_event = λ s event plain h. grown_by from s.trace event h;
  with_begin = λ s e begins h. grown_by from s.trace _ h;
  with_byte = λ s b bytes h. grown_by from s.trace _ h;
  with_object = λ s leaves h. h;
  with_end = λ s n h. h;
  with_leaf = λ s a leaf store e h. h;
}

abbrev pub AtMost : ℕ → State → Type 0
AtMost n s = s.budget ≤ n

abbrev pub Anything : List Event → Type 0
Anything trace = Unit {0}

pub budget_falls : (n : ℕ) → IsInvariant (AtMost n) Anything
budget_falls n = record {
  at_the_end = λ s h. tt {0};
  with_unit = λ s left e h. omega (arith, e, h);
  with_frame = λ s frame h. h;
  with_living = λ s living h. h;
  with_temporaries = λ s temporaries h. h;
  with_held = λ s held h. h;
  with_event = λ s event plain h. h;
  with_begin = λ s e begins h. h;
  with_byte = λ s b bytes h. h;
  with_object = λ s leaves h. h;
  with_end = λ s m h. h;
  with_leaf = λ s a leaf store e h. h;
}

-- ---- the same way, and further

abbrev pub richer : ℕ → State → State
richer d s = record s { budget = s.budget + d }

abbrev pub Grows : {A : Type 0} → List Event → Outcome A → Type 0
Grows from o = Leaves (GrownFrom from) (Grown from) o

-- the second outcome is the first one with more budget, or goes on where the first one's budget is spent
abbrev pub Extends : {A : Type 0} → ℕ → Outcome A → Outcome A → Type 0
Extends d (on a s) o = o ≡ on a (richer d s)
Extends d (thrown e s) o = o ≡ thrown e (richer d s)
Extends d (over going trace) o = Grows trace o
Extends d (over (ended ending) trace) o = o ≡ over (ended ending) trace
Extends d (over waiting trace) o = o ≡ over waiting trace
Extends d (over not_a_run trace) o = o ≡ over not_a_run trace

abbrev pub AlwaysGrows : (A : Type 0) → Does A → Type 0
AlwaysGrows A m = (from : List Event) → Keeps (GrownFrom from) (Grown from) A m

extends_after : {A B : Type 0} (P : State → Type 0) (d : ℕ) (o o' : Outcome A) (next next' : A → Does B) (handler handler' : Exception → Does B)
    → Extends d o o' → Leaves P Anything o
    → ((a : A) (s : State) → P s → Extends d (next a s) (next' a (richer d s)))
    → ((e : Exception) (s : State) → P s → Extends d (handler e s) (handler' e (richer d s)))
    → ((a : A) → AlwaysGrows B (next' a)) → ((e : Exception) → AlwaysGrows B (handler' e))
    → Extends d (after o next handler) (after o' next' handler')
extends_after P d (on a s) o' next next' handler handler' h p k l g gh =
    subst (λ x. Extends d (next a s) (after x next' handler')) (sym h) (k a s p)
extends_after P d (thrown e s) o' next next' handler handler' h p k l g gh =
    subst (λ x. Extends d (handler e s) (after x next' handler')) (sym h) (l e s p)
extends_after P d (over going trace) o' next next' handler handler' h p k l g gh =
    either_keeps (GrownFrom trace) (Grown trace) (events_are_added trace) o' next' handler' h (λ a. g a trace) (λ e. gh e trace)
extends_after P d (over (ended ending) trace) o' next next' handler handler' h p k l g gh = ap (λ x. after x next' handler') h
extends_after P d (over waiting trace) o' next next' handler handler' h p k l g gh = ap (λ x. after x next' handler') h
extends_after P d (over not_a_run trace) o' next next' handler handler' h p k l g gh = ap (λ x. after x next' handler') h

-- what is proved of each part of the meaning
abbrev pub Lasts : (A : Type 0) → Does A → Type 0
Lasts A m = AlwaysGrows A m × (((n : ℕ) → Keeps (AtMost n) Anything A m) × ((d : ℕ) (s : State) → Extends d (m s) (m (richer d s))))

abbrev grows_closed : (from : List Event) → IsClosed (Keeps (GrownFrom from) (Grown from))
grows_closed from = invariant_is_closed (GrownFrom from) (Grown from) (events_are_added from)

abbrev falls_closed : (n : ℕ) → IsClosed (Keeps (AtMost n) Anything)
falls_closed n = invariant_is_closed (AtMost n) Anything (budget_falls n)

-- ---- the primitives

abbrev Always : State → Type 0
Always s = Unit {0}

always : {A : Type 0} (o : Outcome A) → Leaves Always Anything o
always (on a s) = tt {0}
always (thrown e s) = tt {0}
always (over answer trace) = tt {0}

lasting_either : {A B : Type 0} (m : Does A) (next : A → Does B) (handler : Exception → Does B)
    → Lasts A m → ((a : A) → Lasts B (next a)) → ((e : Exception) → Lasts B (handler e)) → Lasts B (either m next handler)
unfolding either
lasting_either m next handler h k l = (
  λ from. (grows_closed from).of_either m next handler (h.0 from) (λ a. (k a).0 from) (λ e. (l e).0 from),
  (
    λ n. (falls_closed n).of_either m next handler (h.1.0 n) (λ a. (k a).1.0 n) (λ e. (l e).1.0 n),
    λ d s. extends_after Always d (m s) (m (richer d s)) next next handler handler (h.1.1 d s) (always (m s))
        (λ a t p. (k a).1.1 d t) (λ e t p. (l e).1.1 d t) (λ a. (k a).0) (λ e. (l e).0),
  ),
)

gives_extends : {A : Type 0} (a : A) (d : ℕ) (s : State) → Extends d (gives a s) (gives a (richer d s))
unfolding gives
gives_extends a d s = refl

throws_extends : (A : Type 0) (e : Exception) (d : ℕ) (s : State) → Extends {A = A} d (throws e s) (throws e (richer d s))
unfolding throws
throws_extends A e d s = refl

ends_extends : (A : Type 0) (answer : Answer) (d : ℕ) (s : State) → Extends {A = A} d (ends answer s) (ends answer (richer d s))
unfolding ends
ends_extends A (ended ending) d s = refl
ends_extends A going d s = ([], refl)
ends_extends A waiting d s = refl
ends_extends A not_a_run d s = refl

spending_grows : (n : ℕ) (s : State) → Grows s.trace (spend_of n s)
spending_grows zero s = ([], refl)
spending_grows (suc zero) s = ([], refl)
spending_grows (suc (suc n)) s = ([], refl)

two_more : (left d : ℕ) (s : State) → spend_of (suc (suc left) + d) (richer d s) ≡ on nothing (record s { budget = suc left + d })
two_more left d s =
    let e : suc (suc left) + d ≡ suc (suc (left + d)) = omega arith in
    let f : suc (left + d) ≡ suc left + d = omega arith in
    ap (λ n. spend_of n (richer d s)) e ∙ ap (λ n. on nothing (record s { budget = n })) f

spending_extends : (n d : ℕ) (s : State) → Extends d (spend_of n s) (spend_of (n + d) (richer d s))
spending_extends zero d s = spending_grows (zero + d) (richer d s)
spending_extends (suc zero) d s = spending_grows (suc zero + d) (richer d s)
spending_extends (suc (suc left)) d s = two_more left d s

spend_extends : (d : ℕ) (s : State) → Extends d (spend s) (spend (richer d s))
unfolding spend
spend_extends d s = spending_extends s.budget d s

next_extends : (begins : List Evaluation) (d : ℕ) (s : State) → Extends d (next_of begins s) (next_of begins (richer d s))
next_extends [] d s = refl
next_extends (e ∷ begins) d s = refl

next_told_extends : (d : ℕ) (s : State) → Extends d (next_told s) (next_told (richer d s))
unfolding next_told
next_told_extends d s = next_extends s.begins d s

begin_extends : (begins : List Evaluation) (d : ℕ) (s : State) → Extends d (begin_of begins s) (begin_of begins (richer d s))
begin_extends [] d s = refl
begin_extends (e ∷ begins) d s = refl

begin_told_extends : (d : ℕ) (s : State) → Extends d (begin_told s) (begin_told (richer d s))
unfolding begin_told
begin_told_extends d s = begin_extends s.begins d s

byte_extends : (bytes : List ℕ) (d : ℕ) (s : State) → Extends d (read_byte bytes s) (read_byte bytes (richer d s))
byte_extends [] d s = refl
byte_extends (b ∷ bytes) d s = refl

next_byte_extends : (d : ℕ) (s : State) → Extends d (next_byte s) (next_byte (richer d s))
unfolding next_byte
next_byte_extends d s = byte_extends s.input d s

with_store_extends : (r : Result Store Kind) (d : ℕ) (s : State) → Extends d (with_store r s) (with_store r (richer d s))
with_store_extends (Ok store) d s = refl
with_store_extends (Err kind) d s = refl

write_extends : (a : Address) (leaf : Leaf) (d : ℕ) (s : State) → Extends d (write a leaf s) (write a leaf (richer d s))
unfolding write
write_extends a leaf d s = with_store_extends (written s.store a leaf) d s

append_extends : (event : Event) (d : ℕ) (s : State) → Extends d (append event s) (append event (richer d s))
unfolding append
append_extends event d s = refl

add_extends : (leaves d : ℕ) (s : State) → Extends d (add leaves s) (add leaves (richer d s))
unfolding add
add_extends leaves d s = refl

remove_extends : (n d : ℕ) (s : State) → Extends d (remove n s) (remove n (richer d s))
unfolding remove
remove_extends n d s = refl

current_frame_extends : (d : ℕ) (s : State) → Extends d (current_frame s) (current_frame (richer d s))
unfolding current_frame
current_frame_extends d s = refl

current_store_extends : (d : ℕ) (s : State) → Extends d (current_store s) (current_store (richer d s))
unfolding current_store
current_store_extends d s = refl

current_living_extends : (d : ℕ) (s : State) → Extends d (current_living s) (current_living (richer d s))
unfolding current_living
current_living_extends d s = refl

current_temporaries_extends : (d : ℕ) (s : State) → Extends d (current_temporaries s) (current_temporaries (richer d s))
unfolding current_temporaries
current_temporaries_extends d s = refl

current_held_extends : (d : ℕ) (s : State) → Extends d (current_held s) (current_held (richer d s))
unfolding current_held
current_held_extends d s = refl

set_frame_extends : (frame : Frame) (d : ℕ) (s : State) → Extends d (set_frame frame s) (set_frame frame (richer d s))
unfolding set_frame
set_frame_extends frame d s = refl

set_living_extends : (living : List Living) (d : ℕ) (s : State) → Extends d (set_living living s) (set_living living (richer d s))
unfolding set_living
set_living_extends living d s = refl

set_temporaries_extends : (temporaries : List Living) (d : ℕ) (s : State) → Extends d (set_temporaries temporaries s) (set_temporaries temporaries (richer d s))
unfolding set_temporaries
set_temporaries_extends temporaries d s = refl

set_held_extends : (held : List Exception) (d : ℕ) (s : State) → Extends d (set_held held s) (set_held held (richer d s))
unfolding set_held
set_held_extends held d s = refl

-- ---- loops

-- with one unit less than n + 1
spent_below : (left n : ℕ) (s : State) → s.budget ≡ left → left ≤ suc n → Leaves (AtMost n) Anything (spend_of left s)
spent_below zero n s e h = tt {0}
spent_below (suc zero) n s e h = tt {0}
spent_below (suc (suc left)) n s e h = omega (arith, h)

spend_below : (n : ℕ) (s : State) → s.budget ≤ suc n → Leaves (AtMost n) Anything (spend s)
unfolding spend
spend_below n s h = spent_below s.budget n s refl h

module _ (condition : Does Bool) (step body : Does Completion) (hc : Lasts Bool condition) (hs : Lasts Completion step) (hb : Lasts Completion body) where
  turns_grow : (n : ℕ) → AlwaysGrows Completion (turns n condition step body)
  turns_grow n from = turns_keep (GrownFrom from) (Grown from) (events_are_added from) n condition step body (hc.0 from) (hs.0 from) (hb.0 from)

  after_turn_grows : (n : ℕ) (completion : Completion) → AlwaysGrows Completion (after_turn step (turns n condition step body) completion)
  after_turn_grows n completion from = after_turn_keeps (GrownFrom from) (Grown from) (events_are_added from) step _ completion (hs.0 from) (turns_grow n from)

  throws_grows : (e : Exception) → AlwaysGrows Completion (throws e)
  throws_grows e from = invariant.of_throws (GrownFrom from) (Grown from) (events_are_added from) Completion e

  -- a turn's body and what follows it
  abbrev rest_of_turn : ℕ → Bool → Does Completion
  rest_of_turn n b = if b then either body (after_turn step (turns n condition step body)) throws else gives on_to_next

  rest_grows : (n : ℕ) (b : Bool) → AlwaysGrows Completion (rest_of_turn n b)
  rest_grows n b from = if_keeps (GrownFrom from) (Grown from) (events_are_added from) b _ _
      (then_keeps (GrownFrom from) (Grown from) (events_are_added from) body _ (hb.0 from) (λ completion. after_turn_grows n completion from))
      (invariant.of_gives (GrownFrom from) (Grown from) (events_are_added from) on_to_next)

  -- so many turns, and d more under a budget of d more
  abbrev TurnsExtend : ℕ → ℕ → ℕ → Type 0
  TurnsExtend n m d = (s : State) → s.budget ≤ n → Extends d (turns n condition step body s) (turns m condition step body (richer d s))

  after_turn_extends : (n m d : ℕ) (completion : Completion) → TurnsExtend n m d → (s : State) → s.budget ≤ n
      → Extends d (after_turn step (turns n condition step body) completion s) (after_turn step (turns m condition step body) completion (richer d s))
  unfolding either gives
  after_turn_extends n m d on_to_next ih s h =
      extends_after (AtMost n) d (step s) (step (richer d s)) _ _ throws throws (hs.1.1 d s) (hs.1.0 n s h)
      (λ _ t k. ih t k) (λ e t k. throws_extends Completion e d t) (λ _. turns_grow m) throws_grows
  after_turn_extends n m d continue ih s h =
      extends_after (AtMost n) d (step s) (step (richer d s)) _ _ throws throws (hs.1.1 d s) (hs.1.0 n s h)
      (λ _ t k. ih t k) (λ e t k. throws_extends Completion e d t) (λ _. turns_grow m) throws_grows
  after_turn_extends n m d break ih s h = refl
  after_turn_extends n m d (return v) ih s h = refl

  rest_extends : (n m d : ℕ) (b : Bool) → TurnsExtend n m d → (s : State) → s.budget ≤ n → Extends d (rest_of_turn n b s) (rest_of_turn m b (richer d s))
  unfolding either
  rest_extends n m d true ih s h =
      extends_after (AtMost n) d (body s) (body (richer d s)) _ _ throws throws (hb.1.1 d s) (hb.1.0 n s h)
      (λ completion t k. after_turn_extends n m d completion ih t k) (λ e t k. throws_extends Completion e d t) (after_turn_grows m) throws_grows
  rest_extends n m d false ih s h = gives_extends on_to_next d s

  condition_extends : (n m d : ℕ) → TurnsExtend n m d → (s : State) → s.budget ≤ n
      → Extends d (either condition (rest_of_turn n) throws s) (either condition (rest_of_turn m) throws (richer d s))
  unfolding either
  condition_extends n m d ih s h =
      extends_after (AtMost n) d (condition s) (condition (richer d s)) _ _ throws throws (hc.1.1 d s) (hc.1.0 n s h)
      (λ b t k. rest_extends n m d b ih t k) (λ e t k. throws_extends Completion e d t) (rest_grows m) throws_grows

  condition_grows : (n : ℕ) → AlwaysGrows Completion (either condition (rest_of_turn n) throws)
  condition_grows n from = then_keeps (GrownFrom from) (Grown from) (events_are_added from) condition _ (hc.0 from) (λ b. rest_grows n b from)

  turn_extends : (n m d : ℕ) → TurnsExtend n m d → TurnsExtend (suc n) (suc m) d
  unfolding turns either
  turn_extends n m d ih s h =
      extends_after (AtMost n) d (spend s) (spend (richer d s)) _ _ throws throws (spend_extends d s) (spend_below n s h)
      (λ _ t k. condition_extends n m d ih t k) (λ e t k. throws_extends Completion e d t) (λ _. condition_grows m) throws_grows

  no_turn_extends : (m d : ℕ) → TurnsExtend zero m d
  unfolding turns ends
  no_turn_extends m d s h = turns_grow m s.trace (richer d s) ([], refl)

  turns_extend : (n d : ℕ) → TurnsExtend n (n + d) d
  turns_extend zero d = no_turn_extends (zero + d) d
  turns_extend (suc n) d =
      let e : suc (n + d) ≡ suc n + d = omega arith in
      subst (λ m. TurnsExtend (suc n) m d) e (turn_extends n (n + d) d (turns_extend n d))

  loop_extends : (d : ℕ) (s : State) → Extends d (loop condition step body s) (loop condition step body (richer d s))
  unfolding loop
  loop_extends d s = turns_extend s.budget d s (omega arith)

-- ---- the whole meaning

lasting : {A : Type 0} (m : Does A) → AlwaysGrows A m → ((n : ℕ) → Keeps (AtMost n) Anything A m)
    → ((d : ℕ) (s : State) → Extends d (m s) (m (richer d s))) → Lasts A m
lasting m g f e = (g, (f, e))

pub everything_lasts : IsClosed Lasts
everything_lasts = record {
  of_gives = λ a. lasting (gives a) (λ from. (grows_closed from).of_gives a) (λ n. (falls_closed n).of_gives a) (gives_extends a);
  of_throws = λ {A} e. lasting {A = A} (throws e) (λ from. (grows_closed from).of_throws e) (λ n. (falls_closed n).of_throws e) (throws_extends A e);
  of_ends = λ {A} answer. lasting {A = A} (ends answer) (λ from. (grows_closed from).of_ends answer) (λ n. (falls_closed n).of_ends answer) (ends_extends A answer);
  of_either = lasting_either;
  of_loop = λ condition step body hc hs hb. lasting (loop condition step body)
      (λ from. (grows_closed from).of_loop condition step body (hc.0 from) (hs.0 from) (hb.0 from))
      (λ n. (falls_closed n).of_loop condition step body (hc.1.0 n) (hs.1.0 n) (hb.1.0 n))
      (loop_extends condition step body hc hs hb);
  of_spend = lasting spend (λ from. (grows_closed from).of_spend) (λ n. (falls_closed n).of_spend) spend_extends;
  of_append = λ event plain. lasting (append event) (λ from. (grows_closed from).of_append event plain) (λ n. (falls_closed n).of_append event plain) (append_extends event);
  of_next_told = lasting next_told (λ from. (grows_closed from).of_next_told) (λ n. (falls_closed n).of_next_told) next_told_extends;
  of_begin_told = lasting begin_told (λ from. (grows_closed from).of_begin_told) (λ n. (falls_closed n).of_begin_told) begin_told_extends;
  of_next_byte = lasting next_byte (λ from. (grows_closed from).of_next_byte) (λ n. (falls_closed n).of_next_byte) next_byte_extends;
  of_current_frame = lasting current_frame (λ from. (grows_closed from).of_current_frame) (λ n. (falls_closed n).of_current_frame) current_frame_extends;
  of_current_store = lasting current_store (λ from. (grows_closed from).of_current_store) (λ n. (falls_closed n).of_current_store) current_store_extends;
  of_current_living = lasting current_living (λ from. (grows_closed from).of_current_living) (λ n. (falls_closed n).of_current_living) current_living_extends;
  of_current_temporaries = lasting current_temporaries (λ from. (grows_closed from).of_current_temporaries) (λ n. (falls_closed n).of_current_temporaries) current_temporaries_extends;
  of_current_held = lasting current_held (λ from. (grows_closed from).of_current_held) (λ n. (falls_closed n).of_current_held) current_held_extends;
  of_set_frame = λ frame. lasting (set_frame frame) (λ from. (grows_closed from).of_set_frame frame) (λ n. (falls_closed n).of_set_frame frame) (set_frame_extends frame);
  of_set_living = λ living. lasting (set_living living) (λ from. (grows_closed from).of_set_living living) (λ n. (falls_closed n).of_set_living living) (set_living_extends living);
  of_set_temporaries = λ temporaries. lasting (set_temporaries temporaries) (λ from. (grows_closed from).of_set_temporaries temporaries) (λ n. (falls_closed n).of_set_temporaries temporaries) (set_temporaries_extends temporaries);
  of_set_held = λ held. lasting (set_held held) (λ from. (grows_closed from).of_set_held held) (λ n. (falls_closed n).of_set_held held) (set_held_extends held);
  of_add = λ leaves. lasting (add leaves) (λ from. (grows_closed from).of_add leaves) (λ n. (falls_closed n).of_add leaves) (add_extends leaves);
  of_remove = λ m. lasting (remove m) (λ from. (grows_closed from).of_remove m) (λ n. (falls_closed n).of_remove m) (remove_extends m);
  of_write = λ a leaf. lasting (write a leaf) (λ from. (grows_closed from).of_write a leaf) (λ n. (falls_closed n).of_write a leaf) (write_extends a leaf);
}
