-- What each change of a state keeps, a run keeps.
use Rattle.std.proofs.Common.{◌≡◌, refl, ℕ, zero, suc, Bool, true, false, if◌then◌else◌, List, [], ◌∷◌, Result, Ok, Err}
use Rattle.cx_core.specs.Words.{Kind}
use Rattle.cx_core.specs.Store.{Address, Value, Leaf, Store, without, written}
use Rattle.cx_core.specs.Event.{Evaluation, Event, begin, input, input_end, Answer}
use Rattle.cx_core.specs.Outcome.{Living, Exception, Frame, State, Outcome, on, thrown, over, Does, Nothing, after, either, gives, throws, ends, current_frame, current_store, current_living, current_temporaries, current_held, set_frame, set_living, set_temporaries, set_held, append, spend, spend_of, add, remove, write, with_store}
use Rattle.cx_core.specs.Block.{next_told, next_of, begin_told, begin_of}
use Rattle.cx_core.specs.Library.{next_byte, read_byte}
use Rattle.cx_core.specs.Statements.{Completion, on_to_next, break, continue, return, turns, loop, after_turn}
use Rattle.cx_core.proofs.Everywhere.{IsClosed, IsPlain}

-- a property of states that each primitive keeps, and what it says of a trace at the end
pub record IsInvariant (I : State → Type 0) (J : List Event → Type 0) : Type 0 where
  pub at_the_end : (s : State) → I s → J s.trace
  pub with_unit : (s : State) (left : ℕ) → s.budget ≡ suc (suc left) → I s → I (record s { budget = suc left })
  pub with_frame : (s : State) (frame : Frame) → I s → I (record s { frame = frame })
  pub with_living : (s : State) (living : List Living) → I s → I (record s { living = living })
  pub with_temporaries : (s : State) (temporaries : List Living) → I s → I (record s { temporaries = temporaries })
  pub with_held : (s : State) (held : List Exception) → I s → I (record s { held = held })
  pub with_event : (s : State) (event : Event) → IsPlain event → I s → I (record s { trace = event ∷ s.trace })
  pub with_begin : (s : State) (e : Evaluation) (begins : List Evaluation) → I (record s { begins = e ∷ begins }) → I (record s { begins = begins; trace = begin e ∷ s.trace })
  pub with_byte : (s : State) (b : ℕ) (bytes : List ℕ) → I (record s { input = b ∷ bytes }) → I (record s { input = bytes; trace = input b ∷ s.trace })
  pub with_object : (s : State) (leaves : List Leaf) → I s → I (record s { next = suc s.next; store = record { number = s.next; leaves = leaves } ∷ s.store })
  pub with_end : (s : State) (n : ℕ) → I s → I (record s { store = without s.store n })
  pub with_leaf : (s : State) (a : Address) (leaf : Leaf) (store : Store) → (written s.store a leaf ≡ Ok store) → I s → I (record s { store = store })

module _ (I : State → Type 0) (J : List Event → Type 0) where
  abbrev pub Leaves : {A : Type 0} → Outcome A → Type 0
  Leaves (on a s) = I s
  Leaves (thrown e s) = I s
  Leaves (over answer trace) = J trace

  abbrev pub Keeps : (A : Type 0) → Does A → Type 0
  Keeps A m = (s : State) → I s → Leaves (m s)

module _ (I : State → Type 0) (J : List Event → Type 0) (v : IsInvariant I J) where
  pub either_keeps : {A B : Type 0} (o : Outcome A) (next : A → Does B) (handler : Exception → Does B)
      → Leaves I J o → ((a : A) → Keeps I J B (next a)) → ((e : Exception) → Keeps I J B (handler e)) → Leaves I J (after o next handler)
  either_keeps (on a s) next handler h k l = k a s h
  either_keeps (thrown e s) next handler h k l = l e s h
  either_keeps (over answer trace) next handler h k l = h

  of_either : {A B : Type 0} (m : Does A) (next : A → Does B) (handler : Exception → Does B)
      → Keeps I J A m → ((a : A) → Keeps I J B (next a)) → ((e : Exception) → Keeps I J B (handler e)) → Keeps I J B (either m next handler)
  unfolding either
  of_either m next handler h k l s i = either_keeps (m s) next handler (h s i) k l

  pub of_gives : {A : Type 0} (a : A) → Keeps I J A (gives a)
  unfolding gives
  of_gives a s i = i

  pub of_throws : (A : Type 0) (e : Exception) → Keeps I J A (throws e)
  unfolding throws
  of_throws A e s i = i

  of_ends : (A : Type 0) (answer : Answer) → Keeps I J A (ends answer)
  unfolding ends
  of_ends A answer s i = v.at_the_end s i

  spend_keeps : (n : ℕ) (s : State) → s.budget ≡ n → I s → Leaves I J (spend_of n s)
  spend_keeps zero s e i = v.at_the_end s i
  spend_keeps (suc zero) s e i = v.at_the_end s i
  spend_keeps (suc (suc n)) s e i = v.with_unit s n e i

  of_spend : Keeps I J Nothing spend
  unfolding spend
  of_spend s i = spend_keeps s.budget s refl i

  of_append : (event : Event) → IsPlain event → Keeps I J Nothing (append event)
  unfolding append
  of_append event plain s i = v.with_event s event plain i

  next_keeps : (begins : List Evaluation) → Keeps I J Evaluation (next_of begins)
  next_keeps [] s i = v.at_the_end s i
  next_keeps (e ∷ begins) s i = i

  of_next_told : Keeps I J Evaluation next_told
  unfolding next_told
  of_next_told s i = next_keeps s.begins s i

  begin_keeps : (begins : List Evaluation) (s : State) → I (record s { begins = begins }) → J s.trace → Leaves I J (begin_of begins s)
  begin_keeps [] s i j = j
  begin_keeps (e ∷ begins) s i j = v.with_begin s e begins i

  of_begin_told : Keeps I J Nothing begin_told
  unfolding begin_told
  of_begin_told s i = begin_keeps s.begins s i (v.at_the_end s i)

  byte_keeps : (bytes : List ℕ) (s : State) → I (record s { input = bytes }) → I s → Leaves I J (read_byte bytes s)
  byte_keeps [] s i j = v.with_event s input_end (tt {0}) j
  byte_keeps (b ∷ bytes) s i j = v.with_byte s b bytes i

  of_next_byte : Keeps I J Value next_byte
  unfolding next_byte
  of_next_byte s i = byte_keeps s.input s i i

  write_keeps : (a : Address) (leaf : Leaf) (s : State) (r : Result Store Kind) → (written s.store a leaf ≡ r) → I s → Leaves I J (with_store r s)
  write_keeps a leaf s (Ok store) e i = v.with_leaf s a leaf store e i
  write_keeps a leaf s (Err kind) e i = v.at_the_end s i

  of_write : (a : Address) (leaf : Leaf) → Keeps I J Nothing (write a leaf)
  unfolding write
  of_write a leaf s i = write_keeps a leaf s (written s.store a leaf) refl i

  of_current_frame : Keeps I J Frame current_frame
  unfolding current_frame
  of_current_frame s i = i

  of_current_store : Keeps I J Store current_store
  unfolding current_store
  of_current_store s i = i

  of_current_living : Keeps I J (List Living) current_living
  unfolding current_living
  of_current_living s i = i

  of_current_temporaries : Keeps I J (List Living) current_temporaries
  unfolding current_temporaries
  of_current_temporaries s i = i

  of_current_held : Keeps I J (List Exception) current_held
  unfolding current_held
  of_current_held s i = i

  of_set_frame : (frame : Frame) → Keeps I J Nothing (set_frame frame)
  unfolding set_frame
  of_set_frame frame s i = v.with_frame s frame i

  of_set_living : (living : List Living) → Keeps I J Nothing (set_living living)
  unfolding set_living
  of_set_living living s i = v.with_living s living i

  of_set_temporaries : (temporaries : List Living) → Keeps I J Nothing (set_temporaries temporaries)
  unfolding set_temporaries
  of_set_temporaries temporaries s i = v.with_temporaries s temporaries i

  of_set_held : (held : List Exception) → Keeps I J Nothing (set_held held)
  unfolding set_held
  of_set_held held s i = v.with_held s held i

  of_add : (leaves : ℕ) → Keeps I J ℕ (add leaves)
  unfolding add
  of_add leaves s i = v.with_object s _ i

  of_remove : (n : ℕ) → Keeps I J Nothing (remove n)
  unfolding remove
  of_remove n s i = v.with_end s n i

  pub if_keeps : {A : Type 0} (b : Bool) (m n : Does A) → Keeps I J A m → Keeps I J A n → Keeps I J A (if b then m else n)
  if_keeps true m n h k = h
  if_keeps false m n h k = k

  pub then_keeps : {A B : Type 0} (m : Does A) (next : A → Does B) → Keeps I J A m → ((a : A) → Keeps I J B (next a)) → Keeps I J B (either m next throws)
  then_keeps {A} {B} m next h k = of_either m next throws h k (of_throws B)

  pub after_turn_keeps : (step more : Does Completion) (completion : Completion) → Keeps I J Completion step → Keeps I J Completion more → Keeps I J Completion (after_turn step more completion)
  after_turn_keeps step more on_to_next h k = then_keeps _ _ h (λ _. k)
  after_turn_keeps step more continue h k = then_keeps _ _ h (λ _. k)
  after_turn_keeps step more break h k = of_gives _
  after_turn_keeps step more (return x) h k = of_gives _

  pub turns_keep : (n : ℕ) (condition : Does Bool) (step body : Does Completion) → Keeps I J Bool condition → Keeps I J Completion step → Keeps I J Completion body → Keeps I J Completion (turns n condition step body)
  unfolding turns
  turns_keep zero condition step body hc hs hb = of_ends Completion _
  turns_keep (suc n) condition step body hc hs hb =
      then_keeps _ _ of_spend (λ _. then_keeps _ _ hc (λ b. if_keeps b _ _
      (then_keeps _ _ hb (λ completion. after_turn_keeps step _ completion hs (turns_keep n condition step body hc hs hb))) (of_gives _)))

  of_loop : (condition : Does Bool) (step body : Does Completion) → Keeps I J Bool condition → Keeps I J Completion step → Keeps I J Completion body → Keeps I J Completion (loop condition step body)
  unfolding loop
  of_loop condition step body hc hs hb s i = turns_keep s.budget condition step body hc hs hb s i

  pub invariant_is_closed : IsClosed (Keeps I J)
  invariant_is_closed = record {
    of_gives = of_gives;
    of_throws = λ {A} e. of_throws A e;
    of_ends = λ {A} answer. of_ends A answer;
    of_either = of_either;
    of_loop = of_loop;
    of_spend = of_spend;
    of_append = of_append;
    of_next_told = of_next_told;
    of_begin_told = of_begin_told;
    of_next_byte = of_next_byte;
    of_current_frame = of_current_frame;
    of_current_store = of_current_store;
    of_current_living = of_current_living;
    of_current_temporaries = of_current_temporaries;
    of_current_held = of_current_held;
    of_set_frame = of_set_frame;
    of_set_living = of_set_living;
    of_set_temporaries = of_set_temporaries;
    of_set_held = of_set_held;
    of_add = of_add;
    of_remove = of_remove;
    of_write = of_write;
  }
