-- The evaluations that a run has begun and those that are still told make up the ones that were told.
use Rattle.std.proofs.Common.{◌≡◌, refl, ap, ◌∙◌, List, [], ◌∷◌, ◌++◌, reverse, append_assoc}
use Rattle.std.proofs.lemmas.List.{append-nil}
use Rattle.std.proofs.lemmas.Grind.{reverse_onto}
use Rattle.cx_core.specs.Event.{Evaluation, Event, out, input, input_end, begin, verdict, handler, throw, catch, destroyed, begins_of}
use Rattle.cx_core.specs.Store.{Value, number, address, null, function, violation}
use Rattle.cx_core.specs.Outcome.{State, Outcome, on, thrown, over}
use Rattle.cx_core.specs.Meaning.{mean, mean_within, meaning_of, calls_within, main_call, start, depth_limit}
use Rattle.cx_core.specs.Laws.{BeginsAreTheFirstTold}
use Rattle.cx_core.proofs.Everywhere.{IsPlain}
use Rattle.cx_core.proofs.EverywhereMeaning.{calls_within_of}
use Rattle.cx_core.proofs.Invariant.{IsInvariant, Leaves, Keeps, invariant_is_closed}

begins_of-append : (xs ys : List Event) → begins_of (xs ++ ys) ≡ begins_of xs ++ begins_of ys
begins_of-append [] ys = refl
begins_of-append (begin e ∷ xs) ys = ap (λ l. e ∷ l) (begins_of-append xs ys)
begins_of-append (out b ∷ xs) ys = begins_of-append xs ys
begins_of-append (input b ∷ xs) ys = begins_of-append xs ys
begins_of-append (input_end ∷ xs) ys = begins_of-append xs ys
begins_of-append (verdict v ∷ xs) ys = begins_of-append xs ys
begins_of-append (handler v ∷ xs) ys = begins_of-append xs ys
begins_of-append (throw t ∷ xs) ys = begins_of-append xs ys
begins_of-append (catch t ∷ xs) ys = begins_of-append xs ys
begins_of-append (destroyed k n l ∷ xs) ys = begins_of-append xs ys

-- of a trace, whose latest event comes first
abbrev begun : List Event → List Evaluation
begun trace = begins_of (reverse trace)

begun-cons : (event : Event) (trace : List Event) → begun (event ∷ trace) ≡ begun trace ++ begins_of (event ∷ [])
begun-cons event trace = ap begins_of (reverse_onto trace event []) ∙ begins_of-append (reverse trace) (event ∷ [])

plain_begins : (event : Event) → IsPlain event → begins_of (event ∷ []) ≡ []
plain_begins (begin e) h = absurd h
plain_begins (out b) h = refl
plain_begins (input b) h = absurd h
plain_begins input_end h = refl
plain_begins (verdict v) h = refl
plain_begins (handler v) h = refl
plain_begins (throw t) h = refl
plain_begins (catch t) h = refl
plain_begins (destroyed k n l) h = refl

begun_plainly : (event : Event) (trace : List Event) → IsPlain event → begun (event ∷ trace) ≡ begun trace
begun_plainly event trace h = begun-cons event trace ∙ ap (λ l. begun trace ++ l) (plain_begins event h) ∙ append-nil (begun trace)

-- those that were told are those that have begun and those that are still told
abbrev AreTold : List Evaluation → State → Type 0
AreTold all s = begun s.trace ++ s.begins ≡ all

abbrev SomeAreLeft : List Evaluation → List Event → Type 0
SomeAreLeft all trace = (rest : List Evaluation) × (begun trace ++ rest ≡ all)

are_told : (all : List Evaluation) → IsInvariant (AreTold all) (SomeAreLeft all)
are_told all = record {
  at_the_end = λ s h. (s.begins, h);
  with_unit = λ s left e h. h;
  with_frame = λ s frame h. h;
  with_living = λ s living h. h;
  with_temporaries = λ s temporaries h. h;
  with_held = λ s held h. h;
  with_event = λ s event plain h. ap (λ l. l ++ s.begins) (begun_plainly event s.trace plain) ∙ h;
  with_begin = λ s e begins h. ap (λ l. l ++ begins) (begun-cons (begin e) s.trace) ∙ (append_assoc (begun s.trace) (e ∷ []) begins ∙ h);
  with_byte = λ s b bytes h. ap (λ l. l ++ s.begins) (begun-cons (input b) s.trace ∙ append-nil (begun s.trace)) ∙ h;
  with_object = λ s leaves h. h;
  with_end = λ s n h. h;
  with_leaf = λ s a leaf store e h. h;
}

left_at_the_end : (all : List Evaluation) (o : Outcome Value) → Leaves (AreTold all) (SomeAreLeft all) o
    → (rest : List Evaluation) × (begins_of (meaning_of o).trace ++ rest ≡ all)
left_at_the_end all (on (number n) s) h = (s.begins, h)
left_at_the_end all (on (address a) s) h = (s.begins, h)
left_at_the_end all (on null s) h = (s.begins, h)
left_at_the_end all (on (function f) s) h = (s.begins, h)
left_at_the_end all (on (violation v) s) h = (s.begins, h)
left_at_the_end all (thrown e s) h = (s.begins, h)
left_at_the_end all (over answer trace) h = h

pub begins_are_the_first_told : BeginsAreTheFirstTold
unfolding mean mean_within
begins_are_the_first_told program begins bytes budget =
    left_at_the_end begins (calls_within program depth_limit (main_call program) (start program begins bytes budget))
    (calls_within_of (Keeps (AreTold begins) (SomeAreLeft begins)) (invariant_is_closed _ _ (are_told begins)) program depth_limit (main_call program)
    (start program begins bytes budget) refl)
