-- The bytes that a run has read and those that are left make up its input.
use Rattle.std.proofs.Common.{◌≡◌, refl, ap, ◌∙◌, ℕ, List, [], ◌∷◌, ◌++◌, reverse, append_assoc}
use Rattle.std.proofs.lemmas.List.{append-nil}
use Rattle.std.proofs.lemmas.Grind.{reverse_onto}
use Rattle.cx_core.specs.Event.{Event, out, input, input_end, begin, verdict, handler, throw, catch, destroyed, inputs_of}
use Rattle.cx_core.specs.Store.{Value, number, address, null, function, violation}
use Rattle.cx_core.specs.Outcome.{State, Outcome, on, thrown, over}
use Rattle.cx_core.specs.Meaning.{mean, mean_within, meaning_of, calls_within, main_call, start, depth_limit}
use Rattle.cx_core.specs.Laws.{InputIsReadInOrder}
use Rattle.cx_core.proofs.Everywhere.{IsPlain}
use Rattle.cx_core.proofs.EverywhereMeaning.{calls_within_of}
use Rattle.cx_core.proofs.Invariant.{IsInvariant, Leaves, Keeps, invariant_is_closed}

inputs_of-append : (xs ys : List Event) → inputs_of (xs ++ ys) ≡ inputs_of xs ++ inputs_of ys
inputs_of-append [] ys = refl
inputs_of-append (input b ∷ xs) ys = ap (λ l. b ∷ l) (inputs_of-append xs ys)
inputs_of-append (begin e ∷ xs) ys = inputs_of-append xs ys
inputs_of-append (out b ∷ xs) ys = inputs_of-append xs ys
inputs_of-append (input_end ∷ xs) ys = inputs_of-append xs ys
inputs_of-append (verdict v ∷ xs) ys = inputs_of-append xs ys
inputs_of-append (handler v ∷ xs) ys = inputs_of-append xs ys
inputs_of-append (throw t ∷ xs) ys = inputs_of-append xs ys
inputs_of-append (catch t ∷ xs) ys = inputs_of-append xs ys
inputs_of-append (destroyed k n l ∷ xs) ys = inputs_of-append xs ys

-- of a trace, whose latest event comes first
abbrev bytes_read : List Event → List ℕ
bytes_read trace = inputs_of (reverse trace)

bytes_read-cons : (event : Event) (trace : List Event) → bytes_read (event ∷ trace) ≡ bytes_read trace ++ inputs_of (event ∷ [])
bytes_read-cons event trace = ap inputs_of (reverse_onto trace event []) ∙ inputs_of-append (reverse trace) (event ∷ [])

plain_inputs : (event : Event) → IsPlain event → inputs_of (event ∷ []) ≡ []
plain_inputs (begin e) h = absurd h
plain_inputs (input b) h = absurd h
plain_inputs (out b) h = refl
plain_inputs input_end h = refl
plain_inputs (verdict v) h = refl
plain_inputs (handler v) h = refl
plain_inputs (throw t) h = refl
plain_inputs (catch t) h = refl
plain_inputs (destroyed k n l) h = refl

read_plainly : (event : Event) (trace : List Event) → IsPlain event → bytes_read (event ∷ trace) ≡ bytes_read trace
read_plainly event trace h = bytes_read-cons event trace ∙ ap (λ l. bytes_read trace ++ l) (plain_inputs event h) ∙ append-nil (bytes_read trace)

abbrev IsInput : List ℕ → State → Type 0
IsInput all s = bytes_read s.trace ++ s.input ≡ all

abbrev IsBeginning : List ℕ → List Event → Type 0
IsBeginning all trace = (rest : List ℕ) × (bytes_read trace ++ rest ≡ all)

is_input : (all : List ℕ) → IsInvariant (IsInput all) (IsBeginning all)
is_input all = record {
  at_the_end = λ s h. (s.input, h);
  with_unit = λ s left e h. h;
  with_frame = λ s frame h. h;
  with_living = λ s living h. h;
  with_temporaries = λ s temporaries h. h;
  with_held = λ s held h. h;
  with_event = λ s event plain h. ap (λ l. l ++ s.input) (read_plainly event s.trace plain) ∙ h;
  with_begin = λ s e begins h. ap (λ l. l ++ s.input) (bytes_read-cons (begin e) s.trace ∙ append-nil (bytes_read s.trace)) ∙ h;
  with_byte = λ s b bytes h. ap (λ l. l ++ bytes) (bytes_read-cons (input b) s.trace) ∙ (append_assoc (bytes_read s.trace) (b ∷ []) bytes ∙ h);
  with_object = λ s leaves h. h;
  with_end = λ s n h. h;
  with_leaf = λ s a leaf store e h. h;
}

beginning_at_the_end : (all : List ℕ) (o : Outcome Value) → Leaves (IsInput all) (IsBeginning all) o
    → (rest : List ℕ) × (inputs_of (meaning_of o).trace ++ rest ≡ all)
beginning_at_the_end all (on (number n) s) h = (s.input, h)
beginning_at_the_end all (on (address a) s) h = (s.input, h)
beginning_at_the_end all (on null s) h = (s.input, h)
beginning_at_the_end all (on (function f) s) h = (s.input, h)
beginning_at_the_end all (on (violation v) s) h = (s.input, h)
beginning_at_the_end all (thrown e s) h = (s.input, h)
beginning_at_the_end all (over answer trace) h = h

pub input_is_read_in_order : InputIsReadInOrder
unfolding mean mean_within
input_is_read_in_order program begins bytes budget =
    beginning_at_the_end bytes (calls_within program depth_limit (main_call program) (start program begins bytes budget))
    (calls_within_of (Keeps (IsInput bytes) (IsBeginning bytes)) (invariant_is_closed _ _ (is_input bytes)) program depth_limit (main_call program)
    (start program begins bytes budget) refl)
