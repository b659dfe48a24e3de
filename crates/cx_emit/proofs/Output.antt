-- Where code stands for a call of `putchar` or `getchar` the machine follows it.
use Rattle.std.proofs.Common.{◌≡◌, ℕ, ◌+◌, ◌-◌, ℤ, pos, negsuc, List, [], ◌∷◌, Some, None, refl, sym, ap, ◌∙◌, subst, arith}
use Rattle.cx_code.specs.declared.image.Image.{Image}
use Rattle.cx_code.specs.declared.operation.Operation.TheVariants as does
use Rattle.cx_code.specs.declared.run.Value.{Value}
use Rattle.cx_code.specs.declared.run.Value.TheVariants as values
use Rattle.cx_code.specs.State.{State}
use Rattle.cx_code.specs.Act.{read}
use Rattle.cx_core.specs.Event.{out, input, input_end}
use Rattle.cx_core.specs.Store as store
use Rattle.cx_core.specs.Store.{number, address, null, violation}
use Rattle.cx_core.specs.Outcome as source
use Rattle.cx_core.specs.Outcome.{Does, Nothing, nothing, either, gives, throws, ends, some, spend, append}
use Rattle.cx_core.specs.Operators.{number_of}
use Rattle.cx_core.specs.Library.{byte_of, write_bytes, read_byte, next_byte}
use Rattle.cx_simulation.specs.Machine.{begins_ahead}
use Rattle.cx_simulation.specs.ImageMachine.{progress, image_step}
use Rattle.cx_simulation.specs.Parts.{Account, Follows, StepsTo}
use Rattle.cx_simulation.proofs.Parts.{follows_then, follows_gives, follows_unit, follows_spend, follows_step, told_on}
use Rattle.cx_emit.specs.Values.{IsValue}
use Rattle.cx_emit.specs.Configuration.{running_at, operation_at, Has, Agrees, Gives}
use Rattle.cx_emit.proofs.Places.{at_place, jumps_to, PutsValue}

module _ (image : Image) (function : ℕ) (Fly : source.State → State → source.Exception → State → source.State → Type 0) where
  -- the byte is written, and the second unit is the step's
  written : (s : source.State) (m : State) (budget from to : ℕ) (operands : List Value) (x : ℤ) → Agrees function s m → Has image function from does.Out to
      → let t : source.State = record s { budget = budget; trace = out (byte_of x) ∷ s.trace } in
      StepsTo (image_step image) (record s { budget = budget }) (running_at m from (values.Number x ∷ operands)) (λ d. Gives function to operands s m (number (pos (byte_of x))) d t) t
  written s m budget from to operands x a h =
      record {
        to = running_at m (from + 1) (values.Number (pos (byte_of x)) ∷ operands);
        event = Some (out (byte_of x));
        goes_so = at_place image function Fly s m from to (values.Number x ∷ operands) does.Out a h;
        noted_so = refl;
        begun_so = refl;
        same_budget = refl;
        stands = record {
          machine = m;
          value = values.Number (pos (byte_of x));
          is_there = ap (λ p. running_at m p (values.Number (pos (byte_of x)) ∷ operands)) (sym h.next);
          same_value = refl;
          agrees = record { in_function = a.in_function; same_store = a.same_store; same_next = a.same_next; same_input = a.same_input; same_names = a.same_names };
          kept = record { same_frame = refl; same_store = refl; same_number = refl; same_living = refl; same_temporaries = refl; same_held = refl; same_slots = refl; same_pending = refl; same_below = refl; same_exceptions = refl };
        };
      }

  module _ (from mid to : ℕ) (jumps : operation_at image function from ≡ Some (does.Jump mid)) (outs : Has image function mid does.Out to) (operands : List Value) where
    abbrev of_writing : Account
    of_writing = record { saves = 31; owes = 0; late = 1; hand = 0 }

    -- what is done with the value
    abbrev rest : store.Value → Does store.Value
    rest v = either (some (number_of v)) (λ n. either spend (λ _. either (write_bytes (byte_of n ∷ [])) (λ _. gives (number (pos (byte_of n)))) throws) throws) throws

    number_follows : (x : ℤ) (n : ℕ) (s : source.State) (m : State) → Agrees function s m → s.begins ≡ begins_ahead (image_step image) n (running_at m from (values.Number x ∷ operands))
        → Follows (image_step image) n s (running_at m from (values.Number x ∷ operands)) of_writing (Gives function to operands s m) (Fly s m) (rest (number x) s)
    unfolding either gives throws append
    number_follows x n s m a told =
        let goes_so = jumps_to image function Fly s m from mid (values.Number x ∷ operands) a jumps in
        follows_step (image_step image) n s (running_at m from (values.Number x ∷ operands)) (running_at m mid (values.Number x ∷ operands)) (record { saves = 62; owes = 0; late = 0; hand = 1 }) of_writing
        (Gives function to operands s m) (Fly s m) (rest (number x) s) goes_so (omega arith) (omega arith) (omega arith)
        (follows_spend (image_step image) (n - 1) s (running_at m mid (values.Number x ∷ operands)) (record { saves = 31; owes = 0; late = 0; hand = 0 }) 62 0 (Gives function to operands s m) (Fly s m)
        (either (write_bytes (byte_of x ∷ [])) (λ _. gives (number (pos (byte_of x)))) throws) (omega arith) (omega arith)
        (λ left _. byte_follows left (told_on (image_step image) n (running_at m from (values.Number x ∷ operands)) (running_at m mid (values.Number x ∷ operands)) None s.begins s.begins goes_so told refl)))
      where
        byte_follows : (left : ℕ) → s.begins ≡ begins_ahead (image_step image) (n - 1) (running_at m mid (values.Number x ∷ operands))
            → Follows (image_step image) (n - 1) (record s { budget = left }) (running_at m mid (values.Number x ∷ operands)) (record { saves = 31; owes = 0; late = 0; hand = 0 }) (Gives function to operands s m) (Fly s m)
            (either (write_bytes (byte_of x ∷ [])) (λ _. gives (number (pos (byte_of x)))) throws (record s { budget = left }))
        byte_follows left told =
            let zero_account : Account = record { saves = 0; owes = 0; late = 0; hand = 0 } in
            let unit_account : Account = record { saves = 31; owes = 0; late = 0; hand = 0 } in
            follows_then (image_step image) (n - 1) (record s { budget = left }) (running_at m mid (values.Number x ∷ operands)) unit_account zero_account unit_account
            (λ (_ : Nothing) d t. Gives function to operands s m (number (pos (byte_of x))) d t) (Gives function to operands s m) (Fly s m) (write_bytes (byte_of x ∷ [])) (λ _. gives (number (pos (byte_of x))))
            (record { goes_on = omega arith; left_first = omega arith; left_second = omega arith; in_hand = omega arith })
            (follows_then (image_step image) (n - 1) (record s { budget = left }) (running_at m mid (values.Number x ∷ operands)) unit_account zero_account unit_account
            (λ (_ : Nothing) d t. Gives function to operands s m (number (pos (byte_of x))) d t) (λ (_ : Nothing) d t. Gives function to operands s m (number (pos (byte_of x))) d t) (Fly s m) (either spend (λ _. append (out (byte_of x))) throws) (λ _. gives nothing)
            (record { goes_on = omega arith; left_first = omega arith; left_second = omega arith; in_hand = omega arith })
            (follows_unit (image_step image) (n - 1) (record s { budget = left }) (running_at m mid (values.Number x ∷ operands)) unit_account (λ (_ : Nothing) d t. Gives function to operands s m (number (pos (byte_of x))) d t) (Fly s m) (append (out (byte_of x))) (omega arith) told
            (λ budget. written s m budget mid to operands x a outs))
            (λ _ t d k g told. follows_gives (image_step image) k t d zero_account (λ (_ : Nothing) d t. Gives function to operands s m (number (pos (byte_of x))) d t) (Fly s m) nothing (omega arith) g told))
            (λ _ t d k g told. follows_gives (image_step image) k t d zero_account (Gives function to operands s m) (Fly s m) (number (pos (byte_of x))) (omega arith) g told)

    -- nothing is asked of what no number is given
    pub writes : (v : store.Value) (w : Value) → IsValue v w → (n : ℕ) (s : source.State) (m : State) → Agrees function s m → s.begins ≡ begins_ahead (image_step image) n (running_at m from (w ∷ operands))
        → Follows (image_step image) n s (running_at m from (w ∷ operands)) of_writing (Gives function to operands s m) (Fly s m) (rest v s)
    unfolding either ends throws
    writes (number x) w is n s m a told =
        subst (λ w. Follows (image_step image) n s (running_at m from (w ∷ operands)) of_writing (Gives function to operands s m) (Fly s m) (rest (number x) s)) (sym is)
        (number_follows x n s m a (told ∙ ap (λ w. begins_ahead (image_step image) n (running_at m from (w ∷ operands))) is))
    writes (address x) w is n s m a told = record { comes = λ other. absurd (other refl) }
    writes null w is n s m a told = record { comes = λ other. absurd (other refl) }
    writes (store.function x) w is n s m a told = absurd is
    writes (violation x) w is n s m a told = absurd is

  -- the next byte is read, or the end of the input
  pub read_steps : (s : source.State) (m : State) (budget from to : ℕ) (operands : List Value) → Agrees function s m → Has image function from does.In to → PutsValue image function Fly s m budget from to operands operands (next_byte (record s { budget = budget }))
  unfolding next_byte
  read_steps s m budget from to operands a h = by_input s.input refl
    where
      reads : (bytes : List ℕ) → s.input ≡ bytes → image_step image (running_at m from operands) ≡ progress image (read (running_at m from operands) bytes)
      reads bytes e = at_place image function Fly s m from to operands does.In a h ∙ ap (λ bytes. progress image (read (running_at m from operands) bytes)) (a.same_input ∙ e)

      by_input : (bytes : List ℕ) → s.input ≡ bytes → PutsValue image function Fly s m budget from to operands operands (read_byte bytes (record s { budget = budget }))
      by_input [] e =
          record {
            to = running_at m (from + 1) (values.Number (negsuc 0) ∷ operands);
            event = Some input_end;
            goes_so = reads [] e;
            noted_so = refl;
            begun_so = refl;
            same_budget = refl;
            stands = record {
              machine = m;
              value = values.Number (negsuc 0);
              is_there = ap (λ p. running_at m p (values.Number (negsuc 0) ∷ operands)) (sym h.next);
              same_value = refl;
              agrees = record { in_function = a.in_function; same_store = a.same_store; same_next = a.same_next; same_input = a.same_input; same_names = a.same_names };
              kept = record { same_frame = refl; same_store = refl; same_number = refl; same_living = refl; same_temporaries = refl; same_held = refl; same_slots = refl; same_pending = refl; same_below = refl; same_exceptions = refl };
            };
          }
      by_input (byte ∷ rest) e =
          record {
            to = running_at (record m { input = rest }) (from + 1) (values.Number (pos byte) ∷ operands);
            event = Some (input byte);
            goes_so = reads (byte ∷ rest) e;
            noted_so = refl;
            begun_so = refl;
            same_budget = refl;
            stands = record {
              machine = record m { input = rest };
              value = values.Number (pos byte);
              is_there = ap (λ p. running_at (record m { input = rest }) p (values.Number (pos byte) ∷ operands)) (sym h.next);
              same_value = refl;
              agrees = record { in_function = a.in_function; same_store = a.same_store; same_next = a.same_next; same_input = refl; same_names = a.same_names };
              kept = record { same_frame = refl; same_store = refl; same_number = refl; same_living = refl; same_temporaries = refl; same_held = refl; same_slots = refl; same_pending = refl; same_below = refl; same_exceptions = refl };
            };
          }
