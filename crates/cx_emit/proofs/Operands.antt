-- The machine reads and converts an operand as the meaning does.
use Rattle.std.proofs.Common.{◌≡◌, ℕ, ◌+◌, ◌-◌, ℤ, List, [], ◌∷◌, zero, suc, Option, Some, None, Bool, true, false, if◌then◌else◌, inl, inr, refl, sym, ap, ◌∙◌, subst, arith}
use Rattle.std.specs.Prelude.{Result, Ok, Err}
use Rattle.cx_code.specs.declared.image.Image.{Image}
use Rattle.cx_code.specs.declared.memory.Loaded.{Loaded}
use Rattle.cx_code.specs.declared.memory.Loaded.TheVariants as gives
use Rattle.cx_code.specs.declared.operation.Operation.TheVariants as does
use Rattle.cx_code.specs.declared.operation.Scalar.TheVariants as scalars
use Rattle.cx_code.specs.declared.run.Value.{Value}
use Rattle.cx_code.specs.declared.run.Value.TheVariants as values
use Rattle.cx_code.specs.Arithmetic.{value_as}
use Rattle.cx_code.specs.Store as memory
use Rattle.cx_code.specs.Store.{loaded, loaded_leaf}
use Rattle.cx_code.specs.State.{State}
use Rattle.cx_code.specs.Act.{next, on_some, on_loaded, mixed}
use Rattle.cx_core.specs.declared.number.IntegerType.{IntegerType}
use Rattle.cx_core.specs.declared.number.IntegerType.TheVariants as types
use Rattle.cx_core.specs.Words.{Kind, Mixed, Null, Dead, Unset, Undefined}
use Rattle.cx_core.specs.Event.{Event, ended}
use Rattle.cx_core.specs.Tree.{ObjectType, scalar, pointer, function_pointer, class}
use Rattle.cx_core.specs.Store as store
use Rattle.cx_core.specs.Store.{Address, number, address, null, violation, Leaf, leaf_at, leaf_in, leaves_of, value_of}
use Rattle.cx_core.specs.Outcome as source
use Rattle.cx_core.specs.Outcome.{on, over, Does, either, gives as giving, throws, ends, some, undefined, defined, place_of, read, current_store}
use Rattle.cx_core.specs.Operators.{read_as, fitting, fits, fits_integer, integer_of, converted_to, value_number}
use Rattle.cx_simulation.specs.Machine.{goes, halts, begins_ahead}
use Rattle.cx_simulation.specs.ImageMachine.{image_step, progress}
use Rattle.cx_simulation.specs.Parts.{Account, Follows}
use Rattle.cx_simulation.proofs.Parts.{follows_one, follows_step, follows_gives, told_on}
use Rattle.cx_emit.specs.Values.{IsValue, Keeps, IsLeaf, AreLeaves, IsObject}
use Rattle.cx_emit.specs.Configuration.{running_at, Has, Agrees, Gives}
use Rattle.cx_emit.specs.Operations.{scalar_of}
use Rattle.cx_emit.specs.Stands.{StandsNumberLoad, StandsLoad, StandsRead, StandsConversion}
use Rattle.cx_emit.proofs.Numbers.{same_conversion, same_number, same_wrapped, below_half}
use Rattle.cx_emit.proofs.Places.{all_kept, at_place, puts, PutsValue}

-- ---- conversions

-- what an instruction converts is what the source's conversion gives, where there is one
same_value_number : (type : IntegerType) (v : store.Value) (w : Value) (n : ℤ) → IsValue v w → value_number type v ≡ Some n → value_as (scalar_of type) w ≡ Some n
same_value_number type (number x) w n is e = ap (value_as (scalar_of type)) is ∙ ap Some (sym (same_conversion type x)) ∙ e
same_value_number types.Bool (address a) w n is e = ap (value_as scalars.Bool) is ∙ e
same_value_number types.Bool null w n is e = ap (value_as scalars.Bool) is ∙ e
same_value_number type (address a) w n is e = absurd (cc)
same_value_number type null w n is e = absurd (cc)
same_value_number type (store.function v) w n is e = absurd is
same_value_number type (violation v) w n is e = absurd is

-- ---- what is loaded

-- what the machine loads stands for what the meaning reads
abbrev LoadsAs : Result store.Value Kind → Loaded → Type 0
LoadsAs (Ok v) (gives.Value w) = Keeps v w
LoadsAs (Ok v) gives.Unset = ⊥
LoadsAs (Ok v) gives.Dead = ⊥
LoadsAs (Err kind) (gives.Value w) = ⊥
LoadsAs (Err kind) gives.Unset = kind ≡ Unset
LoadsAs (Err kind) gives.Dead = kind ≡ Dead

loads_one : (told : Leaf) (leaf : Option Value) → IsLeaf told leaf → LoadsAs (value_of (Ok told)) (loaded_leaf (Some leaf))
loads_one None None h = refl
loads_one None (Some w) h = absurd h
loads_one (Some v) None h = absurd h
loads_one (Some v) (Some w) h = h

loads_leaf : (told : List Leaf) (leaves : List (Option Value)) (i : ℕ) → AreLeaves told leaves → LoadsAs (value_of (leaf_in (Some told) i)) (loaded_leaf (memory.leaf_in (Some leaves) i))
loads_leaf [] [] i h = refl
loads_leaf [] (leaf ∷ leaves) i h = absurd h
loads_leaf (t ∷ told) [] i h = absurd h
loads_leaf (t ∷ told) (leaf ∷ leaves) zero h = loads_one t leaf h.0
loads_leaf (t ∷ told) (leaf ∷ leaves) (suc i) h = loads_leaf told leaves i h.1

loads_object : (told : Option (List Leaf)) (leaves : Option (List (Option Value))) (i : ℕ) → IsObject told leaves → LoadsAs (value_of (leaf_in told i)) (loaded_leaf (memory.leaf_in leaves i))
loads_object None None i h = refl
loads_object None (Some leaves) i h = absurd h
loads_object (Some told) None i h = absurd h
loads_object (Some told) (Some leaves) i h = loads_leaf told leaves i h

pub loads : (s : source.State) (m : State) (function : ℕ) (a : Address) → Agrees function s m → LoadsAs (value_of (leaf_at s.store a)) (loaded m.store a.object a.leaf)
loads s m function a agrees = loads_object (leaves_of s.store a.object) (m.store.leaves a.object) a.leaf (agrees.same_store a.object)

module _ (image : Image) (function : ℕ) (Fly : source.State → State → source.Exception → State → source.State → Type 0) where
  module _ (s : source.State) (m : State) (budget from to : ℕ) (operands : List Value) (a : Agrees function s m) where
    -- the machine's conversion puts a number there
    converts : (type : IntegerType) (w : Value) (n : ℤ) → Has image function from (does.Convert (scalar_of type)) to → value_as (scalar_of type) w ≡ Some n
        → PutsValue image function Fly s m budget from to (w ∷ operands) operands (on (number n) (record s { budget = budget }))
    converts type w n h e =
        puts image function Fly s m budget from to (w ∷ operands) operands (number n) (values.Number n) a refl h.next
        (at_place image function Fly s m from to (w ∷ operands) (does.Convert (scalar_of type)) a h
        ∙ ap (λ r. progress image (on_some r mixed (λ z. next (running_at m from (w ∷ operands)) (values.Number z ∷ operands)))) e)

    conversion_steps : (type : IntegerType) (v : store.Value) (w : Value) → IsValue v w → Has image function from (does.Convert (scalar_of type)) to
        → PutsValue image function Fly s m budget from to (w ∷ operands) operands (converted_to (Some type) v (record s { budget = budget }))
    unfolding either giving ends throws
    conversion_steps type v w is h = by_number (value_number type v) refl
      where
        by_number : (r : Option ℤ) → value_number type v ≡ r
            → PutsValue image function Fly s m budget from to (w ∷ operands) operands (either (some r) (λ n. giving (number n)) throws (record s { budget = budget }))
        by_number None e = λ other. absurd (other refl)
        by_number (Some n) e = converts type w n h (same_value_number type v w n is e)

  pub conversion_follows : (conversion : Option IntegerType) (from to : ℕ) (operands : List Value) → StandsConversion image function conversion from to → (v : store.Value) (w : Value) → IsValue v w
      → (n : ℕ) (s : source.State) (m : State) → Agrees function s m → s.begins ≡ begins_ahead (image_step image) n (running_at m from (w ∷ operands))
      → Follows (image_step image) n s (running_at m from (w ∷ operands)) (record { saves = 0; owes = 1; late = 1; hand = 0 }) (Gives function to operands s m) (Fly s m) (converted_to conversion v s)
  conversion_follows None from to operands st v w is n s m a told =
      follows_gives (image_step image) n s (running_at m from (w ∷ operands)) _ (Gives function to operands s m) (Fly s m) v (omega arith)
      (record { machine = m; value = w; is_there = ap (λ p. running_at m p (w ∷ operands)) (sym st); same_value = is; agrees = a; kept = all_kept s m }) told
  conversion_follows (Some type) from to operands st v w is n s m a told =
      follows_one (image_step image) n s (running_at m from (w ∷ operands)) _ (Gives function to operands s m) (Fly s m) (converted_to (Some type) v s) (omega arith) (omega arith) told
      (conversion_steps s m s.budget from to operands a type v w is st)

  -- ---- reads

  module _ (n : ℕ) (s : source.State) (m : State) (operands : List Value) (agrees : Agrees function s m) where
    abbrev of_read : Account
    of_read = record { saves = 0; owes = 2; late = 2; hand = 0 }

    abbrev Reads : ℕ → ℕ → Value → source.Outcome store.Value → Type 0
    Reads from to w r = Follows (image_step image) n s (running_at m from (w ∷ operands)) of_read (Gives function to operands s m) (Fly s m) r

    abbrev Told : ℕ → Value → Type 0
    Told from w = s.begins ≡ begins_ahead (image_step image) n (running_at m from (w ∷ operands))

    -- nothing is asked
    reads_mixed : (from to : ℕ) (w : Value) (trace : List Event) → Reads from to w (over (ended (Undefined Mixed)) trace)
    reads_mixed from to w trace = record { comes = λ other. absurd (other refl) }

    -- a load that ends the run
    reads_ends : (from to mid : ℕ) (w : Value) (kind : Kind) → Told from w → image_step image (running_at m from (w ∷ operands)) ≡ halts (Undefined kind) None → Reads from to w (over (ended (Undefined kind)) s.trace)
    reads_ends from to mid w kind told h =
        follows_one (image_step image) n s (running_at m from (w ∷ operands)) of_read (Gives function to operands s m) (Fly s m) (over (ended (Undefined kind)) s.trace) (omega arith) (omega arith) told
        (λ other. record { event = None; halts_so = h; noted_so = refl })

    -- a load alone
    reads_one : (from to : ℕ) (v : store.Value) (w x : Value) → Told from w → IsValue v x → to ≡ from + 1 → image_step image (running_at m from (w ∷ operands)) ≡ goes (running_at m (from + 1) (x ∷ operands)) None → Reads from to w (on v s)
    reads_one from to v w x told is e h =
        follows_one (image_step image) n s (running_at m from (w ∷ operands)) of_read (Gives function to operands s m) (Fly s m) (on v s) (omega arith) (omega arith) told
        (puts image function Fly s m s.budget from to (w ∷ operands) operands v x agrees is e h)

    -- a load, and then the conversion of what stands less 2^64
    reads_two : (from mid to : ℕ) (k : ℤ) (w x : Value) → Told from w → value_as scalars.UnsignedLongLong x ≡ Some k → mid ≡ from + 1 → Has image function mid (does.Convert scalars.UnsignedLongLong) to
        → image_step image (running_at m from (w ∷ operands)) ≡ goes (running_at m (from + 1) (x ∷ operands)) None → Reads from to w (on (number k) s)
    reads_two from mid to k w x told is e h goes_so =
        let there : image_step image (running_at m from (w ∷ operands)) ≡ goes (running_at m mid (x ∷ operands)) None = goes_so ∙ ap (λ p. goes (running_at m p (x ∷ operands)) None) (sym e) in
        follows_step (image_step image) n s (running_at m from (w ∷ operands)) (running_at m mid (x ∷ operands)) (record { saves = 0; owes = 1; late = 1; hand = 0 }) of_read (Gives function to operands s m) (Fly s m) (on (number k) s)
        there (omega arith) (omega arith) (omega arith)
        (follows_one (image_step image) (n - 1) s (running_at m mid (x ∷ operands)) _ (Gives function to operands s m) (Fly s m) (on (number k) s) (omega arith) (omega arith)
        (told_on (image_step image) n (running_at m from (w ∷ operands)) (running_at m mid (x ∷ operands)) None s.begins s.begins there told refl)
        (converts s m s.budget mid to operands agrees types.UnsignedLongLong x k h is))

    Goes : ℕ → Value → Value → Type 0
    Goes from w x = image_step image (running_at m from (w ∷ operands)) ≡ goes (running_at m (from + 1) (x ∷ operands)) None

    -- a number of a type is read from where it stands, as it is or less 2^64
    number_reads : (t : Option IntegerType) (from to : ℕ) (k : ℤ) (w x : Value) → StandsNumberLoad image function t from to → fits_integer t k ≡ true → Keeps (number k) x → Told from w → Goes from w x → Reads from to w (on (number k) s)
    unfolding Goes
    number_reads None from to k w x st f kept told h = absurd st
    number_reads (Some types.UnsignedLongLong) from to k w x st f (inl e) told h =
        reads_two from st.0 to k w x told (ap (value_as scalars.UnsignedLongLong) e ∙ ap Some (same_number types.UnsignedLongLong k (λ e. cc) f)) (st.1).next st.2 h
    number_reads (Some types.UnsignedLongLong) from to k w x st f (inr e) told h =
        reads_two from st.0 to k w x told (ap (value_as scalars.UnsignedLongLong) e.1 ∙ ap Some (same_wrapped k f e.0)) (st.1).next st.2 h
    number_reads (Some type) from to k w x st f (inl e) told h = reads_one from to (number k) w x told e st.next h
    number_reads (Some type) from to k w x st f (inr e) told h = absurd (below_half type k (λ e. cc) f e.0)

    -- what was loaded fits the type, or nothing is asked
    fitted_reads : (type : ObjectType) (from to : ℕ) (v : store.Value) (w x : Value) → StandsLoad image function type from to → Keeps v x → Told from w → Goes from w x
        → (b : Bool) → fits type v ≡ b → Reads from to w ((if b then giving v else undefined Mixed) s)
    unfolding giving ends Goes
    fitted_reads type from to v w x st kept told h false f = reads_mixed from to w s.trace
    fitted_reads (scalar t) from to (number k) w x st kept told h true f = number_reads (integer_of t) from to k w x st f kept told h
    fitted_reads (scalar t) from to (address a) w x st kept told h true f = absurd (cc)
    fitted_reads (scalar t) from to null w x st kept told h true f = absurd (cc)
    fitted_reads (scalar t) from to (store.function a) w x st kept told h true f = absurd kept
    fitted_reads (scalar t) from to (violation a) w x st kept told h true f = absurd kept
    fitted_reads (pointer t) from to (number k) w x st kept told h true f = absurd (cc)
    fitted_reads (pointer t) from to (address a) w x st kept told h true f = reads_one from to (address a) w x told kept st.next h
    fitted_reads (pointer t) from to null w x st kept told h true f = reads_one from to null w x told kept st.next h
    fitted_reads (pointer t) from to (store.function a) w x st kept told h true f = absurd kept
    fitted_reads (pointer t) from to (violation a) w x st kept told h true f = absurd kept
    fitted_reads (function_pointer t) from to v w x st kept told h true f = absurd st
    fitted_reads (class c) from to v w x st kept told h true f = absurd st

    first_load : (type : ObjectType) (from to : ℕ) → StandsLoad image function type from to → (mid : ℕ) × Has image function from does.Load mid
    first_load (scalar t) from to st = number_load (integer_of t) st
      where
        number_load : (t : Option IntegerType) → StandsNumberLoad image function t from to → (mid : ℕ) × Has image function from does.Load mid
        number_load None st = absurd st
        number_load (Some types.UnsignedLongLong) st = (st.0, st.1)
        number_load (Some type) st = (to, st)
    first_load (pointer t) from to st = (to, st)
    first_load (function_pointer t) from to st = absurd st
    first_load (class c) from to st = absurd st

    -- the load at a place on an address
    address_reads : (type : ObjectType) (from to : ℕ) (a : Address) → StandsLoad image function type from to → Told from (values.Address a.object a.leaf)
        → (r : Result store.Value Kind) (l : Loaded) → LoadsAs r l
        → image_step image (running_at m from (values.Address a.object a.leaf ∷ operands)) ≡ progress image (on_loaded l (λ x. next (running_at m from (values.Address a.object a.leaf ∷ operands)) (x ∷ operands)))
        → Reads from to (values.Address a.object a.leaf) (either (defined r) (fitting type) throws s)
    unfolding either giving ends throws Goes
    address_reads type from to a st told (Ok v) (gives.Value x) same h = fitted_reads type from to v (values.Address a.object a.leaf) x st same told h (fits type v) refl
    address_reads type from to a st told (Ok v) gives.Unset same h = absurd same
    address_reads type from to a st told (Ok v) gives.Dead same h = absurd same
    address_reads type from to a st told (Err kind) (gives.Value x) same h = absurd same
    address_reads type from to a st told (Err kind) gives.Unset same h = reads_ends from to to (values.Address a.object a.leaf) kind told (h ∙ ap (λ k. halts (Undefined k) None) (sym same))
    address_reads type from to a st told (Err kind) gives.Dead same h = reads_ends from to to (values.Address a.object a.leaf) kind told (h ∙ ap (λ k. halts (Undefined k) None) (sym same))

    load_reads : (type : ObjectType) (from to : ℕ) (v : store.Value) (w : Value) → StandsLoad image function type from to → IsValue v w → Told from w → Reads from to w (read_as (Some type) v s)
    unfolding either giving ends throws current_store
    load_reads type from to (number k) w st is told = reads_mixed from to w s.trace
    load_reads type from to (store.function k) w st is told = absurd is
    load_reads type from to (violation k) w st is told = absurd is
    load_reads type from to null w st is told =
        let load = first_load type from to st in
        reads_ends from to to w Null told (ap (λ w. image_step image (running_at m from (w ∷ operands))) is ∙ at_place image function Fly s m from load.0 (values.Null ∷ operands) does.Load agrees load.1)
    load_reads type from to (address a) w st is told =
        let load = first_load type from to st in
        subst (λ w. Reads from to w (read_as (Some type) (address a) s)) (sym is)
        (address_reads type from to a st (subst (Told from) is told) (value_of (leaf_at s.store a)) (loaded m.store a.object a.leaf) (loads s m function a agrees)
        (at_place image function Fly s m from load.0 (values.Address a.object a.leaf ∷ operands) does.Load agrees load.1))

  pub read_follows : (conversion : Option ObjectType) (from to : ℕ) (operands : List Value) → StandsRead image function conversion from to → (v : store.Value) (w : Value) → IsValue v w
      → (n : ℕ) (s : source.State) (m : State) → Agrees function s m → s.begins ≡ begins_ahead (image_step image) n (running_at m from (w ∷ operands))
      → Follows (image_step image) n s (running_at m from (w ∷ operands)) (record { saves = 0; owes = 2; late = 2; hand = 0 }) (Gives function to operands s m) (Fly s m) (read_as conversion v s)
  read_follows None from to operands st v w is n s m a told =
      follows_gives (image_step image) n s (running_at m from (w ∷ operands)) _ (Gives function to operands s m) (Fly s m) v (omega arith)
      (record { machine = m; value = w; is_there = ap (λ p. running_at m p (w ∷ operands)) (sym st); same_value = is; agrees = a; kept = all_kept s m }) told
  read_follows (Some type) from to operands st v w is n s m a told = load_reads n s m operands a type from to v w st is told
