-- `&&`, `||` and `?:`, names and the library functions keep a state typed and give what their types say, given that their operands do.
use Rattle.std.proofs.Common.{◌≡◌, refl, sym, subst, arith, ℕ, ◌+◌, ◌<◌, ℤ, pos, negsuc, Bool, true, false, not, ◌&&◌, if◌then◌else◌, List, [], ◌∷◌, Option, Some, None}
use Rattle.std.specs.Prelude.{slice_get}
use Rattle.std.proofs.lemmas.List.Elements.{All-head, All-tail}
use Rattle.cx_core.specs.declared.number.IntegerType.{IntegerType}
use Rattle.cx_core.specs.declared.number.IntegerType.TheVariants as integers
use Rattle.cx_core.specs.declared.number.Query.{Query}
use Rattle.cx_core.specs.declared.number.Query.TheVariants as queries
use Rattle.cx_core.specs.Words.{Violation}
use Rattle.cx_core.specs.Number.{in_range}
use Rattle.cx_core.specs.Tree as tree
use Rattle.cx_core.specs.Tree.{ObjectType, Constant}
use Rattle.cx_core.specs.Program.{Program}
use Rattle.cx_core.specs.Store as store
use Rattle.cx_core.specs.Store.{Address, Value, number, address, null, function, violation}
use Rattle.cx_core.specs.Event.{out}
use Rattle.cx_core.specs.Runs.{AreBytes}
use Rattle.cx_core.specs.Outcome.{Exception, State, Does, nothing, ◌>>=◌, ◌>>◌, gives, some, current_frame, current_held, spend, spend_all}
use Rattle.cx_core.specs.Check.{truth}
use Rattle.cx_core.specs.Operators.{constant, named, truth_value, logical_operation, conditional_operation, number_of}
use Rattle.cx_core.specs.Library.{write_bytes, byte_of, putchar_call, getchar_call, next_byte, read_byte, puts_bytes, puts_call, told_number, query_units, violation_in, query_call, puts_comment_call}
use Rattle.cx_core.specs.Meaning.{held_object, object_place}
use Rattle.cx_soundness.specs.Types as types
use Rattle.cx_soundness.specs.Types.{LeafType, Signature, Declared, Given, numbers, refers, null_reference, functions, a_report, ResultName, no_name, unnamed, Context}
use Rattle.cx_soundness.specs.Given.{signature_at, type_at, same_signature, only, truths, then_given, given_if, leaf_types, functions_of, is_truth, constant_given, logical_given, joined, common, conditional_given, putchar_given, comment_given, told_given, query_given}
use Rattle.cx_soundness.specs.Expressions.{both_given, named_given, place_given}
use Rattle.cx_soundness.proofs.Same.{both_left, both_right, equal_signatures, of_common_left, of_common_right}
use Rattle.cx_soundness.proofs.Ranges.{of_type_alone, remainder_below, less_in_range}
use Rattle.cx_soundness.proofs.Worlds.{World, same_world, at_by, IsPlaced, IsReference, IsFunction, IsANumber, IsNull, IsGiven}
use Rattle.cx_soundness.proofs.Comes.{Always, Stays, StaysTo, then_stays, gives_stays, ends_stays, append_stays, spend_all_stays, Family}
use Rattle.cx_soundness.proofs.Comes as parts
use Rattle.cx_soundness.proofs.States.{Around, IsException, IsInnermost, Typed, AreHeld, of_objects, spending, IsFrame, frame_now, naming, result_named, held_now}
use Rattle.cx_soundness.proofs.Values.{IsGivenIf, null_refers}
use Rattle.cx_soundness.proofs.Operators.{Gives, then_keeps, gives_keeps, spends, truth_keeps, truth_is}
use Rattle.cx_soundness.proofs.Lives.{Keeps, Any}
use Rattle.cx_soundness.proofs.Operations.{Covers, full, Sound, one_gives}

module _ (declared : Declared) (program : Program) (context : Context) where
  abbrev Has : World → Given → Value → Type 0
  Has W v x = IsGiven declared W v x

  -- a part of which the type is known, in any state
  abbrev pub Plain : Option Given → Does Value → Type 0
  Plain v m = (around : Around) (W : World) → Gives declared W around context v m

  pub plain_sound : (v : Option Given) (m : Does Value) → ((around : Around) (W : World) → Covers context.caught around.innermost → Gives declared W around context v m) → Sound declared program context v m
  plain_sound None m h = tt {0}
  plain_sound (Some v) m h = λ living innermost c W. parts.stays_comes (IsException declared) W _ _ _ (λ V x. Has V v x) m (h (full declared program context living innermost) W c)

  -- ---- choices

  abbrev I : ℕ → Option ObjectType → Family
  I living innermost = Typed declared (full declared program context living innermost) context

  truth_comes : (u : Given) (m : Does Value) → is_truth u ≡ true → Sound declared program context (Some u) m → (living : ℕ) (innermost : Option ObjectType) → Covers context.caught innermost → (W : World)
      → Keeps declared (full declared program context living innermost) context W Any (m >>= truth)
  truth_comes u m e h living innermost c W =
      parts.then_comes (IsException declared) (I living innermost) (λ V x. Has V u x) (h living innermost c W)
      (λ V f x p. parts.stays_comes (IsException declared) V _ _ _ Any (truth x) (truth_keeps declared V (full declared program context living innermost) context u x e p))

  pub logical_sound : (decides : Bool) (a b : Option Given) (m n : Does Value) → Sound declared program context a m → Sound declared program context b n → Sound declared program context (both_given a b logical_given) (logical_operation decides m n)
  logical_sound decides None b m n h k = tt {0}
  logical_sound decides (Some u) None m n h k = tt {0}
  logical_sound decides (Some u) (Some v) m n h k = where_truths (is_truth u) (is_truth v) refl refl
    where
      where_truths : (a b : Bool) → is_truth u ≡ a → is_truth v ≡ b → Sound declared program context (given_if (a && b) (Some truths)) (logical_operation decides m n)
      where_truths false b e f = tt {0}
      where_truths true false e f = tt {0}
      where_truths true true e f = λ living innermost c W.
          parts.then_comes (IsException declared) (I living innermost) Any (truth_comes u m e h living innermost c W)
          (λ V _ x _. parts.first_comes (IsException declared) (I living innermost V) Always (spending declared V (full declared program context living innermost) context)
          (λ _ _. parts.if_comes (IsException declared) V (I living innermost V) (I living innermost) (I living innermost) (λ U y. Has U truths y) (if decides then x else not x) _ _
          (parts.gives_comes (IsException declared) V (I living innermost) (I living innermost) (λ U y. Has U truths y) (truth_value decides) (truth_is declared V (full declared program context living innermost) context decides))
          (parts.then_comes (IsException declared) (I living innermost) Any (truth_comes v n f k living innermost c V)
          (λ U _ y _. parts.gives_comes (IsException declared) U (I living innermost) (I living innermost) (λ X z. Has X truths z) (truth_value y) (truth_is declared U (full declared program context living innermost) context y)))))

  joined_left : (a b : Given) (W : World) (x : Value) → Has W a x → IsGivenIf declared W (joined a b) x
  joined_left (numbers left) (numbers right) W x h = both_fit left right x h
    where
      both_fit : (f g : IntegerType → Bool) (y : Value) → IsANumber declared f y → IsANumber declared (λ t. f t && g t) y
      both_fit f g (number n) p = λ t e. p t (both_left _ _ e)
      both_fit f g (address a) p = p
      both_fit f g null p = p
      both_fit f g (function k) p = p
      both_fit f g (violation r) p = p
  joined_left (numbers left) (refers ts) W x h = tt {0}
  joined_left (numbers left) null_reference W x h = tt {0}
  joined_left (numbers left) (functions s) W x h = tt {0}
  joined_left (numbers left) a_report W x h = tt {0}
  joined_left (refers ts) (refers us) W x h = refers_by ts (common ts us) W x (λ i t e. of_common_left ts us i t e) h
    where
      refers_by : (ts us : List LeafType) (W : World) (y : Value) → ((i : ℕ) (t : LeafType) → slice_get us i ≡ Some t → slice_get ts i ≡ Some t) → IsReference declared W ts y → IsReference declared W us y
      refers_by ts us W (address a) f p = at_by W a us ts f p
      refers_by ts us W null f p = p
      refers_by ts us W (number n) f p = p
      refers_by ts us W (function k) f p = p
      refers_by ts us W (violation r) f p = p
  joined_left (refers ts) null_reference W x h = h
  joined_left (refers ts) (numbers f) W x h = tt {0}
  joined_left (refers ts) (functions s) W x h = tt {0}
  joined_left (refers ts) a_report W x h = tt {0}
  joined_left null_reference (refers us) W x h = null_refers declared W us x h
  joined_left null_reference null_reference W x h = h
  joined_left null_reference (functions s) W x h = null_is_function x h
    where
      null_is_function : (y : Value) → IsNull declared y → IsFunction declared s y
      null_is_function null p = p
      null_is_function (address a) p = p
      null_is_function (number n) p = p
      null_is_function (function k) p = absurd p
      null_is_function (violation r) p = p
  joined_left null_reference (numbers f) W x h = tt {0}
  joined_left null_reference a_report W x h = tt {0}
  joined_left (functions s) (functions t) W x h = by_test (same_signature s t)
    where
      by_test : (b : Bool) → IsGivenIf declared W (given_if b (Some (functions s))) x
      by_test true = h
      by_test false = tt {0}
  joined_left (functions s) null_reference W x h = h
  joined_left (functions s) (numbers f) W x h = tt {0}
  joined_left (functions s) (refers us) W x h = tt {0}
  joined_left (functions s) a_report W x h = tt {0}
  joined_left a_report a_report W x h = h
  joined_left a_report (numbers f) W x h = tt {0}
  joined_left a_report (refers us) W x h = tt {0}
  joined_left a_report null_reference W x h = tt {0}
  joined_left a_report (functions s) W x h = tt {0}

  joined_right : (a b : Given) (W : World) (x : Value) → Has W b x → IsGivenIf declared W (joined a b) x
  joined_right (numbers left) (numbers right) W x h = both_fit left right x h
    where
      both_fit : (f g : IntegerType → Bool) (y : Value) → IsANumber declared g y → IsANumber declared (λ t. f t && g t) y
      both_fit f g (number n) p = λ t e. p t (both_right (f t) _ e)
      both_fit f g (address a) p = p
      both_fit f g null p = p
      both_fit f g (function k) p = p
      both_fit f g (violation r) p = p
  joined_right (numbers left) (refers ts) W x h = tt {0}
  joined_right (numbers left) null_reference W x h = tt {0}
  joined_right (numbers left) (functions s) W x h = tt {0}
  joined_right (numbers left) a_report W x h = tt {0}
  joined_right (refers ts) (refers us) W x h = refers_by us (common ts us) W x (λ i t e. of_common_right ts us i t e) h
    where
      refers_by : (ts us : List LeafType) (W : World) (y : Value) → ((i : ℕ) (t : LeafType) → slice_get us i ≡ Some t → slice_get ts i ≡ Some t) → IsReference declared W ts y → IsReference declared W us y
      refers_by ts us W (address a) f p = at_by W a us ts f p
      refers_by ts us W null f p = p
      refers_by ts us W (number n) f p = p
      refers_by ts us W (function k) f p = p
      refers_by ts us W (violation r) f p = p
  joined_right (refers ts) null_reference W x h = null_refers declared W ts x h
  joined_right (refers ts) (numbers f) W x h = tt {0}
  joined_right (refers ts) (functions s) W x h = tt {0}
  joined_right (refers ts) a_report W x h = tt {0}
  joined_right null_reference (refers us) W x h = h
  joined_right null_reference null_reference W x h = h
  joined_right null_reference (functions s) W x h = h
  joined_right null_reference (numbers f) W x h = tt {0}
  joined_right null_reference a_report W x h = tt {0}
  joined_right (functions s) (functions t) W x h = by_test (same_signature s t) refl
    where
      by_test : (b : Bool) → same_signature s t ≡ b → IsGivenIf declared W (given_if b (Some (functions s))) x
      by_test true e = subst (λ (r : Signature). IsFunction declared r x) (sym (equal_signatures s t e)) h
      by_test false e = tt {0}
  joined_right (functions s) null_reference W x h = null_is_function x h
    where
      null_is_function : (y : Value) → IsNull declared y → IsFunction declared s y
      null_is_function null p = p
      null_is_function (address a) p = p
      null_is_function (number n) p = p
      null_is_function (function k) p = absurd p
      null_is_function (violation r) p = p
  joined_right (functions s) (numbers f) W x h = tt {0}
  joined_right (functions s) (refers us) W x h = tt {0}
  joined_right (functions s) a_report W x h = tt {0}
  joined_right a_report a_report W x h = h
  joined_right a_report (numbers f) W x h = tt {0}
  joined_right a_report (refers us) W x h = tt {0}
  joined_right a_report null_reference W x h = tt {0}
  joined_right a_report (functions s) W x h = tt {0}

  -- what is of the one type is of the other
  less_sound : (v : Given) (r : Option Given) (m : Does Value) → ((W : World) (x : Value) → Has W v x → IsGivenIf declared W r x) → Sound declared program context (Some v) m → Sound declared program context r m
  less_sound v None m f h = tt {0}
  less_sound v (Some w) m f h = λ living innermost c W. parts.comes_less (IsException declared) W _ _ (I living innermost) (I living innermost) (I living innermost) (I living innermost) (λ V x. Has V v x) (λ V x. Has V w x) m (λ s i. i) (λ V t i. i) (λ V t i. i) f (h living innermost c W)

  chosen_sound : (u : Given) (r : Option Given) (l m n : Does Value) → is_truth u ≡ true → Sound declared program context (Some u) l → Sound declared program context r m → Sound declared program context r n → Sound declared program context r (conditional_operation l m n)
  chosen_sound u None l m n e h k j = tt {0}
  chosen_sound u (Some w) l m n e h k j = λ living innermost c W.
      parts.then_comes (IsException declared) (I living innermost) Any (truth_comes u l e h living innermost c W)
      (λ V _ x _. parts.first_comes (IsException declared) (I living innermost V) Always (spending declared V (full declared program context living innermost) context)
      (λ _ _. parts.if_comes (IsException declared) V (I living innermost V) (I living innermost) (I living innermost) (λ U y. Has U w y) x m n (k living innermost c V) (j living innermost c V)))

  pub conditional_sound : (d a b : Option Given) (l m n : Does Value) → Sound declared program context d l → Sound declared program context a m → Sound declared program context b n
      → Sound declared program context (then_given d (λ v. both_given a b (conditional_given v))) (conditional_operation l m n)
  conditional_sound None a b l m n h k j = tt {0}
  conditional_sound (Some u) None b l m n h k j = tt {0}
  conditional_sound (Some u) (Some a) None l m n h k j = tt {0}
  conditional_sound (Some u) (Some a) (Some b) l m n h k j = where_truth (is_truth u) refl
    where
      where_truth : (t : Bool) → is_truth u ≡ t → Sound declared program context (given_if t (joined a b)) (conditional_operation l m n)
      where_truth false e = tt {0}
      where_truth true e = chosen_sound u (joined a b) l m n e h (less_sound a (joined a b) m (joined_left a b) k) (less_sound b (joined a b) n (joined_right a b) j)

  -- ---- names

  spent_plain : (v : Option Given) (m : Does Value) (around : Around) (W : World) → Gives declared W around context v m → Gives declared W around context v (spend >> m)
  spent_plain None m around W h = tt {0}
  spent_plain (Some v) m around W h = then_keeps declared W around context Always (spends declared W around context) (λ _ _. h)

  constant_is : (c : Constant) (W : World) → Has W (constant_given c) (constant c)
  constant_is (tree.number n) W = λ t e. e
  constant_is tree.nullptr W = tt {0}

  pub literal_sound : (c : Constant) → Sound declared program context (Some (constant_given c)) (spend >> gives (constant c))
  literal_sound c = plain_sound (Some (constant_given c)) _
      (λ around W _. spent_plain (Some (constant_given c)) _ around W (gives_keeps declared W around context (λ x. Has W (constant_given c) x) (constant c) (constant_is c W)))

  pub variable_sound : (slot : ℕ) (v : Option Given) → slice_get context.slots slot ≡ v → Sound declared program context v (spend >> named slot)
  variable_sound slot None e = tt {0}
  variable_sound slot (Some v) e = plain_sound (Some v) _ (λ around W _. spent_plain (Some v) _ around W (naming declared W around context slot v e))

  pub global_sound : (i : ℕ) (type : Option ObjectType) → type_at declared.globals i ≡ type → Sound declared program context (place_given declared type) (spend >> gives (object_place (i + 1)))
  unfolding gives
  global_sound i None e = tt {0}
  global_sound i (Some type) e = λ living innermost c W.
      parts.first_comes (IsException declared) (I living innermost W) Always (spending declared W (full declared program context living innermost) context)
      (λ _ _. record { comes = λ s t. (W, same_world W, t.globals i type e, t) })

  pub function_sound : (f : ℕ) (signature : Option Signature) → signature_at declared.functions f ≡ signature → Sound declared program context (functions_of signature) (spend >> gives (store.function f))
  function_sound f None e = tt {0}
  function_sound f (Some signature) e = plain_sound (Some (functions signature)) _
      (λ around W _. spent_plain (Some (functions signature)) _ around W (gives_keeps declared W around context (λ x. Has W (functions signature) x) (function f) e))

  pub result_sound : (name : ResultName) → context.result ≡ name → Sound declared program context (named_given name) (spend >> current_frame >>= (λ frame. some frame.result))
  result_sound no_name e = tt {0}
  result_sound (unnamed v) e = tt {0}
  result_sound (types.named v) e = λ living innermost c W.
      let around = full declared program context living innermost in
      parts.stays_comes (IsException declared) W _ _ _ (λ V x. Has V v x) _
      (then_stays (I living innermost W) (IsFrame declared W context)
      (then_stays (I living innermost W) Always (spending declared W around context) (λ _ _. frame_now declared W around context))
      (λ frame h. result_named declared W around context v frame e h))

  held_object_is : (around : Around) (W : World) (type : ObjectType) (held : List Exception) → IsInnermost declared W (Some type) held → Gives declared W around context (Some (refers (leaf_types declared type))) (held_object held)
  held_object_is around W type [] h = absurd h
  held_object_is around W type (e ∷ held) h = gives_keeps declared W around context (λ x. Has W (refers (leaf_types declared type)) x) _ h

  pub exception_sound : (type : Option ObjectType) → context.caught ≡ type → Sound declared program context (place_given declared type) (current_held >>= held_object)
  exception_sound None e = tt {0}
  exception_sound (Some type) e = plain_sound (Some (refers (leaf_types declared type))) _
      (λ around W c. then_keeps declared W around context (AreHeld declared W around context) (held_now declared W around context)
      (λ held are. held_object_is around W type held (subst (λ i. IsInnermost declared W i held) (subst (λ k. Covers k around.innermost) e c) are.1)))

  -- ---- the library

  byte_in_int : (n : ℕ) → n < 256 → in_range integers.Int (pos n) ≡ true
  byte_in_int n h = less_in_range integers.Int 255 n (omega arith) refl

  byte_below : (n : ℤ) → byte_of n < 256
  byte_below n = remainder_below n 256 (omega arith)

  writing_keeps : (around : Around) (W : World) (bytes : List ℕ) → Stays (Typed declared around context W) (Typed declared around context W) Always (write_bytes bytes)
  writing_keeps around W [] = gives_stays _ Always nothing (tt {0})
  writing_keeps around W (b ∷ bytes) =
      then_stays (Typed declared around context W) Always
      (then_stays (Typed declared around context W) Always (spending declared W around context) (λ _ _. append_stays (Typed declared around context W) (of_objects declared W around context) (out b)))
      (λ _ _. writing_keeps around W bytes)

  put : (around : Around) (W : World) (fits : IntegerType → Bool) (x : Value) → Has W (numbers fits) x
      → Gives declared W around context (Some (only integers.Int)) (some (number_of x) >>= (λ n. spend >> (write_bytes (byte_of n ∷ []) >> gives (number (pos (byte_of n))))))
  put around W fits (number n) h =
      then_keeps declared W around context Always (gives_keeps declared W around context Always n (tt {0}))
      (λ m _. then_keeps declared W around context Always (spends declared W around context)
      (λ _ _. then_keeps declared W around context Always (writing_keeps around W (byte_of m ∷ []))
      (λ _ _. gives_keeps declared W around context (λ x. Has W (only integers.Int) x) _ (of_type_alone integers.Int (pos (byte_of m)) (byte_in_int (byte_of m) (byte_below m))))))
  put around W fits (address a) h = absurd h
  put around W fits null h = absurd h
  put around W fits (function f) h = absurd h
  put around W fits (violation v) h = absurd h

  putchar_takes : (u : Given) (around : Around) (W : World) (x : Value) → Has W u x
      → Gives declared W around context (putchar_given u) (some (number_of x) >>= (λ n. spend >> (write_bytes (byte_of n ∷ []) >> gives (number (pos (byte_of n))))))
  putchar_takes (numbers fits) around W x h = put around W fits x h
  putchar_takes (refers ts) around W x h = tt {0}
  putchar_takes null_reference around W x h = tt {0}
  putchar_takes (functions s) around W x h = tt {0}
  putchar_takes a_report around W x h = tt {0}

  pub putchar_sound : (v : Option Given) (m : Does Value) → Sound declared program context v m → Sound declared program context (then_given v putchar_given) (putchar_call m)
  putchar_sound v m h = one_gives declared program context v putchar_given m _ h (λ u around W x p. putchar_takes u around W x p)

  byte_read : (around : Around) (W : World) (bytes : List ℕ) (s : State) → AreBytes bytes → Typed declared around context W s → StaysTo (Typed declared around context W) (λ x. Has W (only integers.Int) x) (read_byte bytes s)
  byte_read around W [] s all i =
      (of_type_alone integers.Int (negsuc 0) refl, record { objects = i.objects; made = i.made; framed = i.framed; are_living = i.are_living; are_temporaries = i.are_temporaries; are_held = i.are_held; innermost = i.innermost; globals = i.globals; bytes = i.bytes })
  byte_read around W (b ∷ bytes) s all i = (
    of_type_alone integers.Int (pos b) (byte_in_int b (All-head (λ (k : ℕ). k < 256) b bytes all)),
    record { objects = i.objects; made = i.made; framed = i.framed; are_living = i.are_living; are_temporaries = i.are_temporaries; are_held = i.are_held; innermost = i.innermost; globals = i.globals; bytes = All-tail (λ (k : ℕ). k < 256) b bytes all },
  )

  pub getchar_sound : Sound declared program context (Some (only integers.Int)) getchar_call
  unfolding next_byte
  getchar_sound = plain_sound (Some (only integers.Int)) _
      (λ around W _. then_keeps declared W around context Always (spends declared W around context) (λ _ _. record { stays = λ s i. byte_read around W s.input s i.bytes i }))

  puts_keeps : (around : Around) (W : World) (text : List ℕ) → Gives declared W around context (Some (only integers.Int)) (puts_bytes text)
  puts_keeps around W text =
      then_keeps declared W around context Always (spends declared W around context)
      (λ _ _. then_keeps declared W around context Always (writing_keeps around W _)
      (λ _ _. gives_keeps declared W around context (λ x. Has W (only integers.Int) x) _ (of_type_alone integers.Int (pos 0) refl)))

  pub puts_sound : (text : List ℕ) → Sound declared program context (Some (only integers.Int)) (puts_call text)
  puts_sound text = plain_sound (Some (only integers.Int)) _ (λ around W _. spent_plain (Some (only integers.Int)) _ around W (puts_keeps around W text))

  spends_all : (around : Around) (W : World) (n : ℕ) → Stays (Typed declared around context W) (Typed declared around context W) Always (spend_all n)
  spends_all around W n = spend_all_stays (Typed declared around context W) (of_objects declared W around context) n

  told_is : (q : Query) (r : Violation) (W : World) → IsPlaced r → Has W (told_given q) (number (pos (told_number q r)))
  told_is queries.Line r W h = of_type_alone integers.Unsigned (pos r.line) h.line
  told_is queries.Column r W h = of_type_alone integers.Unsigned (pos r.column) h.column
  told_is queries.Kind r W h = λ t e. absurd cc
  told_is queries.Semantic r W h = λ t e. absurd cc
  told_is queries.DetectionMode r W h = λ t e. absurd cc

  asked : (q : Query) (around : Around) (W : World) (x : Value) → Has W a_report x → Gives declared W around context (Some (told_given q)) (some (violation_in x) >>= (λ v. spend_all (query_units q) >> gives (number (pos (told_number q v)))))
  asked q around W (violation r) h =
      then_keeps declared W around context (λ (v : Violation). IsPlaced v) (gives_keeps declared W around context (λ (v : Violation). IsPlaced v) r h)
      (λ v p. then_keeps declared W around context Always (spends_all around W (query_units q)) (λ _ _. gives_keeps declared W around context (λ x. Has W (told_given q) x) _ (told_is q v W p)))
  asked q around W (number n) h = absurd h
  asked q around W (address a) h = absurd h
  asked q around W null h = absurd h
  asked q around W (function f) h = absurd h

  query_takes : (q : Query) (u : Given) (around : Around) (W : World) (x : Value) → Has W u x → Gives declared W around context (query_given q u) (some (violation_in x) >>= (λ v. spend_all (query_units q) >> gives (number (pos (told_number q v)))))
  query_takes q a_report around W x h = asked q around W x h
  query_takes q (numbers fits) around W x h = tt {0}
  query_takes q (refers ts) around W x h = tt {0}
  query_takes q null_reference around W x h = tt {0}
  query_takes q (functions s) around W x h = tt {0}

  pub query_sound : (q : Query) (v : Option Given) (m : Does Value) → Sound declared program context v m → Sound declared program context (then_given v (query_given q)) (query_call q m)
  query_sound q v m h = one_gives declared program context v (query_given q) m _ h (λ u around W x p. query_takes q u around W x p)

  commented : (around : Around) (W : World) (x : Value) → Has W a_report x → Gives declared W around context (Some (only integers.Int)) (some (violation_in x) >>= (λ v. spend_all 2 >> puts_bytes v.comment))
  commented around W (violation r) h =
      then_keeps declared W around context Always (gives_keeps declared W around context Always r (tt {0}))
      (λ v p. then_keeps declared W around context Always (spends_all around W 2) (λ _ _. puts_keeps around W v.comment))
  commented around W (number n) h = absurd h
  commented around W (address a) h = absurd h
  commented around W null h = absurd h
  commented around W (function f) h = absurd h

  comment_takes : (u : Given) (around : Around) (W : World) (x : Value) → Has W u x → Gives declared W around context (comment_given u) (some (violation_in x) >>= (λ v. spend_all 2 >> puts_bytes v.comment))
  comment_takes a_report around W x h = commented around W x h
  comment_takes (numbers fits) around W x h = tt {0}
  comment_takes (refers ts) around W x h = tt {0}
  comment_takes null_reference around W x h = tt {0}
  comment_takes (functions s) around W x h = tt {0}

  pub comment_sound : (v : Option Given) (m : Does Value) → Sound declared program context v m → Sound declared program context (then_given v comment_given) (puts_comment_call m)
  comment_sound v m h = one_gives declared program context v comment_given m _ h (λ u around W x p. comment_takes u around W x p)
