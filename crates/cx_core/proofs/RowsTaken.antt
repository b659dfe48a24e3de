-- The lists of evaluations that the meaning takes are the rows.
use Rattle.std.proofs.Common.{◌≡◌, refl, sym, ap, ◌∙◌, arith, ℕ, zero, suc, ◌+◌, ◌≤◌, Bool, true, false, ◌&&◌, ◌||◌, if◌then◌else◌, nat_eq, nat_lt, List, [], ◌∷◌, Option, Some, None, zero-add}
use Rattle.std.proofs.Math.Dec.{eqb-suc-zero, eqb-zero-suc, eqb-suc-suc}
use Rattle.std.proofs.Math.Nat.{suc-add}
use Rattle.std.proofs.Math.Bool.{and-false}
use Rattle.cx_core.specs.Event.{Evaluation, same_evaluation}
use Rattle.cx_core.specs.Block.{Owed, Continued, continued, once_less, behind, has_stood, total, count, has_numbers, stands_before, stands_before_each, has_order, is_owed, has_no_other, is_row, goes_on, is_taken, AreDistinct, AreWithin, TakenAreTheRows}

-- ---- booleans

true_is_not_false : true ≡ false → ⊥
true_is_not_false h = cc

or_false_left : (a b : Bool) → (a || b) ≡ false → a ≡ false
or_false_left true b h = h
or_false_left false b h = refl

or_false_right : (a b : Bool) → (a || b) ≡ false → b ≡ false
or_false_right true b h = absurd (true_is_not_false h)
or_false_right false b h = h

or_true : (a : Bool) → (a || true) ≡ true
or_true true = refl
or_true false = refl

parts_false : (a b n m f : Bool) → (n && (m && f)) ≡ false → ((a && n) && ((b && m) && f)) ≡ false
parts_false true true n m f h = h
parts_false true false n m f h = and-false n
parts_false false b n m f h = refl

late_false : (x b o f : Bool) → (f ≡ true → b ≡ false) → (x && ((b && o) && f)) ≡ false
late_false x b o true h = ap (λ c. x && ((c && o) && true)) (h refl) ∙ and-false x
late_false x b o false h = ap (λ c. x && c) (and-false (b && o)) ∙ and-false x

all_false : (n o f a : Bool) → (n && (o && f)) ≡ false → false ≡ (n && (o && (f && a)))
all_false true true f a h = sym (ap (λ b. b && a) h)
all_false true false f a h = refl
all_false false o f a h = refl

lt_true : (m n : ℕ) → suc m ≤ n → nat_lt m n ≡ true
lt_true m n h = grind (arith, h)

-- ---- an evaluation that isn't owed

branch_false : {A : Type 0} (b : Bool) (x y : A) → b ≡ false → (if b then x else y) ≡ y
branch_false b x y h = ap (λ c. if c then x else y) h

branch_true : {A : Type 0} (b : Bool) (x y : A) → b ≡ true → (if b then x else y) ≡ x
branch_true b x y h = ap (λ c. if c then x else y) h

numbers_other : (owed : List Owed) (e : Evaluation) (row : List Evaluation) → is_owed e owed ≡ false → has_numbers owed (e ∷ row) ≡ has_numbers owed row
numbers_other [] e row h = refl
numbers_other (o ∷ owed) e row h =
    ap (λ n. nat_eq n o.left && has_numbers owed (e ∷ row)) (branch_false _ (suc (count o.evaluation row)) (count o.evaluation row) (or_false_left _ _ h))
    ∙ ap (λ b. nat_eq (count o.evaluation row) o.left && b) (numbers_other owed e row (or_false_right _ _ h))

before_other : (a : Evaluation) (owed : List Owed) (e : Evaluation) (row : List Evaluation) → same_evaluation e a ≡ false → is_owed e owed ≡ false
    → stands_before_each a owed (e ∷ row) ≡ stands_before_each a owed row
before_other a [] e row p h = refl
before_other a (o ∷ owed) e row p h =
    ap (λ b. b && stands_before_each a owed (e ∷ row))
    (branch_false _ true (if same_evaluation e o.evaluation then false else stands_before a o.evaluation row) p
    ∙ branch_false _ false (stands_before a o.evaluation row) (or_false_left _ _ h))
    ∙ ap (λ b. stands_before a o.evaluation row && b) (before_other a owed e row p (or_false_right _ _ h))

order_other : (owed : List Owed) (e : Evaluation) (row : List Evaluation) → is_owed e owed ≡ false → has_order owed (e ∷ row) ≡ has_order owed row
order_other [] e row h = refl
order_other (o ∷ owed) e row h =
    ap (λ b. (has_stood o || b) && has_order owed (e ∷ row)) (before_other o.evaluation owed e row (or_false_left _ _ h) (or_false_right _ _ h))
    ∙ ap (λ b. (has_stood o || stands_before_each o.evaluation owed row) && b) (order_other owed e row (or_false_right _ _ h))

-- ---- the first of a list

before_first : (a : Evaluation) (owed : List Owed) (e : Evaluation) (row : List Evaluation) → same_evaluation e a ≡ true → stands_before_each a owed (e ∷ row) ≡ true
before_first a [] e row p = refl
before_first a (o ∷ owed) e row p =
    ap (λ b. b && stands_before_each a owed (e ∷ row)) (branch_true _ true (if same_evaluation e o.evaluation then false else stands_before a o.evaluation row) p)
    ∙ before_first a owed e row p

before_none_by : (b : Bool) (a : Evaluation) (o : Owed) (owed : List Owed) (e : Evaluation) (row : List Evaluation)
    → same_evaluation e o.evaluation ≡ b → same_evaluation e a ≡ false → (same_evaluation e o.evaluation || is_owed e owed) ≡ true
    → (is_owed e owed ≡ true → stands_before_each a owed (e ∷ row) ≡ false)
    → stands_before_each a (o ∷ owed) (e ∷ row) ≡ false
before_none_by true a o owed e row q p h ih =
    ap (λ b. b && stands_before_each a owed (e ∷ row))
    (branch_false _ true (if same_evaluation e o.evaluation then false else stands_before a o.evaluation row) p
    ∙ branch_true _ false (stands_before a o.evaluation row) q)
before_none_by false a o owed e row q p h ih =
    let k : is_owed e owed ≡ true = sym (ap (λ b. b || is_owed e owed) q) ∙ h in
    ap (λ b. stands_before a o.evaluation (e ∷ row) && b) (ih k) ∙ and-false (stands_before a o.evaluation (e ∷ row))

before_none : (a : Evaluation) (owed : List Owed) (e : Evaluation) (row : List Evaluation) → same_evaluation e a ≡ false → is_owed e owed ≡ true → stands_before_each a owed (e ∷ row) ≡ false
before_none a [] e row p h = absurd (true_is_not_false (sym h))
before_none a (o ∷ owed) e row p h =
    before_none_by (same_evaluation e o.evaluation) a o owed e row refl p h (λ k. before_none a owed e row p k)

-- ---- one evaluation of a row

-- what is owed then has the rest of the row as a row exactly where what was owed has the whole
record Steps (e : Evaluation) (owed rest : List Owed) (row : List Evaluation) : Type 0 where
  numbers : has_numbers owed (e ∷ row) ≡ has_numbers rest row
  order : has_order owed (e ∷ row) ≡ has_order rest row
  found : is_owed e owed ≡ true
  names : (x : Evaluation) → is_owed x rest ≡ is_owed x owed
  distinct : AreDistinct rest
  within : AreWithin rest

abbrev Stepped : Evaluation → List Owed → List Evaluation → Option Continued → Type 0
Stepped e owed row None = (has_numbers owed (e ∷ row) && (has_order owed (e ∷ row) && is_owed e owed)) ≡ false
Stepped e owed row (Some next) = Steps e owed next.1 row

module _ (e : Evaluation) (o : Owed) (owed : List Owed) (row : List Evaluation) (d : AreDistinct (o ∷ owed)) (w : AreWithin (o ∷ owed)) where
  -- it is the first of the list
  same_counted : same_evaluation e o.evaluation ≡ true → count o.evaluation (e ∷ row) ≡ suc (count o.evaluation row)
  same_counted t = branch_true _ (suc (count o.evaluation row)) (count o.evaluation row) t

  same_numbers : (left : ℕ) → o.left ≡ suc left → same_evaluation e o.evaluation ≡ true
      → has_numbers (o ∷ owed) (e ∷ row) ≡ has_numbers (record o { left = left } ∷ owed) row
  same_numbers left l t =
      ap (λ n. nat_eq n o.left && has_numbers owed (e ∷ row)) (same_counted t)
      ∙ ap (λ n. nat_eq (suc (count o.evaluation row)) n && has_numbers owed (e ∷ row)) l
      ∙ ap (λ b. b && has_numbers owed (e ∷ row)) (eqb-suc-suc (count o.evaluation row) left)
      ∙ ap (λ b. nat_eq (count o.evaluation row) left && b) (numbers_other owed e row (d.0 e t))

  same_stood : (left : ℕ) → o.left ≡ suc left → has_stood (record o { left = left }) ≡ true
  same_stood left l =
      let below : suc left ≤ o.times = omega (arith, l, w.0) in
      ap (λ b. b || nat_eq o.times 0) (lt_true left o.times below)

  same_order : (left : ℕ) → o.left ≡ suc left → same_evaluation e o.evaluation ≡ true
      → has_order (o ∷ owed) (e ∷ row) ≡ has_order (record o { left = left } ∷ owed) row
  same_order left l t =
      ap (λ b. (has_stood o || b) && has_order owed (e ∷ row)) (before_first o.evaluation owed e row t)
      ∙ ap (λ b. b && has_order owed (e ∷ row)) (or_true (has_stood o))
      ∙ order_other owed e row (d.0 e t)
      ∙ sym (ap (λ b. (b || stands_before_each o.evaluation owed row) && has_order owed row) (same_stood left l))

  step_same : (left : ℕ) → o.left ≡ left → same_evaluation e o.evaluation ≡ true → Stepped e (o ∷ owed) row (once_less left o owed)
  step_same zero l t =
      ap (λ b. (b && has_numbers owed (e ∷ row)) && (has_order (o ∷ owed) (e ∷ row) && is_owed e (o ∷ owed)))
      (ap (λ n. nat_eq n o.left) (same_counted t) ∙ ap (λ n. nat_eq (suc (count o.evaluation row)) n) l ∙ eqb-suc-zero (count o.evaluation row))
  step_same (suc left) l t = record {
    numbers = same_numbers left l t;
    order = same_order left l t;
    found = ap (λ b. b || is_owed e owed) t;
    names = λ x. refl;
    distinct = (d.0, d.1);
    within = (omega (arith, l, w.0), w.1);
  }

  -- it is another, and the first has stood
  other_counted : same_evaluation e o.evaluation ≡ false → count o.evaluation (e ∷ row) ≡ count o.evaluation row
  other_counted f = branch_false _ (suc (count o.evaluation row)) (count o.evaluation row) f

  step_behind : (x : Option Continued) → same_evaluation e o.evaluation ≡ false → has_stood o ≡ true → Stepped e owed row x → Stepped e (o ∷ owed) row (behind o x)
  step_behind None f s h =
      ap (λ b. has_numbers (o ∷ owed) (e ∷ row) && (has_order (o ∷ owed) (e ∷ row) && (b || is_owed e owed))) f
      ∙ parts_false (nat_eq (count o.evaluation (e ∷ row)) o.left) (has_stood o || stands_before_each o.evaluation owed (e ∷ row))
      (has_numbers owed (e ∷ row)) (has_order owed (e ∷ row)) (is_owed e owed) h
  step_behind (Some next) f s h = record {
    numbers = ap (λ n. nat_eq n o.left && has_numbers owed (e ∷ row)) (other_counted f) ∙ ap (λ b. nat_eq (count o.evaluation row) o.left && b) h.numbers;
    order = ap (λ b. (b || stands_before_each o.evaluation owed (e ∷ row)) && has_order owed (e ∷ row)) s
        ∙ h.order
        ∙ sym (ap (λ b. (b || stands_before_each o.evaluation next.1 row) && has_order next.1 row) s);
    found = ap (λ b. b || is_owed e owed) f ∙ h.found;
    names = λ x. ap (λ b. same_evaluation x o.evaluation || b) (h.names x);
    distinct = (λ x t. h.names x ∙ d.0 x t, h.distinct);
    within = (w.0, h.within);
  }

  step_other : (s : Bool) (x : Option Continued) → has_stood o ≡ s → same_evaluation e o.evaluation ≡ false → Stepped e owed row x
      → Stepped e (o ∷ owed) row (if s then behind o x else None)
  step_other true x s f h = step_behind x f s h
  step_other false x s f h =
      ap (λ b. has_numbers (o ∷ owed) (e ∷ row) && (((b || stands_before_each o.evaluation owed (e ∷ row)) && has_order owed (e ∷ row)) && (same_evaluation e o.evaluation || is_owed e owed))) s
      ∙ ap (λ b. has_numbers (o ∷ owed) (e ∷ row) && ((stands_before_each o.evaluation owed (e ∷ row) && has_order owed (e ∷ row)) && (b || is_owed e owed))) f
      ∙ late_false (has_numbers (o ∷ owed) (e ∷ row)) (stands_before_each o.evaluation owed (e ∷ row)) (has_order owed (e ∷ row)) (is_owed e owed)
      (λ k. before_none o.evaluation owed e row f k)

  step_cons : (b : Bool) (x : Option Continued) → same_evaluation e o.evaluation ≡ b → Stepped e owed row x
      → Stepped e (o ∷ owed) row (if b then once_less o.left o owed else (if has_stood o then behind o x else None))
  step_cons true x t h = step_same o.left refl t
  step_cons false x f h = step_other (has_stood o) x refl f h

step : (e : Evaluation) (owed : List Owed) (row : List Evaluation) → AreDistinct owed → AreWithin owed → Stepped e owed row (continued e owed)
step e [] row d w = refl
step e (o ∷ owed) row d w = step_cons e o owed row d w (same_evaluation e o.evaluation) (continued e owed) refl (step e owed row d.1 w.1)

-- ---- whole rows

order_of_none : (owed : List Owed) → has_order owed [] ≡ true
order_of_none [] = refl
order_of_none (o ∷ owed) =
    ap (λ b. (has_stood o || b) && has_order owed []) (each_before_none o.evaluation owed)
    ∙ ap (λ b. b && has_order owed []) (or_true (has_stood o))
    ∙ order_of_none owed
  where
    each_before_none : (a : Evaluation) (later : List Owed) → stands_before_each a later [] ≡ true
    each_before_none a [] = refl
    each_before_none a (p ∷ later) = each_before_none a later

no_more : (left rest : ℕ) → (nat_eq 0 left && nat_eq rest 0) ≡ nat_eq (left + rest) 0
no_more zero rest = ap (λ n. nat_eq n 0) (sym (zero-add rest))
no_more (suc left) rest = ap (λ b. b && nat_eq rest 0) (eqb-zero-suc left) ∙ sym (ap (λ n. nat_eq n 0) (suc-add left rest) ∙ eqb-suc-zero (left + rest))

numbers_of_none : (owed : List Owed) → has_numbers owed [] ≡ nat_eq (total owed) 0
numbers_of_none [] = refl
numbers_of_none (o ∷ owed) = ap (λ b. nat_eq 0 o.left && b) (numbers_of_none owed) ∙ no_more o.left (total owed)

and_true : (a : Bool) → (a && true) ≡ a
and_true true = refl
and_true false = refl

no_other_same : (row : List Evaluation) (owed rest : List Owed) → ((x : Evaluation) → is_owed x rest ≡ is_owed x owed) → has_no_other rest row ≡ has_no_other owed row
no_other_same [] owed rest h = refl
no_other_same (e ∷ row) owed rest h = ap (λ b. b && has_no_other rest row) (h e) ∙ ap (λ b. is_owed e owed && b) (no_other_same row owed rest h)

goes_on_as_a_row : (x : Option Continued) (e : Evaluation) (owed : List Owed) (row : List Evaluation)
    → ((rest : List Owed) → AreDistinct rest → AreWithin rest → is_taken rest row ≡ is_row rest row)
    → Stepped e owed row x → goes_on x (λ rest. is_taken rest row) ≡ is_row owed (e ∷ row)
goes_on_as_a_row None e owed row ih h = all_false (has_numbers owed (e ∷ row)) (has_order owed (e ∷ row)) (is_owed e owed) (has_no_other owed row) h
goes_on_as_a_row (Some next) e owed row ih h =
    ih next.1 h.distinct h.within
    ∙ sym (ap (λ b. b && (has_order owed (e ∷ row) && (is_owed e owed && has_no_other owed row))) h.numbers
    ∙ ap (λ b. has_numbers next.1 row && (b && (is_owed e owed && has_no_other owed row))) h.order
    ∙ ap (λ b. has_numbers next.1 row && (has_order next.1 row && (b && has_no_other owed row))) h.found
    ∙ ap (λ b. has_numbers next.1 row && (has_order next.1 row && b)) (sym (no_other_same row owed next.1 h.names)))

pub taken_are_the_rows : TakenAreTheRows
taken_are_the_rows [] owed d w =
    sym (ap (λ b. has_numbers owed [] && (b && true)) (order_of_none owed) ∙ and_true (has_numbers owed []) ∙ numbers_of_none owed)
taken_are_the_rows (e ∷ row) owed d w =
    goes_on_as_a_row (continued e owed) e owed row (λ rest dr wr. taken_are_the_rows row rest dr wr) (step e owed row d w)
