-- How the counts of what is held or pending change with it.
use Rattle.std.proofs.Common.{◌≡◌, ℕ, zero, suc, ◌+◌, ◌-◌, ◌<◌, ◌==◌, Bool, true, false, ◌||◌, cond, List, [], ◌∷◌, Option, Some, None, is_some, if◌then◌else◌, count_by, refl, sym, ap, ◌∙◌, arith}
use Rattle.std.specs.List.{list_any, sum_by}
use Rattle.std.specs.Option.{unwrap_or}
use Rattle.std.proofs.lemmas.Bool.Decides.{nat_tests}
use Rattle.std.proofs.lemmas.List.Sums.{sum_by-cons}
use mathlib.Core.Path.{fun_ext}
use Rattle.cx_code.specs.State.{Exception, Frame}
use Rattle.cx_code.specs.Act.{is_same, is_pending, is_kept}
use Rattle.std.specs.Ordering.{nat_cmp, is_eq}
use Rattle.std.specs.BTreeMap.{get, Updates}
use Rattle.cx_machine.specs.declared.kept.Kept.{Kept}
use Rattle.cx_machine.specs.Kept.{times, times_kept, over_zero, counts_in, counts_due, changed, one_more, one_less, less}

read_over_zero : (n : ℕ) → unwrap_or (over_zero n) 0 ≡ n
read_over_zero zero = refl
read_over_zero (suc n) = refl

pub some_over_zero : (n : ℕ) → 0 < n → Some n ≡ over_zero n
some_over_zero zero lt = absurd (omega arith)
some_over_zero (suc n) lt = refl

-- ---- the map

same_test : (k q : ℕ) → is_eq (nat_cmp k q) ≡ (q == k)
same_test k q = grind (arith, nat_tests)

pub is_put : (old new : Kept) (number : ℕ) (now : Option ℕ) → Updates nat_cmp old.counts new.counts number now → counts_in new ≡ changed (counts_in old) number now
unfolding counts_in
is_put old new number now put = fun_ext (λ q. put.0 q ∙ ap (λ b. cond b now (get nat_cmp old.counts q)) (same_test number q))

-- ---- one more and one less, where g is f but for one more at k

more_at : (b : Bool) (f g : ℕ → ℕ) (k q : ℕ) → (q == k) ≡ b → g q ≡ cond b 1 0 + f q → (if b then Some (unwrap_or (over_zero (f k)) 0 + 1) else over_zero (f q)) ≡ over_zero (g q)
more_at true f g k q is e =
    let same : q ≡ k = grind (arith, nat_tests) in
    let sum : g q ≡ suc (f k) = omega (arith, e, ap f same) in
    let more : unwrap_or (over_zero (f k)) 0 + 1 ≡ suc (f k) = omega (arith, read_over_zero (f k)) in
    ap Some more ∙ ap over_zero (sym sum)
more_at false f g k q is e =
    let sum : f q ≡ g q = omega (arith, e) in
    ap over_zero sum

less_at : (b : Bool) (f g : ℕ → ℕ) (k q : ℕ) → (q == k) ≡ b → g q ≡ cond b 1 0 + f q → (if b then over_zero (unwrap_or (over_zero (g k)) 0 - 1) else over_zero (g q)) ≡ over_zero (f q)
less_at true f g k q is e =
    let same : q ≡ k = grind (arith, nat_tests) in
    let fewer : unwrap_or (over_zero (g k)) 0 - 1 ≡ f q = omega (arith, read_over_zero (g k), ap g same, e) in
    ap over_zero fewer
less_at false f g k q is e =
    let sum : g q ≡ f q = omega (arith, e) in
    ap over_zero sum

-- ---- one exception more

held_more : (held pending : List Exception) (below : List Frame) (exception : Exception) (q : ℕ) → times_kept (exception ∷ held) pending below q ≡ cond (q == exception.number) 1 0 + times_kept held pending below q
held_more held pending below exception q = omega (arith, sum_by-cons (λ (e : Exception). cond (q == e.number) 1 0) exception held)

pending_more : (held pending : List Exception) (below : List Frame) (exception : Exception) (q : ℕ) → times_kept held (exception ∷ pending) below q ≡ cond (q == exception.number) 1 0 + times_kept held pending below q
pending_more held pending below exception q = omega (arith, sum_by-cons (λ (e : Exception). cond (q == e.number) 1 0) exception pending)

pub held_once_more : (held pending : List Exception) (below : List Frame) (exception : Exception) → one_more (counts_due held pending below) exception.number ≡ counts_due (exception ∷ held) pending below
unfolding one_more counts_due
held_once_more held pending below exception =
    fun_ext (λ q. more_at (q == exception.number) (times_kept held pending below) (times_kept (exception ∷ held) pending below) exception.number q refl (held_more held pending below exception q))

pub pending_once_more : (held pending : List Exception) (below : List Frame) (exception : Exception) → one_more (counts_due held pending below) exception.number ≡ counts_due held (exception ∷ pending) below
unfolding one_more counts_due
pending_once_more held pending below exception =
    fun_ext (λ q. more_at (q == exception.number) (times_kept held pending below) (times_kept held (exception ∷ pending) below) exception.number q refl (pending_more held pending below exception q))

pub held_once_less : (held pending : List Exception) (below : List Frame) (exception : Exception) → one_less (counts_due (exception ∷ held) pending below) exception.number ≡ counts_due held pending below
unfolding one_less counts_due
held_once_less held pending below exception =
    fun_ext (λ q. less_at (q == exception.number) (times_kept held pending below) (times_kept (exception ∷ held) pending below) exception.number q refl (held_more held pending below exception q))

pub pending_once_less : (held pending : List Exception) (below : List Frame) (exception : Exception) → one_less (counts_due held (exception ∷ pending) below) exception.number ≡ counts_due held pending below
unfolding one_less counts_due
pending_once_less held pending below exception =
    fun_ext (λ q. less_at (q == exception.number) (times_kept held pending below) (times_kept held (exception ∷ pending) below) exception.number q refl (pending_more held pending below exception q))

-- ---- the frames

pub nothing_due : (counts : ℕ → Option ℕ) → ((q : ℕ) → counts q ≡ None) → counts ≡ counts_due [] [] []
unfolding counts_due
nothing_due counts none = fun_ext none

-- a frame that is called has none pending
pub due_after_call : (held : List Exception) (frame : Frame) (below : List Frame) → counts_due held [] (frame ∷ below) ≡ counts_due held frame.pending below
unfolding counts_due
due_after_call held frame below =
    fun_ext (λ q.
    let sum : times_kept held [] (frame ∷ below) q ≡ times_kept held frame.pending below q = omega (arith, sum_by-cons (λ (f : Frame). times q f.pending) frame below) in
    ap over_zero sum)

due_without_pending : (held pending : List Exception) (below : List Frame) → less (counts_due held pending below) pending ≡ counts_due held [] below
due_without_pending held [] below = refl
due_without_pending held (exception ∷ pending) below = ap (λ (counts : ℕ → Option ℕ). less counts pending) (pending_once_less held pending below exception) ∙ due_without_pending held pending below

-- a frame is left for the one below it, and what was pending there is pending no more
pub told_after_leaving : (kept now : Kept) (held pending : List Exception) (caller : Frame) (below all : List Frame) → counts_in now ≡ less (counts_in kept) pending → all ≡ caller ∷ below → counts_in kept ≡ counts_due held pending all
    → counts_in now ≡ counts_due held caller.pending below
told_after_leaving kept now held pending caller below all dropped is told =
    let before = told ∙ ap (counts_due held pending) is in
    dropped ∙ ap (λ counts. less counts pending) before ∙ due_without_pending held pending (caller ∷ below) ∙ due_after_call held caller below

-- ---- what is still held or pending

some_of_sum : (m n : ℕ) → is_some (over_zero (m + n)) ≡ (is_some (over_zero m) || is_some (over_zero n))
some_of_sum zero n =
    let e : zero + n ≡ n = omega arith in
    ap (λ k. is_some (over_zero k)) e
some_of_sum (suc m) n =
    let e : suc m + n ≡ suc (m + n) = omega arith in
    ap (λ k. is_some (over_zero k)) e

some_of_one : (b : Bool) → is_some (over_zero (cond b 1 0)) ≡ b
some_of_one true = refl
some_of_one false = refl

either : {a b c d : Bool} → a ≡ b → c ≡ d → (a || c) ≡ (b || d)
either {b = b} {c = c} e f = ap (λ x. x || c) e ∙ ap (λ x. b || x) f

some_counted : {X : Type 0} (test : X → Bool) (xs : List X) → is_some (over_zero (count_by test xs)) ≡ list_any test xs
some_counted test [] = refl
some_counted {X} test (x ∷ xs) =
    ap (λ n. is_some (over_zero n)) (sum_by-cons (λ (y : X). cond (test y) 1 0) x xs) ∙ some_of_sum (cond (test x) 1 0) (count_by test xs) ∙ either (some_of_one (test x)) (some_counted test xs)

some_pending : (exception : Exception) (frames : List Frame) → is_some (over_zero (sum_by (λ (frame : Frame). times exception.number frame.pending) frames)) ≡ list_any (is_pending exception) frames
some_pending exception [] = refl
some_pending exception (frame ∷ frames) =
    ap (λ n. is_some (over_zero n)) (sum_by-cons (λ (f : Frame). times exception.number f.pending) frame frames)
    ∙ some_of_sum (times exception.number frame.pending) (sum_by (λ (f : Frame). times exception.number f.pending) frames)
    ∙ either (some_counted (is_same exception) frame.pending) (some_pending exception frames)

one_of_three : (a b c : Bool) → ((a || b) || c) ≡ (if a then true else (b || c))
one_of_three true b c = refl
one_of_three false b c = refl

pub still_kept : (exception : Exception) (held : List Exception) (frame : Frame) (below : List Frame) → is_some (counts_due held frame.pending below exception.number) ≡ is_kept exception held (frame ∷ below)
unfolding counts_due
still_kept exception held frame below =
    let in_held = times exception.number held in
    let in_last = times exception.number frame.pending in
    some_of_sum (in_held + in_last) (sum_by (λ (f : Frame). times exception.number f.pending) below)
    ∙ either (some_of_sum in_held in_last ∙ either (some_counted (is_same exception) held) (some_counted (is_same exception) frame.pending)) (some_pending exception below)
    ∙ one_of_three (list_any (is_same exception) held) (list_any (is_same exception) frame.pending) (list_any (is_pending exception) below)
