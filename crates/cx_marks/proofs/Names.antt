-- What one more token says of a name.
use Rattle.std.proofs.Common.{◌≡◌, ℕ, zero, suc, ◌+◌, ◌≤◌, ◌||◌, ◌&&◌, true, false, if◌then◌else◌, List, [], ◌∷◌, Some, None, slice_get, refl, sym, ap, ◌∙◌, arith, bytes_eq, nat_lt, subst}
use Rattle.std.specs.Prelude.{codes}
use Rattle.std.proofs.lemmas.Bool.{cond_both, false≢true}
use Rattle.std.proofs.lemmas.Grind.{common_steps}
use Rattle.cx_marks.specs.declared.spelled.Spelled.{Spelled}
use Rattle.cx_marks.specs.declared.scan.Known.{Known}
use Rattle.cx_marks.specs.Marks.{Tokens, declares_at, first_place, has_at, is_after_key, is_class_name, is_name, name_mark, number, some_below}
use Rattle.cx_marks.specs.Seen.{fixed, is_fixed, known, mark_by, noted}

-- a place that holds a name isn't before its first place
pub first_at_most : (ts : Tokens) (name : List ℕ) (i : ℕ) → has_at (is_name name) (slice_get ts i) ≡ true → first_place ts name ≤ i
unfolding first_place
first_at_most [] name i h = absurd (false≢true h)
first_at_most (t ∷ ts) name zero h = rw h (omega arith)
first_at_most (t ∷ ts) name (suc i) h = cond_both (is_name name t) 0 (suc (first_place ts name)) (λ n. n ≤ suc i) (λ e. omega arith) (λ e. let m = first_at_most ts name i h in omega arith)

-- the first place of a name holds it
pub first_holds : (ts : Tokens) (name : List ℕ) (i : ℕ) (t : Spelled) → slice_get ts i ≡ Some t → first_place ts name ≡ i → is_name name t ≡ true
unfolding first_place
first_holds [] name i t at first = absurd (cc)
first_holds (u ∷ ts) name zero t at first =
    let e : u ≡ t = cc in
    subst (λ x. is_name name x ≡ true) e
    (cond_both (is_name name u) 0 (suc (first_place ts name)) (λ n. n ≡ 0 → is_name name u ≡ true) (λ e n. e) (λ e n. absurd (omega arith)) first)
first_holds (u ∷ ts) name (suc i) t at first =
    first_holds ts name i t at
    (cond_both (is_name name u) 0 (suc (first_place ts name)) (λ n. n ≡ suc i → first_place ts name ≡ i) (λ e n. absurd (omega arith)) (λ e n. omega arith) first)

-- no place before the first one declares the name
pub none_before : (ts : Tokens) (name : List ℕ) (i : ℕ) → i ≤ first_place ts name → some_below i (declares_at ts name) ≡ false
unfolding some_below declares_at
none_before ts name zero h = refl
none_before ts name (suc i) h =
    let rest = none_before ts name i (omega arith) in
    elim (has_at (is_name name) (slice_get ts i)) as (λ b. has_at (is_name name) (slice_get ts i) ≡ b → ((is_after_key ts i && b) || some_below i (declares_at ts name)) ≡ false) [
      | true ↦ λ e. absurd (let m = first_at_most ts name i e in omega arith)
      | false ↦ λ e. grind (arith, common_steps, rest)
    ] refl

-- a token of another name says nothing of this one
pub keeps : (ts : Tokens) (i : ℕ) (t : Spelled) (name : List ℕ) → slice_get ts i ≡ Some t → is_name name t ≡ false → known ts (suc i) name ≡ known ts i name
unfolding known some_below declares_at
keeps ts i t name at other =
    let ne : first_place ts name ≡ i → ⊥ = λ e. false≢true (sym other ∙ first_holds ts name i t at e) in
    let here : declares_at ts name i ≡ false = rw (at, other) (grind (arith, common_steps)) in
    let before : nat_lt (first_place ts name) (suc i) ≡ nat_lt (first_place ts name) i = grind (arith, common_steps, ne) in
    rw (before, here) refl

fixed_number : (ts : Tokens) (name : List ℕ) → is_fixed name ≡ false → number ts name ≡ 3 + first_place ts name
unfolding number
fixed_number ts name h = grind (arith, common_steps, h)

-- before the first token
pub none_known : (ts : Tokens) (name : List ℕ) → known ts 0 name ≡ fixed name
unfolding known fixed number some_below
none_known ts name = grind (arith, common_steps)

-- what the token of a name says of it
pub told : (ts : Tokens) (i : ℕ) (name : List ℕ) → first_place ts name ≤ i → known ts (suc i) name ≡ Some (record { number = number ts name; is_class = is_class_name ts name i })
unfolding known
told ts i name first = let e : nat_lt (first_place ts name) (suc i) ≡ true = grind (arith, common_steps, first) in rw e (grind (arith, common_steps))

declares_here : (ts : Tokens) (i : ℕ) (name : List ℕ) → has_at (is_name name) (slice_get ts i) ≡ true → declares_at ts name i ≡ is_after_key ts i
unfolding declares_at
declares_here ts i name here = rw here (grind (arith, common_steps))

-- the test of `known` says that the name is new
is_new : (ts : Tokens) (i : ℕ) (name : List ℕ) → first_place ts name ≤ i → (is_fixed name || nat_lt (first_place ts name) i) ≡ false → (number ts name ≡ i + 3) × (i ≤ first_place ts name)
is_new ts i name first new =
    let fresh : is_fixed name ≡ false = grind (arith, common_steps, new) in
    let late : i ≤ first_place ts name = grind (arith, common_steps, new) in
    let e = fixed_number ts name fresh in
    (omega arith, late)

pub learns : (ts : Tokens) (i : ℕ) (name : List ℕ) → has_at (is_name name) (slice_get ts i) ≡ true → known ts (suc i) name ≡ Some (noted (known ts i name) i (is_after_key ts i))
unfolding known noted some_below
learns ts i name here =
    let first = first_at_most ts name i here in
    told ts i name first ∙ rw (declares_here ts i name here)
    (elim (is_fixed name || nat_lt (first_place ts name) i) as (λ b. (is_fixed name || nat_lt (first_place ts name) i) ≡ b → Some (record { number = number ts name; is_class = is_after_key ts i || some_below i (declares_at ts name) }) ≡ Some (noted (if b then Some (record { number = number ts name; is_class = some_below i (declares_at ts name) }) else None) i (is_after_key ts i))) [
      | true ↦ λ e. refl
      | false ↦ λ e. let n = is_new ts i name first e in rw (n.0, none_before ts name i n.1) (grind (arith, common_steps))
    ] refl)

pub told_mark : (ts : Tokens) (i : ℕ) (name : List ℕ) (k : Known) → has_at (is_name name) (slice_get ts i) ≡ true → bytes_eq name (codes "std") ≡ false → k ≡ noted (known ts i name) i (is_after_key ts i) → name_mark ts i name ≡ mark_by k
unfolding name_mark
told_mark ts i name k here other is =
    let first = first_at_most ts name i here in
    let e : Some k ≡ Some (record { number = number ts name; is_class = is_class_name ts name i }) = ap Some is ∙ (sym (learns ts i name here) ∙ told ts i name first) in
    let same : k ≡ record { number = number ts name; is_class = is_class_name ts name i } = cc in
    rw (other, same) refl
