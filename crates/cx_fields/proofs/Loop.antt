-- Reading values one after the other, as a loop does.
use Rattle.std.proofs.Common.{◌≡◌, ℕ, suc, ◌-◌, ◌+◌, ◌≤◌, ◌<◌, List, [], ◌∷◌, ◌++◌, Result, Ok, Err, refl, sym, ap, ◌∙◌, append_assoc, arith}
use Rattle.std.proofs.lemmas.List.{append-nil}
use Rattle.cx_fields.specs.declared.fault.BytesFault.{BytesFault}
use Rattle.cx_fields.specs.declared.fault.ReadFault.{ReadFault}
use Rattle.cx_fields.specs.declared.fault.ReadFault.TheVariants as faults
use Rattle.cx_fields.specs.Reading.{Unread, Reading, continued, give, Fails, each_at}

-- what was read before, and what is still read
abbrev pub with_front : {A : Type 0} → List A → Result (List A × Unread) BytesFault → Result (List A × Unread) BytesFault
with_front front read = continued read (λ others. give (front ++ others))

regroup : {A : Type 0} (front : List A) (x : A) (read : Result (List A × Unread) BytesFault) → with_front front (continued read (λ others. give (x ∷ others))) ≡ with_front (front ++ x ∷ []) read
regroup {A} front x (Ok y) = ap (λ (xs : List A). Ok (xs, y.1)) (simp append_assoc)
regroup front x (Err f) = refl

pub goes_on : {A : Type 0} (weight : A → ℕ) (item : ℕ → Reading A) (front : List A) (room count i : ℕ) (start : Unread) (x : A) (after : Unread) (total : Result (List A × Unread) BytesFault)
    → i < count → item room start ≡ Ok (x, after) → with_front front (each_at weight item room (count - i) start) ≡ total
    → with_front (front ++ x ∷ []) (each_at weight item (room - weight x) (count - (i + 1)) after) ≡ total
unfolding each_at
goes_on weight item front room count i start x after total lt h so_far =
    let k : count - i ≡ suc (count - (i + 1)) = omega arith in
    let one : with_front front (each_at weight item room (count - i) start) ≡ with_front (front ++ x ∷ []) (each_at weight item (room - weight x) (count - (i + 1)) after)
    = rw (k, h) (regroup front x (each_at weight item (room - weight x) (count - (i + 1)) after)) in
    sym one ∙ so_far

pub ends : {A : Type 0} (weight : A → ℕ) (item : ℕ → Reading A) (e : ReadFault) (front : List A) (room count i : ℕ) (start : Unread) (total : Result (List A × Unread) BytesFault)
    → i < count → Fails e (item room start) → with_front front (each_at weight item room (count - i) start) ≡ total → Fails e total
unfolding each_at
ends weight item faults.OutOfMemory front room count i start total lt h so_far = tt
ends weight item (faults.Bad f) front room count i start total lt h so_far =
    let k : count - i ≡ suc (count - (i + 1)) = omega arith in
    let one : with_front front (each_at weight item room (count - i) start) ≡ Err f = rw (k, h) refl in
    sym so_far ∙ one

pub is_done : {A : Type 0} (weight : A → ℕ) (item : ℕ → Reading A) (front : List A) (room count i : ℕ) (start : Unread) (total : Result (List A × Unread) BytesFault)
    → count ≤ i → with_front front (each_at weight item room (count - i) start) ≡ total → total ≡ Ok (front, start)
unfolding each_at
is_done {A} weight item front room count i start total le so_far =
    let k : count - i ≡ 0 = omega arith in
    let one : with_front front (each_at weight item room (count - i) start) ≡ Ok (front, start) = rw k (ap (λ (xs : List A). Ok (xs, start)) (append-nil front)) in
    sym so_far ∙ one
