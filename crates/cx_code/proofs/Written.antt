-- The leaves of one object are written.
use Rattle.std.proofs.Common.{◌≡◌, ◌≢◌, ℕ, zero, suc, ◌-◌, ◌<◌, ◌≤◌, ◌==◌, Bool, true, false, List, [], ◌∷◌, length, set, Option, Some, None, slice_get, if◌then◌else◌, refl, sym, ap, ◌∙◌, arith}
use Rattle.std.specs.Option.{option_map, option_and_then}
use Rattle.std.specs.Global.{Vec}
use Rattle.std.proofs.lemmas.Bool.Decides.{nat_tests}
use mathlib.Core.Path.{fun_ext}
use Rattle.cx_code.specs.declared.run.Value.{Value}
use Rattle.cx_code.specs.Blocks.{leaves_at}
use Rattle.cx_code.specs.Store.{Store, Leaves, changed, put_leaf, stored_leaf, written_leaf}

equal_suc : (i j : ℕ) → (j == i) ≡ (suc j == suc i)
equal_suc i j = grind (arith, nat_tests)

slice_get_set : {X : Type 0} (xs : List X) (i j : ℕ) (y : X) → i < length xs → slice_get (set xs i y) j ≡ (if j == i then Some y else slice_get xs j)
slice_get_set [] i j y lt = absurd (omega arith)
slice_get_set (x ∷ xs) zero zero y lt = refl
slice_get_set (x ∷ xs) zero (suc j) y lt =
    let differs : (suc j == 0) ≡ false = grind (arith, nat_tests) in
    rw differs refl
slice_get_set (x ∷ xs) (suc i) zero y lt =
    let differs : (0 == suc i) ≡ false = grind (arith, nat_tests) in
    rw differs refl
slice_get_set {X} (x ∷ xs) (suc i) (suc j) y lt =
    slice_get_set xs i j y (omega arith) ∙ ap (λ (b : Bool). if b then Some y else slice_get xs j) (equal_suc i j)

abbrev leaves_in : Option (Option (Vec (Option Value))) → Option Leaves
leaves_in object = option_and_then (option_map (λ block. block.items)) object

apart : (b : Bool) (block : Vec (Option Value)) (other : Option (Option (Vec (Option Value)))) → leaves_in (if b then Some (Some block) else other) ≡ (if b then Some block.items else leaves_in other)
apart true block other = refl
apart false block other = refl

same_test : (number m : ℕ) → number ≢ 0 → m ≢ 0 → ((m - 1) == (number - 1)) ≡ (m == number)
same_test number m some other = grind (arith, nat_tests)

written_apart : (zeroth here : Bool) (block : Vec (Option Value)) (objects after : List (Option (Vec (Option Value)))) (m : ℕ) → (zeroth ≡ true → here ≡ false)
    → (zeroth ≡ false → leaves_in (slice_get after (m - 1)) ≡ (if here then Some block.items else leaves_in (slice_get objects (m - 1))))
    → (if zeroth then None else leaves_in (slice_get after (m - 1))) ≡ (if here then Some block.items else (if zeroth then None else leaves_in (slice_get objects (m - 1))))
written_apart true here block objects after m never others = rw (never refl) refl
written_apart false here block objects after m never others = others refl

-- another number has the leaves that it had
written_at : (objects : List (Option (Vec (Option Value)))) (number m : ℕ) (block : Vec (Option Value)) → number ≢ 0 → number ≤ length objects
    → leaves_at (set objects (number - 1) (Some block)) m ≡ changed (leaves_at objects) number (Some block.items) m
written_at objects number m block some within =
    written_apart (m == 0) (m == number) block objects (set objects (number - 1) (Some block)) m (λ none. grind (arith, nat_tests))
    (λ (other : (m == 0) ≡ false).
    let more : m ≢ 0 = grind (arith, nat_tests) in
    ap leaves_in (slice_get_set objects (number - 1) (m - 1) (Some block) (omega arith)) ∙ apart ((m - 1) == (number - 1)) block (slice_get objects (m - 1))
    ∙ ap (λ (b : Bool). if b then Some block.items else leaves_in (slice_get objects (m - 1))) (same_test number m some more))

done_or_not : (store new : Store) (number : ℕ) (leaves : Leaves) (done : Bool) → changed store.leaves number (Some leaves) ≡ new.leaves → new.next ≡ store.next
    → written_leaf store number (if done then Some leaves else None) ≡ (if done then Some new else None)
done_or_not store new number leaves true is next = rw (is, ← next) refl
done_or_not store new number leaves false is next = refl

-- a live object's leaves are those of its block
pub leaves_here : (objects : List (Option (Vec (Option Value)))) (number : ℕ) (object : Option (Vec (Option Value))) → number ≢ 0 → slice_get objects (number - 1) ≡ Some object
    → leaves_at objects number ≡ option_map (λ (block : Vec (Option Value)). block.items) object
leaves_here objects number object some found =
    let zero_not : (number == 0) ≡ false = grind (arith, nat_tests) in
    rw (zero_not, found) refl

-- a leaf of a live object is written
pub stored_there : (store new : Store) (objects : List (Option (Vec (Option Value)))) (number leaf : ℕ) (value : Option Value) (old block : Vec (Option Value)) (done : Bool)
    → store.leaves ≡ leaves_at objects → number ≢ 0 → number ≤ length objects → slice_get objects (number - 1) ≡ Some (Some old)
    → put_leaf (Some old.items) leaf value ≡ (if done then Some block.items else None)
    → new.leaves ≡ leaves_at (set objects (number - 1) (Some block)) → new.next ≡ store.next
    → stored_leaf store number leaf value ≡ (if done then Some new else None)
stored_there store new objects number leaf value old block done is some within found put after next =
    let here : store.leaves number ≡ Some old.items = ap (λ (l : ℕ → Option Leaves). l number) is ∙ leaves_here objects number (Some old) some found in
    let leaves : changed store.leaves number (Some block.items) ≡ new.leaves = ap (λ (l : ℕ → Option Leaves). changed l number (Some block.items)) is ∙ sym (fun_ext (λ m. written_at objects number m block some within)) ∙ sym after in
    ap (λ (l : Option Leaves). written_leaf store number (put_leaf l leaf value)) here ∙ ap (written_leaf store number) put ∙ done_or_not store new number block.items done leaves next

leaves_same : (b : Bool) (leaves : Leaves) (old : Option Leaves) → (b ≡ true → old ≡ Some leaves) → (if b then Some leaves else old) ≡ old
leaves_same true leaves old is = sym (is refl)
leaves_same false leaves old is = refl

-- the same leaves were written
pub stored_same : (objects : List (Option (Vec (Option Value)))) (number : ℕ) (old block : Vec (Option Value)) → number ≢ 0 → number ≤ length objects
    → slice_get objects (number - 1) ≡ Some (Some old) → block.items ≡ old.items → leaves_at (set objects (number - 1) (Some block)) ≡ leaves_at objects
stored_same objects number old block some within found same =
    fun_ext (λ m. written_at objects number m block some within
    ∙ leaves_same (m == number) block.items (leaves_at objects m) (λ (e : (m == number) ≡ true).
    let at : m ≡ number = grind (arith, nat_tests) in
    ap (leaves_at objects) at ∙ leaves_here objects number (Some old) some found ∙ ap Some (sym same)))
