-- The objects of globals.
use Rattle.std.proofs.Common.{◌≡◌, ℕ, suc, ◌+◌, ◌<◌, ◌≤◌, ◌==◌, Bool, true, false, List, [], ◌∷◌, length, drop, get_or, Option, Some, None, IfSome, if◌then◌else◌, refl, sym, ap, ◌∙◌, subst, arith, add-one, drop-cons}
use Rattle.std.proofs.Math.ListN.{drop_of_length-le}
use Rattle.std.proofs.lemmas.Bool.Decides.{nat_tests}
use mathlib.Core.Path.{fun_ext}
use Rattle.cx_code.specs.declared.image.GlobalEntry.{GlobalEntry}
use Rattle.cx_code.specs.declared.run.Value.{Value}
use Rattle.cx_code.specs.Store.{Store, Leaves, changed, nothing_made, made, made_of, stored}
use Rattle.cx_code.specs.State.{initial_value, with_globals}
use Rattle.cx_frame.specs.Stores.{IsSmall}

changed_again : (b : Bool) (x y z : Option Leaves) → (if b then x else (if b then y else z)) ≡ (if b then x else z)
changed_again true x y z = refl
changed_again false x y z = refl

written : (old : Store) (v : Value) → stored (made old 1) old.next 0 v ≡ Some (made_of old (Some v ∷ []))
written old v =
    let same : (old.next == old.next) ≡ true = grind (arith, nat_tests) in
    let leaves : changed (changed old.leaves old.next (Some (None ∷ []))) old.next (Some (Some v ∷ [])) ≡ changed old.leaves old.next (Some (Some v ∷ [])) =
    fun_ext (λ other. changed_again (other == old.next) (Some (Some v ∷ [])) (Some (None ∷ [])) (old.leaves other)) in
    rw same (ap (λ (l : ℕ → Option Leaves). Some (record { leaves = l; next = old.next + 1 })) leaves)

from_written : (new made_so : Store) (done : Bool) → Some made_so ≡ (if done then Some new else None) → new ≡ made_so
from_written new made_so true e = cc
from_written new made_so false e = absurd cc

pub made_full : (old mid new : Store) (number : ℕ) (v : Value) (done : Bool) → mid ≡ made old 1 → number ≡ old.next → stored mid number 0 v ≡ (if done then Some new else None) → new ≡ made_of old (Some v ∷ [])
made_full old mid new number v done is at e =
    from_written new (made_of old (Some v ∷ [])) done (sym (written old v) ∙ sym (ap (λ (s : Store). stored s old.next 0 v) is) ∙ sym (ap (λ n. stored mid n 0 v) at) ∙ e)

small_changed : (b : Bool) (leaves : Leaves) (old : Option Leaves) → length leaves ≤ 256 → IfSome old (λ (l : Leaves). length l ≤ 256) → IfSome (if b then Some leaves else old) (λ (l : Leaves). length l ≤ 256)
small_changed true leaves old short small = short
small_changed false leaves old short small = small

pub small_made : (old new : Store) (v : Value) → new ≡ made_of old (Some v ∷ []) → IsSmall old → IsSmall new
small_made old new v is small = subst IsSmall (sym is) (λ number. small_changed (number == old.next) (Some v ∷ []) (old.leaves number) (omega arith) (small number))

pub global_more : (old new : Store) (globals all : List GlobalEntry) (i : ℕ) (global : GlobalEntry) → i < length globals → global ≡ get_or globals i global
    → with_globals old (drop i globals) ≡ with_globals nothing_made all → new ≡ made_of old (Some (initial_value global.initial) ∷ [])
    → with_globals new (drop (i + 1) globals) ≡ with_globals nothing_made all
global_more old new globals all i global lt is so_far made_so =
    let next : drop i globals ≡ global ∷ drop (suc i) globals = drop-cons globals i global lt ∙ ap (λ g. g ∷ drop (suc i) globals) (sym is) in
    let step : with_globals (made_of old (Some (initial_value global.initial) ∷ [])) (drop (suc i) globals) ≡ with_globals nothing_made all = sym (ap (with_globals old) next) ∙ so_far in
    rw made_so (subst (λ k. with_globals (made_of old (Some (initial_value global.initial) ∷ [])) (drop k globals) ≡ with_globals nothing_made all) (sym (add-one i)) step)

pub globals_all : (store : Store) (globals all : List GlobalEntry) (i : ℕ) → length globals ≤ i → with_globals store (drop i globals) ≡ with_globals nothing_made all → store ≡ with_globals nothing_made all
globals_all store globals all i past so_far = sym (ap (with_globals store) (drop_of_length-le globals past)) ∙ so_far
