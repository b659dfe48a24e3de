-- Where the program's two stacks stand is where the machine does.
use Rattle.std.proofs.Common.{◌≡◌, ◌≢◌, ℕ, zero, suc, ◌+◌, ◌<◌, ◌≤◌, List, [], ◌∷◌, ◌++◌, length, drop, take, Option, Some, None, get_or, slice_get, refl, sym, ◌∙◌, ap, subst, arith}
use Rattle.std.proofs.Math.Seq.{drop-length}
use Rattle.std.proofs.lemmas.List.{length-drop, length-take-le, take-append-drop}
use Rattle.std.proofs.lemmas.Option.{get_or_from_slice_get, slice_get_within}
use Rattle.cx_syntax.specs.declared.mark.Mark.{Mark}
use Rattle.cx_table.specs.declared.symbol.Symbol.{Symbol}
use Rattle.cx_table.specs.declared.symbol.Symbol.TheVariants.{Make}
use Rattle.cx_table.specs.declared.table.Advance.{Advance}
use Rattle.cx_table.specs.declared.table.Advance.TheVariants.{Stays}
use Rattle.cx_tree.specs.declared.tree.Settled.{Settled}
use Rattle.cx_tree.specs.declared.tree.Settled.TheVariants.{Ended}
use Rattle.cx_values.specs.declared.value.Value.{Value}
use Rattle.cx_parser.proofs.Ends.{Standing, standing, start_standing, the_place, the_tree}
use Rattle.cx_parser.proofs.Runs.{exec_add}
use Rattle.cx_parser.specs.Machine.{Config, config, exec, first_stack, front, next, start}
use Rattle.cx_syntax.specs.Place.{IsPlace, IsTree}
use Rattle.cx_syntax.specs.Spell.{Marks, Spots, numbered, spot}
use Rattle.cx_syntax.specs.Tree.{UnitTree}
use Rattle.cx_table.specs.Steps.{bare, bare_eats, bare_goes, bare_stays}
use Rattle.cx_tree.proofs.Next.{eats_none, next_eats, next_goes, next_stays}
use Rattle.cx_tree.proofs.Reduces.{reduces}
use Rattle.cx_tree.specs.Stacks.{Settles, Stands, Steps, Takes, TopMakes, TopReady}
use Rattle.cx_values.specs.Sorts.{Top, a_unit}
use Rattle.cx_values.specs.Values.{Values, mark_val, unit_val}
use Rattle.cx_values.specs.View.{values_of}

ready : (ts : Spots) (k : List Symbol) (vs : Values) (w : Spots) → Standing ts (config k vs w) → TopReady k vs
ready ts (Make a ∷ k) vs w h = reduces a vs h.2.2.0 h.2.2.1
ready ts _ vs w h = tt {0}

pub top_ready : (ts : Marks) (p : ℕ) (k : List Symbol) (vs : Values) → Stands ts p k vs → TopReady k vs
unfolding Stands
top_ready ts p k vs s = ready (numbered 0 ts) k vs (numbered p (drop p ts)) (subst (Standing (numbered 0 ts)) s.1 (standing s.0 (numbered 0 ts) (start (numbered 0 ts)) (start_standing (numbered 0 ts))))

-- the mark that comes next
front_drop : (ts : Marks) (p q : ℕ) → front (numbered q (drop p ts)) ≡ slice_get ts p
front_drop [] zero q = refl
front_drop [] (suc p) q = refl
front_drop (m ∷ ts) zero q = refl
front_drop (m ∷ ts) (suc p) q = front_drop ts p q

spots_at : (ts : Marks) (p q : ℕ) (m : Mark) → slice_get ts p ≡ Some m → numbered q (drop p ts) ≡ spot m q ∷ numbered (suc q) (drop (suc p) ts)
spots_at [] p q m h = cc
spots_at (x ∷ ts) zero q m h = cc
spots_at (x ∷ ts) (suc p) q m h = spots_at ts p q m h

looks : (ts : Marks) (p : ℕ) (o : Option Mark) → o ≡ slice_get ts p → o ≡ front (numbered p (drop p ts))
looks ts p o q = q ∙ sym (front_drop ts p p)

one_more : (ts : Spots) (n : ℕ) (c d : Config) → exec n (start ts) ≡ c → next c ≡ d → exec (n + 1) (start ts) ≡ d
one_more ts n c d h e = exec_add n 1 (start ts) ∙ (ap (exec 1) h ∙ e)

pub goes : (ts : Marks) (p : ℕ) (o : Option Mark) (k j : List Symbol) (vs us : Values) → Stands ts p k vs → o ≡ slice_get ts p → bare k o ≡ bare_goes j → TopMakes k vs us → Stands ts p j us
unfolding Stands
goes ts p o k j vs us s q h e =
    let w : Spots = numbered p (drop p ts) in
    (s.0 + 1, one_more (numbered 0 ts) s.0 (config k vs w) (config j us w) s.1 (next_goes k j vs us w (subst (λ x. bare k x ≡ bare_goes j) (looks ts p o q) h) e))

-- a step that takes the mark at the place
pub eats : (ts : Marks) (p : ℕ) (o : Option Mark) (k j : List Symbol) (vs us : Values) → Stands ts p k vs → o ≡ slice_get ts p → bare k o ≡ bare_eats j → TopMakes k vs us → Takes ts p j us
unfolding Stands Takes
eats ts p None k j vs us s q h e = absurd (eats_none k j h)
eats ts p (Some m) k j vs us s q h e =
    let w : Spots = numbered (suc p) (drop (suc p) ts) in
    let g : p + 1 ≡ suc p = omega arith in
    let a : exec s.0 (start (numbered 0 ts)) ≡ config k vs (spot m p ∷ w) = s.1 ∙ ap (config k vs) (spots_at ts p p m (sym q)) in
    let b : exec (s.0 + 1) (start (numbered 0 ts)) ≡ config j (mark_val m p ∷ us) w = one_more (numbered 0 ts) s.0 (config k vs (spot m p ∷ w)) (config j (mark_val m p ∷ us) w) a (next_eats k j (spot m p) vs us w h e) in
    (m, sym q, (s.0 + 1, b ∙ ap (λ x. config j (mark_val m p ∷ us) (numbered x (drop x ts))) (sym g)))

-- the machine stands still before the end
place_of : (ts u w : Marks) (p n : ℕ) (k : List Symbol) (vs : Values) → u ++ w ≡ ts → length u ≡ p → exec n (start (numbered 0 ts)) ≡ config k vs (numbered p w) → next (config k vs (numbered p w)) ≡ config k vs (numbered p w) → ((k ≡ []) → (w ≡ []) → ⊥) → IsPlace ts p
place_of ts u w p n k vs q l h i g =
    let a : exec n (start (numbered 0 (u ++ w))) ≡ config k vs (numbered (length u) w) = ap (λ x. exec n (start (numbered 0 x))) q ∙ (h ∙ ap (λ x. config k vs (numbered x w)) (sym l)) in
    let b : next (config k vs (numbered (length u) w)) ≡ config k vs (numbered (length u) w) = subst (λ x. next (config k vs (numbered x w)) ≡ config k vs (numbered x w)) (sym l) i in
    subst (λ x. IsPlace x p) q (subst (IsPlace (u ++ w)) l (the_place u w n k vs a b g))

place_at : (ts : Marks) (p : ℕ) (k : List Symbol) (vs : Values) → p ≤ length ts → Stands ts p k vs → next (config k vs (numbered p (drop p ts))) ≡ config k vs (numbered p (drop p ts)) → ((k ≡ []) → (drop p ts ≡ []) → ⊥) → IsPlace ts p
unfolding Stands
place_at ts p k vs l s i g = place_of ts (take p ts) (drop p ts) p s.0 k vs (take-append-drop p ts) (length-take-le p ts l) s.1 i g

stays_at : (ts : Marks) (p : ℕ) (o : Option Mark) (k : List Symbol) (vs : Values) → p ≤ length ts → Stands ts p k vs → o ≡ slice_get ts p → bare k o ≡ bare_stays → k ≢ [] → IsPlace ts p
stays_at ts p o k vs l s q h g = place_at ts p k vs l s (next_stays k vs (numbered p (drop p ts)) (subst (λ x. bare k x ≡ bare_stays) (looks ts p o q) h)) (λ x y. g x)

pub stuck : (ts : Marks) (p : ℕ) (o : Option Mark) (k j : List Symbol) (vs us : Values) (r : Option Advance) → r ≡ Some Stays → Steps r o k vs j us → p ≤ length ts → Stands ts p k vs → o ≡ slice_get ts p → IsPlace ts p
stuck ts p o k j vs us r e h l s q = let x : Steps (Some Stays) o k vs j us = subst (λ y. Steps y o k vs j us) e h in stays_at ts p o k vs l s q x.0 x.1

-- no symbol is left before the last mark
pub ended_early : (ts : Marks) (p : ℕ) (k : List Symbol) (vs : Values) (r : Settled) → r ≡ Ended → Settles r ts p k vs → p < length ts → IsPlace ts p
ended_early ts p k vs r e h l = let s : Stands ts p [] vs = subst (λ y. Settles y ts p k vs) e h in place_at ts p [] vs (omega arith) s refl (λ x y. let z = ap length y in absurd (omega (arith, z, length-drop p ts)))

-- the only value at the end
the_end : (ts : Marks) (vs : Values) → Stands ts (length ts) [] vs → (u : UnitTree) × (vs ≡ unit_val u ∷ []) × IsTree ts u
unfolding Stands
the_end ts vs s = the_tree ts s.0 vs (s.1 ∙ ap (λ x. config [] vs (numbered (length ts) x)) (drop-length ts))

pub top_unit : (ts : Marks) (vs : Values) → Stands ts (length ts) [] vs → Top a_unit vs
unfolding Top
top_unit ts vs s = let t = the_end ts vs s in subst (Top a_unit) (sym t.1) (tt {0})

pub the_unit : (ts : Marks) (k : List Symbol) (vs us : Values) (u : UnitTree) (r : Settled) → r ≡ Ended → Settles r ts (length ts) k vs → vs ≡ unit_val u ∷ us → IsTree ts u
the_unit ts k vs us u r e h q = let s : Stands ts (length ts) [] vs = subst (λ y. Settles y ts (length ts) k vs) e h in let t = the_end ts vs s in let g : t.0 ≡ u = cc in subst (IsTree ts) g t.2

-- the mark that was taken is put on the values
pub kept : (ts : Marks) (p : ℕ) (d : Mark) (k : List Symbol) (vs us : Values) → Takes ts p k vs → us ≡ mark_val (get_or ts p d) p ∷ vs → Stands ts (p + 1) k us
unfolding Takes
kept ts p d k vs us t q =
    let g : get_or ts p d ≡ t.0 = get_or_from_slice_get ts p t.0 d t.1 in
    subst (Stands ts (p + 1) k) (sym (q ∙ ap (λ x. mark_val x p ∷ vs) g)) t.2

-- no mark is taken at the end
pub none_left : (ts : Marks) (k : List Symbol) (vs : Values) → Takes ts (length ts) k vs → ⊥
unfolding Takes
none_left ts k vs t = let l = slice_get_within ts (length ts) t.0 t.1 in absurd (omega (arith, l))

-- the start
pub first : (ts : Marks) (k : List Symbol) (list : List Value) → k ≡ first_stack → list ≡ [] → Stands ts 0 k (values_of list)
unfolding Stands values_of
first ts k list q e = (0, ap (λ x. config x [] (numbered 0 ts)) (sym q) ∙ ap (λ x. config k (values_of x) (numbered 0 ts)) (sym e))
