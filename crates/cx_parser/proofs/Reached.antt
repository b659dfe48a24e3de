-- Where the stack stands after some marks, and what its end says of the list.
use Rattle.std.proofs.Common.{◌≡◌, ℕ, zero, suc, ◌+◌, ◌<◌, Bool, true, false, cond, List, [], ◌∷◌, ◌++◌, length, drop, Option, Some, None, refl, sym, ◌∙◌, ap, subst, arith, append_assoc, length-append, get_or, drop-cons, add-one}
use Rattle.cx_syntax.specs.declared.mark.Mark.{Mark}
use Rattle.cx_table.specs.declared.symbol.Kind.{Kind}
use Rattle.cx_table.specs.declared.symbol.Symbol.{Symbol}
use Rattle.cx_table.specs.declared.symbol.Symbol.TheVariants.{Expect, Make, Read}
use Rattle.cx_parser.specs.declared.recognizer.Settled.{Settled}
use Rattle.cx_parser.specs.declared.recognizer.Settled.TheVariants.{Ate, Ended, Stuck}
use Rattle.cx_parser.proofs.Ends.{Standing, standing, start_standing, the_place, the_tree}
use Rattle.cx_parser.proofs.Runs.{exec_add}
use Rattle.cx_parser.specs.Machine.{Config, ahead, config, eats, exec, first_stack, front, left_as, mark_at, moved, next, reduced, rest, start, stays, value_at}
use Rattle.cx_parser.specs.Reads.{At, Reads, ReadsEnd, Settles, Silent, Stands, bare_exec, gone}
use Rattle.cx_values.specs.Values.{Values}
use Rattle.cx_syntax.specs.Place.{Grammatical, IsPlace}
use Rattle.cx_syntax.specs.Spell.{Marks, Spot, Spots, numbered}
use Rattle.cx_table.specs.Moves.{Move, eat, halt, move, push}
use Rattle.cx_table.specs.Sorts.{fits}
use Rattle.cx_table.specs.Steps.{Bare, bare, bare_eats, bare_goes, bare_moved, bare_stays}

-- a step without the values is one with them
abbrev Agrees : Bare → List Symbol → Values → Spots → Config → Type 0
Agrees (bare_goes j) k vs w c = (us : Values) × (c ≡ config j us w)
Agrees (bare_eats j) k vs w c = (us : Values) × (c ≡ config j us (rest w))
Agrees bare_stays k vs w c = c ≡ config k vs w

agree_moved : (v : Move) (x : Symbol) (k : List Symbol) (vs : Values) (w : Spots) → Agrees (bare_moved v k (front w)) (x ∷ k) vs w (left_as (moved v k vs (ahead w)) (x ∷ k) vs w)
agree_moved (push b) x k vs w = (vs, refl)
agree_moved (eat b) x k vs [] = refl
agree_moved (eat b) x k vs (m ∷ w) = (value_at m ∷ vs, refl)
agree_moved halt x k vs w = refl

agree_token : (b : Bool) (t : Kind) (m : Spot) (k : List Symbol) (vs : Values) (w : Spots) → Agrees (cond b (bare_eats k) bare_stays) (Expect t ∷ k) vs (m ∷ w) (left_as (cond b (eats k (value_at m ∷ vs)) stays) (Expect t ∷ k) vs (m ∷ w))
agree_token true t m k vs w = (value_at m ∷ vs, refl)
agree_token false t m k vs w = refl

agree : (ts : Spots) (k : List Symbol) (vs : Values) (w : Spots) → Standing ts (config k vs w) → Agrees (bare k (front w)) k vs w (next (config k vs w))
agree ts [] vs w h = refl
agree ts (Expect t ∷ k) vs [] h = refl
agree ts (Expect t ∷ k) vs (m ∷ w) h = agree_token (fits t (mark_at m)) t m k vs w
agree ts (Make a ∷ k) vs w h = (h.2.2.0, ap (λ r. left_as (reduced r k) (Make a ∷ k) vs w) h.2.2.1)
agree ts (Read x ∷ k) vs w h = agree_moved (move x (front w)) (Read x) k vs w

at_next : (ts : Spots) (k : List Symbol) (w : Spots) (n : ℕ) (vs : Values) (c : Config) → exec n (start ts) ≡ config k vs w → next (config k vs w) ≡ c → exec (n + 1) (start ts) ≡ c
at_next ts k w n vs c h e = exec_add n 1 (start ts) ∙ (ap (exec 1) h ∙ e)

at_standing : (ts : Spots) (n : ℕ) (k : List Symbol) (vs : Values) (w : Spots) → exec n (start ts) ≡ config k vs w → Standing ts (config k vs w)
at_standing ts n k vs w h = subst (Standing ts) h (standing n ts (start ts) (start_standing ts))

-- how the next step of a machine agrees
agreed : (u w : Marks) (k : List Symbol) (b : Bare) (n : ℕ) (vs : Values) → exec n (start (numbered 0 (u ++ w))) ≡ config k vs (numbered (length u) w) → bare k (front (numbered (length u) w)) ≡ b → Agrees b k vs (numbered (length u) w) (next (config k vs (numbered (length u) w)))
agreed u w k b n vs e h = subst (λ b. Agrees b k vs (numbered (length u) w) (next (config k vs (numbered (length u) w)))) h (agree (numbered 0 (u ++ w)) k vs (numbered (length u) w) (at_standing (numbered 0 (u ++ w)) n k vs (numbered (length u) w) e))

at_goes : (u w : Marks) (k j : List Symbol) → At u w k → bare k (front (numbered (length u) w)) ≡ bare_goes j → At u w j
unfolding At
at_goes u w k j a h =
    let f = agreed u w k (bare_goes j) a.0 a.1 a.2 h in
    (a.0 + 1, f.0, at_next (numbered 0 (u ++ w)) k (numbered (length u) w) a.0 a.1 (config j f.0 (numbered (length u) w)) a.2 f.1)

at_eats : (u w : Marks) (m : Mark) (k j : List Symbol) → At u (m ∷ w) k → bare k (Some m) ≡ bare_eats j → At (u ++ (m ∷ [])) w j
unfolding At
at_eats u w m k j a h =
    let f = agreed u (m ∷ w) k (bare_eats j) a.0 a.1 a.2 h in
    let q : length (u ++ (m ∷ [])) ≡ suc (length u) = length-append u (m ∷ []) ∙ omega arith in
    let e = at_next (numbered 0 (u ++ (m ∷ w))) k (numbered (length u) (m ∷ w)) a.0 a.1 (config j f.0 (numbered (suc (length u)) w)) a.2 f.1 in
    (a.0 + 1, f.0, ap (λ x. exec (a.0 + 1) (start (numbered 0 x))) (append_assoc u (m ∷ []) w) ∙ (e ∙ ap (λ x. config j f.0 (numbered x w)) (sym q)))

at_gone : (u w : Marks) (k : List Symbol) (b : Bare) → bare k (front (numbered (length u) w)) ≡ b → At u w k → At u w (gone b k)
at_gone u w k (bare_goes j) e a = at_goes u w k j a e
at_gone u w k (bare_eats j) e a = a
at_gone u w k bare_stays e a = a

at_exec : (n : ℕ) (u w : Marks) (k : List Symbol) → At u w k → At u w (bare_exec n k (front (numbered (length u) w)))
unfolding bare_exec
at_exec zero u w k a = a
at_exec (suc n) u w k a = at_exec n u w (gone (bare k (front (numbered (length u) w))) k) (at_gone u w k (bare k (front (numbered (length u) w))) refl a)

at_silent : (u w : Marks) (k i : List Symbol) (o : Option Mark) → front (numbered (length u) w) ≡ o → At u w k → Silent k i o → At u w i
unfolding Silent
at_silent u w k i o q a z = subst (At u w) (ap (bare_exec z.0 k) q ∙ z.1) (at_exec z.0 u w k a)

at_stays : (u w : Marks) (k : List Symbol) → At u w k → bare k (front (numbered (length u) w)) ≡ bare_stays → ((k ≡ []) → (w ≡ []) → ⊥) → IsPlace (u ++ w) (length u)
unfolding At
at_stays u w k a h g = the_place u w a.0 k a.1 a.2 (agreed u w k bare_stays a.0 a.1 a.2 h) g

-- what the parser finds at a mark
abbrev Finds : Settled → Marks → Marks → Mark → List Symbol → Type 0
Finds Ate u w m j = At (u ++ (m ∷ [])) w j
Finds Ended u w m j = IsPlace (u ++ (m ∷ w)) (length u)
Finds Stuck u w m j = IsPlace (u ++ (m ∷ w)) (length u)

finds : (u w : Marks) (m : Mark) (k j : List Symbol) (r : Settled) → Settles r (Some m) k j → At u (m ∷ w) k → Finds r u w m j
finds u w m k j Ate z a = at_eats u w m z.0 j (at_silent u (m ∷ w) k z.0 (Some m) refl a z.1) z.2
finds u w m k j Ended z a = at_stays u (m ∷ w) [] (at_silent u (m ∷ w) k [] (Some m) refl a z) refl (λ x y. cc)
finds u w m k j Stuck z a = at_stays u (m ∷ w) z.0 (at_silent u (m ∷ w) k z.0 (Some m) refl a z.1) z.2 (λ x y. z.3 x)

drop_front : (u w : Marks) → drop (length u) (u ++ w) ≡ w
drop_front [] w = refl
drop_front (m ∷ u) w = drop_front u w

pub reads : (ts : Marks) (p : ℕ) (d : Mark) (k j : List Symbol) (r : Settled) → Settles r (Some (get_or ts p d)) k j → p < length ts → Stands ts p k → Reads r ts p j
unfolding Stands
reads ts p d k j r z l (u, w, q, n, a) = by r z
  where
    m : Mark
    m = get_or ts p d

    v : Marks
    v = drop (p + 1) ts

    e : w ≡ m ∷ v
    e = sym (drop_front u w) ∙ (ap (λ x. drop x (u ++ w)) n ∙ (ap (drop p) q ∙ (rw add-one (drop-cons ts p d l))))

    b : At u (m ∷ v) k
    b = subst (λ x. At u x k) e a

    whole_list : u ++ (m ∷ v) ≡ ts
    whole_list = ap (λ x. u ++ x) (sym e) ∙ q

    place : IsPlace (u ++ (m ∷ v)) (length u) → IsPlace ts p
    place x = subst (λ y. IsPlace y p) whole_list (subst (IsPlace (u ++ (m ∷ v))) n x)

    by : (r : Settled) → Settles r (Some m) k j → Reads r ts p j
    by Ate z = (u ++ (m ∷ []), v, append_assoc u (m ∷ []) v ∙ whole_list, length-append u (m ∷ []) ∙ omega (arith, n), finds u v m k j Ate z b)
    by Ended z = place (finds u v m k j Ended z b)
    by Stuck z = place (finds u v m k j Stuck z b)

no_mark : (k j : List Symbol) → Settles Ate None k j → ⊥
no_mark k j z = never z.0 j z.2
  where
    moved_none : (v : Move) (k j : List Symbol) → bare_moved v k None ≡ bare_eats j → ⊥
    moved_none (push b) k j h = cc
    moved_none (eat b) k j h = cc
    moved_none halt k j h = cc

    never : (k j : List Symbol) → bare k None ≡ bare_eats j → ⊥
    never [] j h = cc
    never (Expect t ∷ k) j h = cc
    never (Make a ∷ k) j h = cc
    never (Read x ∷ k) j h = moved_none (move x None) k j h

at_end : (u : Marks) → At u [] [] → Grammatical (u ++ [])
unfolding At
at_end u a = let t = the_tree (u ++ []) a.0 a.1 a.2 in (t.0, t.2.0, t.2.1)

-- nothing is left where as many marks are taken as the list has
nothing_left : (u w ts : Marks) → u ++ w ≡ ts → length u ≡ length ts → w ≡ []
nothing_left u [] ts q n = refl
nothing_left u (m ∷ w) ts q n = absurd (let e = ap length q in omega (arith, e, n, length-append u (m ∷ w)))

pub reads_end : (ts : Marks) (k j : List Symbol) (r : Settled) → Settles r None k j → Stands ts (length ts) k → ReadsEnd r ts
unfolding Stands
reads_end ts k j r z (u, w, q, n, a) = by r z
  where
    e : w ≡ []
    e = nothing_left u w ts q n

    b : At u [] k
    b = subst (λ x. At u x k) e a

    whole_list : u ++ [] ≡ ts
    whole_list = ap (λ x. u ++ x) (sym e) ∙ q

    by : (r : Settled) → Settles r None k j → ReadsEnd r ts
    by Ate z = absurd (no_mark k j z)
    by Ended z = subst Grammatical whole_list (at_end u (at_silent u [] k [] None refl b z))
    by Stuck z = subst (λ y. IsPlace y (length ts)) whole_list (subst (IsPlace (u ++ [])) n (at_stays u [] z.0 (at_silent u [] k z.0 None refl b z.1) z.2 (λ x y. z.3 x)))

at_start : (ts : Marks) → At [] ts first_stack
unfolding At
at_start ts = (0, [], refl)

pub at_first : (k : List Symbol) (ts : Marks) → k ≡ first_stack → Stands ts 0 k
unfolding Stands
at_first k ts q = ([], ts, refl, refl, subst (λ x. At [] ts x) (sym q) (at_start ts))
