-- Where the machine stands still, it has the tree or the place of the fault.
use Rattle.std.proofs.Common.{◌≡◌, ℕ, zero, suc, ◌+◌, ◌<◌, ◌≤◌, Bool, true, false, cond, List, [], ◌∷◌, ◌++◌, length, take, Option, Some, None, ◌-◌, refl, sym, ◌∙◌, ap, subst, arith, append_assoc, length-append}
use Rattle.cx_syntax.specs.declared.mark.Punct.{Punct}
use Rattle.cx_syntax.specs.declared.mark.Word.{Word}
use Rattle.cx_syntax.specs.declared.mark.Mark.{Mark}
use Rattle.cx_syntax.specs.declared.mark.Mark.TheVariants as M
use Rattle.cx_table.specs.declared.symbol.Kind.{Kind}
use Rattle.cx_table.specs.declared.symbol.Kind.TheVariants.{Sign, Keyword, AName, AClass, ANumber, TheContracts}
use Rattle.cx_table.specs.declared.symbol.Symbol.{Symbol}
use Rattle.cx_table.specs.declared.symbol.Symbol.TheVariants.{Expect, Make, Read}
use Rattle.cx_parser.proofs.Complete.{complete}
use Rattle.cx_parser.proofs.Items.{accepts}
use Rattle.cx_parser.proofs.Keeps.{kept}
use Rattle.cx_parser.proofs.Kept.{Kept}
use Rattle.cx_parser.proofs.Runs.{Takes, exec_add}
use Rattle.cx_parser.proofs.Same.{punct_same, word_same}
use Rattle.cx_parser.proofs.Typed.{Fn, Typed}
use Rattle.cx_parser.specs.Machine.{Config, Step, ahead, config, eats, exec, first_stack, front, goes, left_as, moved, next, seen, start, stays, step}
use Rattle.cx_values.specs.Values.{Values, mark_val, unit_val}
use Rattle.cx_syntax.specs.Place.{Begins, IsPlace, IsTree}
use Rattle.cx_syntax.specs.Shaped.{ShapedUnit, contracts_name, is_named}
use Rattle.cx_syntax.specs.Spell.{Marks, Spot, Spots, numbered, sign, spell, spot, word}
use Rattle.cx_syntax.specs.Tree.{UnitTree}
use Rattle.cx_table.specs.Moves.{Move, eat, halt, move, push}
use Rattle.cx_table.specs.Sorts.{fits}

-- what the stacks promise with the tokens `u` taken, and promised after the last of them
abbrev pub Promises : Spots → List Symbol → Values → Option Mark → Type 0
Promises u k vs o = (c : Fn) × ((z : Spots) → c z ≡ u ++ z) × Typed k o vs c × (j : List Symbol) × (us : Values) × ((o : Option Mark) → Typed j o us c)

-- what a step keeps
abbrev pub StepKeeps : Spots → Option Spot → Step → List Symbol → Values → Type 0
StepKeeps u o stays k vs = Unit {0}
StepKeeps u o (goes j us) k vs = Promises u j us (seen o)
StepKeeps u None (eats j us) k vs = ⊥
StepKeeps u (Some x) (eats j us) k vs = (o : Option Mark) → Promises (u ++ (x ∷ [])) j us o

taken : (u : Spots) (x : Spot) (c : Fn) → ((z : Spots) → c z ≡ u ++ z) → (z : Spots) → c (x ∷ z) ≡ (u ++ (x ∷ [])) ++ z
taken u x c h z = h (x ∷ z) ∙ sym (append_assoc u (x ∷ []) z)

new_base : (u : Spots) (x : Spot) (c : Fn) (k : List Symbol) (vs : Values) → ((z : Spots) → c z ≡ u ++ z) → ((o : Option Mark) → Typed k o vs (λ w. c (x ∷ w))) → (o : Option Mark) → Promises (u ++ (x ∷ [])) k vs o
new_base u x c k vs h t o = ((λ w. c (x ∷ w)), taken u x c h, t o, k, vs, t)

token_typed : (t : Kind) (k : List Symbol) (m : Mark) (i : ℕ) (vs : Values) (c : Fn) (o : Option Mark) → Typed (Expect t ∷ k) o vs c → fits t m ≡ true → (o : Option Mark) → Typed k o (mark_val m i ∷ vs) (λ w. c (spot m i ∷ w))
token_typed (Sign p) k (M.Punct q) i vs c o h f o1 = subst (λ x. Typed k o1 (mark_val (M.Punct x) i ∷ vs) (λ w. c (sign x i w))) (punct_same p q f) (h i o1)
token_typed (Sign p) k _ i vs c o h f o1 = absurd (cc)
token_typed (Keyword p) k (M.Word q) i vs c o h f o1 = subst (λ x. Typed k o1 (mark_val (M.Word x) i ∷ vs) (λ w. c (word x i w))) (word_same p q f) (h i o1)
token_typed (Keyword p) k _ i vs c o h f o1 = absurd (cc)
token_typed AName k (M.Name n) i vs c o h f o1 = h n i o1
token_typed AName k _ i vs c o h f o1 = absurd (cc)
token_typed AClass k (M.Class n) i vs c o h f o1 = h n i o1
token_typed AClass k _ i vs c o h f o1 = absurd (cc)
token_typed ANumber k M.Number i vs c o h f o1 = h i o1
token_typed ANumber k _ i vs c o h f o1 = absurd (cc)
token_typed TheContracts k m i vs c o h f o1 = h m i o1 (contracts_fits m f)
  where
    contracts_fits : (m : Mark) → fits TheContracts m ≡ true → is_named contracts_name m ≡ true
    contracts_fits (M.Name n) f = f
    contracts_fits (M.Class n) f = f
    contracts_fits _ f = absurd (cc)

step_keeps : (u : Spots) (o : Option Spot) (k : List Symbol) (vs : Values) → Promises u k vs (seen o) → StepKeeps u o (step k vs o) k vs
step_keeps u o [] vs h = tt {0}
step_keeps u None (Expect t ∷ k) vs h = tt {0}
step_keeps u (Some (spot m i)) (Expect t ∷ k) vs h = go (fits t m) refl
  where
    go : (b : Bool) → fits t m ≡ b → StepKeeps u (Some (spot m i)) (cond b (eats k (mark_val m i ∷ vs)) stays) (Expect t ∷ k) vs
    go true f = new_base u (spot m i) h.0 k (mark_val m i ∷ vs) h.1 (token_typed t k m i vs h.0 (Some m) h.2 f)
    go false f = tt {0}
step_keeps u o (Make a ∷ k) vs h = rw (h.2.1) (h.0, h.1, h.2.2, h.3, h.4, h.5)
step_keeps u o (Read x ∷ k) vs h = by (move x (seen o)) o (kept x k (seen o) vs h.0 h.2) h
  where
    by : (v : Move) (o : Option Spot) → Kept v k (seen o) vs h.0 → Promises u (Read x ∷ k) vs (seen o) → StepKeeps u o (moved v k vs o) (Read x ∷ k) vs
    by (push b) o g i = (h.0, h.1, g, h.3, h.4, h.5)
    by (eat b) (Some (spot m n)) g i = new_base u (spot m n) h.0 (b ++ k) (mark_val m n ∷ vs) h.1 (g n)
    by (eat b) None g i = tt {0}
    by halt o g i = tt {0}

-- a machine that has taken `u` of the list
abbrev pub Standing : Spots → Config → Type 0
Standing ts (config k vs w) = (u : Spots) × (u ++ w ≡ ts) × Promises u k vs (front w)

next_standing : (ts : Spots) (k : List Symbol) (vs : Values) (w : Spots) → Standing ts (config k vs w) → Standing ts (next (config k vs w))
next_standing ts k vs w h = by (step k vs (ahead w)) w h (step_keeps h.0 (ahead w) k vs h.2)
  where
    by : (t : Step) (w : Spots) (h : Standing ts (config k vs w)) → StepKeeps h.0 (ahead w) t k vs → Standing ts (left_as t k vs w)
    by stays w h g = h
    by (goes j us) w h g = (h.0, h.1, g)
    by (eats j us) (x ∷ w) h g = (h.0 ++ (x ∷ []), append_assoc h.0 (x ∷ []) w ∙ h.1, g (front w))
    by (eats j us) [] h g = absurd g

pub standing : (n : ℕ) (ts : Spots) (c : Config) → Standing ts c → Standing ts (exec n c)
standing zero ts c h = h
standing (suc n) ts (config k vs w) h = standing n ts (next (config k vs w)) (next_standing ts k vs w h)

start_typed : (o : Option Mark) → Typed first_stack o [] (λ w. w)
start_typed o = (_, refl, ((λ w. w), (λ w. refl), tt {0}, λ u o1 d sb f. (u, refl, sb, f)))

pub start_standing : (ts : Spots) → Standing ts (start ts)
start_standing ts = ([], refl, ((λ w. w), (λ z. refl), start_typed (front ts), first_stack, [], start_typed))

-- what stands is stuck for good
pub still : (n : ℕ) (c : Config) → next c ≡ c → exec n c ≡ c
still zero c h = refl
still (suc n) c h = ap (exec n) h ∙ still n c h

one_end : (c d e : Config) (n m : ℕ) → exec n c ≡ d → exec m c ≡ e → next d ≡ d → next e ≡ e → d ≡ e
one_end c d e n m h g i j =
    let a : exec (n + m) c ≡ d = exec_add n m c ∙ (ap (exec m) h ∙ still m d i) in
    let b : exec (m + n) c ≡ e = exec_add m n c ∙ (ap (exec n) g ∙ still n e j) in
    let q : n + m ≡ m + n = omega arith in
    sym a ∙ (ap (λ x. exec x c) q ∙ b)

abbrev left_of : Config → ℕ
left_of (config k vs w) = length w

next_left : (c : Config) → left_of (next c) ≤ left_of c
next_left (config k vs w) = by (step k vs (ahead w)) w
  where
    by : (t : Step) (w : Spots) → left_of (left_as t k vs w) ≤ length w
    by stays w = omega arith
    by (goes j us) w = omega arith
    by (eats j us) [] = omega arith
    by (eats j us) (x ∷ w) = omega arith

exec_left : (n : ℕ) (c : Config) → left_of (exec n c) ≤ left_of c
exec_left zero c = omega arith
exec_left (suc n) c = let a = exec_left n (next c) in let b = next_left c in omega (arith, a, b)

abbrev Alike : ℕ → Spot → Spots → Spots → List Symbol → Values → Type 0
Alike n x w z j us = (k : List Symbol) (vs : Values) (u : Spots) → exec n (config k vs (u ++ (x ∷ w))) ≡ config j us (x ∷ w) → exec n (config k vs (u ++ (x ∷ z))) ≡ config j us (x ∷ z)

alike_at : (n : ℕ) (x : Spot) (w z : Spots) (j : List Symbol) (us : Values) → Alike n x w z j us → (t : Step) (k : List Symbol) (vs : Values) → exec n (left_as t k vs (x ∷ w)) ≡ config j us (x ∷ w) → exec n (left_as t k vs (x ∷ z)) ≡ config j us (x ∷ z)
alike_at n x w z j us f stays k vs h = f k vs [] h
alike_at n x w z j us f (goes k1 v1) k vs h = f k1 v1 [] h
alike_at n x w z j us f (eats k1 v1) k vs h = let g = ap left_of h in let b = exec_left n (config k1 v1 w) in absurd (omega (arith, g, b))

alike_in : (n : ℕ) (x : Spot) (w z : Spots) (j : List Symbol) (us : Values) → Alike n x w z j us → (t : Step) (k : List Symbol) (vs : Values) (a : Spot) (u : Spots) → exec n (left_as t k vs (a ∷ (u ++ (x ∷ w)))) ≡ config j us (x ∷ w) → exec n (left_as t k vs (a ∷ (u ++ (x ∷ z)))) ≡ config j us (x ∷ z)
alike_in n x w z j us f stays k vs a u h = f k vs (a ∷ u) h
alike_in n x w z j us f (goes k1 v1) k vs a u h = f k1 v1 (a ∷ u) h
alike_in n x w z j us f (eats k1 v1) k vs a u h = f k1 v1 u h

-- what follows a token that isn't taken makes no difference
same_so_far : (n : ℕ) (x : Spot) (w z : Spots) (j : List Symbol) (us : Values) → Alike n x w z j us
same_so_far zero x w z j us k vs [] h = cc
same_so_far zero x w z j us k vs (a ∷ u) h = let g = ap left_of h in absurd (omega (arith, g, length-append u (x ∷ w)))
same_so_far (suc n) x w z j us k vs [] h = alike_at n x w z j us (same_so_far n x w z j us) (step k vs (Some x)) k vs h
same_so_far (suc n) x w z j us k vs (a ∷ u) h = alike_in n x w z j us (same_so_far n x w z j us) (step k vs (Some a)) k vs a u h

still_head : (k : List Symbol) (vs : Values) (x : Spot) (w y : Spots) → next (config k vs (x ∷ w)) ≡ config k vs (x ∷ w) → next (config k vs (x ∷ y)) ≡ config k vs (x ∷ y)
still_head k vs x w y h = by (step k vs (Some x)) h
  where
    by : (t : Step) → left_as t k vs (x ∷ w) ≡ config k vs (x ∷ w) → left_as t k vs (x ∷ y) ≡ config k vs (x ∷ y)
    by stays h = refl
    by (goes j us) h = cc
    by (eats j us) h = let g = ap left_of h in absurd (omega (arith, g))

-- a shaped unit that spells the list is where the machine stands
pub ended : (ts : Spots) (n : ℕ) (k : List Symbol) (vs : Values) (w : Spots) → exec n (start ts) ≡ config k vs w → next (config k vs w) ≡ config k vs w → (u : UnitTree) → ShapedUnit u → spell u ≡ ts → config k vs w ≡ config [] (unit_val u ∷ []) []
ended ts n k vs w h i u su q =
    let Q : Spots → Type 0 = λ x. Takes (start x) (config [] (unit_val u ∷ []) []) in
    let t : Takes (start ts) (config [] (unit_val u ∷ []) []) = subst Q q (accepts u su) in
    one_end (start ts) (config k vs w) (config [] (unit_val u ∷ []) []) n t.0 h t.1 i refl

-- the machine came to the end
pub the_tree : (ts : Marks) (n : ℕ) (vs : Values) → exec n (start (numbered 0 ts)) ≡ config [] vs [] → (u : UnitTree) × (vs ≡ unit_val u ∷ []) × IsTree ts u
the_tree ts n vs h = by (subst (Standing (numbered 0 ts)) h (standing n (numbered 0 ts) (start (numbered 0 ts)) (start_standing (numbered 0 ts))))
  where
    by : Standing (numbered 0 ts) (config [] vs []) → (u : UnitTree) × (vs ≡ unit_val u ∷ []) × IsTree ts u
    by (u, q, (c, e, (b, v, sb, f), j, us, g)) = (b, v, (sb, sym (f []) ∙ (e [] ∙ q), λ a sa qa. let x = ended (numbered 0 ts) n [] vs [] h refl a sa qa in cc))

cancel : (u v w : Spots) → u ++ w ≡ v ++ w → u ≡ v
cancel [] [] w h = refl
cancel [] (b ∷ v) w h = let g = ap length h in absurd (omega (arith, g, length-append v w))
cancel (a ∷ u) [] w h = let g = ap length h in absurd (omega (arith, g, length-append u w))
cancel (a ∷ u) (b ∷ v) w h = let e : u ++ w ≡ v ++ w = cc in let f = cancel u v w e in cc

numbered_append : (n : ℕ) (u v : Marks) → numbered n (u ++ v) ≡ numbered n u ++ numbered (n + length u) v
numbered_append n [] v = let e : n ≡ n + 0 = omega arith in ap (λ x. numbered x v) e
numbered_append n (m ∷ u) v = let e : suc n + length u ≡ n + suc (length u) = omega arith in ap (λ w. spot m n ∷ w) (numbered_append (suc n) u v ∙ ap (λ x. numbered (suc n) u ++ numbered x v) e)

numbered_first : (u v : Marks) → numbered 0 (u ++ v) ≡ numbered 0 u ++ numbered (length u) v
numbered_first u v = let e : 0 + length u ≡ length u = omega arith in numbered_append 0 u v ∙ ap (λ x. numbered 0 u ++ numbered x v) e

-- the machine stands still before the end, with `u` taken and `w` left
pub the_place : (u w : Marks) (n : ℕ) (k : List Symbol) (vs : Values) → exec n (start (numbered 0 (u ++ w))) ≡ config k vs (numbered (length u) w) → next (config k vs (numbered (length u) w)) ≡ config k vs (numbered (length u) w) → ((k ≡ []) → (w ≡ []) → ⊥) → IsPlace (u ++ w) (length u)
the_place u w n k vs h i g = (
  (λ y. let x = ended (numbered 0 (u ++ w)) n k vs (numbered (length u) w) h i y.0 y.1 y.2 in not_end w g x),
  omega (arith, length-append u w),
  subst Begins (sym (cut_at u w)) (begun (subst (Standing (numbered 0 (u ++ w))) h (standing n (numbered 0 (u ++ w)) (start (numbered 0 (u ++ w))) (start_standing (numbered 0 (u ++ w)))))),
  none w h i,
)
  where
    not_end : (w : Marks) → ((k ≡ []) → (w ≡ []) → ⊥) → {b : UnitTree} → config k vs (numbered (length u) w) ≡ config [] (unit_val b ∷ []) [] → ⊥
    not_end [] g x = g (cc) refl
    not_end (m ∷ w) g x = cc

    cut_at : (u w : Marks) → take (length u) (u ++ w) ≡ u
    cut_at [] w = refl
    cut_at (a ∷ u) w = ap (λ x. a ∷ x) (cut_at u w)

    cut : (u : Marks) (m : Mark) (w : Marks) (j n : ℕ) → n ≡ length u + suc j → take n (u ++ (m ∷ w)) ≡ u ++ (m ∷ take j w)
    cut [] m w j n h = let e : n ≡ suc j = omega arith in rw e refl
    cut (a ∷ u) m w j n h = let e : n ≡ suc (n - 1) = omega arith in let f : n - 1 ≡ length u + suc j = omega arith in rw e (ap (λ x. a ∷ x) (cut u m w j (n - 1) f))

    begun : Standing (numbered 0 (u ++ w)) (config k vs (numbered (length u) w)) → Begins u
    begun (v, r, (c, e, t, j, us, f)) =
        let x = complete j us c (length u) f in
        let y : v ≡ numbered 0 u = cancel v (numbered 0 u) (numbered (length u) w) (r ∙ numbered_first u w) in
        (x.0, (x.1, x.2, sym x.3 ∙ (e (numbered (length u) x.0) ∙ (ap (λ a. a ++ numbered (length u) x.0) y ∙ sym (numbered_first u x.0)))))

    none : (w : Marks) → exec n (start (numbered 0 (u ++ w))) ≡ config k vs (numbered (length u) w) → next (config k vs (numbered (length u) w)) ≡ config k vs (numbered (length u) w) → (l : ℕ) → length u < l → l ≤ length (u ++ w) → Begins (take l (u ++ w)) → ⊥
    none [] h i l a b y = absurd (omega (arith, length-append u []))
    none (m ∷ w) h i l a b y =
        let j : ℕ = l - suc (length u) in
        let p : l ≡ length u + suc j = omega arith in
        let z : Marks = take j w ++ y.0 in
        let Q : Spots → Type 0 = λ x. exec n (start x) ≡ config k vs (numbered (length u) (m ∷ w)) in
        let t : exec n (start (numbered 0 u ++ numbered (length u) (m ∷ z))) ≡ config k vs (numbered (length u) (m ∷ z)) = same_so_far n (spot m (length u)) (numbered (suc (length u)) w) (numbered (suc (length u)) z) k vs first_stack [] (numbered 0 u) (subst Q (numbered_first u (m ∷ w)) h) in
        let r : take l (u ++ (m ∷ w)) ++ y.0 ≡ u ++ (m ∷ z) = ap (λ x. x ++ y.0) (cut u m w j l p) ∙ append_assoc u (m ∷ take j w) y.0 in
        let e : spell y.1.0 ≡ numbered 0 u ++ numbered (length u) (m ∷ z) = y.1.2 ∙ (ap (numbered 0) r ∙ numbered_first u (m ∷ z)) in
        let x = ended (numbered 0 u ++ numbered (length u) (m ∷ z)) n k vs (numbered (length u) (m ∷ z)) t (still_head k vs (spot m (length u)) (numbered (suc (length u)) w) (numbered (suc (length u)) z) i) y.1.0 y.1.1 e in
        cc
