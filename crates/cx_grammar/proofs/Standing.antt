-- How the stack stands after some tokens of a grammatical list, whatever follows them.
use Rattle.std.proofs.Common.{◌≡◌, ℕ, zero, suc, Bool, true, false, not, cond, List, [], ◌∷◌, ◌++◌, Option, Some, None, refl, sym, ap, subst}
use Rattle.std.proofs.lemmas.Bool.{and_parts, false≢true}
use Rattle.cx_syntax.specs.declared.mark.Mark.{Mark}
use Rattle.cx_syntax.specs.declared.mark.Mark.TheVariants as M
use Rattle.cx_table.specs.declared.symbol.Kind.{Kind}
use Rattle.cx_table.specs.declared.symbol.Kind.TheVariants.{Sign, Keyword, AName, AClass, ANumber, TheContracts}
use Rattle.cx_table.specs.declared.symbol.Part.TheVariants.{ClassRest}
use Rattle.cx_table.specs.declared.symbol.Symbol.{Symbol}
use Rattle.cx_table.specs.declared.symbol.Symbol.TheVariants.{Expect, Make, Read}
use Rattle.cx_syntax.specs.Shaped.{is_class_key}
use Rattle.cx_syntax.specs.Spell.{Spot, Spots, spot}
use Rattle.cx_table.specs.Moves.{Move, eat, halt, move, push}
use Rattle.cx_table.specs.Sorts.{fits}
use Rattle.cx_parser.specs.Machine.{Config, Step, config, eats, exec, goes, left_as, mark_at, moved, reduced, seen, stays, step, value_at}
use Rattle.cx_values.specs.Values.{Values, reduce}
use Rattle.cx_parser.proofs.Same.{word_same}
use Rattle.cx_grammar.proofs.Good.{good, good_move, goods, goods_append, is_class_stack, is_key, known_after, known_goods, known_still, no_key, part_good}

-- the stack where a class name was taken before or not, and `class` or `struct` last or not
abbrev pub Holds : Bool → Bool → List Symbol → Type 0
Holds b true k = (j : List Symbol) × (k ≡ Expect AClass ∷ Read ClassRest ∷ j) × (goods b j ≡ true)
Holds b false k = goods b k ≡ true

abbrev Keeps : Bool → Bool → Option Spot → Step → Type 0
Keeps b key o stays = Unit {0}
Keeps b key o (goes j us) = Holds b key j
Keeps b key None (eats j us) = Unit {0}
Keeps b key (Some x) (eats j us) = Holds (known_after b (mark_at x)) (is_key (mark_at x)) j

stack_is : (k : List Symbol) → is_class_stack k ≡ true → k ≡ Expect AClass ∷ Read ClassRest ∷ []
stack_is (Expect AClass ∷ Read ClassRest ∷ []) h = refl
stack_is _ h = absurd (false≢true h)

moved_holds : (b : Bool) (v : Move) (k : List Symbol) (vs : Values) (o : Option Spot) → good_move b (seen o) v ≡ true → goods b k ≡ true → Keeps b false o (moved v k vs o)
moved_holds b (push j) k vs o h g = goods_append b j k h g
moved_holds b halt k vs o h g = tt {0}
moved_holds b (eat j) k vs None h g = tt {0}
moved_holds b (eat j) k vs (Some (spot m i)) h g = by (is_key m) h
  where
    by : (t : Bool) → cond t (is_class_stack j) (goods (known_after b m) j) ≡ true → Holds (known_after b m) t (j ++ k)
    by true e = (k, ap (λ x. x ++ k) (stack_is j e), known_goods b (known_after b m) k (known_still b m) g)
    by false e = goods_append (known_after b m) j k e (known_goods b (known_after b m) k (known_still b m) g)

-- a token that fits isn't `class` or `struct`
fits_no_key : (b : Bool) (t : Kind) (m : Mark) → good b (Expect t) ≡ true → fits t m ≡ true → is_key m ≡ false
fits_no_key b (Keyword p) (M.Word q) g f = no_key q (subst (λ x. not (is_class_key x) ≡ true) (word_same p q f) g)
fits_no_key b (Sign p) (M.Word q) g f = absurd (false≢true f)
fits_no_key b AName (M.Word q) g f = absurd (false≢true f)
fits_no_key b AClass (M.Word q) g f = absurd (false≢true f)
fits_no_key b ANumber (M.Word q) g f = absurd (false≢true f)
fits_no_key b TheContracts (M.Word q) g f = absurd (false≢true f)
fits_no_key b t _ g f = refl

step_holds : (b key : Bool) (k : List Symbol) (vs : Values) (o : Option Spot) → Holds b key k → Keeps b key o (step k vs o)
step_holds b true k vs o (j, e, g) = subst (λ x. Keeps b true o (step x vs o)) (sym e) (by o)
  where
    by : (o : Option Spot) → Keeps b true o (step (Expect AClass ∷ Read ClassRest ∷ j) vs o)
    by None = tt {0}
    by (Some (spot (M.Class n) i)) = known_goods b true j (λ x. refl) g
    by (Some (spot _ i)) = tt {0}
step_holds b false [] vs o h = tt {0}
step_holds b false (Make a ∷ k) vs o h = by (reduce a vs)
  where
    by : (r : Option Values) → Keeps b false o (reduced r k)
    by None = tt {0}
    by (Some us) = h
step_holds b false (Expect t ∷ k) vs None h = tt {0}
step_holds b false (Expect t ∷ k) vs (Some (spot m i)) h = by (fits t m) refl
  where
    parts : (good b (Expect t) ≡ true) × (goods b k ≡ true)
    parts = and_parts (good b (Expect t)) (goods b k) h

    by : (f : Bool) → fits t m ≡ f → Keeps b false (Some (spot m i)) (cond f (eats k (value_at (spot m i) ∷ vs)) stays)
    by true e = subst (λ x. Holds (known_after b m) x k) (sym (fits_no_key b t m parts.0 e)) (known_goods b (known_after b m) k (known_still b m) parts.1)
    by false e = tt {0}
step_holds b false (Read x ∷ k) vs o h = let p = and_parts (good b (Read x)) (goods b k) h in moved_holds b (move x (seen o)) k vs o (part_good x b (seen o) p.0) p.1

-- after so many tokens
abbrev pub known_all : Bool → Spots → Bool
known_all b [] = b
known_all b (x ∷ u) = known_all (known_after b (mark_at x)) u

abbrev pub key_all : Bool → Spots → Bool
key_all key [] = key
key_all key (x ∷ u) = key_all (is_key (mark_at x)) u

-- the machine takes the tokens, whatever follows
abbrev pub Taken : (Spots → Config) → Bool → Bool → Type 0
Taken c b key = (n : ℕ) × (k : List Symbol) × (vs : Values) × ((z : Spots) → exec n (c z) ≡ config k vs z) × Holds b key k

abbrev pub IsEnd : Config → Type 0
IsEnd c = (us : Values) × (c ≡ config [] us [])

abbrev pub Induct : ℕ → Type 0
Induct n = (k : List Symbol) (vs : Values) (u w : Spots) (b key : Bool) → IsEnd (exec n (config k vs (u ++ w))) → Holds b key k → Taken (λ z. config k vs (u ++ z)) (known_all b u) (key_all key u)

taken_at : (n : ℕ) → Induct n → (t : Step) (k : List Symbol) (vs : Values) (x : Spot) (u w : Spots) (b key : Bool) → IsEnd (exec n (left_as t k vs (x ∷ (u ++ w)))) → Holds b key k → Keeps b key (Some x) t → Taken (λ z. left_as t k vs (x ∷ (u ++ z))) (known_all b (x ∷ u)) (key_all key (x ∷ u))
taken_at n f stays k vs x u w b key e h g = f k vs (x ∷ u) w b key e h
taken_at n f (goes j us) k vs x u w b key e h g = f j us (x ∷ u) w b key e g
taken_at n f (eats j us) k vs x u w b key e h g = f j us u w (known_after b (mark_at x)) (is_key (mark_at x)) e g

pub taken : (n : ℕ) → Induct n
taken n k vs [] w b key e h = (0, k, vs, (λ z. refl), h)
taken zero k vs (x ∷ u) w b key e h = absurd (let f = e.1 in cc)
taken (suc n) k vs (x ∷ u) w b key e h =
    let r = taken_at n (taken n) (step k vs (Some x)) k vs x u w b key e h (step_holds b key k vs (Some x) h) in
    (suc r.0, r.1, r.2, r.3, r.4)
