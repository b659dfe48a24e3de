-- Tokens whose marks begin a grammatical list begin a grammatical list of tokens.
use Rattle.std.proofs.Common.{◌^◌, ◌≤◌, ◌<◌, ◌≡◌, ◌↔◌, ℕ, zero, suc, ◌+◌, Bool, true, false, List, [], ◌∷◌, ◌++◌, Option, Some, None, length, take, refl, sym, ap, ◌∙◌, subst, arith, length-append}
use Rattle.cx_syntax.specs.declared.mark.Mark.{Mark}
use Rattle.cx_syntax.specs.declared.mark.Mark.TheVariants as M
use Rattle.cx_syntax.specs.Place.{Begins, IsPlace}
use Rattle.cx_syntax.specs.Spell.{Marks, Spots, numbered, spell, spot}
use Rattle.cx_table.specs.declared.symbol.Kind.TheVariants.{AClass}
use Rattle.cx_table.specs.declared.symbol.Part.TheVariants.{ClassRest}
use Rattle.cx_table.specs.declared.symbol.Symbol.{Symbol}
use Rattle.cx_table.specs.declared.symbol.Symbol.TheVariants.{Expect, Read}
use Rattle.cx_parser.specs.Machine.{config, exec, first_stack, front, start}
use Rattle.cx_values.specs.Values.{Values, mark_val, unit_val}
use Rattle.cx_parser.proofs.Ends.{Standing, standing, start_standing}
use Rattle.cx_parser.proofs.Items.{accepts}
use Rattle.cx_parser.proofs.Runs.{Takes}
use Rattle.cx_parser.proofs.Typed.{Typed}
use Rattle.cx_marks.specs.declared.spelled.Spelled.{Spelled}
use Rattle.cx_marks.specs.Marks.{Tokens, is_after_key, marks, marks_from, number}
use Rattle.cx_marks.specs.Place.{AreTokens, IsTokensPlace, TokensBegin}
use Rattle.cx_marks.proofs.Fronts.{marks_take, marks_then}
use Rattle.cx_marks.proofs.Places.{marks_begin, tokens_place}
use Rattle.cx_marks.proofs.Steps.{marks_length}
use Rattle.cx_grammar.proofs.Completion.{Completion, before_token, complete}
use Rattle.cx_grammar.proofs.Good.{known_goods}
use Rattle.cx_grammar.proofs.Known.{key_is, known_is}
use Rattle.cx_grammar.proofs.Realize.{HasClass, IsFew, has_name, class_made, fresh, fresh_class, fresh_not_std, fresh_token, key_next, named}
use Rattle.cx_grammar.proofs.Standing.{Holds, Taken, key_all, known_all, taken}

cancel : (u v w : Spots) → u ++ w ≡ v ++ w → u ≡ v
cancel [] [] w h = refl
cancel [] (b ∷ v) w h = let g = ap length h in absurd (omega (arith, g, length-append v w))
cancel (a ∷ u) [] w h = let g = ap length h in absurd (omega (arith, g, length-append u w))
cancel (a ∷ u) (b ∷ v) w h = let e : u ++ w ≡ v ++ w = cc in let f = cancel u v w e in cc

numbered_append : (n : ℕ) (u v : Marks) → numbered n (u ++ v) ≡ numbered n u ++ numbered (n + length u) v
numbered_append n [] v = let e : n ≡ n + 0 = omega arith in ap (λ x. numbered x v) e
numbered_append n (m ∷ u) v = let e : suc n + length u ≡ n + suc (length u) = omega arith in ap (λ w. spot m n ∷ w) (numbered_append (suc n) u v ∙ ap (λ x. numbered (suc n) u ++ numbered x v) e)

numbered_first : (u v : Marks) (k : ℕ) → length u ≡ k → numbered 0 (u ++ v) ≡ numbered 0 u ++ numbered k v
numbered_first u v k l = let e : 0 + length u ≡ k = omega (arith, l) in numbered_append 0 u v ∙ ap (λ x. numbered 0 u ++ numbered x v) e

-- what follows begins with this mark, or nothing follows
back : Option Mark → Spots
back None = []
back (Some m) = spot m 0 ∷ []

front_back : (o : Option Mark) → front (back o) ≡ o
unfolding back
front_back None = refl
front_back (Some m) = refl

-- the stack is typed whatever follows
typed_after : (u : Spots) (n : ℕ) (k : List Symbol) (vs : Values) → ((z : Spots) → exec n (start (u ++ z)) ≡ config k vs z) → (o : Option Mark) → Typed k o vs (λ w. u ++ w)
typed_after u n k vs run o =
    let z : Spots = back o in
    let s : Standing (u ++ z) (config k vs z) = subst (Standing (u ++ z)) (run z) (standing n (u ++ z) (start (u ++ z)) (start_standing (u ++ z))) in
    let same : s.0 ≡ u = cancel s.0 u z s.1 in
    let p = s.2 in
    let put : p.0 ≡ (λ w. u ++ w) = λ i w. (p.1 w ∙ ap (λ x. x ++ w) same) i in
    subst (λ c. Typed k o vs c) put (subst (λ x. Typed k x vs p.0) (front_back o) p.2)

is_few : (ts : Tokens) → length ts < 2 ^ 32 → IsFew ts
is_few ts few = omega (arith, few)

one_more : (ts : Tokens) (t : Spelled) → length ts < 2 ^ 32 → IsFew (ts ++ t ∷ [])
one_more ts t few = omega (arith, few, length-append ts (t ∷ []))

-- with the stack of a name that isn't taken yet, after `class` or `struct`, or with any other
completed : (ts : Tokens) (u : Spots) (k : List Symbol) (vs : Values) (b key : Bool) → length ts < 2 ^ 32 → (b ≡ true → HasClass ts) → is_after_key ts (length ts) ≡ key → Holds b key k → ((o : Option Mark) → Typed k o vs (λ w. u ++ w)) → Completion ts (length ts) (λ w. u ++ w)
completed ts u k vs b false few known e h typed = complete b k h vs (λ w. u ++ w) (length ts) typed ts refl (e, known, has_name ts (is_few ts few))
completed ts u k vs b true few known e (j, q, g) typed =
    let t : Spelled = named (fresh ts) in
    let i : ℕ = number (ts ++ t ∷ []) (fresh ts) in
    let n : ℕ = length ts in
    let next : (o : Option Mark) → Typed (Expect AClass ∷ Read ClassRest ∷ j) o vs (λ w. u ++ w) = λ o. subst (λ x. Typed x o vs (λ w. u ++ w)) q (typed o) in
    before_token t (M.Class i) n (λ w. u ++ w) ts refl (fresh_token ts) (fresh_class ts e)
    (complete true (Read ClassRest ∷ j) (known_goods b true j (λ y. refl) g) (mark_val (M.Class i) n ∷ vs) (λ w. u ++ (spot (M.Class i) n ∷ w)) (suc n) (λ o. next None i n o) (ts ++ t ∷ [])
    (length-append ts (t ∷ []) ∙ omega arith) (key_next ts t, (λ y. class_made ts (fresh ts) (fresh_token ts) (fresh_not_std ts) e), has_name (ts ++ t ∷ []) (one_more ts t few)))

pub tokens_begin : (ts : Tokens) → length ts < 2 ^ 32 → AreTokens ts → Begins (marks ts) → TokensBegin ts
tokens_begin ts few are (z, (a, sa, q)) =
    let u : Spots = numbered 0 (marks ts) in
    let size : length (marks ts) ≡ length ts = marks_length ts ts 0 in
    let w : Spots = numbered (length ts) z in
    let list : spell a ≡ u ++ w = q ∙ numbered_first (marks ts) z (length ts) size in
    let run : Takes (start (u ++ w)) (config [] (unit_val a ∷ []) []) = subst (λ x. Takes (start x) (config [] (unit_val a ∷ []) [])) list (accepts a sa) in
    let r : Taken (λ y. start (u ++ y)) (known_all false u) (key_all false u) = taken run.0 first_stack [] u w false false (unit_val a ∷ [], run.1) refl in
    let f : Completion ts (length ts) (λ w. u ++ w) = completed ts u r.1 r.2 (known_all false u) (key_all false u) few (known_is ts are) (sym (key_is ts)) r.4 (typed_after u r.0 r.1 r.2 r.3) in
    (f.0, f.1, (f.2, f.3, sym f.4 ∙ (sym (numbered_first (marks ts) (marks_from (ts ++ f.0) (length ts) f.0) (length ts) size) ∙ ap (numbered 0) (sym (marks_then ts f.0)))))

are_first : (ts : Tokens) (n : ℕ) → AreTokens ts → AreTokens (take n ts)
are_first ts zero are = tt {0}
are_first [] (suc n) are = tt {0}
are_first (t ∷ ts) (suc n) are = (are.0, are_first ts n are.1)

few_first : (ts : Tokens) (n : ℕ) → length ts < 2 ^ 32 → length (take n ts) < 2 ^ 32
few_first ts n few = let e = take_short n ts in omega (arith, few, e)
  where
    take_short : (n : ℕ) (ts : Tokens) → length (take n ts) ≤ length ts
    take_short zero ts = omega arith
    take_short (suc n) [] = omega arith
    take_short (suc n) (t ∷ ts) = let r = take_short n ts in omega (arith, r)

-- the place of tokens is that of their marks
pub same_place : (ts : Tokens) (p : ℕ) → length ts < 2 ^ 32 → AreTokens ts → IsTokensPlace ts p ↔ IsPlace (marks ts) p
same_place ts p few are =
    let size : length (marks ts) ≡ length ts = marks_length ts ts 0 in (
      (λ h. (
        h.0,
        omega (arith, h.1, size),
        subst Begins (sym (marks_take ts p)) (marks_begin (take p ts) h.2),
        λ n a b y. h.3 n a (omega (arith, b, size)) (tokens_begin (take n ts) (few_first ts n few) (are_first ts n are) (subst Begins (marks_take ts n) y)),
      )),
      (λ h. tokens_place ts p h (tokens_begin (take p ts) (few_first ts p few) (are_first ts p are) (subst Begins (marks_take ts p) h.2))),
    )
