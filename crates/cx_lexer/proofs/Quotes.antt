-- The scanner's character and string literals are the only ones that begin there.
use Rattle.std.proofs.Common.{◌≡◌, ◌&&◌, ◌||◌, Bool, true, false, ℕ, zero, suc, ◌+◌, ◌<◌, ◌≤◌, List, [], ◌∷◌, length, take, drop, cond, eqb, leb, refl, sym, ◌∙◌, ap, subst, arith, ⊎_elim, min, drop-drop}
use Rattle.std.proofs.lemmas.List.{take_min}
use Rattle.cx_lexer.proofs.Fronts.{behind}
use Rattle.std.proofs.lemmas.Bool.{cond_both, cond-true, cond-false, and_parts, and_from, and_right, or_left, or_right, cases_Bool, le-leb, true≢false, false≢true, false_from_ne_true, not_from_true, ne_eqb}
use Rattle.cx_lexer.specs.Bytes.{begins, quote, double_quote, newline, backslash}
use Rattle.cx_lexer.specs.Quoted.{is_char, is_plain, is_escape, escapes, closes_text, is_text}
use Rattle.cx_lexer.specs.Scan.{IsLongest, char_length, text_length, text_step}

-- escapes look no further than the front that ends behind them
escapes_within : (b : ℕ) (xs : List ℕ) (m : ℕ) → 0 < m → escapes (b ∷ take m xs) ≡ escapes (b ∷ xs)
unfolding escapes
escapes_within b xs zero some = absurd (omega arith)
escapes_within b [] (suc m) some = refl
escapes_within b (c ∷ xs) (suc m) some = refl

-- what a byte between double quotes is
none_begins : (n : ℕ) → begins (λ b. eqb b double_quote) (drop n []) ≡ true → ⊥
none_begins zero e = false≢true e
none_begins (suc n) e = false≢true e

suc_not_zero : {n : ℕ} → suc n ≡ 0 → ⊥
suc_not_zero e = omega arith

data TextByte (a : ℕ) : Type 0 where
  closing : eqb a double_quote ≡ true → TextByte a
  line_end : eqb a double_quote ≡ false → eqb a newline ≡ true → TextByte a
  slant : eqb a double_quote ≡ false → eqb a newline ≡ false → eqb a backslash ≡ true → TextByte a
  plain : eqb a double_quote ≡ false → eqb a newline ≡ false → eqb a backslash ≡ false → TextByte a

text_byte : (a : ℕ) → TextByte a
text_byte a =
    ⊎_elim (λ e. closing e) (λ e. ⊎_elim (λ f. line_end e f) (λ f. ⊎_elim (λ g. slant e f g) (λ g. plain e f g) (cases_Bool (eqb a backslash))) (cases_Bool (eqb a newline))) (cases_Bool (eqb a double_quote))

module _ (a : ℕ) where
  closing_alone : (ys : List ℕ) → eqb a double_quote ≡ true → closes_text (a ∷ ys) ≡ true → length ys ≡ 0
  unfolding closes_text
  closing_alone [] e closes = refl
  closing_alone (b ∷ ys) e closes = absurd (true≢false (sym closes ∙ cond-true _ _ _ e))

  at_closing : eqb a double_quote ≡ true → closes_text (a ∷ []) ≡ true
  unfolding closes_text
  at_closing e = e

  alone : eqb a double_quote ≡ false → closes_text (a ∷ []) ≡ false
  unfolding closes_text
  alone e = e

  at_line_end : (ys : List ℕ) → eqb a double_quote ≡ false → eqb a newline ≡ true → closes_text (a ∷ ys) ≡ false
  unfolding closes_text
  at_line_end [] e f = e
  at_line_end (b ∷ ys) e f = cond-false _ _ _ e ∙ cond-true _ _ _ f

  at_slant : (b : ℕ) (ys : List ℕ) → eqb a double_quote ≡ false → eqb a newline ≡ false → eqb a backslash ≡ true → closes_text (a ∷ b ∷ ys) ≡ (escapes (b ∷ ys) && closes_text ys)
  unfolding closes_text
  at_slant b ys e f g = cond-false _ _ _ e ∙ (cond-false _ _ _ f ∙ cond-true _ _ _ g)

  at_plain : (ys : List ℕ) → eqb a double_quote ≡ false → eqb a newline ≡ false → eqb a backslash ≡ false → closes_text (a ∷ ys) ≡ closes_text ys
  unfolding closes_text
  at_plain [] e f g = e
  at_plain (b ∷ ys) e f g = cond-false _ _ _ e ∙ (cond-false _ _ _ f ∙ cond-false _ _ _ g)

  pub none_at_end : (ys : List ℕ) → (eqb a double_quote || eqb a newline) ≡ true → text_length (a ∷ ys) ≡ 0
  unfolding text_length
  none_at_end [] e = cond-true _ _ _ e
  none_at_end (b ∷ ys) e = cond-true _ _ _ e

  pub slant_alone : (eqb a double_quote || eqb a newline) ≡ false → eqb a backslash ≡ true → text_length (a ∷ []) ≡ 0
  unfolding text_length
  slant_alone e f = cond-false _ _ _ e ∙ cond-true _ _ _ f

  pub slant_more : (b : ℕ) (ys : List ℕ) → (eqb a double_quote || eqb a newline) ≡ false → eqb a backslash ≡ true → text_length (a ∷ b ∷ ys) ≡ cond (escapes (b ∷ ys)) (suc (suc (text_length ys))) 0
  unfolding text_length
  slant_more b ys e f = cond-false _ _ _ e ∙ cond-true _ _ _ f

  pub plain_more : (ys : List ℕ) → (eqb a double_quote || eqb a newline) ≡ false → eqb a backslash ≡ false → text_length (a ∷ ys) ≡ suc (text_length ys)
  unfolding text_length
  plain_more [] e f = cond-false _ _ _ e ∙ cond-false _ _ _ f
  plain_more (b ∷ ys) e f = cond-false _ _ _ e ∙ cond-false _ _ _ f

or_false : (x y : Bool) → x ≡ false → y ≡ false → (x || y) ≡ false
or_false x y e f = ap (λ t. t || y) e ∙ f

abbrev Closes : List ℕ → ℕ → Type 0
Closes xs n = begins (λ b. eqb b double_quote) (drop n xs) ≡ true → closes_text (take (suc n) xs) ≡ true

-- where the characters end at a double quote, the text is closed there
pub text_closes : (xs : List ℕ) → Closes xs (text_length xs)
text_closes [] = λ ends. absurd (none_begins _ ends)
text_closes (a ∷ []) =
    elim (text_byte a) as (λ _. Closes (a ∷ []) (text_length (a ∷ []))) [
      | closing e ↦ subst (Closes (a ∷ [])) (sym (none_at_end a [] (or_left _ _ e))) (λ _. at_closing a e)
      | line_end e f ↦ subst (Closes (a ∷ [])) (sym (none_at_end a [] (or_right _ _ f))) (λ h. absurd (true≢false (sym h ∙ e)))
      | slant e f g ↦ subst (Closes (a ∷ [])) (sym (slant_alone a (or_false _ _ e f) g)) (λ h. absurd (true≢false (sym h ∙ e)))
      | plain e f g ↦ subst (Closes (a ∷ [])) (sym (plain_more a [] (or_false _ _ e f) g)) (λ h. at_plain a _ e f g ∙ text_closes [] h)
    ]
text_closes (a ∷ b ∷ rest) =
    elim (text_byte a) as (λ _. Closes (a ∷ b ∷ rest) (text_length (a ∷ b ∷ rest))) [
      | closing e ↦ subst (Closes (a ∷ b ∷ rest)) (sym (none_at_end a (b ∷ rest) (or_left _ _ e))) (λ _. at_closing a e)
      | line_end e f ↦ subst (Closes (a ∷ b ∷ rest)) (sym (none_at_end a (b ∷ rest) (or_right _ _ f))) (λ h. absurd (true≢false (sym h ∙ e)))
      | slant e f g ↦ subst (Closes (a ∷ b ∷ rest)) (sym (slant_more a b rest (or_false _ _ e f) g))
          (cond_both (escapes (b ∷ rest)) (suc (suc (text_length rest))) 0 (Closes (a ∷ b ∷ rest))
          (λ k h. at_slant a b _ e f g ∙ and_from _ _ (escapes_within b rest (suc (text_length rest)) (omega arith) ∙ k) (text_closes rest h))
          (λ k h. absurd (true≢false (sym h ∙ e))))
      | plain e f g ↦ subst (Closes (a ∷ b ∷ rest)) (sym (plain_more a (b ∷ rest) (or_false _ _ e f) g)) (λ h. at_plain a _ e f g ∙ text_closes (b ∷ rest) h)
    ]

abbrev ClosesOnce : List ℕ → ℕ → ℕ → Type 0
ClosesOnce xs m n = closes_text (take m xs) ≡ true → (m ≡ suc n) × (begins (λ b. eqb b double_quote) (drop n xs) ≡ true)

nothing_closes : closes_text [] ≡ false
unfolding closes_text
nothing_closes = refl

-- and nowhere else
pub text_closes_once : (xs : List ℕ) (m : ℕ) → m ≤ length xs → ClosesOnce xs m (text_length xs)
text_closes_once xs zero within = λ closes. absurd (true≢false (sym closes ∙ nothing_closes))
text_closes_once [] (suc m) within = absurd (omega arith)
text_closes_once (a ∷ []) (suc m) within =
    elim (text_byte a) as (λ _. ClosesOnce (a ∷ []) (suc m) (text_length (a ∷ []))) [
      | closing e ↦ subst (ClosesOnce (a ∷ []) (suc m)) (sym (none_at_end a [] (or_left _ _ e))) (λ _. (omega arith, e))
      | line_end e f ↦ λ h. absurd (true≢false (sym h ∙ at_line_end a _ e f))
      | slant e f g ↦ λ h. absurd (true≢false (sym h ∙ only_one m e))
      | plain e f g ↦ λ h. absurd (true≢false (sym h ∙ only_one m e))
    ]
  where
    only_one : (k : ℕ) → eqb a double_quote ≡ false → closes_text (a ∷ take k []) ≡ false
    only_one zero e = alone a e
    only_one (suc k) e = alone a e
text_closes_once (a ∷ b ∷ rest) (suc zero) within =
    elim (text_byte a) as (λ _. ClosesOnce (a ∷ b ∷ rest) 1 (text_length (a ∷ b ∷ rest))) [
      | closing e ↦ subst (ClosesOnce (a ∷ b ∷ rest) 1) (sym (none_at_end a (b ∷ rest) (or_left _ _ e))) (λ _. (refl, e))
      | line_end e f ↦ λ h. absurd (true≢false (sym h ∙ alone a e))
      | slant e f g ↦ λ h. absurd (true≢false (sym h ∙ alone a e))
      | plain e f g ↦ λ h. absurd (true≢false (sym h ∙ alone a e))
    ]
text_closes_once (a ∷ b ∷ rest) (suc (suc m)) within =
    elim (text_byte a) as (λ _. ClosesOnce (a ∷ b ∷ rest) (suc (suc m)) (text_length (a ∷ b ∷ rest))) [
      | closing e ↦ λ h. absurd (suc_not_zero (closing_alone a _ e h))
      | line_end e f ↦ λ h. absurd (true≢false (sym h ∙ at_line_end a _ e f))
      | slant e f g ↦ λ h.
          let parts = and_parts (escapes (b ∷ take m rest)) (closes_text (take m rest)) (sym (at_slant a b (take m rest) e f g) ∙ h) in
          let once = text_closes_once rest m (omega arith) parts.1 in
          let long : text_length (a ∷ b ∷ rest) ≡ suc (suc (text_length rest)) = slant_more a b rest (or_false _ _ e f) g ∙ cond-true _ _ _ (sym (escapes_within b rest m (omega arith)) ∙ parts.0) in
          rw long (ap (λ k. suc (suc k)) once.0, once.1)
      | plain e f g ↦ λ h.
          let once = text_closes_once (b ∷ rest) (suc m) (omega arith) (sym (at_plain a _ e f g) ∙ h) in
          rw (plain_more a (b ∷ rest) (or_false _ _ e f) g) (ap suc once.0, once.1)
    ]

begins_within : (ys : List ℕ) (n : ℕ) → begins (λ b. eqb b double_quote) (drop n ys) ≡ true → n < length ys
begins_within [] n e = absurd (none_begins n e)
begins_within (b ∷ ys) zero e = omega arith
begins_within (b ∷ ys) (suc n) e = let behind_it = begins_within ys n e in omega arith

-- the scanner's text is the longest, if it is closed
pub text_longest : (xs : List ℕ) → begins (λ b. eqb b double_quote) (drop (text_length xs) xs) ≡ true → IsLongest is_text (double_quote ∷ xs) (suc (suc (text_length xs)))
unfolding is_text
text_longest xs ends = record {
  within = omega (arith, begins_within xs (text_length xs) ends);
  passes = text_closes xs ends;
  longest = behind is_text (double_quote ∷ xs) _ (λ m above within. false_from_ne_true _ (λ h. let once = (text_closes_once xs m (omega arith) h).0 in omega arith));
}

-- and there is none otherwise
pub no_text : (xs : List ℕ) (n : ℕ) → begins (λ b. eqb b double_quote) (drop (text_length xs) xs) ≡ false → is_text (take n (double_quote ∷ xs)) ≡ false
unfolding is_text
no_text xs zero open_end = refl
no_text xs (suc n) open_end =
    false_from_ne_true _ (λ h. true≢false (sym (text_closes_once xs (min n (length xs)) (omega arith) (ap closes_text (take_min n xs) ∙ h)).1 ∙ open_end))

swap_of_three : (q t p r : Bool) → (q && p && r) ≡ true → t ≡ true → (t && p && r) ≡ true
swap_of_three true true p r h e = h
swap_of_three true false p r h e = absurd (false≢true e)
swap_of_three false t p r h e = absurd (false≢true h)

swap_of_four : (q t s p r : Bool) → (q && s && p && r) ≡ true → t ≡ true → (t && s && p && r) ≡ true
swap_of_four true true s p r h e = h
swap_of_four true false s p r h e = absurd (false≢true e)
swap_of_four false t s p r h e = absurd (false≢true h)

second_of_four : (q s p r : Bool) → (q && s && p && r) ≡ true → s ≡ true
second_of_four q true p r h = refl
second_of_four true false p r h = absurd (false≢true h)
second_of_four false false p r h = absurd (false≢true h)

second_false : (t p r : Bool) → p ≡ false → (t && p && r) ≡ false
second_false t true r e = absurd (true≢false e)
second_false true false r e = refl
second_false false false r e = refl

slant_is_not_plain : (b : ℕ) → eqb b backslash ≡ true → is_plain b ≡ false
unfolding is_plain
slant_is_not_plain b e = and_right _ _ (not_from_true _ e)

-- a character literal is as long as the scanner says
char_is : (xs : List ℕ) (n : ℕ) → n ≤ length xs → is_char (take n xs) ≡ true → n ≡ char_length xs
unfolding is_char char_length
char_is xs zero within is = absurd (false≢true is)
char_is [] (suc n) within is = absurd (omega arith)
char_is (a ∷ xs) (suc zero) within is = absurd (false≢true is)
char_is (a ∷ []) (suc (suc n)) within is = absurd (omega arith)
char_is (a ∷ b ∷ xs) (suc (suc zero)) within is = absurd (false≢true is)
char_is (a ∷ b ∷ []) (suc (suc (suc n))) within is = absurd (omega arith)
char_is (a ∷ b ∷ c ∷ xs) (suc (suc (suc zero))) within is =
    sym (cond-true _ _ _ (swap_of_three (eqb a quote) (leb 3 (suc (suc (suc (length xs))))) (is_plain b) (eqb c quote) is (le-leb 3 (suc (suc (suc (length xs)))) (omega arith))))
char_is (a ∷ b ∷ c ∷ []) (suc (suc (suc (suc n)))) within is = absurd (omega arith)
char_is (a ∷ b ∷ c ∷ d ∷ xs) (suc (suc (suc (suc zero)))) within is =
    let long = suc (suc (suc (suc (length xs)))) in
    let slant = second_of_four (eqb a quote) (eqb b backslash) (is_escape c) (eqb d quote) is in
    let no_plain = second_false (leb 3 long) (is_plain b) (eqb c quote) (slant_is_not_plain b slant) in
    let four = swap_of_four (eqb a quote) (leb 4 long) (eqb b backslash) (is_escape c) (eqb d quote) is (le-leb 4 long (omega arith)) in
    sym (cond-false (leb 3 long && is_plain b && eqb c quote) 3 (cond (leb 4 long && eqb b backslash && is_escape c && eqb d quote) 4 0) no_plain ∙ cond-true (leb 4 long && eqb b backslash && is_escape c && eqb d quote) 4 0 four)
char_is (a ∷ b ∷ c ∷ d ∷ []) (suc (suc (suc (suc (suc n))))) within is = absurd (omega arith)
char_is (a ∷ b ∷ c ∷ d ∷ e ∷ xs) (suc (suc (suc (suc (suc n))))) within is = absurd (false≢true is)

char_within : (xs : List ℕ) → char_length xs ≤ length xs
unfolding char_length
char_within [] = omega arith
char_within (a ∷ []) = omega arith
char_within (a ∷ b ∷ []) = omega arith
char_within (a ∷ b ∷ c ∷ []) = cond_both (is_plain b && eqb c quote) 3 0 (λ n. n ≤ 3) (λ _. omega arith) (λ _. omega arith)
char_within (a ∷ b ∷ c ∷ d ∷ xs) = grind arith

char_passes : (xs : List ℕ) → 0 < char_length (quote ∷ xs) → is_char (take (char_length (quote ∷ xs)) (quote ∷ xs)) ≡ true
unfolding is_char char_length
char_passes [] some = absurd (omega arith)
char_passes (b ∷ []) some = absurd (omega arith)
char_passes (b ∷ c ∷ []) some =
    cond_both (is_plain b && eqb c quote) 3 0 (λ n. 0 < n → is_char (take n (quote ∷ b ∷ c ∷ [])) ≡ true) (λ e _. e) (λ _ h. absurd (omega arith)) some
char_passes (b ∷ c ∷ d ∷ xs) some =
    let P : ℕ → Type 0 = λ n. 0 < n → is_char (take n (quote ∷ b ∷ c ∷ d ∷ xs)) ≡ true in
    let long = suc (suc (suc (suc (length xs)))) in
    cond_both (leb 3 long && is_plain b && eqb c quote) 3 (cond (leb 4 long && eqb b backslash && is_escape c && eqb d quote) 4 0) P
    (λ e _. swap_of_three (leb 3 long) true (is_plain b) (eqb c quote) e refl)
    (λ _. cond_both (leb 4 long && eqb b backslash && is_escape c && eqb d quote) 4 0 P
    (λ e _. swap_of_four (leb 4 long) true (eqb b backslash) (is_escape c) (eqb d quote) e refl)
    (λ _ h. absurd (omega arith)))
    some

-- the scanner's character literal is the longest, if there is one
pub char_longest : (xs : List ℕ) → 0 < char_length (quote ∷ xs) → IsLongest is_char (quote ∷ xs) (char_length (quote ∷ xs))
char_longest xs some = record {
  within = char_within (quote ∷ xs);
  passes = char_passes xs some;
  longest = λ m above within. false_from_ne_true _ (λ h. let once = char_is (quote ∷ xs) m within h in omega arith);
}

nothing_is_char : is_char [] ≡ false
unfolding is_char
nothing_is_char = refl

-- and there is none otherwise
pub no_char : (xs : List ℕ) (n : ℕ) → char_length xs ≡ 0 → is_char (take n xs) ≡ false
no_char xs n none =
    false_from_ne_true _ (λ h.
    let m = min n (length xs) in
    let same = take_min n xs in
    let is = ap is_char same ∙ h in
    let empty : m ≡ 0 = char_is xs m (omega arith) is ∙ none in
    true≢false (sym is ∙ (ap (λ k. is_char (take k xs)) empty ∙ nothing_is_char)))

pub text_step_within : (xs : List ℕ) → text_step xs ≤ length xs
unfolding text_step escapes
text_step_within [] = omega arith
text_step_within (a ∷ []) = grind arith
text_step_within (a ∷ b ∷ xs) = grind arith

-- what a character of that length leaves
abbrev Steps : List ℕ → ℕ → Type 0
Steps xs n = 0 < n → text_length xs ≡ n + text_length (drop n xs)

abbrev Stops : List ℕ → ℕ → Type 0
Stops xs n = n ≡ 0 → text_length xs ≡ 0

abbrev Moves : List ℕ → ℕ → Type 0
Moves xs n = Steps xs n × Stops xs n

step_at : (a : ℕ) (ys : List ℕ) → text_step (a ∷ ys) ≡ cond (eqb a double_quote || eqb a newline) 0 (cond (eqb a backslash) (cond (escapes ys) 2 0) 1)
unfolding text_step
step_at a ys = ap (λ t. cond (t || eqb a double_quote || eqb a newline) 0 (cond (eqb a backslash) (cond (escapes ys) 2 0) 1)) (ne_eqb (suc (length ys)) 0 (λ e. absurd (omega arith)))

no_escape : escapes [] ≡ false
unfolding escapes
no_escape = refl

stops_at : (a : ℕ) (ys : List ℕ) → text_length (a ∷ ys) ≡ 0 → Moves (a ∷ ys) 0
stops_at a ys e = (λ h. absurd (omega arith), λ _. e)

no_step : Moves [] (text_step [])
unfolding text_step text_length
no_step = (λ h. absurd (omega arith), λ _. refl)

text_steps : (xs : List ℕ) → Moves xs (text_step xs)
text_steps [] = no_step
text_steps (a ∷ []) =
    subst (Moves (a ∷ [])) (sym (step_at a []))
    (cond_both (eqb a double_quote || eqb a newline) 0 (cond (eqb a backslash) (cond (escapes []) 2 0) 1) (Moves (a ∷ []))
    (λ e. stops_at a [] (none_at_end a [] e))
    (λ e. cond_both (eqb a backslash) (cond (escapes []) 2 0) 1 (Moves (a ∷ []))
    (λ f. subst (Moves (a ∷ [])) (sym (cond-false _ _ _ no_escape)) (stops_at a [] (slant_alone a e f)))
    (λ f. (λ _. plain_more a [] e f ∙ omega arith, λ h. absurd (omega arith)))))
text_steps (a ∷ b ∷ rest) =
    subst (Moves (a ∷ b ∷ rest)) (sym (step_at a (b ∷ rest)))
    (cond_both (eqb a double_quote || eqb a newline) 0 (cond (eqb a backslash) (cond (escapes (b ∷ rest)) 2 0) 1) (Moves (a ∷ b ∷ rest))
    (λ e. stops_at a (b ∷ rest) (none_at_end a (b ∷ rest) e))
    (λ e. cond_both (eqb a backslash) (cond (escapes (b ∷ rest)) 2 0) 1 (Moves (a ∷ b ∷ rest))
    (λ f. cond_both (escapes (b ∷ rest)) 2 0 (Moves (a ∷ b ∷ rest))
    (λ g. (λ _. slant_more a b rest e f ∙ (cond-true _ _ _ g ∙ omega arith), λ h. absurd (omega arith)))
    (λ g. stops_at a (b ∷ rest) (slant_more a b rest e f ∙ cond-false _ _ _ g)))
    (λ f. (λ _. plain_more a (b ∷ rest) e f ∙ omega arith, λ h. absurd (omega arith)))))

-- one more character, or the end of them, at a place of a rest
pub text_more : (xs : List ℕ) (at step : ℕ) → step ≡ text_step (drop at xs) → 0 < step → at + text_length (drop at xs) ≡ text_length xs → (at + step) + text_length (drop (at + step) xs) ≡ text_length xs
text_more xs at step is some so_far =
    let some_here : 0 < text_step (drop at xs) = omega arith in
    let moved : drop (text_step (drop at xs)) (drop at xs) ≡ drop (at + step) xs = drop-drop (text_step (drop at xs)) at xs ∙ ap (λ n. drop (at + n) xs) (sym is) in
    let steps = (text_steps (drop at xs)).0 some_here in
    let same = ap text_length moved in
    omega arith

pub text_ends : (xs : List ℕ) (at step : ℕ) → step ≡ text_step (drop at xs) → step ≤ 0 → at + text_length (drop at xs) ≡ text_length xs → at ≡ text_length xs
text_ends xs at step is none so_far =
    let stops = (text_steps (drop at xs)).1 (omega arith) in
    omega arith
