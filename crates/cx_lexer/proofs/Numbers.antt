-- The scanner's lengths of numbers are those of the longest ones.
use Rattle.std.proofs.Common.{◌≡◌, ◌&&◌, ◌||◌, Bool, true, false, ℕ, zero, suc, ◌+◌, ◌<◌, ◌≤◌, List, [], ◌∷◌, length, get_or, take, drop, cond, eqb, leb, refl, sym, ◌∙◌, ap, subst, arith, ⊎_elim, length-drop, drop-drop}
use Rattle.std.proofs.lemmas.Bool.{cond-true, cond-false, cases_Bool, true≢false, and_left, and_right, or_left, and_from, and_parts, or_cases, eqb-true, cond_both, le-leb, leb-true, or_right}
use Rattle.std.proofs.lemmas.Bool.Decides.{nat_tests}
use Rattle.cx_lexer.specs.Bytes.{is_letter_of, quote, is_decimal_digit}
use Rattle.cx_lexer.specs.Number.{is_digit, digit_value, is_u, is_ll, is_suffix, follows_digit, is_prefixed, is_number}
use Rattle.cx_lexer.specs.Scan.{IsLongest, suffix_length, digit_length, tail_length, has_prefix, zero_tail_length, number_length}
use Rattle.cx_lexer.proofs.Fronts.{three_within, three_passes_or_none, three_longest, behind}

pub suffix_within : (xs : List ℕ) → suffix_length xs ≤ length xs
unfolding suffix_length
suffix_within xs = three_within is_suffix xs

suffix_of_none : (xs : List ℕ) → is_suffix (take 0 xs) ≡ true
unfolding is_suffix
suffix_of_none xs = refl

pub suffix_passes : (xs : List ℕ) → is_suffix (take (suffix_length xs) xs) ≡ true
unfolding suffix_length
suffix_passes xs = three_passes_or_none is_suffix xs (suffix_of_none xs)

long_suffix : (xs : List ℕ) (n : ℕ) → 3 < n → n ≤ length xs → is_suffix (take n xs) ≡ false
unfolding is_suffix
long_suffix (a ∷ b ∷ c ∷ d ∷ xs) (suc (suc (suc (suc n)))) above within = refl
long_suffix xs n above within = absurd (omega arith)

pub suffix_longest : (xs : List ℕ) (m : ℕ) → suffix_length xs < m → m ≤ length xs → is_suffix (take m xs) ≡ false
unfolding suffix_length
suffix_longest xs m above within = three_longest is_suffix xs m (long_suffix xs) above within

empty_follows : (base : ℕ) → follows_digit base [] ≡ true
unfolding follows_digit
empty_follows base = refl

or_false : (x y : Bool) → x ≡ false → y ≡ false → (x || y) ≡ false
or_false x y e f = ap (λ t. t || y) e ∙ f

pub tail_within : (base : ℕ) (xs : List ℕ) → tail_length base xs ≤ length xs
unfolding tail_length
tail_within base [] = omega arith
tail_within base (a ∷ []) = cond_both (is_digit base a) 1 (suffix_length (a ∷ [])) (λ n. n ≤ 1) (λ e. omega arith) (λ e. suffix_within (a ∷ []))
tail_within base (a ∷ b ∷ rest) =
    let one = tail_within base (b ∷ rest) in
    let two = tail_within base rest in
    let other = suffix_within (a ∷ b ∷ rest) in
    grind (arith, one, two, other)

-- what follows a digit behind a digit
after_digit : (base a : ℕ) → is_digit base a ≡ true → (ys : List ℕ) → follows_digit base (a ∷ ys) ≡ follows_digit base ys
unfolding follows_digit
after_digit base a digit [] = or_left _ _ digit
after_digit base a digit (b ∷ ys) = cond-true _ _ _ digit

-- behind a quote
after_quote : (base a : ℕ) → is_digit base a ≡ false → eqb a quote ≡ true → (b : ℕ) (ys : List ℕ) → follows_digit base (a ∷ b ∷ ys) ≡ (is_digit base b && follows_digit base ys)
unfolding follows_digit
after_quote base a digit is_quote b ys = cond-false _ _ _ digit ∙ cond-true _ _ _ is_quote

-- nothing behind a quote
quote_alone : (base a : ℕ) → is_digit base a ≡ false → eqb a quote ≡ true → follows_digit base (a ∷ []) ≡ false
unfolding follows_digit is_suffix is_u
quote_alone base a digit is_quote = or_false _ _ digit (ap is_u (eqb-true a quote is_quote))

-- behind anything else only a suffix
other : (base a : ℕ) → is_digit base a ≡ false → eqb a quote ≡ false → (ys : List ℕ) → follows_digit base (a ∷ ys) ≡ is_suffix (a ∷ ys)
unfolding follows_digit
other base a digit is_quote [] = ap (λ t. t || is_suffix (a ∷ [])) digit
other base a digit is_quote (b ∷ ys) = cond-false _ _ _ digit ∙ cond-false _ _ _ is_quote

at_other : (base a : ℕ) → is_digit base a ≡ false → eqb a quote ≡ false → (ys : List ℕ) (n : ℕ) → follows_digit base (take n (a ∷ ys)) ≡ is_suffix (take n (a ∷ ys))
unfolding follows_digit is_suffix
at_other base a digit is_quote ys zero = refl
at_other base a digit is_quote ys (suc n) = other base a digit is_quote (take n ys)

alone : (base a : ℕ) → is_digit base a ≡ false → (n : ℕ) → follows_digit base (take n (a ∷ [])) ≡ is_suffix (take n (a ∷ []))
unfolding follows_digit is_suffix
alone base a digit zero = refl
alone base a digit (suc zero) = ap (λ t. t || is_u a) digit
alone base a digit (suc (suc n)) = ap (λ t. t || is_u a) digit

pub tail_passes : (base : ℕ) (xs : List ℕ) → follows_digit base (take (tail_length base xs) xs) ≡ true
unfolding tail_length
tail_passes base [] = empty_follows base
tail_passes base (a ∷ []) =
    cond_both (is_digit base a) 1 (suffix_length (a ∷ [])) (λ n. follows_digit base (take n (a ∷ [])) ≡ true)
    (λ e. after_digit base a e [] ∙ empty_follows base)
    (λ e. alone base a e (suffix_length (a ∷ [])) ∙ suffix_passes (a ∷ []))
tail_passes base (a ∷ b ∷ rest) =
    let P : ℕ → Type 0 = λ n. follows_digit base (take n (a ∷ b ∷ rest)) ≡ true in
    cond_both (is_digit base a) (suc (tail_length base (b ∷ rest))) (cond (eqb a quote) (cond (is_digit base b) (suc (suc (tail_length base rest))) 0) (suffix_length (a ∷ b ∷ rest))) P
    (λ e. after_digit base a e (take (tail_length base (b ∷ rest)) (b ∷ rest)) ∙ tail_passes base (b ∷ rest))
    (λ e. cond_both (eqb a quote) (cond (is_digit base b) (suc (suc (tail_length base rest))) 0) (suffix_length (a ∷ b ∷ rest)) P
    (λ f. cond_both (is_digit base b) (suc (suc (tail_length base rest))) 0 P
    (λ g. after_quote base a e f b (take (tail_length base rest) rest) ∙ and_from _ _ g (tail_passes base rest))
    (λ g. empty_follows base))
    (λ f. at_other base a e f (b ∷ rest) (suffix_length (a ∷ b ∷ rest)) ∙ suffix_passes (a ∷ b ∷ rest)))

pub tail_longest : (base : ℕ) (xs : List ℕ) (m : ℕ) → tail_length base xs < m → m ≤ length xs → follows_digit base (take m xs) ≡ false
unfolding tail_length
tail_longest base xs zero above within = absurd (omega arith)
tail_longest base [] (suc m) above within = absurd (omega arith)
tail_longest base (a ∷ []) (suc m) above within =
    cond_both (is_digit base a) 1 (suffix_length (a ∷ [])) (λ n. n < suc m → follows_digit base (take (suc m) (a ∷ [])) ≡ false)
    (λ e h. absurd (omega arith))
    (λ e h. alone base a e (suc m) ∙ suffix_longest (a ∷ []) (suc m) h within)
    above
tail_longest base (a ∷ b ∷ rest) (suc zero) above within =
    let P : ℕ → Type 0 = λ n. n < 1 → follows_digit base (a ∷ []) ≡ false in
    cond_both (is_digit base a) (suc (tail_length base (b ∷ rest))) (cond (eqb a quote) (cond (is_digit base b) (suc (suc (tail_length base rest))) 0) (suffix_length (a ∷ b ∷ rest))) P
    (λ e h. absurd (omega arith))
    (λ e. cond_both (eqb a quote) (cond (is_digit base b) (suc (suc (tail_length base rest))) 0) (suffix_length (a ∷ b ∷ rest)) P
    (λ f h. quote_alone base a e f)
    (λ f h. at_other base a e f (b ∷ rest) 1 ∙ suffix_longest (a ∷ b ∷ rest) 1 h within))
    above
tail_longest base (a ∷ b ∷ rest) (suc (suc m)) above within =
    let P : ℕ → Type 0 = λ n. n < suc (suc m) → follows_digit base (a ∷ b ∷ take m rest) ≡ false in
    cond_both (is_digit base a) (suc (tail_length base (b ∷ rest))) (cond (eqb a quote) (cond (is_digit base b) (suc (suc (tail_length base rest))) 0) (suffix_length (a ∷ b ∷ rest))) P
    (λ e h. after_digit base a e (b ∷ take m rest) ∙ tail_longest base (b ∷ rest) (suc m) (omega arith) (omega arith))
    (λ e. cond_both (eqb a quote) (cond (is_digit base b) (suc (suc (tail_length base rest))) 0) (suffix_length (a ∷ b ∷ rest)) P
    (λ f. cond_both (is_digit base b) (suc (suc (tail_length base rest))) 0 P
    (λ g h. after_quote base a e f b (take m rest) ∙ (ap (λ t. t && follows_digit base (take m rest)) g ∙ tail_longest base rest m (omega arith) (omega arith)))
    (λ g h. after_quote base a e f b (take m rest) ∙ and_left _ _ g))
    (λ f h. at_other base a e f (b ∷ rest) (suc (suc m)) ∙ suffix_longest (a ∷ b ∷ rest) (suc (suc m)) h within))
    above

-- a rest that begins with a prefix and a digit
prefix_at : (letter base b d : ℕ) (rest : List ℕ) → has_prefix letter base (b ∷ d ∷ rest) ≡ (is_letter_of letter b && is_digit base d)
unfolding has_prefix
prefix_at letter base b d rest = ap (λ t. t && is_letter_of letter b && is_digit base d) (le-leb 2 (suc (suc (length rest))) (omega arith))

short_prefix : (letter base b : ℕ) → has_prefix letter base (b ∷ []) ≡ false
unfolding has_prefix
short_prefix letter base b = refl

no_prefix : (letter base : ℕ) → has_prefix letter base [] ≡ false
unfolding has_prefix
no_prefix letter base = refl

-- a letter that no suffix begins with begins none
no_suffix : (b : ℕ) → is_u b ≡ false → is_letter_of 108 b ≡ false → (ys : List ℕ) → is_suffix (b ∷ ys) ≡ false
unfolding is_suffix is_ll
no_suffix b u l [] = u
no_suffix b u l (c ∷ []) = and_left _ _ l
no_suffix b u l (c ∷ d ∷ []) = or_false _ _ (and_left _ _ u) (and_left _ _ (and_left _ _ l))
no_suffix b u l (c ∷ d ∷ e ∷ ys) = refl

-- the letters of the prefixes are no octal digits and begin no suffix
x_ends : (b : ℕ) (ys : List ℕ) → is_letter_of 120 b ≡ true → follows_digit 8 (b ∷ ys) ≡ false
unfolding is_u digit_value
x_ends b ys letter =
    ⊎_elim
    (λ e. let at : b ≡ 120 = eqb-true _ _ e in rw at (other 8 120 refl refl ys ∙ no_suffix 120 refl refl ys))
    (λ e. let sum : b + 32 ≡ 120 = eqb-true _ _ e in let at : b ≡ 88 = omega arith in rw at (other 8 88 refl refl ys ∙ no_suffix 88 refl refl ys))
    (or_cases _ _ letter)

b_ends : (b : ℕ) (ys : List ℕ) → is_letter_of 98 b ≡ true → follows_digit 8 (b ∷ ys) ≡ false
unfolding is_u digit_value
b_ends b ys letter =
    ⊎_elim
    (λ e. let at : b ≡ 98 = eqb-true _ _ e in rw at (other 8 98 refl refl ys ∙ no_suffix 98 refl refl ys))
    (λ e. let sum : b + 32 ≡ 98 = eqb-true _ _ e in let at : b ≡ 66 = omega arith in rw at (other 8 66 refl refl ys ∙ no_suffix 66 refl refl ys))
    (or_cases _ _ letter)

-- the letters of the two prefixes differ
letters_apart : (b : ℕ) → is_letter_of 120 b ≡ true → is_letter_of 98 b ≡ false
letters_apart b e = grind (arith, nat_tests)

abbrev zero_tail : List ℕ → Bool
zero_tail rest = follows_digit 8 rest || is_prefixed 120 16 rest || is_prefixed 98 2 rest

prefix_needs_two : (letter base : ℕ) (xs : List ℕ) → has_prefix letter base xs ≡ true → 2 ≤ length xs
unfolding has_prefix
prefix_needs_two letter base xs e = leb-true 2 _ (and_parts _ _ (and_parts _ _ e).0).0

pub zero_within : (xs : List ℕ) → zero_tail_length xs ≤ length xs
unfolding zero_tail_length
zero_within xs =
    let P : ℕ → Type 0 = λ n. n ≤ length xs in
    cond_both (has_prefix 120 16 xs) (suc (suc (tail_length 16 (drop 2 xs)))) (cond (has_prefix 98 2 xs) (suc (suc (tail_length 2 (drop 2 xs)))) (tail_length 8 xs)) P
    (λ e. let two = prefix_needs_two _ _ xs e in omega (arith, tail_within 16 (drop 2 xs), length-drop 2 xs))
    (λ _. cond_both (has_prefix 98 2 xs) (suc (suc (tail_length 2 (drop 2 xs)))) (tail_length 8 xs) P
    (λ e. let two = prefix_needs_two _ _ xs e in omega (arith, tail_within 2 (drop 2 xs), length-drop 2 xs))
    (λ _. tail_within 8 xs))

plain_passes : (xs : List ℕ) → zero_tail (take (tail_length 8 xs) xs) ≡ true
plain_passes xs = or_left _ _ (or_left _ _ (tail_passes 8 xs))

pub zero_passes : (xs : List ℕ) → zero_tail (take (zero_tail_length xs) xs) ≡ true
unfolding zero_tail_length has_prefix
zero_passes [] = plain_passes []
zero_passes (b ∷ []) = plain_passes (b ∷ [])
zero_passes (b ∷ d ∷ rest) =
    let P : ℕ → Type 0 = λ n. zero_tail (take n (b ∷ d ∷ rest)) ≡ true in
    cond_both (has_prefix 120 16 (b ∷ d ∷ rest)) (suc (suc (tail_length 16 rest))) (cond (has_prefix 98 2 (b ∷ d ∷ rest)) (suc (suc (tail_length 2 rest))) (tail_length 8 (b ∷ d ∷ rest))) P
    (λ e. or_left _ _ (or_right _ _ (and_from _ _ (sym (prefix_at 120 16 b d rest) ∙ e) (tail_passes 16 rest))))
    (λ _. cond_both (has_prefix 98 2 (b ∷ d ∷ rest)) (suc (suc (tail_length 2 rest))) (tail_length 8 (b ∷ d ∷ rest)) P
    (λ e. or_right _ _ (and_from _ _ (sym (prefix_at 98 2 b d rest) ∙ e) (tail_passes 2 rest)))
    (λ _. plain_passes (b ∷ d ∷ rest)))

pub zero_longest : (xs : List ℕ) (m : ℕ) → zero_tail_length xs < m → m ≤ length xs → zero_tail (take m xs) ≡ false
unfolding zero_tail_length has_prefix
zero_longest xs zero above within = absurd (omega arith)
zero_longest [] (suc m) above within = absurd (omega arith)
zero_longest (b ∷ []) (suc zero) above within = or_false _ _ (or_false _ _ (tail_longest 8 (b ∷ []) 1 above within) refl) refl
zero_longest (b ∷ []) (suc (suc m)) above within = absurd (omega arith)
zero_longest (b ∷ d ∷ rest) (suc zero) above within =
    let P : ℕ → Type 0 = λ n. n < 1 → zero_tail (b ∷ []) ≡ false in
    cond_both (has_prefix 120 16 (b ∷ d ∷ rest)) (suc (suc (tail_length 16 rest))) (cond (has_prefix 98 2 (b ∷ d ∷ rest)) (suc (suc (tail_length 2 rest))) (tail_length 8 (b ∷ d ∷ rest))) P
    (λ e h. absurd (omega arith))
    (λ _. cond_both (has_prefix 98 2 (b ∷ d ∷ rest)) (suc (suc (tail_length 2 rest))) (tail_length 8 (b ∷ d ∷ rest)) P
    (λ e h. absurd (omega arith))
    (λ _ h. or_false _ _ (or_false _ _ (tail_longest 8 (b ∷ d ∷ rest) 1 h within) refl) refl))
    above
zero_longest (b ∷ d ∷ rest) (suc (suc m)) above within =
    let P : ℕ → Type 0 = λ n. n < suc (suc m) → zero_tail (b ∷ d ∷ take m rest) ≡ false in
    cond_both (has_prefix 120 16 (b ∷ d ∷ rest)) (suc (suc (tail_length 16 rest))) (cond (has_prefix 98 2 (b ∷ d ∷ rest)) (suc (suc (tail_length 2 rest))) (tail_length 8 (b ∷ d ∷ rest))) P
    (λ e h.
    let letter = (and_parts _ _ (sym (prefix_at 120 16 b d rest) ∙ e)).0 in
    or_false _ _ (or_false _ _ (x_ends b (d ∷ take m rest) letter) (and_right _ _ (tail_longest 16 rest m (omega arith) (omega arith)))) (and_left _ _ (and_left _ _ (letters_apart b letter))))
    (λ e. let no_x = sym (prefix_at 120 16 b d rest) ∙ e in
    cond_both (has_prefix 98 2 (b ∷ d ∷ rest)) (suc (suc (tail_length 2 rest))) (tail_length 8 (b ∷ d ∷ rest)) P
    (λ f h.
    let letter = (and_parts _ _ (sym (prefix_at 98 2 b d rest) ∙ f)).0 in
    or_false _ _ (or_false _ _ (b_ends b (d ∷ take m rest) letter) (and_left _ _ no_x)) (and_right _ _ (tail_longest 2 rest m (omega arith) (omega arith))))
    (λ f h. or_false _ _ (or_false _ _ (tail_longest 8 (b ∷ d ∷ rest) (suc (suc m)) h within) (and_left _ _ no_x)) (and_left _ _ (sym (prefix_at 98 2 b d rest) ∙ f))))
    above

-- the scanner's number is the longest
pub number_longest : (a : ℕ) (xs : List ℕ) → is_decimal_digit a ≡ true → IsLongest is_number (a ∷ xs) (number_length (a ∷ xs))
unfolding number_length is_number
number_longest a xs digit =
    cond_both (eqb a 48) (suc (zero_tail_length xs)) (suc (tail_length 10 xs)) (IsLongest is_number (a ∷ xs))
    (λ e. record {
      within = omega (arith, zero_within xs);
      passes = cond-true _ _ _ e ∙ zero_passes xs;
      longest = behind is_number (a ∷ xs) _ (λ m above within. cond-true _ _ _ e ∙ zero_longest xs m (omega arith) (omega arith));
    })
    (λ e. record {
      within = omega (arith, tail_within 10 xs);
      passes = cond-false _ _ _ e ∙ and_from _ _ digit (tail_passes 10 xs);
      longest = behind is_number (a ∷ xs) _ (λ m above within. cond-false _ _ _ e ∙ and_right _ _ (tail_longest 10 xs m (omega arith) (omega arith)));
    })

-- a digit that the scanner takes
pub digit_within : (base : ℕ) (xs : List ℕ) → digit_length base xs ≤ length xs
unfolding digit_length
digit_within base xs =
    cond_both (leb 1 (length xs) && is_digit base (get_or xs 0 0)) 1 (cond (leb 2 (length xs) && eqb (get_or xs 0 0) quote && is_digit base (get_or xs 1 0)) 2 0) (λ n. n ≤ length xs)
    (λ e. leb-true 1 _ (and_parts _ _ e).0)
    (λ _. cond_both (leb 2 (length xs) && eqb (get_or xs 0 0) quote && is_digit base (get_or xs 1 0)) 2 0 (λ n. n ≤ length xs)
    (λ e. leb-true 2 _ (and_parts _ _ (and_parts _ _ e).0).0)
    (λ _. omega arith))

nothing_behind : suffix_length [] ≡ 0
unfolding suffix_length
nothing_behind = refl

-- a quote begins no suffix
quote_no_suffix : (xs : List ℕ) → suffix_length (quote ∷ xs) ≡ 0
unfolding is_u
quote_no_suffix xs = at_none (suffix_length (quote ∷ xs)) (suffix_passes (quote ∷ xs))
  where
    at_none : (n : ℕ) → is_suffix (take n (quote ∷ xs)) ≡ true → n ≡ 0
    at_none zero e = refl
    at_none (suc n) e = absurd (true≢false (sym e ∙ no_suffix quote refl refl (take n xs)))

module _ (base : ℕ) where
  at_quote : (a b : ℕ) (xs : List ℕ) → (eqb a quote && is_digit base b) ≡ false → cond (eqb a quote) (cond (is_digit base b) (suc (suc (tail_length base xs))) 0) (suffix_length (a ∷ b ∷ xs)) ≡ suffix_length (a ∷ b ∷ xs)
  at_quote a b xs none =
      ⊎_elim
      (λ e. cond-true _ _ _ e ∙ (cond-false _ _ _ (sym (ap (λ t. t && is_digit base b) e) ∙ none) ∙ sym (ap (λ c. suffix_length (c ∷ b ∷ xs)) (eqb-true a quote e) ∙ quote_no_suffix (b ∷ xs))))
      (λ e. cond-false _ _ _ e)
      (cases_Bool (eqb a quote))

  digit_none : digit_length base [] ≡ 0
  unfolding digit_length
  digit_none = refl

  digit_alone : (a : ℕ) → digit_length base (a ∷ []) ≡ cond (is_digit base a) 1 0
  unfolding digit_length
  digit_alone a = refl

  digit_before : (a b : ℕ) (xs : List ℕ) → digit_length base (a ∷ b ∷ xs) ≡ cond (is_digit base a) 1 (cond (eqb a quote && is_digit base b) 2 0)
  unfolding digit_length
  digit_before a b xs = rw (le-leb 1 (suc (suc (length xs))) (omega arith), le-leb 2 (suc (suc (length xs))) (omega arith)) refl

  -- what a digit of that length leaves
  abbrev Steps : List ℕ → ℕ → Type 0
  Steps xs n = 0 < n → tail_length base xs ≡ n + tail_length base (drop n xs)

  pub tail_steps : (xs : List ℕ) → Steps xs (digit_length base xs)
  unfolding tail_length
  tail_steps [] = subst (Steps []) (sym digit_none) (λ h. absurd (omega arith))
  tail_steps (a ∷ []) =
      subst (Steps (a ∷ [])) (sym (digit_alone a))
      (cond_both (is_digit base a) 1 0 (Steps (a ∷ [])) (λ e _. cond-true _ _ _ e ∙ omega arith) (λ _ h. absurd (omega arith)))
  tail_steps (a ∷ b ∷ xs) =
      subst (Steps (a ∷ b ∷ xs)) (sym (digit_before a b xs))
      (cond_both (is_digit base a) 1 (cond (eqb a quote && is_digit base b) 2 0) (Steps (a ∷ b ∷ xs))
      (λ e _. cond-true _ _ _ e ∙ omega arith)
      (λ e. cond_both (eqb a quote && is_digit base b) 2 0 (Steps (a ∷ b ∷ xs))
      (λ f _. let parts = and_parts (eqb a quote) (is_digit base b) f in cond-false _ _ _ e ∙ (cond-true _ _ _ parts.0 ∙ (cond-true _ _ _ parts.1 ∙ omega arith)))
      (λ _ h. absurd (omega arith))))

  -- where no digit comes
  abbrev Stops : List ℕ → ℕ → Type 0
  Stops xs n = n ≡ 0 → tail_length base xs ≡ suffix_length xs

  pub tail_stops : (xs : List ℕ) → Stops xs (digit_length base xs)
  unfolding tail_length
  tail_stops [] = λ _. sym nothing_behind
  tail_stops (a ∷ []) =
      subst (Stops (a ∷ [])) (sym (digit_alone a))
      (cond_both (is_digit base a) 1 0 (Stops (a ∷ [])) (λ _ h. absurd (omega arith)) (λ e _. cond-false _ _ _ e))
  tail_stops (a ∷ b ∷ xs) =
      subst (Stops (a ∷ b ∷ xs)) (sym (digit_before a b xs))
      (cond_both (is_digit base a) 1 (cond (eqb a quote && is_digit base b) 2 0) (Stops (a ∷ b ∷ xs))
      (λ _ h. absurd (omega arith))
      (λ e. cond_both (eqb a quote && is_digit base b) 2 0 (Stops (a ∷ b ∷ xs))
      (λ _ h. absurd (omega arith))
      (λ f _. cond-false _ _ _ e ∙ at_quote a b xs f)))

-- one more digit, or the end of them, at a place of a rest
pub tail_more : (base : ℕ) (xs : List ℕ) (at step : ℕ) → step ≡ digit_length base (drop at xs) → 0 < step → at + tail_length base (drop at xs) ≡ tail_length base xs → (at + step) + tail_length base (drop (at + step) xs) ≡ tail_length base xs
tail_more base xs at step is some so_far =
    let some_here : 0 < digit_length base (drop at xs) = omega arith in
    let moved : drop (digit_length base (drop at xs)) (drop at xs) ≡ drop (at + step) xs = drop-drop (digit_length base (drop at xs)) at xs ∙ ap (λ n. drop (at + n) xs) (sym is) in
    let steps = tail_steps base (drop at xs) some_here in
    let same = ap (tail_length base) moved in
    omega arith

pub tail_ends : (base : ℕ) (xs : List ℕ) (at step : ℕ) → step ≡ digit_length base (drop at xs) → step ≤ 0 → at + tail_length base (drop at xs) ≡ tail_length base xs → at + suffix_length (drop at xs) ≡ tail_length base xs
tail_ends base xs at step is none so_far =
    let stops = tail_stops base (drop at xs) (omega arith) in
    omega arith
