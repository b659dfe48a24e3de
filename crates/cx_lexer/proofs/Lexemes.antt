-- What the scanner finds longest of a class is longest of all tokens, since the first byte tells the class.
use Rattle.std.proofs.Common.{◌≡◌, ◌&&◌, ◌||◌, Bool, true, false, not, ℕ, zero, suc, ◌<◌, ◌≤◌, List, [], ◌∷◌, length, take, cond, eqb, refl, sym, ◌∙◌, arith, ⊎_elim}
use Rattle.std.proofs.lemmas.Bool.{cond-true, cond-false, and_parts, and_left, or_parts, or_cases, true≢false, false≢true, false_from_ne_true, eqb-true, not-true, cases_Bool}
use Rattle.std.proofs.lemmas.Bool.Decides.{nat_tests}
use Rattle.cx_syntax.specs.declared.token.TokenKind.{TokenKind}
use Rattle.cx_syntax.specs.declared.token.TokenKind.TheVariants.{Name, Word, Number, Char, Text, Punct}
use Rattle.cx_lexer.specs.Bytes.{starts_name, is_decimal_digit, is_blank, quote, double_quote, backslash}
use Rattle.cx_lexer.specs.Name.{is_name, is_word}
use Rattle.cx_lexer.specs.Number.{is_number, follows_digit, is_prefixed}
use Rattle.cx_lexer.specs.Quoted.{is_char, is_text, is_plain, is_escape}
use Rattle.cx_lexer.specs.Punct.{is_punct, puncts}
use Rattle.cx_lexer.specs.Comment.{begins_line_comment, begins_block_comment}
use Rattle.cx_lexer.specs.Lexeme.{is_token, IsLexeme}
use Rattle.cx_lexer.specs.Scan.{IsLongest}
use Rattle.cx_lexer.proofs.Puncts.{punct_begins, begins_else}

-- the sorts of first bytes
abbrev pub sort_of : ℕ → ℕ
sort_of b = cond (starts_name b) 1 (cond (is_decimal_digit b) 2 (cond (eqb b quote) 3 (cond (eqb b double_quote) 4 5)))

abbrev pub sort : TokenKind → ℕ
sort Name = 1
sort Word = 1
sort Number = 2
sort Char = 3
sort Text = 4
sort Punct = 5

pub at_letter : (b : ℕ) → starts_name b ≡ true → sort_of b ≡ 1
at_letter b e = cond-true _ _ _ e

pub digit_no_letter : (b : ℕ) → is_decimal_digit b ≡ true → starts_name b ≡ false
unfolding is_decimal_digit starts_name
digit_no_letter b e = grind (arith, nat_tests)

pub at_digit : (b : ℕ) → is_decimal_digit b ≡ true → sort_of b ≡ 2
at_digit b e = cond-false _ _ _ (digit_no_letter b e) ∙ cond-true _ _ _ e

pub at_quote : (b : ℕ) → eqb b quote ≡ true → sort_of b ≡ 3
unfolding starts_name is_decimal_digit
at_quote b e = let is : b ≡ 39 = eqb-true b quote e in rw is refl

pub at_double_quote : (b : ℕ) → eqb b double_quote ≡ true → sort_of b ≡ 4
unfolding starts_name is_decimal_digit
at_double_quote b e = let is : b ≡ 34 = eqb-true b double_quote e in rw is refl

pub at_else : (b : ℕ) → starts_name b ≡ false → is_decimal_digit b ≡ false → eqb b quote ≡ false → eqb b double_quote ≡ false → sort_of b ≡ 5
at_else b e f g h = cond-false _ _ _ e ∙ (cond-false _ _ _ f ∙ (cond-false _ _ _ g ∙ cond-false _ _ _ h))

at_punct : (b : ℕ) → not (begins_else b) ≡ true → sort_of b ≡ 5
at_punct b e =
    let all = or_parts (starts_name b || is_decimal_digit b || is_blank b || eqb b quote) (eqb b double_quote) (not-true _ e) in
    let three = or_parts (starts_name b || is_decimal_digit b || is_blank b) (eqb b quote) all.0 in
    let two = or_parts (starts_name b || is_decimal_digit b) (is_blank b) three.0 in
    let one = or_parts (starts_name b) (is_decimal_digit b) two.0 in
    at_else b one.0 one.1 three.1 all.1

name_first : (b : ℕ) (ys : List ℕ) → is_name (b ∷ ys) ≡ true → starts_name b ≡ true
unfolding is_name
name_first b ys e = (and_parts _ _ e).0

number_first : (b : ℕ) (ys : List ℕ) → is_number (b ∷ ys) ≡ true → is_decimal_digit b ≡ true
unfolding is_number is_decimal_digit
number_first b ys e =
    ⊎_elim
    (λ z. let is : b ≡ 48 = eqb-true b 48 z in rw is refl)
    (λ z. (and_parts (is_decimal_digit b) (follows_digit 10 ys) (sym (cond-false (eqb b 48) (follows_digit 8 ys || is_prefixed 120 16 ys || is_prefixed 98 2 ys) (is_decimal_digit b && follows_digit 10 ys) z) ∙ e)).0)
    (cases_Bool (eqb b 48))

first_of_three : (q p r : Bool) → (q && p && r) ≡ true → q ≡ true
first_of_three true p r e = refl
first_of_three false p r e = absurd (false≢true e)

first_of_four : (q s p r : Bool) → (q && s && p && r) ≡ true → q ≡ true
first_of_four true s p r e = refl
first_of_four false s p r e = absurd (false≢true e)

char_first : (b : ℕ) (ys : List ℕ) → is_char (b ∷ ys) ≡ true → eqb b quote ≡ true
unfolding is_char
char_first b [] e = absurd (false≢true e)
char_first b (c ∷ []) e = absurd (false≢true e)
char_first b (c ∷ d ∷ []) e = first_of_three (eqb b quote) (is_plain c) (eqb d quote) e
char_first b (c ∷ d ∷ f ∷ []) e = first_of_four (eqb b quote) (eqb c backslash) (is_escape d) (eqb f quote) e
char_first b (c ∷ d ∷ f ∷ g ∷ ys) e = absurd (false≢true e)

text_first : (b : ℕ) (ys : List ℕ) → is_text (b ∷ ys) ≡ true → eqb b double_quote ≡ true
unfolding is_text
text_first b ys e = (and_parts _ _ e).0

-- the first byte of a token tells its sort
pub first_sort : (kind : TokenKind) (b : ℕ) (ys : List ℕ) → is_token kind (b ∷ ys) ≡ true → sort_of b ≡ sort kind
first_sort Name b ys e = at_letter b (name_first b ys (and_parts (is_name (b ∷ ys)) (not (is_word (b ∷ ys))) e).0)
first_sort Word b ys e = at_letter b (name_first b ys (and_parts (is_name (b ∷ ys)) (is_word (b ∷ ys)) e).0)
first_sort Number b ys e = at_digit b (number_first b ys e)
first_sort Char b ys e = at_quote b (char_first b ys e)
first_sort Text b ys e = at_double_quote b (text_first b ys e)
first_sort Punct b ys e = at_punct b (punct_begins b ys e)

-- a token has a byte
pub nothing_is_token : (kind : TokenKind) → is_token kind [] ≡ false
unfolding is_name is_number is_char is_text is_punct puncts
nothing_is_token Name = refl
nothing_is_token Word = refl
nothing_is_token Number = refl
nothing_is_token Char = refl
nothing_is_token Text = refl
nothing_is_token Punct = refl

-- no token begins with a blank
blank_sort : (b : ℕ) → is_blank b ≡ true → sort_of b ≡ 5
unfolding is_blank starts_name is_decimal_digit
blank_sort b blank =
    ⊎_elim
    (λ e. ⊎_elim
    (λ f. ⊎_elim (λ g. let is : b ≡ 32 = eqb-true b 32 g in rw is refl) (λ g. let is : b ≡ 9 = eqb-true b 9 g in rw is refl) (or_cases _ _ f))
    (λ f. let is : b ≡ 13 = eqb-true b 13 f in rw is refl)
    (or_cases _ _ e))
    (λ e. let is : b ≡ 10 = eqb-true b 10 e in rw is refl)
    (or_cases _ _ blank)

punct_no_blank : (b : ℕ) (ys : List ℕ) → is_punct (b ∷ ys) ≡ true → is_blank b ≡ false
punct_no_blank b ys e =
    let all = or_parts (starts_name b || is_decimal_digit b || is_blank b || eqb b quote) (eqb b double_quote) (not-true _ (punct_begins b ys e)) in
    let three = or_parts (starts_name b || is_decimal_digit b || is_blank b) (eqb b quote) all.0 in
    (or_parts (starts_name b || is_decimal_digit b) (is_blank b) three.0).1

blank_begins : (kind : TokenKind) (b : ℕ) (ys : List ℕ) → is_blank b ≡ true → is_token kind (b ∷ ys) ≡ true → ⊥
blank_begins Name b ys blank e = let f = first_sort Name b ys e in let g = blank_sort b blank in omega arith
blank_begins Word b ys blank e = let f = first_sort Word b ys e in let g = blank_sort b blank in omega arith
blank_begins Number b ys blank e = let f = first_sort Number b ys e in let g = blank_sort b blank in omega arith
blank_begins Char b ys blank e = let f = first_sort Char b ys e in let g = blank_sort b blank in omega arith
blank_begins Text b ys blank e = let f = first_sort Text b ys e in let g = blank_sort b blank in omega arith
blank_begins Punct b ys blank e = true≢false (sym blank ∙ punct_no_blank b ys e)

pub blank_begins_none : (kind : TokenKind) (b : ℕ) (ys : List ℕ) → is_blank b ≡ true → is_token kind (b ∷ ys) ≡ false
blank_begins_none kind b ys blank = false_from_ne_true _ (blank_begins kind b ys blank)

-- what a test covers of the classes of one sort
abbrev pub Covers : (List ℕ → Bool) → TokenKind → Type 0
Covers test kind = (other : TokenKind) (ys : List ℕ) → sort other ≡ sort kind → test ys ≡ false → is_token other ys ≡ false

pub name_covers : Covers is_name Name
name_covers Name ys same e = and_left _ _ e
name_covers Word ys same e = and_left _ _ e
name_covers Number ys same e = absurd (omega arith)
name_covers Char ys same e = absurd (omega arith)
name_covers Text ys same e = absurd (omega arith)
name_covers Punct ys same e = absurd (omega arith)

pub number_covers : Covers is_number Number
number_covers Name ys same e = absurd (omega arith)
number_covers Word ys same e = absurd (omega arith)
number_covers Number ys same e = e
number_covers Char ys same e = absurd (omega arith)
number_covers Text ys same e = absurd (omega arith)
number_covers Punct ys same e = absurd (omega arith)

pub char_covers : Covers is_char Char
char_covers Name ys same e = absurd (omega arith)
char_covers Word ys same e = absurd (omega arith)
char_covers Number ys same e = absurd (omega arith)
char_covers Char ys same e = e
char_covers Text ys same e = absurd (omega arith)
char_covers Punct ys same e = absurd (omega arith)

pub text_covers : Covers is_text Text
text_covers Name ys same e = absurd (omega arith)
text_covers Word ys same e = absurd (omega arith)
text_covers Number ys same e = absurd (omega arith)
text_covers Char ys same e = absurd (omega arith)
text_covers Text ys same e = e
text_covers Punct ys same e = absurd (omega arith)

pub punct_covers : Covers is_punct Punct
punct_covers Name ys same e = absurd (omega arith)
punct_covers Word ys same e = absurd (omega arith)
punct_covers Number ys same e = absurd (omega arith)
punct_covers Char ys same e = absurd (omega arith)
punct_covers Text ys same e = absurd (omega arith)
punct_covers Punct ys same e = e

-- the longest of a class is a lexeme
pub lexeme : (kind : TokenKind) (test : List ℕ → Bool) → Covers test kind → (b : ℕ) (xs : List ℕ) (n : ℕ) → sort_of b ≡ sort kind → IsLongest test (b ∷ xs) n → is_token kind (take n (b ∷ xs)) ≡ true → (begins_line_comment (b ∷ xs) || begins_block_comment (b ∷ xs)) ≡ false → IsLexeme kind (b ∷ xs) n
lexeme kind test covers b xs n same longest is_one no_comment = record {
  within = longest.within;
  token = is_one;
  longest = none;
  no_comment = no_comment;
}
  where
    none : (m : ℕ) (other : TokenKind) → n < m → m ≤ length (b ∷ xs) → is_token other (take m (b ∷ xs)) ≡ false
    none zero other above within = absurd (omega arith)
    none (suc m) other above within = false_from_ne_true _ (λ e.
        true≢false (sym e ∙ covers other (b ∷ take m xs) (sym (first_sort other b (take m xs) e) ∙ same) (longest.longest (suc m) above within)))
