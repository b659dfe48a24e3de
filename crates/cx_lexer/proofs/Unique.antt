-- At each place of a text one thing stands at most: so a text has one list of tokens at most, or one fault.
use Rattle.std.proofs.Common.{◌≡◌, ◌&&◌, Bool, true, false, not, ℕ, zero, suc, ◌+◌, ◌<◌, ◌≤◌, List, [], ◌∷◌, ◌++◌, length, take, drop, cond, eqb, ltb, refl, sym, ◌∙◌, ap, subst, arith, ⊎_elim, Option, Some, None, length-take-le, length-drop, inl, inr, Result, Ok, Err}
use Rattle.std.specs.Prelude.{option_map, ◌⊎◌, IfOk, IfErr, MatchResult}
use Rattle.std.proofs.lemmas.List.{drop_all}
use Rattle.std.proofs.lemmas.List.Sums.{prefix_len-le-length}
use Rattle.std.proofs.lemmas.Bool.{cond-true, cond-false, and_parts, or_parts, true≢false, false≢true, false_from_ne_true, eqb-true, lt-ltb, cases_Bool, and_right, cases_order, not-true}
use Rattle.cx_syntax.specs.declared.token.Token.{Token}
use Rattle.cx_syntax.specs.declared.token.TokenKind.{TokenKind}
use Rattle.cx_syntax.specs.declared.token.TokenKind.TheVariants.{Name, Word, Number, Char, Text, Punct}
use Rattle.cx_lexer.specs.declared.fault.LexFault.{LexFault}
use Rattle.cx_lexer.specs.declared.fault.LexFault.TheVariants as faults
use Rattle.cx_lexer.specs.declared.piece.Piece.{Piece}
use Rattle.cx_lexer.specs.declared.piece.Piece.TheVariants as pieces
use Rattle.cx_lexer.specs.declared.seen.Seen.TheVariants.{Other}
use Rattle.cx_lexer.specs.Bytes.{begins, is_blank, quote, double_quote, slash, star, newline, is_printable}
use Rattle.cx_lexer.specs.Name.{longest_name, is_name}
use Rattle.cx_lexer.specs.Number.{is_too_wide, runs_on}
use Rattle.cx_lexer.specs.Quoted.{is_char, is_text, is_plain, closes_text}
use Rattle.cx_lexer.specs.Punct.{is_punct, puncts}
use Rattle.cx_lexer.specs.Comment.{begins_line_comment, begins_block_comment, line_length, is_spliced_line, length_to_end, HidesEnd}
use Rattle.cx_lexer.specs.Lexeme.{is_token, IsLexeme, is_refused, BeginsNoToken}
use Rattle.cx_lexer.specs.Spelling.{IsGap, Begins, SpellsTo, Spells, IsFaultOf, InOrder}
use Rattle.cx_lexer.specs.Scan.{hides_from}
use Rattle.cx_lexer.specs.Piece.{Stands}
use Rattle.cx_lexer.proofs.Comments.{hidden, hides_complete}
use Rattle.cx_lexer.proofs.Lexemes.{blank_begins_none, nothing_is_token, first_sort, sort, at_quote, at_double_quote}

-- how much a gap and a token take
slash_no_newline : (a : ℕ) → eqb a slash ≡ true → eqb a newline ≡ false
slash_no_newline a e = let is : a ≡ 47 = eqb-true a 47 e in rw is refl

line_takes : (rest : List ℕ) → begins_line_comment rest ≡ true → 0 < line_length rest
unfolding begins_line_comment
line_takes [] e = absurd (false≢true e)
line_takes (a ∷ rest) e =
    let no_end = slash_no_newline a (and_parts _ _ e).0 in
    let more : line_length (a ∷ rest) ≡ 1 + line_length rest = cond-true _ _ _ (ap not no_end) in
    omega arith

begins_some : (test : ℕ → Bool) (rest : List ℕ) → begins test rest ≡ true → 0 < length rest
begins_some test [] e = absurd (false≢true e)
begins_some test (b ∷ rest) e = omega arith

some_is : (m n : ℕ) → Some m ≡ Some n → m ≡ n
some_is m n e = cc

none_is_not : (n : ℕ) → None ≡ Some n → ⊥
none_is_not n e = absurd (cc)

later : (o : Option ℕ) (k : ℕ) → ((m : ℕ) → o ≡ Some m → m ≤ k) → (n : ℕ) → option_map suc o ≡ Some n → n ≤ suc k
later None k below n e = absurd (none_is_not n e)
later (Some m) k below n e = let is = some_is (suc m) n e in let least = below m refl in omega arith

pub end_within : (xs : List ℕ) (n : ℕ) → length_to_end xs ≡ Some n → n ≤ length xs
unfolding length_to_end
end_within [] n e = absurd (none_is_not n e)
end_within (a ∷ xs) n e =
    ⊎_elim
    (λ here.
    let is = some_is 2 n (sym (cond-true _ _ _ here) ∙ e) in
    let more = begins_some (λ b. eqb b slash) xs (and_parts (eqb a star) _ here).1 in
    omega arith)
    (λ other. later (length_to_end xs) (length xs) (end_within xs) n (sym (cond-false _ _ _ other) ∙ e))
    (cases_Bool (eqb a star && begins (λ b. eqb b slash) xs))

block_long : (rest : List ℕ) → begins_block_comment rest ≡ true → 2 ≤ length rest
unfolding begins_block_comment
block_long [] e = absurd (false≢true e)
block_long (a ∷ []) e = absurd (false≢true (sym (and_right (eqb a 47) false refl) ∙ e))
block_long (a ∷ b ∷ rest) e = omega arith

pub gap_takes : {rest : List ℕ} {n : ℕ} → IsGap rest n → (0 < n) × (n ≤ length rest)
gap_takes {rest} (IsGap.blank e) = (omega arith, begins_some is_blank rest e)
gap_takes {rest} (IsGap.line_comment e f) = (line_takes rest e, prefix_len-le-length (λ b. not (eqb b newline)) rest)
gap_takes {rest} (IsGap.block_comment {n} e f g) = (omega arith, (let long = block_long rest e in let inside = end_within (drop 2 rest) n f in omega (arith, length-drop 2 rest)))

pub lexeme_takes : (kind : TokenKind) (rest : List ℕ) (n : ℕ) → IsLexeme kind rest n → 0 < n
lexeme_takes kind rest zero one = absurd (true≢false (sym one.token ∙ nothing_is_token kind))
lexeme_takes kind rest (suc n) one = omega arith

-- the sorts of what may stand at a place
abbrev sort_at : List ℕ → ℕ
sort_at rest = cond (begins is_blank rest) 0 (cond (begins_line_comment rest) 1 (cond (begins_block_comment rest) 2 3))

slash_no_blank : (a : ℕ) → eqb a slash ≡ true → is_blank a ≡ false
unfolding is_blank
slash_no_blank a e = let is : a ≡ 47 = eqb-true a 47 e in rw is refl

line_sort : (rest : List ℕ) → begins_line_comment rest ≡ true → sort_at rest ≡ 1
unfolding begins_line_comment
line_sort [] e = absurd (false≢true e)
line_sort (a ∷ rest) e = cond-false _ _ _ (slash_no_blank a (and_parts _ _ e).0) ∙ cond-true _ _ _ e

star_no_slash : (rest : List ℕ) → begins (λ b. eqb b star) rest ≡ true → begins (λ b. eqb b slash) rest ≡ false
star_no_slash [] e = refl
star_no_slash (b ∷ rest) e = let is : b ≡ 42 = eqb-true b 42 e in rw is refl

block_sort : (rest : List ℕ) → begins_block_comment rest ≡ true → sort_at rest ≡ 2
unfolding begins_line_comment begins_block_comment
block_sort [] e = absurd (false≢true e)
block_sort (a ∷ rest) e =
    let parts = and_parts (eqb a slash) (begins (λ b. eqb b star) rest) e in
    cond-false _ _ _ (slash_no_blank a parts.0) ∙ (cond-false _ _ _ (and_right _ _ (star_no_slash rest parts.1)) ∙ cond-true _ _ _ e)

other_sort : (rest : List ℕ) → begins is_blank rest ≡ false → begins_line_comment rest ≡ false → begins_block_comment rest ≡ false → sort_at rest ≡ 3
other_sort rest e f g = cond-false _ _ _ e ∙ (cond-false _ _ _ f ∙ cond-false _ _ _ g)

lexeme_no_blank : (kind : TokenKind) (rest : List ℕ) (n : ℕ) → is_token kind (take n rest) ≡ true → begins is_blank rest ≡ false
lexeme_no_blank kind rest zero one = absurd (true≢false (sym one ∙ nothing_is_token kind))
lexeme_no_blank kind [] (suc n) one = refl
lexeme_no_blank kind (b ∷ rest) (suc n) one = false_from_ne_true _ (λ e. true≢false (sym one ∙ blank_begins_none kind b (take n rest) e))

lexeme_sort : (kind : TokenKind) (rest : List ℕ) (n : ℕ) → IsLexeme kind rest n → sort_at rest ≡ 3
lexeme_sort kind rest n one =
    let none = or_parts (begins_line_comment rest) (begins_block_comment rest) one.no_comment in
    other_sort rest (lexeme_no_blank kind rest n one.token) none.0 none.1

-- a byte other than a slash and a blank
no_slash_sort : (b : ℕ) (rest : List ℕ) → is_blank b ≡ false → eqb b slash ≡ false → sort_at (b ∷ rest) ≡ 3
unfolding begins_line_comment begins_block_comment
no_slash_sort b rest blank other = other_sort (b ∷ rest) blank (ap (λ t. t && begins (λ c. eqb c slash) rest) other) (ap (λ t. t && begins (λ c. eqb c star) rest) other)

quote_sort : (rest : List ℕ) → begins (λ b. eqb b quote) rest ≡ true → sort_at rest ≡ 3
unfolding is_blank
quote_sort [] e = absurd (false≢true e)
quote_sort (b ∷ rest) e = let is : b ≡ 39 = eqb-true b 39 e in rw is (no_slash_sort 39 rest refl refl)

double_quote_sort : (rest : List ℕ) → begins (λ b. eqb b double_quote) rest ≡ true → sort_at rest ≡ 3
unfolding is_blank
double_quote_sort [] e = absurd (false≢true e)
double_quote_sort (b ∷ rest) e = let is : b ≡ 34 = eqb-true b 34 e in rw is (no_slash_sort 34 rest refl refl)

slash_is_token : is_token Punct (slash ∷ []) ≡ true
unfolding is_punct puncts
slash_is_token = refl

nothing_sort : (rest : List ℕ) → BeginsNoToken rest → sort_at rest ≡ 3
nothing_sort [] none = absurd none
nothing_sort (b ∷ rest) none =
    no_slash_sort b rest none.0 (false_from_ne_true _ (λ e. true≢false (sym slash_is_token ∙ (ap (λ c. is_token Punct (c ∷ [])) (sym (eqb-true b slash e)) ∙ none.1 Punct []))))

-- what stands at a place, by sorts
abbrev line_piece : List ℕ → ℕ → Piece
line_piece rest at = cond (is_spliced_line rest) (pieces.Fault (faults.BadByte at)) (pieces.Gap (line_length rest))

abbrev block_piece : Option ℕ → List ℕ → ℕ → Piece
block_piece None rest at = pieces.Fault (faults.OpenComment at)
block_piece (Some n) rest at = cond (hides_from Other (take n (drop 2 rest))) (pieces.Fault (faults.BadByte at)) (pieces.Gap (2 + n))

abbrev lexeme_piece : TokenKind → ℕ → List ℕ → ℕ → Piece
lexeme_piece Name n rest at = cond (ltb longest_name (length (take n rest))) (pieces.Fault (faults.LongName at n)) (pieces.Token Name n)
lexeme_piece Word n rest at = pieces.Token Word n
lexeme_piece Number n rest at = cond (is_too_wide (take n rest)) (pieces.Fault (faults.TooWide at)) (cond (runs_on (take n rest) (drop n rest)) (pieces.Fault (faults.BadByte (at + n))) (pieces.Token Number n))
lexeme_piece Char n rest at = pieces.Token Char n
lexeme_piece Text n rest at = pieces.Token Text n
lexeme_piece Punct n rest at = pieces.Token Punct n

data Case (rest : List ℕ) (at : ℕ) : Piece → Type 0 where
  blank : sort_at rest ≡ 0 → Case rest at (pieces.Gap 1)
  line : sort_at rest ≡ 1 → Case rest at (line_piece rest at)
  block : sort_at rest ≡ 2 → Case rest at (block_piece (length_to_end (drop 2 rest)) rest at)
  lexeme : {kind : TokenKind} {n : ℕ} → sort_at rest ≡ 3 → IsLexeme kind rest n → Case rest at (lexeme_piece kind n rest at)
  unclosed : sort_at rest ≡ 3 → ((kind : TokenKind) (n : ℕ) → IsLexeme kind rest n → ⊥) → (BeginsNoToken rest → ⊥) → Case rest at (pieces.Fault (faults.OpenText at))
  nothing : sort_at rest ≡ 3 → BeginsNoToken rest → Case rest at (pieces.Fault (faults.BadByte at))

word_or_not : (t : Bool) → not t ≡ true → t ≡ true → ⊥
word_or_not t e f = true≢false (sym f ∙ not-true t e)

-- the bytes of a token tell its class
one_class : (a b : TokenKind) (ys : List ℕ) → is_token a ys ≡ true → is_token b ys ≡ true → a ≡ b
one_class a b [] e f = absurd (true≢false (sym e ∙ nothing_is_token a))
one_class a b (y ∷ ys) e f = by_sort a b (sym (first_sort a y ys e) ∙ first_sort b y ys f) e f
  where
    by_sort : (c d : TokenKind) → sort c ≡ sort d → is_token c (y ∷ ys) ≡ true → is_token d (y ∷ ys) ≡ true → c ≡ d
    by_sort Name Name same g h = refl
    by_sort Name Word same g h = absurd (word_or_not _ (and_parts (is_name (y ∷ ys)) _ g).1 (and_parts (is_name (y ∷ ys)) _ h).1)
    by_sort Word Name same g h = absurd (word_or_not _ (and_parts (is_name (y ∷ ys)) _ h).1 (and_parts (is_name (y ∷ ys)) _ g).1)
    by_sort Word Word same g h = refl
    by_sort Number Number same g h = refl
    by_sort Char Char same g h = refl
    by_sort Text Text same g h = refl
    by_sort Punct Punct same g h = refl
    by_sort c d same g h = absurd (omega arith)

one_lexeme : (a b : TokenKind) (rest : List ℕ) (m n : ℕ) → IsLexeme a rest m → IsLexeme b rest n → (a ≡ b) × (m ≡ n)
one_lexeme a b rest m n x y =
    ⊎_elim
    (λ same. (one_class a b (take m rest) x.token (ap (λ k. is_token b (take k rest)) same ∙ y.token), same))
    (λ apart. ⊎_elim
    (λ below. absurd (true≢false (sym y.token ∙ x.longest n b below y.within)))
    (λ above. absurd (true≢false (sym x.token ∙ y.longest m a above x.within)))
    apart)
    (cases_order m n)

nothing_no_lexeme : (kind : TokenKind) (rest : List ℕ) (n : ℕ) → BeginsNoToken rest → is_token kind (take n rest) ≡ true → ⊥
nothing_no_lexeme kind rest zero none one = true≢false (sym one ∙ nothing_is_token kind)
nothing_no_lexeme kind [] (suc n) none one = none
nothing_no_lexeme kind (b ∷ rest) (suc n) none one = true≢false (sym one ∙ none.1 kind (take n rest))

-- at a place one thing stands
unique : (rest : List ℕ) (at : ℕ) (a b : Piece) → Case rest at a → Case rest at b → a ≡ b
unique rest at a b (Case.blank s1) (Case.blank s2) = refl
unique rest at a b (Case.blank s1) (Case.line s2) = absurd (omega arith)
unique rest at a b (Case.blank s1) (Case.block s2) = absurd (omega arith)
unique rest at a b (Case.blank s1) (Case.lexeme {kind = kind2} {n = n2} s2 x2) = absurd (omega arith)
unique rest at a b (Case.blank s1) (Case.unclosed s2 f2 g2) = absurd (omega arith)
unique rest at a b (Case.blank s1) (Case.nothing s2 x2) = absurd (omega arith)
unique rest at a b (Case.line s1) (Case.blank s2) = absurd (omega arith)
unique rest at a b (Case.line s1) (Case.line s2) = refl
unique rest at a b (Case.line s1) (Case.block s2) = absurd (omega arith)
unique rest at a b (Case.line s1) (Case.lexeme {kind = kind2} {n = n2} s2 x2) = absurd (omega arith)
unique rest at a b (Case.line s1) (Case.unclosed s2 f2 g2) = absurd (omega arith)
unique rest at a b (Case.line s1) (Case.nothing s2 x2) = absurd (omega arith)
unique rest at a b (Case.block s1) (Case.blank s2) = absurd (omega arith)
unique rest at a b (Case.block s1) (Case.line s2) = absurd (omega arith)
unique rest at a b (Case.block s1) (Case.block s2) = refl
unique rest at a b (Case.block s1) (Case.lexeme {kind = kind2} {n = n2} s2 x2) = absurd (omega arith)
unique rest at a b (Case.block s1) (Case.unclosed s2 f2 g2) = absurd (omega arith)
unique rest at a b (Case.block s1) (Case.nothing s2 x2) = absurd (omega arith)
unique rest at a b (Case.lexeme {kind = kind1} {n = n1} s1 x1) (Case.blank s2) = absurd (omega arith)
unique rest at a b (Case.lexeme {kind = kind1} {n = n1} s1 x1) (Case.line s2) = absurd (omega arith)
unique rest at a b (Case.lexeme {kind = kind1} {n = n1} s1 x1) (Case.block s2) = absurd (omega arith)
unique rest at a b (Case.lexeme {kind = kind1} {n = n1} s1 x1) (Case.lexeme {kind = kind2} {n = n2} s2 x2) = (let one = one_lexeme kind1 kind2 rest n1 n2 x1 x2 in λ i. lexeme_piece (one.0 i) (one.1 i) rest at)
unique rest at a b (Case.lexeme {kind = kind1} {n = n1} s1 x1) (Case.unclosed s2 f2 g2) = absurd (f2 kind1 n1 x1)
unique rest at a b (Case.lexeme {kind = kind1} {n = n1} s1 x1) (Case.nothing s2 x2) = absurd (nothing_no_lexeme kind1 rest n1 x2 x1.token)
unique rest at a b (Case.unclosed s1 f1 g1) (Case.blank s2) = absurd (omega arith)
unique rest at a b (Case.unclosed s1 f1 g1) (Case.line s2) = absurd (omega arith)
unique rest at a b (Case.unclosed s1 f1 g1) (Case.block s2) = absurd (omega arith)
unique rest at a b (Case.unclosed s1 f1 g1) (Case.lexeme {kind = kind2} {n = n2} s2 x2) = absurd (f1 kind2 n2 x2)
unique rest at a b (Case.unclosed s1 f1 g1) (Case.unclosed s2 f2 g2) = refl
unique rest at a b (Case.unclosed s1 f1 g1) (Case.nothing s2 x2) = absurd (g1 x2)
unique rest at a b (Case.nothing s1 x1) (Case.blank s2) = absurd (omega arith)
unique rest at a b (Case.nothing s1 x1) (Case.line s2) = absurd (omega arith)
unique rest at a b (Case.nothing s1 x1) (Case.block s2) = absurd (omega arith)
unique rest at a b (Case.nothing s1 x1) (Case.lexeme {kind = kind2} {n = n2} s2 x2) = absurd (nothing_no_lexeme kind2 rest n2 x1 x2.token)
unique rest at a b (Case.nothing s1 x1) (Case.unclosed s2 f2 g2) = absurd (g2 x1)
unique rest at a b (Case.nothing s1 x1) (Case.nothing s2 x2) = refl

-- the definitions' pieces are such cases
hides_true : (body : List ℕ) → HidesEnd body → hides_from Other body ≡ true
hides_true body hides = hides_complete body hides

hides_false : (body : List ℕ) → (HidesEnd body → ⊥) → hides_from Other body ≡ false
hides_false body none = false_from_ne_true _ (λ e. none (hidden body e))

gap_case : (rest : List ℕ) (at n : ℕ) → IsGap rest n → Case rest at (pieces.Gap n)
gap_case rest at n (IsGap.blank e) = Case.blank (cond-true _ _ _ e)
gap_case rest at n (IsGap.line_comment e f) = subst (Case rest at) (cond-false _ _ _ f) (Case.line (line_sort rest e))
gap_case rest at n (IsGap.block_comment {n = k} e f g) =
    subst (Case rest at) (ap (λ o. block_piece o rest at) f ∙ cond-false _ _ _ (hides_false (take k (drop 2 rest)) g)) (Case.block (block_sort rest e))

token_piece : (kind : TokenKind) (n : ℕ) (rest : List ℕ) (at : ℕ) → is_refused kind (take n rest) (drop n rest) ≡ false → lexeme_piece kind n rest at ≡ pieces.Token kind n
unfolding is_refused
token_piece Name n rest at e = cond-false _ _ _ e
token_piece Word n rest at e = refl
token_piece Number n rest at e =
    let parts = or_parts (is_too_wide (take n rest)) (runs_on (take n rest) (drop n rest)) e in
    cond-false _ _ _ parts.0 ∙ cond-false _ _ _ parts.1
token_piece Char n rest at e = refl
token_piece Text n rest at e = refl
token_piece Punct n rest at e = refl

token_case : (rest : List ℕ) (at : ℕ) (kind : TokenKind) (n : ℕ) → IsLexeme kind rest n → is_refused kind (take n rest) (drop n rest) ≡ false → Case rest at (pieces.Token kind n)
token_case rest at kind n one good = subst (Case rest at) (token_piece kind n rest at good) (Case.lexeme (lexeme_sort kind rest n one) one)

-- an opening quote that begins no literal begins no token
char_alone : (kind : TokenKind) → sort kind ≡ 3 → kind ≡ Char
char_alone Char e = refl
char_alone kind e = absurd (omega arith)

text_alone : (kind : TokenKind) → sort kind ≡ 4 → kind ≡ Text
text_alone Text e = refl
text_alone kind e = absurd (omega arith)

open_char_lexeme : (rest : List ℕ) → begins (λ b. eqb b quote) rest ≡ true → ((n : ℕ) → is_char (take n rest) ≡ false) → (kind : TokenKind) (n : ℕ) → is_token kind (take n rest) ≡ true → ⊥
open_char_lexeme rest e none kind zero one = true≢false (sym one ∙ nothing_is_token kind)
open_char_lexeme [] e none kind (suc n) one = false≢true e
open_char_lexeme (b ∷ rest) e none kind (suc n) one =
    let is = char_alone kind (sym (first_sort kind b (take n rest) one) ∙ at_quote b e) in
    true≢false (sym one ∙ (ap (λ k. is_token k (b ∷ take n rest)) is ∙ none (suc n)))

open_text_lexeme : (rest : List ℕ) → begins (λ b. eqb b double_quote) rest ≡ true → ((n : ℕ) → is_text (take n rest) ≡ false) → (kind : TokenKind) (n : ℕ) → is_token kind (take n rest) ≡ true → ⊥
open_text_lexeme rest e none kind zero one = true≢false (sym one ∙ nothing_is_token kind)
open_text_lexeme [] e none kind (suc n) one = false≢true e
open_text_lexeme (b ∷ rest) e none kind (suc n) one =
    let is = text_alone kind (sym (first_sort kind b (take n rest) one) ∙ at_double_quote b e) in
    true≢false (sym one ∙ (ap (λ k. is_token k (b ∷ take n rest)) is ∙ none (suc n)))

a_char : is_char (39 ∷ 97 ∷ 39 ∷ []) ≡ true
unfolding is_char is_plain is_printable
a_char = refl

a_text : is_text (34 ∷ 34 ∷ []) ≡ true
unfolding is_text closes_text
a_text = refl

quote_begins : (rest : List ℕ) → begins (λ b. eqb b quote) rest ≡ true → BeginsNoToken rest → ⊥
quote_begins [] e none = none
quote_begins (b ∷ rest) e none = true≢false (sym a_char ∙ (ap (λ c. is_char (c ∷ 97 ∷ 39 ∷ [])) (sym (eqb-true b quote e)) ∙ none.1 Char (97 ∷ 39 ∷ [])))

double_quote_begins : (rest : List ℕ) → begins (λ b. eqb b double_quote) rest ≡ true → BeginsNoToken rest → ⊥
double_quote_begins [] e none = none
double_quote_begins (b ∷ rest) e none = true≢false (sym a_text ∙ (ap (λ c. is_text (c ∷ 34 ∷ [])) (sym (eqb-true b double_quote e)) ∙ none.1 Text (34 ∷ [])))

fault_case : (rest : List ℕ) (at : ℕ) (fault : LexFault) → Begins rest at fault → Case rest at (pieces.Fault fault)
fault_case rest at fault (Begins.no_token e) = Case.nothing (nothing_sort rest e) e
fault_case rest at fault (Begins.spliced_comment e f) = subst (Case rest at) (cond-true _ _ _ f) (Case.line (line_sort rest e))
fault_case rest at fault (Begins.hidden_end {n} e f g) =
    subst (Case rest at) (ap (λ o. block_piece o rest at) f ∙ cond-true _ _ _ (hides_true (take n (drop 2 rest)) g)) (Case.block (block_sort rest e))
fault_case rest at fault (Begins.number_runs_on {n} x e f) =
    subst (Case rest at) (cond-false _ _ _ e ∙ cond-true _ _ _ f) (Case.lexeme (lexeme_sort Number rest n x) x)
fault_case rest at fault (Begins.open_comment e f) = subst (Case rest at) (ap (λ o. block_piece o rest at) f) (Case.block (block_sort rest e))
fault_case rest at fault (Begins.open_char e f) = Case.unclosed (quote_sort rest e) (λ kind n one. open_char_lexeme rest e f kind n one.token) (quote_begins rest e)
fault_case rest at fault (Begins.open_text e f) = Case.unclosed (double_quote_sort rest e) (λ kind n one. open_text_lexeme rest e f kind n one.token) (double_quote_begins rest e)
fault_case rest at fault (Begins.too_wide {n} x e) = subst (Case rest at) (cond-true _ _ _ e) (Case.lexeme (lexeme_sort Number rest n x) x)
fault_case rest at fault (Begins.long_name {n} x e) =
    let long : ltb longest_name (length (take n rest)) ≡ true = lt-ltb _ _ (let is = length-take-le n rest x.within in omega arith) in
    subst (Case rest at) (cond-true _ _ _ long) (Case.lexeme (lexeme_sort Name rest n x) x)

stands_case : (rest : List ℕ) (at : ℕ) (piece : Piece) → Stands rest at piece → Case rest at piece
unfolding Stands
stands_case rest at (pieces.Gap n) one = gap_case rest at n one
stands_case rest at (pieces.Token kind n) one = token_case rest at kind n one.0 one.1
stands_case rest at (pieces.Fault fault) one = fault_case rest at fault one

-- one thing stands at a place
pub one_piece : (rest : List ℕ) (at : ℕ) (a b : Piece) → Stands rest at a → Stands rest at b → a ≡ b
one_piece rest at a b first second = unique rest at a b (stands_case rest at a first) (stands_case rest at b second)

-- a way from one place of a text to another, in steps
abbrev token_of : TokenKind → ℕ → ℕ → Token
token_of kind start end = record { kind = kind; start = start; end = end }

data Way (text : List ℕ) : ℕ → List Token → ℕ → List Token → Type 0 where
  arrived : {p q : ℕ} {ts us : List Token} → p ≡ q → ts ≡ us → Way text p ts q us
  gap : {p n q : ℕ} {ts us : List Token} → IsGap (drop p text) n → Way text (p + n) ts q us → Way text p ts q us
  token : {p n q : ℕ} {ts us : List Token} {kind : TokenKind} → IsLexeme kind (drop p text) n → is_refused kind (take n (drop p text)) (drop n (drop p text)) ≡ false → Way text (p + n) (ts ++ token_of kind p (p + n) ∷ []) q us → Way text p ts q us

-- nothing but the end or a fault comes at a place
record IsStuck (text : List ℕ) (p : ℕ) : Type 0 where
  gap : (n : ℕ) → IsGap (drop p text) n → ⊥
  token : (kind : TokenKind) (n : ℕ) → IsLexeme kind (drop p text) n → is_refused kind (take n (drop p text)) (drop n (drop p text)) ≡ false → ⊥

whole_way : (text : List ℕ) (p q : ℕ) (ts us : List Token) → SpellsTo text p ts → Way text p ts q us → Way text 0 [] q us
whole_way text p q ts us SpellsTo.start way = way
whole_way text p q ts us (SpellsTo.gap {p = r} {tokens = vs} spelled one) way = whole_way text r q vs us spelled (Way.gap one way)
whole_way text p q ts us (SpellsTo.token {p = r} {tokens = vs} spelled one good) way = whole_way text r q vs us spelled (Way.token one good way)

gap_is : (m n : ℕ) → pieces.Gap m ≡ pieces.Gap n → m ≡ n
gap_is m n e = cc

gap_no_token : (m : ℕ) (kind : TokenKind) (n : ℕ) → pieces.Gap m ≡ pieces.Token kind n → ⊥
gap_no_token m kind n e = absurd (cc)

gap_no_fault : (m : ℕ) (fault : LexFault) → pieces.Gap m ≡ pieces.Fault fault → ⊥
gap_no_fault m fault e = absurd (cc)

token_no_fault : (kind : TokenKind) (m : ℕ) (fault : LexFault) → pieces.Token kind m ≡ pieces.Fault fault → ⊥
token_no_fault kind m fault e = absurd (cc)

fault_is : (f g : LexFault) → pieces.Fault f ≡ pieces.Fault g → f ≡ g
fault_is f g e = cc

-- behind a gap the way goes on
behind_gap : (text : List ℕ) (p n q : ℕ) (ts us : List Token) → IsGap (drop p text) n → IsStuck text q → Way text p ts q us → Way text (p + n) ts q us
behind_gap text p n q ts us one stuck (Way.arrived e f) = absurd (stuck.gap n (subst (λ k. IsGap (drop k text) n) e one))
behind_gap text p n q ts us one stuck (Way.gap {n = m} other way) =
    let same = gap_is m n (unique (drop p text) p _ _ (gap_case (drop p text) p m other) (gap_case (drop p text) p n one)) in
    subst (λ k. Way text (p + k) ts q us) same way
behind_gap text p n q ts us one stuck (Way.token {n = m} {kind = kind} other good way) =
    absurd (gap_no_token n kind m (unique (drop p text) p _ _ (gap_case (drop p text) p n one) (token_case (drop p text) p kind m other good)))

-- behind a token the way goes on
behind_token : (text : List ℕ) (p n q : ℕ) (ts us : List Token) (kind : TokenKind) → IsLexeme kind (drop p text) n → is_refused kind (take n (drop p text)) (drop n (drop p text)) ≡ false → IsStuck text q → Way text p ts q us → Way text (p + n) (ts ++ token_of kind p (p + n) ∷ []) q us
behind_token text p n q ts us kind one good stuck (Way.arrived e f) =
    absurd (stuck.token kind n (subst (λ k. IsLexeme kind (drop k text) n) e one) (subst (λ k. is_refused kind (take n (drop k text)) (drop n (drop k text)) ≡ false) e good))
behind_token text p n q ts us kind one good stuck (Way.gap {n = m} other way) =
    absurd (gap_no_token m kind n (unique (drop p text) p _ _ (gap_case (drop p text) p m other) (token_case (drop p text) p kind n one good)))
behind_token text p n q ts us kind one good stuck (Way.token {n = m} {kind = other_kind} other fine way) =
    let same = one_lexeme other_kind kind (drop p text) m n other one in
    subst (λ k. Way text (p + k) (ts ++ token_of kind p (p + k) ∷ []) q us) same.1
    (subst (λ k. Way text (p + m) (ts ++ token_of k p (p + m) ∷ []) q us) same.0 way)

-- each place that is reached is on the way
on_the_way : (text : List ℕ) (p q : ℕ) (ts us : List Token) → SpellsTo text p ts → IsStuck text q → Way text 0 [] q us → Way text p ts q us
on_the_way text p q ts us SpellsTo.start stuck way = way
on_the_way text p q ts us (SpellsTo.gap {p = r} {n = n} {tokens = vs} spelled one) stuck way =
    behind_gap text r n q vs us one stuck (on_the_way text r q vs us spelled stuck way)
on_the_way text p q ts us (SpellsTo.token {p = r} {n = n} {tokens = vs} {kind = kind} spelled one good) stuck way =
    behind_token text r n q vs us kind one good stuck (on_the_way text r q vs us spelled stuck way)

at_the_end : (text : List ℕ) (p q : ℕ) (ts us : List Token) → IsStuck text p → Way text p ts q us → (p ≡ q) × (ts ≡ us)
at_the_end text p q ts us stuck (Way.arrived e f) = (e, f)
at_the_end text p q ts us stuck (Way.gap {n = m} one way) = absurd (stuck.gap m one)
at_the_end text p q ts us stuck (Way.token {n = m} {kind = kind} one good way) = absurd (stuck.token kind m one good)

one_end : (text : List ℕ) (p q : ℕ) (ts us : List Token) → SpellsTo text p ts → IsStuck text p → SpellsTo text q us → IsStuck text q → (p ≡ q) × (ts ≡ us)
one_end text p q ts us first stuck second stuck_too =
    at_the_end text p q ts us stuck (on_the_way text p q ts us first stuck_too (whole_way text q q us us second (Way.arrived refl refl)))

stuck_at_end : (text : List ℕ) → IsStuck text (length text)
stuck_at_end text =
    let nothing = length-drop (length text) text in
    record {
      gap = λ n one. let takes = gap_takes one in omega arith;
      token = λ kind n one _. let takes = lexeme_takes kind _ n one in let within = one.within in omega arith;
    }

stuck_at_fault : (text : List ℕ) (p : ℕ) (fault : LexFault) → Begins (drop p text) p fault → IsStuck text p
stuck_at_fault text p fault cause = record {
  gap = λ n one. gap_no_fault n fault (unique (drop p text) p _ _ (gap_case (drop p text) p n one) (fault_case (drop p text) p fault cause));
  token = λ kind n one good. token_no_fault kind n fault (unique (drop p text) p _ _ (token_case (drop p text) p kind n one good) (fault_case (drop p text) p fault cause));
}

pub no_cause_at_end : (at : ℕ) (fault : LexFault) → Begins [] at fault → ⊥
unfolding begins_line_comment begins_block_comment
no_cause_at_end at fault (Begins.no_token e) = e
no_cause_at_end at fault (Begins.spliced_comment e f) = false≢true e
no_cause_at_end at fault (Begins.hidden_end e f g) = false≢true e
no_cause_at_end at fault (Begins.number_runs_on {n} x e f) = let takes = lexeme_takes Number [] n x in let within = x.within in omega arith
no_cause_at_end at fault (Begins.open_comment e f) = false≢true e
no_cause_at_end at fault (Begins.open_char e f) = false≢true e
no_cause_at_end at fault (Begins.open_text e f) = false≢true e
no_cause_at_end at fault (Begins.too_wide {n} x e) = let takes = lexeme_takes Number [] n x in let within = x.within in omega arith
no_cause_at_end at fault (Begins.long_name {n} x e) = let takes = lexeme_takes Name [] n x in let within = x.within in omega arith

-- a text has one list of tokens at most
pub one_list : (text : List ℕ) (a b : List Token) → Spells text a → Spells text b → a ≡ b
one_list text a b first second = (one_end text (length text) (length text) a b first (stuck_at_end text) second (stuck_at_end text)).1

-- and one fault at most
pub one_fault : (text : List ℕ) (f g : LexFault) → IsFaultOf text f → IsFaultOf text g → f ≡ g
one_fault text f g first second =
    let p = first.place in
    let same = (one_end text p second.place first.tokens second.tokens first.spelled (stuck_at_fault text p f first.cause) second.spelled (stuck_at_fault text second.place g second.cause)).0 in
    let cause = subst (λ k. Begins (drop k text) k g) (sym same) second.cause in
    fault_is f g (unique (drop p text) p _ _ (fault_case (drop p text) p f first.cause) (fault_case (drop p text) p g cause))

-- and never both
pub not_both : (text : List ℕ) (tokens : List Token) (fault : LexFault) → Spells text tokens → IsFaultOf text fault → ⊥
not_both text tokens fault spelled other =
    let same = (one_end text (length text) other.place tokens other.tokens spelled (stuck_at_end text) other.spelled (stuck_at_fault text other.place fault other.cause)).0 in
    let empty = drop_all other.place text (omega arith) in
    no_cause_at_end other.place fault (subst (λ rest. Begins rest other.place fault) empty other.cause)

-- what the scanner takes at a place of a text
module _ (text : List ℕ) (at n : ℕ) (tokens : List Token) where
  pub gap_fits : Stands (drop at text) at (pieces.Gap n) → at ≤ length text → (0 < n) × (at + n ≤ length text)
  unfolding Stands
  gap_fits stands inside = let takes = gap_takes stands in (takes.0, omega (arith, length-drop at text))

  pub gap_spelled : SpellsTo text at tokens → Stands (drop at text) at (pieces.Gap n) → SpellsTo text (at + n) tokens
  unfolding Stands
  gap_spelled spelled stands = SpellsTo.gap spelled stands

  pub token_fits : (kind : TokenKind) → Stands (drop at text) at (pieces.Token kind n) → at ≤ length text → (0 < n) × (at + n ≤ length text)
  unfolding Stands
  token_fits kind stands inside =
      let takes = lexeme_takes kind (drop at text) n stands.0 in
      let within = (stands.0).within in
      (takes, omega (arith, length-drop at text))

  pub token_spelled : (kind : TokenKind) → SpellsTo text at tokens → Stands (drop at text) at (pieces.Token kind n) → SpellsTo text (at + n) (tokens ++ record { kind = kind; start = at; end = at + n } ∷ [])
  unfolding Stands
  token_spelled kind spelled stands = SpellsTo.token spelled stands.0 stands.1

  pub fault_told : (fault : LexFault) → SpellsTo text at tokens → Stands (drop at text) at (pieces.Fault fault) → IsFaultOf text fault
  unfolding Stands
  fault_told fault spelled stands = record { place = at; tokens = tokens; spelled = spelled; cause = stands }

-- the answers that a text leaves
abbrev Told : List ℕ → LexFault → Type 0
Told text fault = (fault ≡ faults.OutOfMemory) ⊎ IsFaultOf text fault

pub only_tokens : (text : List ℕ) (answer : Result (List Token) LexFault) → IfOk answer (λ tokens. Spells text tokens) → IfErr answer (Told text) → (tokens : List Token) → Spells text tokens → MatchResult answer (λ told. told ≡ tokens) (λ fault. fault ≡ faults.OutOfMemory)
only_tokens text (Ok told) spelled other tokens spells = one_list text told tokens spelled spells
only_tokens text (Err fault) spelled other tokens spells = ⊎_elim (λ e. e) (λ is. absurd (not_both text tokens fault spells is)) other

pub only_fault : (text : List ℕ) (answer : Result (List Token) LexFault) → IfOk answer (λ tokens. Spells text tokens) → IfErr answer (Told text) → (fault : LexFault) → IsFaultOf text fault → MatchResult answer (λ _. ⊥) (λ told. (told ≡ faults.OutOfMemory) ⊎ (told ≡ fault))
only_fault text (Ok told) spelled other fault is = not_both text told fault spelled is
only_fault text (Err told) spelled other fault is = ⊎_elim (λ e. inl e) (λ too. inr (one_fault text told fault too is)) other

-- tokens come in order
order_more : (from : ℕ) (tokens : List Token) (to more : ℕ) → to ≤ more → InOrder from tokens to → InOrder from tokens more
order_more from [] to more above order = omega arith
order_more from (t ∷ tokens) to more above order = (order.0, order.1, order_more t.end tokens to more above order.2)

order_push : (from : ℕ) (tokens : List Token) (kind : TokenKind) (to end : ℕ) → to < end → InOrder from tokens to → InOrder from (tokens ++ token_of kind to end ∷ []) end
order_push from [] kind to end above order = (order, above, omega arith)
order_push from (t ∷ tokens) kind to end above order = (order.0, order.1, order_push t.end tokens kind to end above order.2)

in_order : (text : List ℕ) (p : ℕ) (tokens : List Token) → SpellsTo text p tokens → InOrder 0 tokens p
in_order text p tokens SpellsTo.start = omega arith
in_order text p tokens (SpellsTo.gap {p = q} {n = n} {tokens = us} spelled one) = order_more 0 us q (q + n) (omega arith) (in_order text q us spelled)
in_order text p tokens (SpellsTo.token {p = q} {n = n} {tokens = us} {kind = kind} spelled one good) =
    let takes = lexeme_takes kind (drop q text) n one in
    order_push 0 us kind q (q + n) (omega arith) (in_order text q us spelled)

pub told_in_order : (text : List ℕ) (answer : Result (List Token) LexFault) → IfOk answer (λ tokens. Spells text tokens) → IfOk answer (λ tokens. InOrder 0 tokens (length text))
told_in_order text (Ok told) spelled = in_order text (length text) told spelled
told_in_order text (Err fault) spelled = tt
