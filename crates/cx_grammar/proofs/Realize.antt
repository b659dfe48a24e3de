-- Tokens that have the marks of a completion.
use Rattle.std.proofs.Common.{◌≡◌, ℕ, zero, suc, ◌+◌, ◌<◌, ◌≤◌, ◌||◌, Bool, true, false, not, cond, eqb, leb, if◌then◌else◌, List, [], ◌∷◌, ◌++◌, length, slice_get, refl, sym, ap, ◌∙◌, arith, bytes_eq, length-append}
use Rattle.std.specs.Prelude.{codes}
use Rattle.std.specs.List.{list_all}
use Rattle.std.proofs.lemmas.Bool.{and_parts, cond_both, false≢true, leb-true}
use Rattle.std.proofs.lemmas.Grind.{common_steps}
use Rattle.std.proofs.lemmas.Slice.Eq.{bytes_eq-Decides}
use Rattle.cx_syntax.specs.declared.token.TokenKind.{TokenKind}
use Rattle.cx_syntax.specs.declared.token.TokenKind.TheVariants as T
use Rattle.cx_syntax.specs.declared.mark.Punct.{Punct}
use Rattle.cx_syntax.specs.declared.mark.Punct.TheVariants as P
use Rattle.cx_syntax.specs.declared.mark.Word.{Word}
use Rattle.cx_syntax.specs.declared.mark.Word.TheVariants as W
use Rattle.cx_syntax.specs.declared.mark.Mark.{Mark}
use Rattle.cx_syntax.specs.declared.mark.Mark.TheVariants as M
use Rattle.cx_syntax.specs.Shaped as S
use Rattle.cx_lexer.specs.Bytes.{continues_name, is_decimal_digit, starts_name}
use Rattle.cx_lexer.specs.Lexeme.{is_refused, is_token}
use Rattle.cx_lexer.specs.Name as N
use Rattle.cx_lexer.specs.Number.{base_of, digit_value, follows_digit, has_ll, has_u, is_ll, is_number, is_suffix, is_too_wide, is_u, runs_on, value_of}
use Rattle.cx_lexer.specs.Punct as Q
use Rattle.cx_parser.proofs.Runs.{eqb_above, eqb_equal, equal_eqb}
use Rattle.cx_marks.specs.declared.spelled.Spelled.{Spelled}
use Rattle.cx_marks.specs.Marks.{Tokens, declares_at, first_place, has_at, is_after_key, is_class_key, is_class_name, is_name, mark_at, name_mark, number, some_below}
use Rattle.cx_marks.specs.Place.{IsToken}
use Rattle.cx_marks.specs.Words.{punct_of, puncts, word_of, words}
use Rattle.cx_marks.proofs.Fronts.{at_front, itself, slice_after, some_front}
use Rattle.cx_marks.proofs.Names.{none_before}

abbrev pub spelled : TokenKind → List ℕ → Spelled
spelled kind bytes = record { kind = kind; bytes = record { ref_ptr = (0, 0); now = bytes } }

abbrev pub word_bytes : Word → List ℕ
word_bytes W.Bool = codes "bool"
word_bytes W.Break = codes "break"
word_bytes W.Catch = codes "catch"
word_bytes W.Char = codes "char"
word_bytes W.Class = codes "class"
word_bytes W.Const = codes "const"
word_bytes W.Continue = codes "continue"
word_bytes W.ContractAssert = codes "contract_assert"
word_bytes W.Else = codes "else"
word_bytes W.Explicit = codes "explicit"
word_bytes W.Extern = codes "extern"
word_bytes W.False = codes "false"
word_bytes W.For = codes "for"
word_bytes W.If = codes "if"
word_bytes W.Inline = codes "inline"
word_bytes W.Int = codes "int"
word_bytes W.Long = codes "long"
word_bytes W.Noexcept = codes "noexcept"
word_bytes W.Nullptr = codes "nullptr"
word_bytes W.Private = codes "private"
word_bytes W.Public = codes "public"
word_bytes W.Return = codes "return"
word_bytes W.StaticCast = codes "static_cast"
word_bytes W.Struct = codes "struct"
word_bytes W.This = codes "this"
word_bytes W.Throw = codes "throw"
word_bytes W.True = codes "true"
word_bytes W.Try = codes "try"
word_bytes W.Unsigned = codes "unsigned"
word_bytes W.Virtual = codes "virtual"
word_bytes W.Void = codes "void"
word_bytes W.While = codes "while"
word_bytes W.Unused = codes "goto"

abbrev pub punct_bytes : Punct → List ℕ
punct_bytes P.OpenBrace = codes "{"
punct_bytes P.CloseBrace = codes "}"
punct_bytes P.OpenParen = codes "("
punct_bytes P.CloseParen = codes ")"
punct_bytes P.OpenBracket = codes "["
punct_bytes P.CloseBracket = codes "]"
punct_bytes P.Semicolon = codes ";"
punct_bytes P.Colon = codes ":"
punct_bytes P.Scope = codes "::"
punct_bytes P.Comma = codes ","
punct_bytes P.Dot = codes "."
punct_bytes P.Arrow = codes "->"
punct_bytes P.Question = codes "?"
punct_bytes P.Plus = codes "+"
punct_bytes P.Minus = codes "-"
punct_bytes P.Star = codes "*"
punct_bytes P.Slash = codes "/"
punct_bytes P.Percent = codes "%"
punct_bytes P.And = codes "&"
punct_bytes P.Or = codes "|"
punct_bytes P.Xor = codes "^"
punct_bytes P.Tilde = codes "~"
punct_bytes P.Not = codes "!"
punct_bytes P.Assign = codes "="
punct_bytes P.Equal = codes "=="
punct_bytes P.NotEqual = codes "!="
punct_bytes P.Less = codes "<"
punct_bytes P.Greater = codes ">"
punct_bytes P.LessEqual = codes "<="
punct_bytes P.GreaterEqual = codes ">="
punct_bytes P.ShiftLeft = codes "<<"
punct_bytes P.ShiftRight = codes ">>"
punct_bytes P.Both = codes "&&"
punct_bytes P.Either = codes "||"
punct_bytes P.Increment = codes "++"
punct_bytes P.Decrement = codes "--"
punct_bytes P.PlusAssign = codes "+="
punct_bytes P.MinusAssign = codes "-="
punct_bytes P.StarAssign = codes "*="
punct_bytes P.SlashAssign = codes "/="
punct_bytes P.PercentAssign = codes "%="
punct_bytes P.AndAssign = codes "&="
punct_bytes P.OrAssign = codes "|="
punct_bytes P.XorAssign = codes "^="
punct_bytes P.ShiftLeftAssign = codes "<<="
punct_bytes P.ShiftRightAssign = codes ">>="
punct_bytes P.Spaceship = codes "<=>"
punct_bytes P.Ellipsis = codes "..."
punct_bytes P.DotStar = codes ".*"
punct_bytes P.ArrowStar = codes "->*"

word_back : (k : Word) → word_of (word_bytes k) ≡ k
unfolding words
word_back W.Bool = refl
word_back _ = refl

word_token : (k : Word) → is_token T.Word (word_bytes k) ≡ true
unfolding N.is_name N.is_word N.words starts_name is_decimal_digit
word_token W.Bool = refl
word_token _ = refl

punct_back : (p : Punct) → punct_of (punct_bytes p) ≡ p
unfolding puncts
punct_back P.OpenBrace = refl
punct_back _ = refl

punct_token : (p : Punct) → is_token T.Punct (punct_bytes p) ≡ true
unfolding Q.is_punct Q.puncts
punct_token P.OpenBrace = refl
punct_token _ = refl

number_token : is_token T.Number (codes "0") ≡ true
unfolding is_number follows_digit is_suffix digit_value is_u is_ll is_decimal_digit
number_token = refl

-- marks that stand for one token wherever it stands, and for no class key
abbrev pub is_plain : Mark → Bool
is_plain (M.Word k) = not (S.is_class_key k)
is_plain (M.Punct p) = true
is_plain M.Number = true
is_plain _ = false

abbrev pub plain_token : Mark → Spelled
plain_token (M.Word k) = spelled T.Word (word_bytes k)
plain_token (M.Punct p) = spelled T.Punct (punct_bytes p)
plain_token _ = spelled T.Number (codes "0")

number_fits : is_refused T.Number (codes "0") [] ≡ false
unfolding is_refused is_too_wide runs_on value_of digit_value base_of has_u has_ll is_u starts_name is_decimal_digit
number_fits = refl

pub plain_is_token : (m : Mark) → is_plain m ≡ true → IsToken (plain_token m)
unfolding is_refused
plain_is_token (M.Word k) h = (word_token k, refl)
plain_is_token (M.Punct p) h = (punct_token p, refl)
plain_is_token M.Number h = (number_token, number_fits)
plain_is_token _ h = absurd (false≢true h)

pub plain_mark : (m : Mark) (ts : Tokens) (n : ℕ) → is_plain m ≡ true → mark_at ts n (plain_token m).kind (plain_token m).bytes.now ≡ m
plain_mark (M.Word k) ts n h = ap M.Word (word_back k)
plain_mark (M.Punct p) ts n h = ap M.Punct (punct_back p)
plain_mark M.Number ts n h = refl
plain_mark _ ts n h = absurd (false≢true h)

pub plain_no_key : (m : Mark) → is_plain m ≡ true → is_class_key (plain_token m) ≡ false
plain_no_key (M.Word W.Class) h = absurd (false≢true h)
plain_no_key (M.Word W.Struct) h = absurd (false≢true h)
plain_no_key (M.Word k) h = by k h
  where
    by : (k : Word) → not (S.is_class_key k) ≡ true → is_class_key (spelled T.Word (word_bytes k)) ≡ false
    by W.Class h = absurd (false≢true h)
    by W.Struct h = absurd (false≢true h)
    by _ h = refl
plain_no_key (M.Punct p) h = refl
plain_no_key M.Number h = refl
plain_no_key _ h = absurd (false≢true h)

-- ---- a name that a list of names lacks, by halves

abbrev Lacks : List ℕ → List (List ℕ) → Type 0
Lacks name [] = Unit {0}
Lacks name (b ∷ l) = (name ≡ b → ⊥) × Lacks name l

-- what follows a first letter
tails : ℕ → List (List ℕ) → List (List ℕ)
tails c [] = []
tails c ([] ∷ l) = tails c l
tails c ((x ∷ b) ∷ l) = cond (eqb x c) (b ∷ tails c l) (tails c l)

tails_lack : (c : ℕ) (name : List ℕ) (l : List (List ℕ)) → Lacks name (tails c l) → Lacks (c ∷ name) l
unfolding tails
tails_lack c name [] h = tt {0}
tails_lack c name ([] ∷ l) h = ((λ e. cc), tails_lack c name l h)
tails_lack c name ((x ∷ b) ∷ l) h =
    elim (eqb x c) as (λ t. eqb x c ≡ t → Lacks name (cond t (b ∷ tails c l) (tails c l)) → ((c ∷ name ≡ x ∷ b) → ⊥) × Lacks (c ∷ name) l) [
      | true ↦ λ y g. ((λ e. let same : name ≡ b = cc in g.0 same), tails_lack c name l g.1)
      | false ↦ λ y g. ((λ e. let same : c ≡ x = cc in false≢true (sym y ∙ eqb_equal x c (sym same))), tails_lack c name l g)
    ] refl h

tails_few : (c : ℕ) (l : List (List ℕ)) → length (tails c l) ≤ length l
unfolding tails
tails_few c [] = omega arith
tails_few c ([] ∷ l) = let r = tails_few c l in omega (arith, r)
tails_few c ((x ∷ b) ∷ l) = let r = tails_few c l in cond_both (eqb x c) (b ∷ tails c l) (tails c l) (λ y. length y ≤ suc (length l)) (λ e. omega (arith, r)) (λ e. omega (arith, r))

two_tails : (l : List (List ℕ)) → length (tails 97 l) + length (tails 98 l) ≤ length l
unfolding tails
two_tails [] = omega arith
two_tails ([] ∷ l) = let r = two_tails l in omega (arith, r)
two_tails ((x ∷ b) ∷ l) =
    let r = two_tails l in
    elim (eqb x 97) as (λ t. eqb x 97 ≡ t → length (cond t (b ∷ tails 97 l) (tails 97 l)) + length (cond (eqb x 98) (b ∷ tails 98 l) (tails 98 l)) ≤ suc (length l)) [
      | true ↦ λ y. let is : x ≡ 97 = equal_eqb x 97 y in let no98 : eqb x 98 ≡ false = rw is refl in rw no98 (omega (arith, r))
      | false ↦ λ y. cond_both (eqb x 98) (b ∷ tails 98 l) (tails 98 l) (λ z. length (tails 97 l) + length z ≤ suc (length l)) (λ e. omega (arith, r)) (λ e. omega (arith, r))
    ] refl

-- how many names a name of so many letters avoids
abbrev room : ℕ → ℕ
room zero = 1
room (suc n) = room n + room n

short : ℕ → List (List ℕ) → List ℕ
short zero l = []
short (suc n) l = cond (leb (length (tails 97 l)) (length (tails 98 l))) (97 ∷ short n (tails 97 l)) (98 ∷ short n (tails 98 l))

short_lacks : (n : ℕ) (l : List (List ℕ)) → length l < room n → Lacks (short n l) l
unfolding short
short_lacks zero [] h = tt {0}
short_lacks zero (b ∷ l) h = absurd (omega (arith, h))
short_lacks (suc n) l h =
    let both = two_tails l in
    cond_both (leb (length (tails 97 l)) (length (tails 98 l))) (97 ∷ short n (tails 97 l)) (98 ∷ short n (tails 98 l)) (λ s. Lacks s l)
    (λ e. let le = leb-true _ _ e in tails_lack 97 (short n (tails 97 l)) l (short_lacks n (tails 97 l) (omega (arith, h, both, le))))
    (λ e. let lt : length (tails 98 l) < length (tails 97 l) = grind (arith, common_steps, e) in tails_lack 98 (short n (tails 98 l)) l (short_lacks n (tails 98 l) (omega (arith, h, both, lt))))

short_length : (n : ℕ) (l : List (List ℕ)) → length (short n l) ≡ n
unfolding short
short_length zero l = refl
short_length (suc n) l = cond_both (leb (length (tails 97 l)) (length (tails 98 l))) (97 ∷ short n (tails 97 l)) (98 ∷ short n (tails 98 l)) (λ s. length s ≡ suc n) (λ e. ap suc (short_length n (tails 97 l))) (λ e. ap suc (short_length n (tails 98 l)))

short_continues : (n : ℕ) (l : List (List ℕ)) → list_all continues_name (short n l) ≡ true
unfolding short starts_name
short_continues zero l = refl
short_continues (suc n) l = cond_both (leb (length (tails 97 l)) (length (tails 98 l))) (97 ∷ short n (tails 97 l)) (98 ∷ short n (tails 98 l)) (λ s. list_all continues_name s ≡ true) (λ e. short_continues n (tails 97 l)) (λ e. short_continues n (tails 98 l))

abbrev bytes_of : Tokens → List (List ℕ)
bytes_of [] = []
bytes_of (t ∷ ts) = t.bytes.now ∷ bytes_of ts

bytes_length : (ts : Tokens) → length (bytes_of ts) ≡ length ts
bytes_length [] = refl
bytes_length (t ∷ ts) = ap suc (bytes_length ts)

-- 42 letters that aren't a word
pub fresh : Tokens → List ℕ
fresh ts = 120 ∷ 120 ∷ short 40 (tails 120 (tails 120 (bytes_of ts)))

pub fresh_token : (ts : Tokens) → IsToken (spelled T.Name (fresh ts))
unfolding fresh N.is_name N.is_word N.words starts_name is_refused
fresh_token ts = (rw (short_continues 40 (tails 120 (tails 120 (bytes_of ts)))) refl, rw (short_length 40 (tails 120 (tails 120 (bytes_of ts)))) refl)

pub fresh_not_std : (ts : Tokens) → bytes_eq (fresh ts) (codes "std") ≡ false
unfolding fresh
fresh_not_std ts = refl

-- it is none of the names that the grammar takes by their letters
fresh_number : (ts us : Tokens) → eqb (number us (fresh ts)) S.contracts_name ≡ false
unfolding fresh number
fresh_number ts us = eqb_above (3 + first_place us (120 ∷ 120 ∷ short 40 (tails 120 (tails 120 (bytes_of ts))))) 0 (omega arith)

lacks_new : (ts : Tokens) (name : List ℕ) → Lacks name (bytes_of ts) → length ts ≤ first_place ts name
unfolding first_place
lacks_new [] name h = omega arith
lacks_new (t ∷ ts) name h =
    cond_both (is_name name t) 0 (suc (first_place ts name)) (λ n. suc (length ts) ≤ n)
    (λ e. absurd (let p = and_parts _ (bytes_eq name t.bytes.now) e in h.0 ((bytes_eq-Decides name t.bytes.now).0 p.1)))
    (λ e. let r = lacks_new ts name h.1 in omega (arith, r))

abbrev pub IsFew : Tokens → Type 0
IsFew ts = length ts < room 40

fresh_new : (ts : Tokens) → IsFew ts → length ts ≤ first_place ts (fresh ts)
unfolding fresh
fresh_new ts few =
    let l : List (List ℕ) = bytes_of ts in
    let size = bytes_length ts in
    let one = tails_few 120 l in
    let two = tails_few 120 (tails 120 l) in
    lacks_new ts (120 ∷ 120 ∷ short 40 (tails 120 (tails 120 l))) (tails_lack 120 (120 ∷ short 40 (tails 120 (tails 120 l))) l (tails_lack 120 (short 40 (tails 120 (tails 120 l))) (tails 120 l) (short_lacks 40 (tails 120 (tails 120 l)) (omega (arith, few, size, one, two)))))

-- ---- one more token

pub key_at : (ts w : Tokens) (n : ℕ) → n ≤ length ts → is_after_key (ts ++ w) n ≡ is_after_key ts n
key_at ts w zero h = refl
key_at ts w (suc n) h = ap (has_at is_class_key) (at_front ts w n (omega arith))

pub key_next : (ts : Tokens) (t : Spelled) → is_after_key (ts ++ t ∷ []) (length (ts ++ t ∷ [])) ≡ is_class_key t
key_next ts t = let e : length (ts ++ t ∷ []) ≡ suc (length ts) = length-append ts (t ∷ []) ∙ omega arith in rw e (ap (has_at is_class_key) (slice_after ts t []))

abbrev pub named : List ℕ → Spelled
named name = spelled T.Name name

declares_next : (ts : Tokens) (name : List ℕ) → declares_at (ts ++ named name ∷ []) name (length ts) ≡ is_after_key ts (length ts)
unfolding declares_at
declares_next ts name =
    let here : has_at (is_name name) (slice_get (ts ++ named name ∷ []) (length ts)) ≡ true = ap (has_at (is_name name)) (slice_after ts (named name) []) ∙ itself (named name) refl in
    rw (here, key_at ts (named name ∷ []) (length ts) (omega arith)) (grind (arith, common_steps))

class_next : (ts : Tokens) (name : List ℕ) → is_class_name (ts ++ named name ∷ []) name (length ts) ≡ (is_after_key ts (length ts) || some_below (length ts) (declares_at ts name))
unfolding some_below
class_next ts name = rw (declares_next ts name, some_front ts (named name ∷ []) name (length ts) (omega arith)) refl

-- a name that isn't declared
abbrev pub HasName : Tokens → Type 0
HasName ts = (name : List ℕ) × IsToken (named name) × (bytes_eq name (codes "std") ≡ false) × ((us : Tokens) → eqb (number us name) S.contracts_name ≡ false) × (some_below (length ts) (declares_at ts name) ≡ false)

pub has_name : (ts : Tokens) → IsFew ts → HasName ts
has_name ts few = (fresh ts, fresh_token ts, fresh_not_std ts, fresh_number ts, none_before ts (fresh ts) (length ts) (fresh_new ts few))

pub name_again : (ts : Tokens) (h : HasName ts) → is_after_key ts (length ts) ≡ false → mark_at (ts ++ named h.0 ∷ []) (length ts) T.Name h.0 ≡ M.Name (number (ts ++ named h.0 ∷ []) h.0)
unfolding name_mark
name_again ts h key = rw (h.2, class_next ts h.0, key, h.4) refl

pub name_kept : (ts : Tokens) (t : Spelled) → is_after_key ts (length ts) ≡ false → HasName ts → HasName (ts ++ t ∷ [])
unfolding some_below declares_at
name_kept ts t key h =
    let e : length (ts ++ t ∷ []) ≡ suc (length ts) = length-append ts (t ∷ []) ∙ omega arith in
    (h.0, h.1, h.2, h.3, rw (e, key_at ts (t ∷ []) (length ts) (omega arith), key, some_front ts (t ∷ []) h.0 (length ts) (omega arith)) h.4)

pub fresh_class : (ts : Tokens) → is_after_key ts (length ts) ≡ true → mark_at (ts ++ named (fresh ts) ∷ []) (length ts) T.Name (fresh ts) ≡ M.Class (number (ts ++ named (fresh ts) ∷ []) (fresh ts))
unfolding name_mark
fresh_class ts h = rw (fresh_not_std ts, class_next ts (fresh ts), h) refl

-- a class name
abbrev pub HasClass : Tokens → Type 0
HasClass ts = (name : List ℕ) × IsToken (named name) × (bytes_eq name (codes "std") ≡ false) × (some_below (length ts) (declares_at ts name) ≡ true)

pub class_again : (ts : Tokens) (h : HasClass ts) → mark_at (ts ++ named h.0 ∷ []) (length ts) T.Name h.0 ≡ M.Class (number (ts ++ named h.0 ∷ []) h.0)
unfolding name_mark
class_again ts h = rw (h.2, class_next ts h.0, h.3) (grind (arith, common_steps))

pub class_kept : (ts : Tokens) (t : Spelled) → HasClass ts → HasClass (ts ++ t ∷ [])
unfolding some_below
class_kept ts t h =
    let e : length (ts ++ t ∷ []) ≡ suc (length ts) = length-append ts (t ∷ []) ∙ omega arith in
    (h.0, h.1, h.2, rw (e, some_front ts (t ∷ []) h.0 (length ts) (omega arith), h.3) (grind (arith, common_steps)))

pub class_made : (ts : Tokens) (name : List ℕ) → IsToken (named name) → bytes_eq name (codes "std") ≡ false → is_after_key ts (length ts) ≡ true → HasClass (ts ++ named name ∷ [])
unfolding some_below
class_made ts name is other key =
    let e : length (ts ++ named name ∷ []) ≡ suc (length ts) = length-append ts (named name ∷ []) ∙ omega arith in
    (name, is, other, rw (e, declares_next ts name, key) refl)

-- `contracts` is taken by its letters
pub contracts_token : IsToken (named (codes "contracts"))
unfolding N.is_name N.is_word N.words starts_name is_refused
contracts_token = (refl, refl)

pub contracts_mark : (ts : Tokens) (n : ℕ) → S.is_named S.contracts_name (mark_at ts n T.Name (codes "contracts")) ≡ true
unfolding name_mark number
contracts_mark ts n = by (is_class_name ts (codes "contracts") n)
  where
    by : (b : Bool) → S.is_named S.contracts_name (if b then M.Class 0 else M.Name 0) ≡ true
    by true = refl
    by false = refl
