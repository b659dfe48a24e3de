-- A line says a directive exactly where it spells it.
use Rattle.std.proofs.Common.{◌≡◌, ℕ, suc, ◌+◌, ◌-◌, ◌<◌, ◌≤◌, ◌&&◌, eqb, Bool, true, false, not, cond, List, [], ◌∷◌, ◌++◌, length, take, drop, Option, Some, None, codes, refl, sym, ap, subst, ◌∙◌, arith}
use Rattle.std.specs.Prelude.{if◌then◌else◌, nat_le, nat_lt}
use Rattle.std.specs.List.{prefix_len, list_all}
use Rattle.std.specs.Str.{bytes_eq}
use Rattle.std.proofs.Math.Seq.{take-append_seam, drop-append-add}
use Rattle.std.proofs.lemmas.List.{length-append}
use Rattle.std.proofs.lemmas.Bool.{lt-ltb, le-leb, leb-true, ltb-true, eqb-true}
use Rattle.std.specs.Cmp.Lexicographic.{bytes_decides}
use Rattle.cx_code.specs.declared.violation.Semantic.{Semantic}
use Rattle.cx_code.specs.declared.violation.Semantic.TheVariants.{Ignore, Observe, Enforce, QuickEnforce}
use Rattle.cx_code.specs.Violation.{semantic_name}
use Rattle.cx_core.specs.declared.choice.Calls.{Calls}
use Rattle.cx_core.specs.declared.choice.Calls.TheVariants as calls
use Rattle.cx_plan.specs.declared.plan.Directive.{Directive}
use Rattle.cx_plan.specs.declared.plan.Directive.TheVariants as says
use Rattle.cx_plan.specs.declared.line.Line.TheVariants as lines
use Rattle.cx_plan.specs.Line.{is_in_word, cut, is_name, semantic_of, calls_of, repeat_of, unit_of, unit_with_calls, unit_with_semantic, at_of, at_with_assertion, line_of, worded, unit_line, at_line}
use Rattle.cx_plan.specs.Spelled.{calls_name, spelled, IsSayable}

-- ---- a word and the blank behind it

one_more : (n : ℕ) → 1 + n ≡ suc n
one_more n = omega arith

longer_word : (t more : Bool) (w rest : List ℕ) → (more ≡ true → prefix_len is_in_word (w ++ 32 ∷ rest) ≡ length w) → t && more ≡ true
    → cond t (1 + prefix_len is_in_word (w ++ 32 ∷ rest)) 0 ≡ suc (length w)
longer_word true more w rest shorter h = ap (λ n. 1 + n) (shorter h) ∙ one_more (length w)
longer_word false more w rest shorter h = absurd cc

length_of_word : (w rest : List ℕ) → list_all is_in_word w ≡ true → prefix_len is_in_word (w ++ 32 ∷ rest) ≡ length w
length_of_word [] rest h = refl
length_of_word (b ∷ w) rest h = longer_word (is_in_word b) (list_all is_in_word w) w rest (length_of_word w rest) h

shorter : (w rest : List ℕ) → length w < length (w ++ 32 ∷ rest)
shorter w rest = omega (arith, length-append w (32 ∷ rest))

behind_word : (w rest : List ℕ) → drop (length w + 1) (w ++ 32 ∷ rest) ≡ rest
behind_word w rest = drop-append-add w (32 ∷ rest) 1

pub cut_word : (w rest : List ℕ) → list_all is_in_word w ≡ true → cut (w ++ 32 ∷ rest) ≡ Some (w, rest)
cut_word w rest h =
    rw (length_of_word w rest h) (rw (lt-ltb (length w) (length (w ++ 32 ∷ rest)) (shorter w rest))
    (ap (λ word. Some (word, drop (length w + 1) (w ++ 32 ∷ rest))) (take-append_seam w (32 ∷ rest)) ∙ ap (λ more. Some (w, more)) (behind_word w rest)))

-- ---- names and fixed words hold no blank

no_blank : (b : ℕ) (more : Bool) → (nat_le 33 b && nat_le b 126) && more ≡ true → (is_in_word b ≡ true) × (more ≡ true)
no_blank b more h = by (nat_le 33 b) refl (eqb b 32) refl h
  where
    by : (low : Bool) → nat_le 33 b ≡ low → (blank : Bool) → eqb b 32 ≡ blank → (low && nat_le b 126) && more ≡ true → (not blank ≡ true) × (more ≡ true)
    by low e true k h = absurd (grind (arith, eqb-true b 32 k, e, h))
    by true e false k h = (refl, both (nat_le b 126) h)
      where
        both : (t : Bool) → t && more ≡ true → more ≡ true
        both true h = h
        both false h = absurd cc
    by false e false k h = absurd cc

in_words : (name : List ℕ) → list_all (λ byte. nat_le 33 byte && nat_le byte 126) name ≡ true → list_all is_in_word name ≡ true
in_words [] h = refl
in_words (b ∷ name) h = let n = no_blank b _ h in rw n.0 (in_words name n.1)

pub name_in_word : (name : List ℕ) → is_name name ≡ true → list_all is_in_word name ≡ true
name_in_word [] h = refl
name_in_word (b ∷ name) h = in_words (b ∷ name) h

semantic_in_word : (s : Semantic) → list_all is_in_word (semantic_name s) ≡ true
semantic_in_word Ignore = refl
semantic_in_word Observe = refl
semantic_in_word Enforce = refl
semantic_in_word QuickEnforce = refl

calls_in_word : (c : Calls) → list_all is_in_word (calls_name c) ≡ true
calls_in_word calls.Nothing = refl
calls_in_word calls.Pre = refl
calls_in_word calls.All = refl

-- ---- what the words say

semantic_again : (s : Semantic) → semantic_of (semantic_name s) ≡ Some s
semantic_again Ignore = refl
semantic_again Observe = refl
semantic_again Enforce = refl
semantic_again QuickEnforce = refl

calls_again : (c : Calls) → calls_of (calls_name c) ≡ Some c
calls_again calls.Nothing = refl
calls_again calls.Pre = refl
calls_again calls.All = refl

repeat_again : (n : ℕ) → n ≤ 7 → repeat_of ((48 + n) ∷ []) ≡ Some n
repeat_again n h = rw (le-leb 48 (48 + n) (omega arith)) (rw (le-leb (48 + n) 55 (omega (arith, h))) (ap (λ m. Some m) (omega arith)))

-- ---- what is spelled is read

pub spelled_is_read : (d : Directive) → IsSayable d → line_of (spelled d) ≡ lines.Says d
unfolding line_of
spelled_is_read (says.Unit name choice) h =
    let tail = (48 + choice.repeat) ∷ [] in
    let third = calls_name choice.calls ++ 32 ∷ tail in
    let second = semantic_name choice.semantic ++ 32 ∷ third in
    ap worded (cut_word (codes "unit") (name ++ 32 ∷ second) refl)
    ∙ ap unit_line (cut_word name second (name_in_word name h.0))
    ∙ rw (cut_word (semantic_name choice.semantic) third (semantic_in_word choice.semantic))
    (rw (cut_word (calls_name choice.calls) tail (calls_in_word choice.calls))
    (rw (semantic_again choice.semantic) (rw (calls_again choice.calls) (rw (repeat_again choice.repeat h.1) (rw h.0 refl)))))
spelled_is_read (says.At name assertion semantic) h =
    let second = assertion ++ 32 ∷ semantic_name semantic in
    ap worded (cut_word (codes "at") (name ++ 32 ∷ second) refl)
    ∙ ap at_line (cut_word name second (name_in_word name h.0))
    ∙ rw (cut_word assertion (semantic_name semantic) (name_in_word assertion h.1))
    (rw (semantic_again semantic) (rw h.0 (rw h.1 refl)))

-- ---- what is cut is a word, a blank and the rest

two_more : (n : ℕ) → suc n + 1 ≡ suc (n + 1)
two_more n = omega arith

abbrev IsSplit : List ℕ → ℕ → Type 0
IsSplit bytes n = bytes ≡ take n bytes ++ 32 ∷ drop (n + 1) bytes

split_by : (blank : Bool) (b : ℕ) (bytes : List ℕ) → eqb b 32 ≡ blank → (prefix_len is_in_word bytes < length bytes → IsSplit bytes (prefix_len is_in_word bytes))
    → cond (not blank) (1 + prefix_len is_in_word bytes) 0 < suc (length bytes) → IsSplit (b ∷ bytes) (cond (not blank) (1 + prefix_len is_in_word bytes) 0)
split_by true b bytes e before within = ap (λ n. n ∷ bytes) (eqb-true b 32 e)
split_by false b bytes e before within =
    rw (one_more (prefix_len is_in_word bytes)) (rw (two_more (prefix_len is_in_word bytes)) (ap (λ more. b ∷ more) (before (omega (arith, within)))))

split : (bytes : List ℕ) → prefix_len is_in_word bytes < length bytes → IsSplit bytes (prefix_len is_in_word bytes)
split [] within = absurd (omega (arith, within))
split (b ∷ bytes) within = split_by (eqb b 32) b bytes refl (split bytes) within

some_is : {A : Type 0} (x y : A) → ◌≡◌ {A = Option A} (Some x) (Some y) → x ≡ y
some_is x y e = cc

cut_by : (within : Bool) (bytes w rest : List ℕ) → nat_lt (prefix_len is_in_word bytes) (length bytes) ≡ within
    → if◌then◌else◌ {A = Option (List ℕ × List ℕ)} within (Some (take (prefix_len is_in_word bytes) bytes, drop (prefix_len is_in_word bytes + 1) bytes)) None ≡ Some (w, rest) → bytes ≡ w ++ 32 ∷ rest
cut_by true bytes w rest e is =
    let pair = some_is (take (prefix_len is_in_word bytes) bytes, drop (prefix_len is_in_word bytes + 1) bytes) (w, rest) is in
    split bytes (ltb-true _ _ e) ∙ ap (λ (c : List ℕ × List ℕ). c.0 ++ 32 ∷ c.1) pair
cut_by false bytes w rest e is = absurd cc

pub cut_is : (bytes w rest : List ℕ) → cut bytes ≡ Some (w, rest) → bytes ≡ w ++ 32 ∷ rest
cut_is bytes w rest is = cut_by (nat_lt (prefix_len is_in_word bytes) (length bytes)) bytes w rest refl is

-- ---- words that say something

semantic_is : (word : List ℕ) (s : Semantic) → semantic_of word ≡ Some s → word ≡ semantic_name s
semantic_is word s = ignored (bytes_eq word (semantic_name Ignore)) ((bytes_decides word (semantic_name Ignore)).0)
  where
    last : (t : Bool) → (t ≡ true → word ≡ semantic_name QuickEnforce) → (if t then Some QuickEnforce else None) ≡ Some s → word ≡ semantic_name s
    last true d e = d refl ∙ ap semantic_name (some_is QuickEnforce s e)
    last false d e = absurd cc

    enforced : (t : Bool) → (t ≡ true → word ≡ semantic_name Enforce) → (if t then Some Enforce else (if bytes_eq word (semantic_name QuickEnforce) then Some QuickEnforce else None)) ≡ Some s → word ≡ semantic_name s
    enforced true d e = d refl ∙ ap semantic_name (some_is Enforce s e)
    enforced false d e = last (bytes_eq word (semantic_name QuickEnforce)) ((bytes_decides word (semantic_name QuickEnforce)).0) e

    observed : (t : Bool) → (t ≡ true → word ≡ semantic_name Observe) → (if t then Some Observe else (if bytes_eq word (semantic_name Enforce) then Some Enforce else (if bytes_eq word (semantic_name QuickEnforce) then Some QuickEnforce else None))) ≡ Some s → word ≡ semantic_name s
    observed true d e = d refl ∙ ap semantic_name (some_is Observe s e)
    observed false d e = enforced (bytes_eq word (semantic_name Enforce)) ((bytes_decides word (semantic_name Enforce)).0) e

    ignored : (t : Bool) → (t ≡ true → word ≡ semantic_name Ignore) → (if t then Some Ignore else (if bytes_eq word (semantic_name Observe) then Some Observe else (if bytes_eq word (semantic_name Enforce) then Some Enforce else (if bytes_eq word (semantic_name QuickEnforce) then Some QuickEnforce else None)))) ≡ Some s → word ≡ semantic_name s
    ignored true d e = d refl ∙ ap semantic_name (some_is Ignore s e)
    ignored false d e = observed (bytes_eq word (semantic_name Observe)) ((bytes_decides word (semantic_name Observe)).0) e

calls_is : (word : List ℕ) (c : Calls) → calls_of word ≡ Some c → word ≡ calls_name c
calls_is word c = none (bytes_eq word (codes "none")) ((bytes_decides word (codes "none")).0)
  where
    all : (t : Bool) → (t ≡ true → word ≡ codes "all") → (if t then Some calls.All else None) ≡ Some c → word ≡ calls_name c
    all true d e = d refl ∙ ap calls_name (some_is calls.All c e)
    all false d e = absurd cc

    pre : (t : Bool) → (t ≡ true → word ≡ codes "pre") → (if t then Some calls.Pre else (if bytes_eq word (codes "all") then Some calls.All else None)) ≡ Some c → word ≡ calls_name c
    pre true d e = d refl ∙ ap calls_name (some_is calls.Pre c e)
    pre false d e = all (bytes_eq word (codes "all")) ((bytes_decides word (codes "all")).0) e

    none : (t : Bool) → (t ≡ true → word ≡ codes "none") → (if t then Some calls.Nothing else (if bytes_eq word (codes "pre") then Some calls.Pre else (if bytes_eq word (codes "all") then Some calls.All else None))) ≡ Some c
        → word ≡ calls_name c
    none true d e = d refl ∙ ap calls_name (some_is calls.Nothing c e)
    none false d e = pre (bytes_eq word (codes "pre")) ((bytes_decides word (codes "pre")).0) e

digit_is : (low high : Bool) (digit n : ℕ) → nat_le 48 digit ≡ low → nat_le digit 55 ≡ high → (if low && high then Some (digit - 48) else None) ≡ Some n → (digit ∷ [] ≡ (48 + n) ∷ []) × (n ≤ 7)
digit_is true true digit n l h e =
    let is = some_is (digit - 48) n e in
    let least = leb-true 48 digit l in
    let most = leb-true digit 55 h in
    (ap (λ d. d ∷ []) (omega (arith, is, least)), omega (arith, is, most))
digit_is true false digit n l h e = absurd cc
digit_is false high digit n l h e = absurd cc

repeat_is : (word : List ℕ) (n : ℕ) → repeat_of word ≡ Some n → (word ≡ (48 + n) ∷ []) × (n ≤ 7)
repeat_is [] n e = absurd cc
repeat_is (digit ∷ []) n e = digit_is (nat_le 48 digit) (nat_le digit 55) digit n refl refl e
repeat_is (digit ∷ other ∷ word) n e = absurd cc

-- ---- lines that say something

abbrev Spells : List ℕ → Directive → Type 0
Spells line d = IsSayable d × (line ≡ spelled d)

says_is : (d e : Directive) → lines.Says d ≡ lines.Says e → d ≡ e
says_is d e is = cc

named_unit : (named : Bool) (X name : List ℕ) (s : Semantic) (c : Calls) (n : ℕ) (d : Directive) → is_name name ≡ named
    → X ≡ name ++ 32 ∷ (semantic_name s ++ 32 ∷ (calls_name c ++ 32 ∷ (48 + n) ∷ [])) → n ≤ 7
    → (if named then lines.Says (says.Unit name (record { semantic = s; calls = c; repeat = n })) else lines.Bad) ≡ lines.Says d → Spells (codes "unit" ++ 32 ∷ X) d
named_unit true X name s c n d e is few said =
    subst (λ (d : Directive). Spells (codes "unit" ++ 32 ∷ X) d) (says_is (says.Unit name (record { semantic = s; calls = c; repeat = n })) d said) ((e, few), ap (λ more. codes "unit" ++ 32 ∷ more) is)
named_unit false X name s c n d e is few said = absurd cc

unit_parts : (X name second third fourth : List ℕ) (s : Option Semantic) (c : Option Calls) (n : Option ℕ) (d : Directive) → semantic_of second ≡ s → calls_of third ≡ c → repeat_of fourth ≡ n
    → X ≡ name ++ 32 ∷ (second ++ 32 ∷ (third ++ 32 ∷ fourth)) → unit_of name s c n ≡ lines.Says d → Spells (codes "unit" ++ 32 ∷ X) d
unit_parts X name second third fourth None c n d es ec en is said = absurd cc
unit_parts X name second third fourth (Some s) None n d es ec en is said = absurd cc
unit_parts X name second third fourth (Some s) (Some c) None d es ec en is said = absurd cc
unit_parts X name second third fourth (Some s) (Some c) (Some n) d es ec en is said =
    let last = repeat_is fourth n en in
    named_unit (is_name name) X name s c n d refl
    (is
    ∙ ap (λ w. name ++ 32 ∷ (w ++ 32 ∷ (third ++ 32 ∷ fourth))) (semantic_is second s es)
    ∙ ap (λ w. name ++ 32 ∷ (semantic_name s ++ 32 ∷ (w ++ 32 ∷ fourth))) (calls_is third c ec)
    ∙ ap (λ w. name ++ 32 ∷ (semantic_name s ++ 32 ∷ (calls_name c ++ 32 ∷ w))) last.0)
    last.1 said

unit_third : (X name second Z : List ℕ) (o : Option (List ℕ × List ℕ)) (d : Directive) → cut Z ≡ o → X ≡ name ++ 32 ∷ (second ++ 32 ∷ Z)
    → unit_with_calls name (semantic_of second) o ≡ lines.Says d → Spells (codes "unit" ++ 32 ∷ X) d
unit_third X name second Z None d e is said = absurd cc
unit_third X name second Z (Some c) d e is said =
    unit_parts X name second c.0 c.1 (semantic_of second) (calls_of c.0) (repeat_of c.1) d refl refl refl (is ∙ ap (λ w. name ++ 32 ∷ (second ++ 32 ∷ w)) (cut_is Z c.0 c.1 e)) said

unit_second : (X name Y : List ℕ) (o : Option (List ℕ × List ℕ)) (d : Directive) → cut Y ≡ o → X ≡ name ++ 32 ∷ Y → unit_with_semantic name o ≡ lines.Says d → Spells (codes "unit" ++ 32 ∷ X) d
unit_second X name Y None d e is said = absurd cc
unit_second X name Y (Some c) d e is said = unit_third X name c.0 c.1 (cut c.1) d refl (is ∙ ap (λ w. name ++ 32 ∷ w) (cut_is Y c.0 c.1 e)) said

unit_first : (X : List ℕ) (o : Option (List ℕ × List ℕ)) (d : Directive) → cut X ≡ o → unit_line o ≡ lines.Says d → Spells (codes "unit" ++ 32 ∷ X) d
unit_first X None d e said = absurd cc
unit_first X (Some c) d e said = unit_second X c.0 c.1 (cut c.1) d refl (cut_is X c.0 c.1 e) said

named_at : (named also : Bool) (X name assertion : List ℕ) (s : Semantic) (d : Directive) → is_name name ≡ named → is_name assertion ≡ also → X ≡ name ++ 32 ∷ (assertion ++ 32 ∷ semantic_name s)
    → (if named && also then lines.Says (says.At name assertion s) else lines.Bad) ≡ lines.Says d → Spells (codes "at" ++ 32 ∷ X) d
named_at true true X name assertion s d e f is said =
    subst (λ (d : Directive). Spells (codes "at" ++ 32 ∷ X) d) (says_is (says.At name assertion s) d said) ((e, f), ap (λ more. codes "at" ++ 32 ∷ more) is)
named_at true false X name assertion s d e f is said = absurd cc
named_at false also X name assertion s d e f is said = absurd cc

at_third : (X name assertion third : List ℕ) (s : Option Semantic) (d : Directive) → semantic_of third ≡ s → X ≡ name ++ 32 ∷ (assertion ++ 32 ∷ third) → at_of name assertion s ≡ lines.Says d → Spells (codes "at" ++ 32 ∷ X) d
at_third X name assertion third None d e is said = absurd cc
at_third X name assertion third (Some s) d e is said =
    named_at (is_name name) (is_name assertion) X name assertion s d refl refl (is ∙ ap (λ w. name ++ 32 ∷ (assertion ++ 32 ∷ w)) (semantic_is third s e)) said

at_second : (X name Y : List ℕ) (o : Option (List ℕ × List ℕ)) (d : Directive) → cut Y ≡ o → X ≡ name ++ 32 ∷ Y → at_with_assertion name o ≡ lines.Says d → Spells (codes "at" ++ 32 ∷ X) d
at_second X name Y None d e is said = absurd cc
at_second X name Y (Some c) d e is said = at_third X name c.0 c.1 (semantic_of c.1) d refl (is ∙ ap (λ w. name ++ 32 ∷ w) (cut_is Y c.0 c.1 e)) said

at_first : (X : List ℕ) (o : Option (List ℕ × List ℕ)) (d : Directive) → cut X ≡ o → at_line o ≡ lines.Says d → Spells (codes "at" ++ 32 ∷ X) d
at_first X None d e said = absurd cc
at_first X (Some c) d e said = at_second X c.0 c.1 (cut c.1) d refl (cut_is X c.0 c.1 e) said

by_word : (unit at : Bool) (line word X : List ℕ) (d : Directive) → (unit ≡ true → word ≡ codes "unit") → (at ≡ true → word ≡ codes "at") → line ≡ word ++ 32 ∷ X
    → (if unit then unit_line (cut X) else (if at then at_line (cut X) else lines.Bad)) ≡ lines.Says d → Spells line d
by_word true at line word X d u a is said =
    subst (λ (l : List ℕ). Spells l d) (sym (is ∙ ap (λ w. w ++ 32 ∷ X) (u refl))) (unit_first X (cut X) d refl said)
by_word false true line word X d u a is said =
    subst (λ (l : List ℕ). Spells l d) (sym (is ∙ ap (λ w. w ++ 32 ∷ X) (a refl))) (at_first X (cut X) d refl said)
by_word false false line word X d u a is said = absurd cc

worded_is : (line : List ℕ) (o : Option (List ℕ × List ℕ)) (d : Directive) → cut line ≡ o → worded o ≡ lines.Says d → Spells line d
worded_is line None d e said = absurd cc
worded_is line (Some c) d e said =
    by_word (bytes_eq c.0 (codes "unit")) (bytes_eq c.0 (codes "at")) line c.0 c.1 d ((bytes_decides c.0 (codes "unit")).0) ((bytes_decides c.0 (codes "at")).0) (cut_is line c.0 c.1 e) said

not_silent : (silent : Bool) (line : List ℕ) (d : Directive) → (if silent then lines.Silent else worded (cut line)) ≡ lines.Says d → Spells line d
not_silent true line d said = absurd cc
not_silent false line d said = worded_is line (cut line) d refl said

pub read_is_spelled : (line : List ℕ) (d : Directive) → line_of line ≡ lines.Says d → Spells line d
unfolding line_of
read_is_spelled [] d said = absurd cc
read_is_spelled (first ∷ more) d said = not_silent (eqb first 35) (first ∷ more) d said
