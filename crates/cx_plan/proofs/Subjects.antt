-- A set of what the lines so far are on tells whether one of them says something of the same as the next one.
use Rattle.std.proofs.Common.{◌≡◌, refl, sym, ap, ◌∙◌, ℕ, ◌+◌, Bool, true, false, List, [], ◌∷◌, ◌++◌, length, take, append_assoc, arith}
use Rattle.std.specs.Prelude.{◌||◌, ◌&&◌, not, Some, Ok, Err, codes}
use Rattle.std.specs.Borrow.{Bor}
use Rattle.std.specs.List.{list_any, All}
use Rattle.std.specs.Str.{bytes_eq}
use Rattle.std.specs.Ordering.{is_eq, nat_cmp, match_ordering}
use Rattle.std.specs.declared.cmp.Ordering.{Ordering}
use Rattle.std.specs.declared.cmp.Ordering.TheVariants.{Less, Equal, Greater}
use Rattle.std.specs.Cmp.Lexicographic.{slice_cmp, bytes_decides}
use Rattle.std.specs.BTreeMap.{is_at}
use Rattle.std.specs.BTreeSet.{insert_key}
use Rattle.std.proofs.lemmas.Map.Text.{is_eq-slice_cmp}
use Rattle.std.proofs.lemmas.List.{length-append}
use Rattle.std.proofs.lemmas.List.Folds.{list_any-append}
use Rattle.std.proofs.lemmas.List.Elements.{All-head, All-tail, All-push}
use Rattle.std.proofs.Math.Seq.{take-append_seam}
use Rattle.cx_plan.specs.declared.plan.Directive.{Directive}
use Rattle.cx_plan.specs.declared.plan.Directive.TheVariants as says
use Rattle.cx_plan.specs.declared.plan.PlanLine.{PlanLine}
use Rattle.cx_plan.specs.Line.{cut, is_name}
use Rattle.cx_plan.specs.Spelled.{IsSayable}
use Rattle.cx_plan.specs.declared.line.Line.TheVariants as lines
use Rattle.cx_plan.specs.Reading.{says_of_same, has_said, with_line}
use Rattle.cx_plan.specs.Subjects.{subject, has_text, AreSubjects}
use Rattle.cx_plan.proofs.Spells.{cut_word, name_in_word}

-- ---- the set

abbrev pub by_text : Bor (List ℕ) → Bor (List ℕ) → Ordering
by_text x y = slice_cmp nat_cmp x.now y.now

or_twice : (a b : Bool) → (a || b) ≡ (a || (a || b))
or_twice true b = refl
or_twice false b = refl

or_swap : (a b c : Bool) → (a || (b || c)) ≡ (b || (a || c))
or_swap true true c = refl
or_swap true false c = refl
or_swap false b c = refl

-- the set's own test is that of the texts
pub contains_text : (text : List ℕ) (keys : List (Bor (List ℕ))) → list_any (is_at (λ key. slice_cmp nat_cmp text key.now)) keys ≡ has_text keys text
contains_text text [] = refl
contains_text text (key ∷ keys) = (λ i. is_eq-slice_cmp text key.now i || contains_text text keys i)

insert_step : (text : List ℕ) (key x : Bor (List ℕ)) (keys : List (Bor (List ℕ))) (o : Ordering) → by_text key x ≡ o
    → has_text (insert_key by_text keys key) text ≡ (bytes_eq text key.now || has_text keys text)
    → has_text (match_ordering o (key ∷ x ∷ keys) (x ∷ keys) (x ∷ insert_key by_text keys key)) text ≡ (bytes_eq text key.now || (bytes_eq text x.now || has_text keys text))
insert_step text key x keys Less is rest = refl
insert_step text key x keys Equal is rest =
    let same : key.now ≡ x.now = (bytes_decides key.now x.now).0 (sym (is_eq-slice_cmp key.now x.now) ∙ ap is_eq is) in
    or_twice (bytes_eq text x.now) (has_text keys text) ∙ ap (λ t. bytes_eq text t || (bytes_eq text x.now || has_text keys text)) (sym same)
insert_step text key x keys Greater is rest =
    ap (λ b. bytes_eq text x.now || b) rest ∙ or_swap (bytes_eq text x.now) (bytes_eq text key.now) (has_text keys text)

-- a set with one more key
pub insert_text : (text : List ℕ) (key : Bor (List ℕ)) (keys : List (Bor (List ℕ))) → has_text (insert_key by_text keys key) text ≡ (bytes_eq text key.now || has_text keys text)
insert_text text key [] = refl
insert_text text key (x ∷ keys) = insert_step text key x keys (by_text key x) refl (insert_text text key keys)

-- ---- the words of a line that tell what it is on

taken_front : (line front rest : List ℕ) (n : ℕ) → line ≡ front ++ rest → n ≡ length front → take n line ≡ front
taken_front line front rest n is long = rw long (rw is (take-append_seam front rest))

pub unit_subject : (line name rest : List ℕ) → line ≡ codes "unit" ++ 32 ∷ (name ++ rest) → take (5 + length name) line ≡ codes "unit" ++ 32 ∷ name
unit_subject line name rest is = taken_front line (codes "unit" ++ 32 ∷ name) rest (5 + length name) is (omega arith)

pub at_subject : (line name assertion rest : List ℕ) → line ≡ codes "at" ++ 32 ∷ (name ++ 32 ∷ (assertion ++ rest))
    → take (4 + length name + length assertion) line ≡ codes "at" ++ 32 ∷ (name ++ 32 ∷ assertion)
at_subject line name assertion rest is =
    taken_front line (codes "at" ++ 32 ∷ (name ++ 32 ∷ assertion)) rest (4 + length name + length assertion)
    (is ∙ ap (λ more. codes "at" ++ 32 ∷ more) (sym (append_assoc name (32 ∷ assertion) rest)))
    (omega (arith, length-append name (32 ∷ assertion)))

-- ---- two lines on the same

both_ways : (a b : Bool) → (a ≡ true → b ≡ true) → (b ≡ true → a ≡ true) → a ≡ b
both_ways true b there back = sym (there refl)
both_ways false true there back = back refl
both_ways false false there back = refl

both : (a b : Bool) → a ≡ true → b ≡ true → a && b ≡ true
both true b h k = k
both false b h k = absurd cc

first_of : (a b : Bool) → a && b ≡ true → a ≡ true
first_of true b h = refl
first_of false b h = absurd cc

second_of : (a b : Bool) → a && b ≡ true → b ≡ true
second_of true b h = h
second_of false b h = absurd cc

same_name : (name other : List ℕ) → bytes_eq name other ≡ bytes_eq other name
same_name name other =
    both_ways (bytes_eq name other) (bytes_eq other name)
    (λ h. (bytes_decides other name).1 (sym ((bytes_decides name other).0 h)))
    (λ h. (bytes_decides name other).1 (sym ((bytes_decides other name).0 h)))

pair_is : (x y : List ℕ × List ℕ) → Some x ≡ Some y → x ≡ y
pair_is x y e = cc

-- a name ends where the blank behind it stands
same_pair : (name assertion other more : List ℕ) → is_name name ≡ true → is_name other ≡ true → name ++ 32 ∷ assertion ≡ other ++ 32 ∷ more
    → ◌≡◌ {A = List ℕ × List ℕ} (name, assertion) (other, more)
same_pair name assertion other more n o is =
    pair_is (name, assertion) (other, more) (sym (cut_word name assertion (name_in_word name n)) ∙ ap cut is ∙ cut_word other more (name_in_word other o))

same_pairs : (name assertion other more : List ℕ) → is_name name ≡ true → is_name other ≡ true
    → bytes_eq (name ++ 32 ∷ assertion) (other ++ 32 ∷ more) ≡ (bytes_eq other name && bytes_eq more assertion)
same_pairs name assertion other more n o =
    both_ways (bytes_eq (name ++ 32 ∷ assertion) (other ++ 32 ∷ more)) (bytes_eq other name && bytes_eq more assertion)
    (λ h. there (same_pair name assertion other more n o ((bytes_decides (name ++ 32 ∷ assertion) (other ++ 32 ∷ more)).0 h)))
    (λ h. (bytes_decides (name ++ 32 ∷ assertion) (other ++ 32 ∷ more)).1
    (ap (λ w. w ++ 32 ∷ assertion) (sym ((bytes_decides other name).0 (first_of (bytes_eq other name) (bytes_eq more assertion) h)))
    ∙ ap (λ w. other ++ 32 ∷ w) (sym ((bytes_decides more assertion).0 (second_of (bytes_eq other name) (bytes_eq more assertion) h)))))
  where
    there : ◌≡◌ {A = List ℕ × List ℕ} (name, assertion) (other, more) → bytes_eq other name && bytes_eq more assertion ≡ true
    there is =
        both (bytes_eq other name) (bytes_eq more assertion)
        ((bytes_decides other name).1 (ap (λ (p : List ℕ × List ℕ). p.0) (sym is)))
        ((bytes_decides more assertion).1 (ap (λ (p : List ℕ × List ℕ). p.1) (sym is)))

-- lines are on the same where those words are the same
pub same_subject : (later earlier : Directive) → IsSayable later → IsSayable earlier → bytes_eq (subject later) (subject earlier) ≡ says_of_same earlier later
same_subject (says.Unit name choice) (says.Unit other more) l e = same_name name other
same_subject (says.Unit name choice) (says.At other more semantic) l e = refl
same_subject (says.At name assertion semantic) (says.Unit other choice) l e = refl
same_subject (says.At name assertion semantic) (says.At other more later) l e = same_pairs name assertion other more l.0 e.0

-- ---- the lines so far

said_step : (keys : List (Bor (List ℕ))) (lines : List PlanLine) (d : Directive) → IsSayable d → All (λ (line : PlanLine). IsSayable line.says) lines
    → list_any (λ (line : PlanLine). bytes_eq (subject d) (subject line.says)) lines ≡ has_said lines d
said_step keys [] d sayable all = refl
said_step keys (line ∷ lines) d sayable all =
    (λ i. same_subject d line.says sayable (All-head (λ (l : PlanLine). IsSayable l.says) line lines all) i
    || said_step keys lines d sayable (All-tail (λ (l : PlanLine). IsSayable l.says) line lines all) i)

-- whether an earlier line says something of the same is what the set tells
pub has_said_by_text : (keys : List (Bor (List ℕ))) (lines : List PlanLine) (d : Directive) → IsSayable d → AreSubjects keys lines → has_said lines d ≡ has_text keys (subject d)
has_said_by_text keys lines d sayable are = sym (are.same (subject d) ∙ said_step keys lines d sayable are.sayable)

is_true : (said fresh : Bool) → fresh ≡ not said → fresh ≡ false → said ≡ true
is_true true fresh is h = refl
is_true false fresh is h = absurd cc

is_false : (said fresh : Bool) → fresh ≡ not said → fresh ≡ true → said ≡ false
is_false true fresh is h = absurd cc
is_false false fresh is h = refl

-- of a line whose subject is there the number is the fault
pub with_said : (number : ℕ) (keys : List (Bor (List ℕ))) (before : List PlanLine) (d : Directive) (text : List ℕ) (fresh : Bool) → IsSayable d → AreSubjects keys before
    → text ≡ subject d → fresh ≡ not (has_text keys text) → fresh ≡ false → with_line number before (lines.Says d) ≡ Err number
with_said number keys before d text fresh sayable are on is h =
    rw (has_said_by_text keys before d sayable are ∙ ap (has_text keys) (sym on) ∙ is_true (has_text keys text) fresh is h) refl

-- a line whose subject is new is added
pub with_new : (number : ℕ) (keys : List (Bor (List ℕ))) (before : List PlanLine) (d : Directive) (text : List ℕ) (fresh : Bool) → IsSayable d → AreSubjects keys before
    → text ≡ subject d → fresh ≡ not (has_text keys text) → fresh ≡ true → with_line number before (lines.Says d) ≡ Ok (before ++ record { number = number; says = d } ∷ [])
with_new number keys before d text fresh sayable are on is h =
    rw (has_said_by_text keys before d sayable are ∙ ap (has_text keys) (sym on) ∙ is_false (has_text keys text) fresh is h) refl

or_last : (a b : Bool) → (a || b) ≡ (b || (a || false))
or_last true true = refl
or_last true false = refl
or_last false true = refl
or_last false false = refl

-- a line more, and its subject
pub subject_added : (keys new : List (Bor (List ℕ))) (lines : List PlanLine) (line : PlanLine) → IsSayable line.says
    → ((text : List ℕ) → has_text new text ≡ (bytes_eq text (subject line.says) || has_text keys text)) → AreSubjects keys lines → AreSubjects new (lines ++ line ∷ [])
subject_added keys new lines line sayable added are = record {
  same = λ text.
      added text ∙ ap (λ b. bytes_eq text (subject line.says) || b) (are.same text)
      ∙ or_last (bytes_eq text (subject line.says)) (list_any (λ (l : PlanLine). bytes_eq text (subject l.says)) lines)
      ∙ sym (list_any-append (λ (l : PlanLine). bytes_eq text (subject l.says)) lines (line ∷ []));
  sayable = All-push (λ (l : PlanLine). IsSayable l.says) lines line are.sayable sayable;
}
