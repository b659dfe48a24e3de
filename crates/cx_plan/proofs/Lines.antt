-- The first line of a text, and those behind it.
use Rattle.std.proofs.Common.{◌≡◌, ℕ, suc, ◌+◌, ◌<◌, ◌==◌, Bool, true, false, not, List, [], ◌∷◌, length, take, drop, refl, ap, sym, subst, ◌∙◌, Ok, arith, if◌then◌else◌, ◌≤◌, length-drop}
use Rattle.std.specs.List.{prefix_len}
use Rattle.cx_plan.specs.declared.plan.PlanLine.{PlanLine}
use Rattle.cx_plan.specs.Line.{line_of}
use Rattle.cx_plan.specs.Reading.{lines_of, before_lines, with_line, and_then, lines_from}

abbrev pub is_in_line : ℕ → Bool
is_in_line byte = not (byte == 10)

abbrev pub first_line : List ℕ → List ℕ
first_line text = take (prefix_len is_in_line text) text

abbrev pub behind_line : List ℕ → List ℕ
behind_line text = drop (prefix_len is_in_line text + 1) text

-- the same of a byte before a text, by whether it ends the line
Taken : ℕ → List ℕ → Bool → Type 0
Taken byte bytes ends = (if ends then [] ∷ lines_of bytes else before_lines byte (lines_of bytes))
    ≡ take (if not ends then 1 + prefix_len is_in_line bytes else 0) (byte ∷ bytes) ∷ lines_of (drop ((if not ends then 1 + prefix_len is_in_line bytes else 0) + 1) (byte ∷ bytes))

one_more : (n : ℕ) → 1 + n ≡ suc n
one_more n = omega arith

two_more : (n : ℕ) → suc n + 1 ≡ suc (n + 1)
two_more n = omega arith

taken_by : (byte : ℕ) (bytes : List ℕ) (ends : Bool) → Taken byte bytes ends
unfolding Taken lines_of
taken_by byte bytes true = refl
taken_by byte [] false = refl
taken_by byte (next ∷ bytes) false =
    rw (one_more (prefix_len is_in_line (next ∷ bytes))) (rw (two_more (prefix_len is_in_line (next ∷ bytes)))
    (ap (before_lines byte) (taken_by next bytes (next == 10))))

pub lines_taken : (byte : ℕ) (bytes : List ℕ) → lines_of (byte ∷ bytes) ≡ first_line (byte ∷ bytes) ∷ lines_of (behind_line (byte ∷ bytes))
unfolding Taken lines_of
lines_taken byte bytes = taken_by byte bytes (byte == 10)

-- what is read of a text, by its first line
pub line_taken : (text : List ℕ) (number : ℕ) (before : List PlanLine) → 0 < length text
    → lines_from number before (lines_of text) ≡ and_then (with_line number before (line_of (first_line text))) (λ more. lines_from (number + 1) more (lines_of (behind_line text)))
unfolding lines_from
line_taken [] number before some = absurd (omega (arith, some))
line_taken (byte ∷ bytes) number before some = ap (lines_from number before) (lines_taken byte bytes)

added_at_end : (text : List ℕ) (number : ℕ) (before after : List PlanLine) → 0 < length text → with_line number before (line_of (first_line text)) ≡ Ok after
    → lines_from number before (lines_of text) ≡ lines_from (number + 1) after (lines_of (behind_line text))
added_at_end text number before after some added =
    line_taken text number before some ∙ ap (λ read. and_then read (λ more. lines_from (number + 1) more (lines_of (behind_line text)))) added

-- reading goes on behind a line that is added
pub line_added : (text : List ℕ) (number end : ℕ) (before after : List PlanLine) → end ≡ prefix_len is_in_line text → 0 < length text → with_line number before (line_of (take end text)) ≡ Ok after
    → lines_from number before (lines_of text) ≡ lines_from (number + 1) after (lines_of (drop (end + 1) text))
line_added text number end before after e some =
    let P : ℕ → Type 0 = λ n. with_line number before (line_of (take n text)) ≡ Ok after → lines_from number before (lines_of text) ≡ lines_from (number + 1) after (lines_of (drop (n + 1) text)) in
    subst P (sym e) (added_at_end text number before after some)

pub room_left : (text : List ℕ) (end number most : ℕ) → 0 < length text → number + length text ≤ most → number + 1 + length (drop (end + 1) text) ≤ most
room_left text end number most some room = grind (arith, length-drop (end + 1) text, some, room)
