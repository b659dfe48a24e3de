-- Each text has a reading, which has no more tokens than the text has bytes.
use Rattle.std.proofs.Common.{◌≡◌, false, ℕ, zero, suc, ◌+◌, ◌<◌, ◌≤◌, List, [], ◌∷◌, ◌++◌, length, drop, not, eqb, refl, subst, arith, ⊎_elim, length-drop}
use Rattle.std.proofs.lemmas.Bool.{cases_Bool}
use Rattle.std.proofs.lemmas.List.Sums.{prefix_len-le-length}
use Rattle.cx_lexer.specs.declared.piece.Piece.{Piece}
use Rattle.cx_lexer.specs.declared.piece.Piece.TheVariants as pieces
use Rattle.cx_lexer.specs.Bytes.{newline}
use Rattle.cx_lexer.specs.Comment.{line_length}
use Rattle.cx_lexer.specs.Piece.{Stands}
use Rattle.cx_lexer.proofs.Unique.{gap_takes, lexeme_takes}
use Rattle.cx_includes.specs.declared.part.Part.{Part}
use Rattle.cx_includes.specs.declared.part.Part.TheVariants as parts
use Rattle.cx_includes.specs.declared.stretch.Stretch.{Stretch}
use Rattle.cx_includes.specs.declared.stretch.Stretch.TheVariants as stretches
use Rattle.cx_includes.specs.Directive.{begins_directive}
use Rattle.cx_includes.specs.Parts.{fault_place, IsLine, IsReading, ReadsTo}
use Rattle.cx_includes.specs.Place.{spot_at}
use Rattle.cx_includes.specs.Stretch.{Holds}
use Rattle.cx_includes.proofs.Stretches.{blank_fits, part_fits, reads_blank, reads_last, reads_part}
use Rattle.cx_judged.proofs.Choices.{at_most_or_more}
use Rattle.cx_judged.proofs.Pieces.{something_stands}
use Rattle.cx_judged.proofs.Lines.{line_stands}

module _ (text : List ℕ) where
  -- what stands at a place that begins no directive
  of_piece : (at : ℕ) → begins_directive text at ≡ false → (piece : Piece) → Stands (drop at text) at piece → (stretch : Stretch) × Holds text at stretch
  unfolding Stands
  of_piece at no_line (pieces.Gap n) gap = (stretches.Blank n, Holds.blank gap)
  of_piece at no_line (pieces.Token kind n) token = (stretches.Part (parts.Token (record { kind = kind; start = at; end = at + n }) (spot_at text at)) n, Holds.token token.0 token.1)
  of_piece at no_line (pieces.Fault fault) cause = (stretches.Last (parts.Fault fault (spot_at text (fault_place fault))), Holds.fault no_line cause)

  something_held : (at : ℕ) → at < length text → (stretch : Stretch) × Holds text at stretch
  something_held at inside =
      ⊎_elim
      (λ begins. let line = line_stands text at begins in (stretches.Part line.0 (line_length (drop at text)), Holds.line begins line.1))
      (λ no_line. let one = something_stands (drop at text) at (omega (arith, length-drop at text)) in of_piece at no_line one.0 one.1)
      (cases_Bool (begins_directive text at))

  abbrev Read : Type 0
  Read = (all : List Part) × IsReading text all

  -- the text is read on from any place with so many bytes or fewer left
  abbrev ReadsOn : ℕ → Type 0
  ReadsOn fuel = (at : ℕ) (front : List Part) → at ≤ length text → length text < at + fuel → ReadsTo text at front → Read

  behind : (fuel at : ℕ) (front : List Part) → at ≤ length text → length text < at + suc fuel → ReadsTo text at front → ReadsOn fuel → (stretch : Stretch) → Holds text at stretch → Read
  behind fuel at front inside left reads on (stretches.Blank n) holds = let fits = blank_fits text at n inside holds in on (at + n) front fits.1 (omega arith) (reads_blank text at n front reads holds)
  behind fuel at front inside left reads on (stretches.Part part n) holds = let fits = part_fits text at n part inside holds in on (at + n) (front ++ part ∷ []) fits.1 (omega arith) (reads_part text at n front part reads holds)
  behind fuel at front inside left reads on (stretches.Last part) holds = (front ++ part ∷ [], reads_last text at front part reads holds)

  at_end : (at : ℕ) (front : List Part) → at ≡ length text → ReadsTo text at front → Read
  at_end at front there reads = (front, IsReading.whole (subst (λ p. ReadsTo text p front) there reads))

  one_more : (fuel : ℕ) → ReadsOn fuel → ReadsOn (suc fuel)
  one_more fuel on at front inside left reads =
      ⊎_elim
      (λ past. at_end at front (omega arith) reads)
      (λ more. let one = something_held at more in behind fuel at front inside left reads on one.0 one.1)
      (at_most_or_more (length text) at)

  reads_on : (fuel : ℕ) → ReadsOn fuel
  reads_on zero = λ at front inside left reads. absurd (omega arith)
  reads_on (suc fuel) = one_more fuel (reads_on fuel)

  pub reading : Read
  reading = reads_on (suc (length text)) 0 [] (omega arith) (omega arith) ReadsTo.start

-- ---- tokens

abbrev token_of : Part → ℕ
token_of (parts.Token token spot) = 1
token_of other = 0

abbrev pub tokens_in : List Part → ℕ
tokens_in [] = 0
tokens_in (part ∷ rest) = token_of part + tokens_in rest

pub tokens_push : (front : List Part) (part : Part) → tokens_in (front ++ part ∷ []) ≡ tokens_in front + token_of part
tokens_push [] part = omega arith
tokens_push (first ∷ front) part = let behind = tokens_push front part in omega arith

line_no_token : (text : List ℕ) (p : ℕ) (part : Part) → IsLine text p part → token_of part ≡ 0
line_no_token text p part (IsLine.formed one) = refl
line_no_token text p part (IsLine.bad begins none) = refl

few_to : (text : List ℕ) (p : ℕ) (front : List Part) → ReadsTo text p front → (tokens_in front ≤ p) × (p ≤ length text)
few_to text p front ReadsTo.start = (omega arith, omega arith)
few_to text p front (ReadsTo.gap {p = q} {n = n} reads gap) =
    let before = few_to text q front reads in
    let takes = gap_takes gap in
    let behind = length-drop q text in
    (omega arith, omega arith)
few_to text p front (ReadsTo.token {p = q} {n = n} {front = earlier} {kind = kind} reads lexeme good) =
    let before = few_to text q earlier reads in
    let takes = lexeme_takes kind (drop q text) n lexeme in
    let within = lexeme.within in
    let behind = length-drop q text in
    let more = tokens_push earlier (parts.Token (record { kind = kind; start = q; end = q + n }) (spot_at text q)) in
    (omega arith, omega arith)
few_to text p front (ReadsTo.line {p = q} {front = earlier} {part = part} reads line) =
    let before = few_to text q earlier reads in
    let more = tokens_push earlier part in
    let none = line_no_token text q part line in
    let within = prefix_len-le-length (λ b. not (eqb b newline)) (drop q text) in
    let behind = length-drop q text in
    (omega arith, omega arith)

pub few_tokens : (text : List ℕ) (all : List Part) → IsReading text all → tokens_in all ≤ length text
few_tokens text all (IsReading.whole reads) = (few_to text (length text) all reads).0
few_tokens text all (IsReading.broken {p = p} {front = front} {fault = fault} reads none cause) =
    let before = few_to text p front reads in
    let more = tokens_push front (parts.Fault fault (spot_at text (fault_place fault))) in
    omega arith
