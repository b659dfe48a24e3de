-- What stands at a place of a file: from what the lexer and the forms of directives tell, and how the parts of the file go on behind it.
use Rattle.std.proofs.Common.{◌≡◌, ◌&&◌, true, false, not, ℕ, ◌+◌, ◌<◌, ◌≤◌, List, [], ◌∷◌, ◌++◌, length, take, drop, eqb, get_or, sym, ◌∙◌, ap, subst, arith, length-drop, Option, Some, None, MatchOption}
use Rattle.std.proofs.lemmas.List.{at_drop_more}
use Rattle.std.proofs.lemmas.List.Sums.{prefix_len-le-length}
use Rattle.std.proofs.lemmas.Bool.{cond-true, and_parts, true≢false, false≢true, eqb-true}
use Rattle.cx_syntax.specs.declared.token.TokenKind.{TokenKind}
use Rattle.cx_lexer.specs.declared.fault.LexFault.{LexFault}
use Rattle.cx_lexer.specs.declared.piece.Piece.TheVariants as pieces
use Rattle.cx_lexer.specs.Bytes.{begins, newline}
use Rattle.cx_lexer.specs.Comment.{line_length, is_spliced_line}
use Rattle.cx_lexer.specs.Spelling.{Begins}
use Rattle.cx_lexer.specs.Piece.{Stands}
use Rattle.cx_lexer.proofs.Unique.{gap_takes, lexeme_takes}
use Rattle.cx_includes.specs.declared.part.Directive.{Directive}
use Rattle.cx_includes.specs.declared.part.Directive.TheVariants as directives
use Rattle.cx_includes.specs.declared.part.Part.{Part}
use Rattle.cx_includes.specs.declared.part.Part.TheVariants as parts
use Rattle.cx_includes.specs.declared.part.Spot.{Spot}
use Rattle.cx_includes.specs.declared.stretch.Stretch.TheVariants as stretches
use Rattle.cx_includes.specs.Place.{line_at, column_at, spot_at}
use Rattle.cx_includes.specs.Directive.{begins_directive, ends_in_blank_line, number_sign, HasForm, IsDirective}
use Rattle.cx_includes.specs.Parts.{IsLine, ReadsTo, IsReading, fault_place}
use Rattle.cx_includes.specs.Stretch.{Holds}
use Rattle.cx_includes.specs.Taking.{IsPartWithin}
use Rattle.std.specs.List.{All}
use Rattle.std.proofs.lemmas.List.Elements.{All-nil, All-push}

-- a directive is its form in a line that isn't spliced
pub directive_told : (text : List ℕ) (at : ℕ) (told : Option Directive) → begins_directive text at ≡ true → is_spliced_line (drop at text) ≡ false
    → MatchOption told ((directive : Directive) → HasForm text at directive → ⊥) (HasForm text at)
    → MatchOption told ((directive : Directive) → IsDirective text at directive → ⊥) (IsDirective text at)
directive_told text at None here whole none = λ directive one. none directive one.form
directive_told text at (Some directive) here whole form = record { begins = here; whole = whole; form = form }

pub no_spliced_directive : (text : List ℕ) (at : ℕ) → is_spliced_line (drop at text) ≡ true → (directive : Directive) → IsDirective text at directive → ⊥
no_spliced_directive text at spliced directive one = true≢false (sym spliced ∙ one.whole)

-- the first byte of a line and what stands before it
pub begins_directive_is : (text : List ℕ) (at : ℕ) → at < length text → begins_directive text at ≡ (eqb (get_or text at 0) number_sign && ends_in_blank_line true (take at text))
begins_directive_is text at inside = ap (λ t. t && ends_in_blank_line true (take at text)) (at_drop_more (begins (λ b. eqb b number_sign)) text at 0 inside)

-- a line, a token, a blank and a fault
spot_is : (text : List ℕ) (at : ℕ) (spot : Spot) → spot.line ≡ line_at text at → spot.column ≡ column_at text at → spot ≡ spot_at text at
spot_is text at spot line column = λ i. record { line = line i; column = column i }

pub holds_line : (text : List ℕ) (at n line : ℕ) (directive : Directive) → n ≡ line_length (drop at text) → line ≡ line_at text at → begins_directive text at ≡ true → IsDirective text at directive → Holds text at (stretches.Part (parts.Line directive line) n)
holds_line text at n line directive length_is line_is here one =
    subst (λ k. Holds text at (stretches.Part (parts.Line directive k) n)) (sym line_is)
    (subst (λ k. Holds text at (stretches.Part (parts.Line directive (line_at text at)) k)) (sym length_is) (Holds.line here (IsLine.formed one)))

pub holds_bad : (text : List ℕ) (at n line : ℕ) → n ≡ line_length (drop at text) → line ≡ line_at text at → begins_directive text at ≡ true → ((directive : Directive) → IsDirective text at directive → ⊥) → Holds text at (stretches.Part (parts.BadLine line) n)
holds_bad text at n line length_is line_is here none =
    subst (λ k. Holds text at (stretches.Part (parts.BadLine k) n)) (sym line_is)
    (subst (λ k. Holds text at (stretches.Part (parts.BadLine (line_at text at)) k)) (sym length_is) (Holds.line here (IsLine.bad here none)))

pub holds_blank : (text : List ℕ) (at n : ℕ) → Stands (drop at text) at (pieces.Gap n) → Holds text at (stretches.Blank n)
unfolding Stands
holds_blank text at n stands = Holds.blank stands

pub holds_token : (text : List ℕ) (at n : ℕ) (kind : TokenKind) (spot : Spot) → Stands (drop at text) at (pieces.Token kind n) → spot.line ≡ line_at text at → spot.column ≡ column_at text at
    → Holds text at (stretches.Part (parts.Token (record { kind = kind; start = at; end = at + n }) spot) n)
unfolding Stands
holds_token text at n kind spot stands line column =
    subst (λ s. Holds text at (stretches.Part (parts.Token (record { kind = kind; start = at; end = at + n }) s) n)) (sym (spot_is text at spot line column)) (Holds.token stands.0 stands.1)

pub stands_fault : (text : List ℕ) (at : ℕ) (fault : LexFault) → Stands (drop at text) at (pieces.Fault fault) → Begins (drop at text) at fault
unfolding Stands
stands_fault text at fault stands = stands

pub holds_fault : (text : List ℕ) (at : ℕ) (fault : LexFault) (part : Part) → begins_directive text at ≡ false → Begins (drop at text) at fault → part ≡ parts.Fault fault (spot_at text (fault_place fault)) → Holds text at (stretches.Last part)
holds_fault text at fault part none cause is = subst (λ p. Holds text at (stretches.Last p)) (sym is) (Holds.fault none cause)

pub fault_is : (text : List ℕ) (place : ℕ) (fault : LexFault) (spot : Spot) → place ≡ fault_place fault → spot.line ≡ line_at text place → spot.column ≡ column_at text place → parts.Fault fault spot ≡ parts.Fault fault (spot_at text (fault_place fault))
fault_is text place fault spot is line column = ap (parts.Fault fault) (spot_is text place spot line column ∙ ap (spot_at text) is)

-- a fault stands where its cause begins, or behind a number there
pub fault_within : (text : List ℕ) (at : ℕ) (fault : LexFault) → at ≤ length text → Begins (drop at text) at fault → (at ≤ fault_place fault) × (fault_place fault ≤ length text)
fault_within text at fault inside (Begins.no_token e) = (omega arith, inside)
fault_within text at fault inside (Begins.spliced_comment e f) = (omega arith, inside)
fault_within text at fault inside (Begins.hidden_end e f g) = (omega arith, inside)
fault_within text at fault inside (Begins.number_runs_on {n} x e f) = let within = x.within in let behind = length-drop at text in (omega arith, omega arith)
fault_within text at fault inside (Begins.open_comment e f) = (omega arith, inside)
fault_within text at fault inside (Begins.open_char e f) = (omega arith, inside)
fault_within text at fault inside (Begins.open_text e f) = (omega arith, inside)
fault_within text at fault inside (Begins.too_wide x e) = (omega arith, inside)
fault_within text at fault inside (Begins.long_name x e) = (omega arith, inside)

pub line_begins : (text : List ℕ) (at : ℕ) (part : Part) → IsLine text at part → begins_directive text at ≡ true
line_begins text at part (IsLine.formed one) = one.begins
line_begins text at part (IsLine.bad begins none) = begins

-- how much a part takes
pub sign_takes : (rest : List ℕ) → begins (λ b. eqb b number_sign) rest ≡ true → 0 < line_length rest
sign_takes [] e = absurd (false≢true e)
sign_takes (b ∷ rest) e =
    let is : b ≡ 35 = eqb-true b 35 e in
    let more : line_length (b ∷ rest) ≡ 1 + line_length rest = cond-true _ _ _ (ap (λ c. not (eqb c newline)) is) in
    omega arith

pub blank_fits : (text : List ℕ) (at n : ℕ) → at ≤ length text → Holds text at (stretches.Blank n) → (0 < n) × (at + n ≤ length text)
blank_fits text at n inside (Holds.blank one) = let takes = gap_takes one in let behind = length-drop at text in (takes.0, omega arith)

pub token_fits : (text : List ℕ) (at n : ℕ) (kind : TokenKind) → at ≤ length text → Stands (drop at text) at (pieces.Token kind n) → (0 < n) × (at + n ≤ length text)
unfolding Stands
token_fits text at n kind inside stands =
    let one = stands.0 in
    let takes = lexeme_takes kind (drop at text) n one in
    let within = one.within in
    let behind = length-drop at text in
    (takes, omega arith)

pub part_fits : (text : List ℕ) (at n : ℕ) (part : Part) → at ≤ length text → Holds text at (stretches.Part part n) → (0 < n) × (at + n ≤ length text)
part_fits text at n part inside (Holds.token {kind = kind} one good) =
    let takes = lexeme_takes kind (drop at text) n one in
    let within = one.within in
    let behind = length-drop at text in
    (takes, omega arith)
part_fits text at n part inside (Holds.line here one) =
    let takes = sign_takes (drop at text) (and_parts _ _ here).0 in
    let within = prefix_len-le-length (λ b. not (eqb b newline)) (drop at text) in
    let behind = length-drop at text in
    (takes, omega arith)

-- and how the parts go on
pub reads_blank : (text : List ℕ) (at n : ℕ) (front : List Part) → ReadsTo text at front → Holds text at (stretches.Blank n) → ReadsTo text (at + n) front
reads_blank text at n front reads (Holds.blank one) = ReadsTo.gap reads one

pub reads_part : (text : List ℕ) (at n : ℕ) (front : List Part) (part : Part) → ReadsTo text at front → Holds text at (stretches.Part part n) → ReadsTo text (at + n) (front ++ part ∷ [])
reads_part text at n front part reads (Holds.token one good) = ReadsTo.token reads one good
reads_part text at n front part reads (Holds.line here one) = ReadsTo.line reads one

pub reads_last : (text : List ℕ) (at : ℕ) (front : List Part) (part : Part) → ReadsTo text at front → Holds text at (stretches.Last part) → IsReading text (front ++ part ∷ [])
reads_last text at front part reads (Holds.fault none cause) = IsReading.broken reads none cause

-- what the parts of a file name lies in it
part_within : (text : List ℕ) (at n : ℕ) (part : Part) → at ≤ length text → Holds text at (stretches.Part part n) → IsPartWithin text part
part_within text at n part inside (Holds.token {kind = kind} one good) =
    let takes = lexeme_takes kind (drop at text) n one in
    let within = one.within in
    let behind = length-drop at text in
    (omega arith, omega arith)
part_within text at n part inside (Holds.line here (IsLine.formed {directive = directive} one)) = of_form directive one.form
  where
    of_form : (directive : Directive) → HasForm text at directive → IsPartWithin text (parts.Line directive (line_at text at))
    of_form directives.Once form = tt
    of_form directives.Contracts form = tt
    of_form directives.Cstdio form = tt
    of_form (directives.File span) (HasForm.file tail starts some within spelled bytes ends) = (omega arith, within)
part_within text at n part inside (Holds.line here (IsLine.bad begins none)) = tt

reads_within : (text : List ℕ) (p : ℕ) (front : List Part) → ReadsTo text p front → (p ≤ length text) × All (IsPartWithin text) front
reads_within text p front ReadsTo.start = (omega arith, All-nil (IsPartWithin text))
reads_within text p front (ReadsTo.gap {p = q} {n = n} reads one) =
    let before = reads_within text q front reads in
    ((blank_fits text q n before.0 (Holds.blank one)).1, before.1)
reads_within text p front (ReadsTo.token {p = q} {n = n} {front = parts_before} {kind = kind} reads one good) =
    let before = reads_within text q parts_before reads in
    let holds : Holds text q (stretches.Part (parts.Token (record { kind = kind; start = q; end = q + n }) (spot_at text q)) n) = Holds.token one good in
    ((part_fits text q n _ before.0 holds).1, All-push (IsPartWithin text) parts_before _ before.1 (part_within text q n _ before.0 holds))
reads_within text p front (ReadsTo.line {p = q} {front = parts_before} {part = part} reads one) =
    let before = reads_within text q parts_before reads in
    let holds : Holds text q (stretches.Part part (line_length (drop q text))) = Holds.line (line_begins text q part one) one in
    ((part_fits text q (line_length (drop q text)) part before.0 holds).1, All-push (IsPartWithin text) parts_before part before.1 (part_within text q (line_length (drop q text)) part before.0 holds))

pub parts_within : (text : List ℕ) (all : List Part) → IsReading text all → All (IsPartWithin text) all
parts_within text all (IsReading.whole reads) = (reads_within text (length text) all reads).1
parts_within text all (IsReading.broken {p = p} {front = front} reads none cause) = All-push (IsPartWithin text) front _ (reads_within text p front reads).1 tt
