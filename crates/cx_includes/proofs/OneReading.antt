-- A file has one list of parts: at each place one thing stands.
use Rattle.std.proofs.Common.{◌≡◌, true, false, ℕ, zero, suc, ◌+◌, List, [], ◌∷◌, ◌++◌, length, take, drop, get_or, eqb, refl, sym, ◌∙◌, ap, subst, arith, length-drop}
use Rattle.std.proofs.lemmas.List.{append-nil, drop_all}
use Rattle.std.proofs.lemmas.Bool.{true≢false, false≢true, and_parts, eqb-true, eq-eqb}
use Rattle.cx_syntax.specs.declared.token.TokenKind.{TokenKind}
use Rattle.cx_syntax.specs.declared.token.TokenKind.TheVariants as kinds
use Rattle.cx_lexer.specs.declared.fault.LexFault.{LexFault}
use Rattle.cx_lexer.specs.declared.piece.Piece.TheVariants as pieces
use Rattle.cx_lexer.specs.Bytes.{begins, is_blank, starts_name, is_decimal_digit}
use Rattle.cx_lexer.specs.Name.{is_name}
use Rattle.cx_lexer.specs.Number.{is_number}
use Rattle.cx_lexer.specs.Quoted.{is_char, is_text}
use Rattle.cx_lexer.specs.Punct.{is_punct, puncts}
use Rattle.cx_lexer.specs.Comment.{line_length, begins_line_comment, begins_block_comment}
use Rattle.cx_lexer.specs.Lexeme.{is_token, IsLexeme, is_refused}
use Rattle.cx_lexer.specs.Spelling.{IsGap, Begins}
use Rattle.cx_lexer.specs.Piece.{Stands}
use Rattle.cx_lexer.proofs.Unique.{one_piece, gap_takes, lexeme_takes, no_cause_at_end}
use Rattle.cx_includes.specs.declared.part.Directive.{Directive}
use Rattle.cx_includes.specs.declared.part.Directive.TheVariants as directives
use Rattle.cx_includes.specs.declared.part.Part.{Part}
use Rattle.cx_includes.specs.declared.part.Part.TheVariants as parts
use Rattle.cx_includes.specs.Place.{line_at, spot_at}
use Rattle.cx_includes.specs.Directive.{begins_directive, number_sign, HasForm}
use Rattle.cx_includes.specs.Parts.{IsLine, ReadsTo, IsReading, fault_place}
use Rattle.cx_includes.proofs.Stretches.{line_begins}
use Rattle.cx_includes.proofs.Forms.{name_length_is}

-- a line has one form
differ : (a b : List ℕ) (i m n : ℕ) → a ≡ b → get_or a i 0 ≡ m → get_or b i 0 ≡ n → eqb m n ≡ false → ⊥
differ a b i m n same x y apart = true≢false (sym (eq-eqb m n (sym x ∙ ap (λ l. get_or l i 0) same ∙ y)) ∙ apart)

one_form : (text : List ℕ) (p : ℕ) (d e : Directive) → HasForm text p d → HasForm text p e → d ≡ e
one_form text p d e (HasForm.once t l m) (HasForm.once t2 l2 m2) = refl
one_form text p d e (HasForm.once t l m) (HasForm.contracts t2 l2 m2) = absurd (differ _ _ 1 112 105 (sym l ∙ l2) refl refl refl)
one_form text p d e (HasForm.once t l m) (HasForm.cstdio t2 l2 m2) = absurd (differ _ _ 1 112 105 (sym l ∙ l2) refl refl refl)
one_form text p d e (HasForm.once t l m) (HasForm.file t2 a2 b2 c2 l2 n2 m2) = absurd (differ _ _ 1 112 105 (sym l ∙ l2) refl refl refl)
one_form text p d e (HasForm.contracts t l m) (HasForm.once t2 l2 m2) = absurd (differ _ _ 1 105 112 (sym l ∙ l2) refl refl refl)
one_form text p d e (HasForm.contracts t l m) (HasForm.contracts t2 l2 m2) = refl
one_form text p d e (HasForm.contracts t l m) (HasForm.cstdio t2 l2 m2) = absurd (differ _ _ 11 111 115 (sym l ∙ l2) refl refl refl)
one_form text p d e (HasForm.contracts t l m) (HasForm.file t2 a2 b2 c2 l2 n2 m2) = absurd (differ _ _ 9 60 34 (sym l ∙ l2) refl refl refl)
one_form text p d e (HasForm.cstdio t l m) (HasForm.once t2 l2 m2) = absurd (differ _ _ 1 105 112 (sym l ∙ l2) refl refl refl)
one_form text p d e (HasForm.cstdio t l m) (HasForm.contracts t2 l2 m2) = absurd (differ _ _ 11 115 111 (sym l ∙ l2) refl refl refl)
one_form text p d e (HasForm.cstdio t l m) (HasForm.cstdio t2 l2 m2) = refl
one_form text p d e (HasForm.cstdio t l m) (HasForm.file t2 a2 b2 c2 l2 n2 m2) = absurd (differ _ _ 9 60 34 (sym l ∙ l2) refl refl refl)
one_form text p d e (HasForm.file t a b c l n m) (HasForm.once t2 l2 m2) = absurd (differ _ _ 1 105 112 (sym l ∙ l2) refl refl refl)
one_form text p d e (HasForm.file t a b c l n m) (HasForm.contracts t2 l2 m2) = absurd (differ _ _ 9 34 60 (sym l ∙ l2) refl refl refl)
one_form text p d e (HasForm.file t a b c l n m) (HasForm.cstdio t2 l2 m2) = absurd (differ _ _ 9 34 60 (sym l ∙ l2) refl refl refl)
one_form text p d e (HasForm.file {span = s} t a b c l n m) (HasForm.file {span = s2} t2 a2 b2 c2 l2 n2 m2) =
    let first = name_length_is text s t p b c l n in
    let second = name_length_is text s2 t2 p b2 c2 l2 n2 in
    let start : s.start ≡ s2.start = a ∙ sym a2 in
    let end : s.end ≡ s2.end = omega arith in
    λ i. directives.File (record { start = start i; end = end i })

one_line : (text : List ℕ) (p : ℕ) (a b : Part) → IsLine text p a → IsLine text p b → a ≡ b
one_line text p a b (IsLine.formed {directive = d} x) (IsLine.formed {directive = e} y) = ap (λ k. parts.Line k (line_at text p)) (one_form text p d e x.form y.form)
one_line text p a b (IsLine.formed {directive = d} x) (IsLine.bad y none) = absurd (none d x)
one_line text p a b (IsLine.bad x none) (IsLine.formed {directive = e} y) = absurd (none e y)
one_line text p a b (IsLine.bad x none) (IsLine.bad y none_too) = refl

-- nothing else begins with a number sign
sign_no_token : (kind : TokenKind) (rest : List ℕ) → is_token kind (35 ∷ rest) ≡ false
unfolding is_name is_number is_char is_text is_punct puncts starts_name is_decimal_digit
sign_no_token kinds.Name rest = refl
sign_no_token kinds.Word rest = refl
sign_no_token kinds.Number rest = refl
sign_no_token kinds.Char [] = refl
sign_no_token kinds.Char (a ∷ []) = refl
sign_no_token kinds.Char (a ∷ b ∷ []) = refl
sign_no_token kinds.Char (a ∷ b ∷ c ∷ []) = refl
sign_no_token kinds.Char (a ∷ b ∷ c ∷ d ∷ rest) = refl
sign_no_token kinds.Text rest = refl
sign_no_token kinds.Punct rest = refl

no_sign_gap : (rest : List ℕ) (n : ℕ) → begins (λ b. eqb b number_sign) rest ≡ true → IsGap rest n → ⊥
unfolding is_blank begins_line_comment begins_block_comment
no_sign_gap [] n e one = false≢true e
no_sign_gap (b ∷ rest) n e (IsGap.blank f) = let is : b ≡ 35 = eqb-true b 35 e in false≢true (sym (ap is_blank is) ∙ f)
no_sign_gap (b ∷ rest) n e (IsGap.line_comment f g) = let is : b ≡ 35 = eqb-true b 35 e in false≢true (sym (ap (λ c. begins_line_comment (c ∷ rest)) is) ∙ f)
no_sign_gap (b ∷ rest) n e (IsGap.block_comment f g h) = let is : b ≡ 35 = eqb-true b 35 e in false≢true (sym (ap (λ c. begins_block_comment (c ∷ rest)) is) ∙ f)

no_sign_token : (rest : List ℕ) (kind : TokenKind) (n : ℕ) → begins (λ b. eqb b number_sign) rest ≡ true → IsLexeme kind rest n → ⊥
no_sign_token [] kind n e one = false≢true e
no_sign_token (b ∷ rest) kind zero e one = let takes = lexeme_takes kind (b ∷ rest) zero one in omega arith
no_sign_token (b ∷ rest) kind (suc n) e one = let is : b ≡ 35 = eqb-true b 35 e in true≢false (sym one.token ∙ ap (λ c. is_token kind (c ∷ take n rest)) is ∙ sign_no_token kind (take n rest))

-- a step: a blank, a token or a line, and what it adds
data Moves (text : List ℕ) (p : ℕ) : ℕ → List Part → Type 0 where
  gap : {n : ℕ} → IsGap (drop p text) n → Moves text p n []
  token : {n : ℕ} {kind : TokenKind} → IsLexeme kind (drop p text) n → is_refused kind (take n (drop p text)) (drop n (drop p text)) ≡ false → Moves text p n (parts.Token (record { kind = kind; start = p; end = p + n }) (spot_at text p) ∷ [])
  line : {part : Part} → IsLine text p part → Moves text p (line_length (drop p text)) (part ∷ [])

gap_stands : (rest : List ℕ) (p n : ℕ) → IsGap rest n → Stands rest p (pieces.Gap n)
unfolding Stands
gap_stands rest p n one = one

token_stands : (rest : List ℕ) (p n : ℕ) (kind : TokenKind) → IsLexeme kind rest n → is_refused kind (take n rest) (drop n rest) ≡ false → Stands rest p (pieces.Token kind n)
unfolding Stands
token_stands rest p n kind one good = (one, good)

fault_stands : (rest : List ℕ) (p : ℕ) (fault : LexFault) → Begins rest p fault → Stands rest p (pieces.Fault fault)
unfolding Stands
fault_stands rest p fault one = one

gap_is : (m n : ℕ) → pieces.Gap m ≡ pieces.Gap n → m ≡ n
gap_is m n e = cc

token_kind_is : (j k : TokenKind) (m n : ℕ) → pieces.Token j m ≡ pieces.Token k n → j ≡ k
token_kind_is j k m n e = cc

token_length_is : (j k : TokenKind) (m n : ℕ) → pieces.Token j m ≡ pieces.Token k n → m ≡ n
token_length_is j k m n e = cc

gap_no_token : (m : ℕ) (kind : TokenKind) (n : ℕ) → pieces.Gap m ≡ pieces.Token kind n → ⊥
gap_no_token m kind n e = absurd (cc)

gap_no_fault : (m : ℕ) (fault : LexFault) → pieces.Gap m ≡ pieces.Fault fault → ⊥
gap_no_fault m fault e = absurd (cc)

token_no_fault : (kind : TokenKind) (m : ℕ) (fault : LexFault) → pieces.Token kind m ≡ pieces.Fault fault → ⊥
token_no_fault kind m fault e = absurd (cc)

fault_is : (f g : LexFault) → pieces.Fault f ≡ pieces.Fault g → f ≡ g
fault_is f g e = cc

sign_of : (text : List ℕ) (p : ℕ) (part : Part) → IsLine text p part → begins (λ b. eqb b number_sign) (drop p text) ≡ true
sign_of text p part one = (and_parts _ _ (line_begins text p part one)).0

moves_same : (text : List ℕ) (p m n : ℕ) (a b : List Part) → Moves text p m a → Moves text p n b → (m ≡ n) × (a ≡ b)
moves_same text p m n a b (Moves.gap x) (Moves.gap y) = (gap_is m n (one_piece (drop p text) p _ _ (gap_stands _ p m x) (gap_stands _ p n y)), refl)
moves_same text p m n a b (Moves.gap x) (Moves.token {kind = k} y good) = absurd (gap_no_token m k n (one_piece (drop p text) p _ _ (gap_stands _ p m x) (token_stands _ p n k y good)))
moves_same text p m n a b (Moves.gap x) (Moves.line {part = part} y) = absurd (no_sign_gap (drop p text) m (sign_of text p part y) x)
moves_same text p m n a b (Moves.token {kind = j} x good) (Moves.gap y) = absurd (gap_no_token n j m (one_piece (drop p text) p _ _ (gap_stands _ p n y) (token_stands _ p m j x good)))
moves_same text p m n a b (Moves.token {kind = j} x good) (Moves.token {kind = k} y fine) =
    let same = one_piece (drop p text) p _ _ (token_stands _ p m j x good) (token_stands _ p n k y fine) in
    let length_is = token_length_is j k m n same in
    let kind_is = token_kind_is j k m n same in
    (length_is, λ i. parts.Token (record { kind = kind_is i; start = p; end = p + length_is i }) (spot_at text p) ∷ [])
moves_same text p m n a b (Moves.token {kind = j} x good) (Moves.line {part = part} y) = absurd (no_sign_token (drop p text) j m (sign_of text p part y) x)
moves_same text p m n a b (Moves.line {part = part} x) (Moves.gap y) = absurd (no_sign_gap (drop p text) n (sign_of text p part x) y)
moves_same text p m n a b (Moves.line {part = part} x) (Moves.token {kind = k} y good) = absurd (no_sign_token (drop p text) k n (sign_of text p part x) y)
moves_same text p m n a b (Moves.line {part = part} x) (Moves.line {part = other} y) = (refl, ap (λ k. k ∷ []) (one_line text p part other x y))

-- a way from one place of a text to another, in steps
data Way (text : List ℕ) : ℕ → List Part → ℕ → List Part → Type 0 where
  arrived : {p q : ℕ} {ts us : List Part} → p ≡ q → ts ≡ us → Way text p ts q us
  step : {p n q : ℕ} {ts ms next us : List Part} → Moves text p n ms → next ≡ ts ++ ms → Way text (p + n) next q us → Way text p ts q us

-- nothing but the end or a fault comes at a place
abbrev IsStuck : List ℕ → ℕ → Type 0
IsStuck text p = (n : ℕ) (ms : List Part) → Moves text p n ms → ⊥

whole_way : (text : List ℕ) (p q : ℕ) (ts us : List Part) → ReadsTo text p ts → Way text p ts q us → Way text 0 [] q us
whole_way text p q ts us ReadsTo.start way = way
whole_way text p q ts us (ReadsTo.gap {p = r} {front = front} reads one) way = whole_way text r q front us reads (Way.step (Moves.gap one) (sym (append-nil front)) way)
whole_way text p q ts us (ReadsTo.token {p = r} {front = front} reads one good) way = whole_way text r q front us reads (Way.step (Moves.token one good) refl way)
whole_way text p q ts us (ReadsTo.line {p = r} {front = front} reads one) way = whole_way text r q front us reads (Way.step (Moves.line one) refl way)

behind : (text : List ℕ) (p n q : ℕ) (ts ms next us : List Part) → Moves text p n ms → next ≡ ts ++ ms → IsStuck text q → Way text p ts q us → Way text (p + n) next q us
behind text p n q ts ms next us one is stuck (Way.arrived e f) = absurd (stuck n ms (subst (λ k. Moves text k n ms) e one))
behind text p n q ts ms next us one is stuck (Way.step {n = m} {ms = ks} {next = other} move was way) =
    let same = moves_same text p m n ks ms move one in
    subst (λ l. Way text (p + n) l q us) (was ∙ ap (λ l. ts ++ l) same.1 ∙ sym is) (subst (λ k. Way text (p + k) other q us) same.0 way)

on_the_way : (text : List ℕ) (p q : ℕ) (ts us : List Part) → ReadsTo text p ts → IsStuck text q → Way text 0 [] q us → Way text p ts q us
on_the_way text p q ts us ReadsTo.start stuck way = way
on_the_way text p q ts us (ReadsTo.gap {p = r} {n = n} {front = front} reads one) stuck way = behind text r n q front [] front us (Moves.gap one) (sym (append-nil front)) stuck (on_the_way text r q front us reads stuck way)
on_the_way text p q ts us (ReadsTo.token {p = r} {n = n} {front = front} reads one good) stuck way = behind text r n q front _ _ us (Moves.token one good) refl stuck (on_the_way text r q front us reads stuck way)
on_the_way text p q ts us (ReadsTo.line {p = r} {front = front} reads one) stuck way = behind text r (line_length (drop r text)) q front _ _ us (Moves.line one) refl stuck (on_the_way text r q front us reads stuck way)

at_the_end : (text : List ℕ) (p q : ℕ) (ts us : List Part) → IsStuck text p → Way text p ts q us → (p ≡ q) × (ts ≡ us)
at_the_end text p q ts us stuck (Way.arrived e f) = (e, f)
at_the_end text p q ts us stuck (Way.step {n = n} {ms = ms} move is way) = absurd (stuck n ms move)

one_end : (text : List ℕ) (p q : ℕ) (ts us : List Part) → ReadsTo text p ts → IsStuck text p → ReadsTo text q us → IsStuck text q → (p ≡ q) × (ts ≡ us)
one_end text p q ts us first stuck second stuck_too =
    at_the_end text p q ts us stuck (on_the_way text p q ts us first stuck_too (whole_way text q q us us second (Way.arrived refl refl)))

stuck_at_end : (text : List ℕ) → IsStuck text (length text)
stuck_at_end text n ms (Moves.gap one) = let takes = gap_takes one in let nothing = length-drop (length text) text in omega arith
stuck_at_end text n ms (Moves.token {kind = kind} one good) = let takes = lexeme_takes kind _ n one in let within = one.within in let nothing = length-drop (length text) text in omega arith
stuck_at_end text n ms (Moves.line {part = part} one) = false≢true (sym (ap (begins (λ b. eqb b number_sign)) (drop_all (length text) text (omega arith))) ∙ sign_of text (length text) part one)

stuck_at_fault : (text : List ℕ) (p : ℕ) (fault : LexFault) → begins_directive text p ≡ false → Begins (drop p text) p fault → IsStuck text p
stuck_at_fault text p fault none cause n ms (Moves.gap one) = gap_no_fault n fault (one_piece (drop p text) p _ _ (gap_stands _ p n one) (fault_stands _ p fault cause))
stuck_at_fault text p fault none cause n ms (Moves.token {kind = kind} one good) = token_no_fault kind n fault (one_piece (drop p text) p _ _ (token_stands _ p n kind one good) (fault_stands _ p fault cause))
stuck_at_fault text p fault none cause n ms (Moves.line {part = part} one) = true≢false (sym (line_begins text p part one) ∙ none)

not_both : (text : List ℕ) (p : ℕ) (ts front : List Part) (fault : LexFault) → ReadsTo text (length text) ts → ReadsTo text p front → begins_directive text p ≡ false → Begins (drop p text) p fault → ⊥
not_both text p ts front fault whole reads none cause =
    let same = (one_end text (length text) p ts front whole (stuck_at_end text) reads (stuck_at_fault text p fault none cause)).0 in
    no_cause_at_end p fault (subst (λ rest. Begins rest p fault) (drop_all p text (omega arith)) cause)

-- a file has one list of parts
pub one_reading : (text : List ℕ) (a b : List Part) → IsReading text a → IsReading text b → a ≡ b
one_reading text a b (IsReading.whole x) (IsReading.whole y) = (one_end text (length text) (length text) a b x (stuck_at_end text) y (stuck_at_end text)).1
one_reading text a b (IsReading.whole x) (IsReading.broken {p = p} {front = front} {fault = fault} y none cause) = absurd (not_both text p a front fault x y none cause)
one_reading text a b (IsReading.broken {p = p} {front = front} {fault = fault} x none cause) (IsReading.whole y) = absurd (not_both text p b front fault y x none cause)
one_reading text a b (IsReading.broken {p = p} {front = front} {fault = f} x none cause) (IsReading.broken {p = q} {front = other} {fault = g} y none_too cause_too) =
    let same = one_end text p q front other x (stuck_at_fault text p f none cause) y (stuck_at_fault text q g none_too cause_too) in
    let cause_here = subst (λ k. Begins (drop k text) k g) (sym same.0) cause_too in
    let fault_same = fault_is f g (one_piece (drop p text) p _ _ (fault_stands _ p f cause) (fault_stands _ p g cause_here)) in
    λ i. same.1 i ++ parts.Fault (fault_same i) (spot_at text (fault_place (fault_same i))) ∷ []
