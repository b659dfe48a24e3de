-- Words in the form exec -o IMAGE [--steps N] [--semantic S] UNIT are read word by word.
use Rattle.std.proofs.Common.{◌≡◌, ◌∙◌, refl, ap, subst, ℕ, ◌==◌, List, [], ◌∷◌, Bool, true, false, Option, Some, None, codes, inl, inr}
use Rattle.std.specs.Prelude.{◌&&◌, not, is_some, fold, if◌then◌else◌, option_and_then}
use Rattle.std.specs.Option.{option_map_or}
use Rattle.std.specs.Str.{bytes_eq}
use Rattle.std.proofs.lemmas.Bool.{cases_Bool, eqb-true}
use Rattle.clap.specs.Lexer.{long_of, short_of}
use Rattle.clap.specs.Kinds.{Kinds, or_else}
use Rattle.clap.specs.Walk.{Held, Rule, Step, Waiting, Walk, after_step, finished, idle, long_or_other, nothing_held, option, plain_word, positional, settled, short_or_plain, trailing, walk_from, walked, walked_from, word_met}
use Rattle.clap.specs.Simple.{App, Shape, built, entered}
use Rattle.clap.specs.Faults.{bundle_fault, check_fault, defaults_fault, entered_fault, flag_word_fault, settle_fault, step_fault, turn_fault, walk_fault, word_fault}
use Rattle.clap.proofs.OnLiterals.{clap_on_literals}
use Rattle.cx_code.specs.declared.violation.Semantic.{Semantic}
use Rattle.cx_words.specs.declared.verbs.Verb.TheVariants.{Exec}
use Rattle.cx_words.specs.Command.{command}
use Rattle.cx_words.specs.Value.{is_name, most_steps, number_in, semantic_in}
use Rattle.cx_words.specs.Words.{Given, Request, given_in, given_of, is_asked, request_by, request_with, semantic_of, steps_of, unless_refused}
use Rattle.cx_words.specs.Laws.{PlainWordsAreRead, is_plain, plain_words}

-- ---- a word that begins with another byte than `-`

no_dashes : (x : ℕ) (xs : List ℕ) → (x == 45) ≡ false → bytes_eq (x ∷ xs) (45 ∷ 45 ∷ []) ≡ false
no_dashes x xs h = rw h refl

no_long : (x : ℕ) (xs : List ℕ) → (x == 45) ≡ false → long_of (x ∷ xs) ≡ None
no_long x xs h = rw h refl

no_short : (x : ℕ) (xs : List ℕ) → (x == 45) ≡ false → short_of (x ∷ xs) ≡ None
no_short x xs h = rw h refl

-- it is no flag, whatever waits for a value
met_plain : (c : List Rule) (waiting : Waiting) (position x : ℕ) (xs : List ℕ) (h : Held) → (x == 45) ≡ false
    → word_met c [] false waiting position (x ∷ xs) h ≡ plain_word c waiting (x ∷ xs) h
met_plain c idle position x xs h e =
    (λ i. if no_dashes x xs e i then (h, trailing position) else long_or_other c idle (x ∷ xs) (no_long x xs e i) h) ∙ ap (λ flags. short_or_plain c idle (x ∷ xs) flags h) (no_short x xs e)
met_plain c (option id) position x xs h e =
    (λ i. if no_dashes x xs e i then (h, trailing position) else long_or_other c (option id) (x ∷ xs) (no_long x xs e i) h) ∙ ap (λ flags. short_or_plain c (option id) (x ∷ xs) flags h) (no_short x xs e)
met_plain c positional position x xs h e =
    (λ i. if no_dashes x xs e i then (h, trailing position) else long_or_other c positional (x ∷ xs) (no_long x xs e i) h) ∙ ap (λ flags. short_or_plain c positional (x ∷ xs) flags h) (no_short x xs e)

no_word_fault : (s : Shape) (waiting : Waiting) (x : ℕ) (xs : List ℕ) (h : Held) → (x == 45) ≡ false → word_fault s [] false waiting (x ∷ xs) h ≡ []
no_word_fault s idle x xs h e =
    (λ i. if no_dashes x xs e i then [] else flag_word_fault s.rules s.args_override_self (no_long x xs e i) (x ∷ xs) h) ∙ ap (λ flags. option_map_or (λ f. bundle_fault s.rules s.args_override_self f h) flags []) (no_short x xs e)
no_word_fault s (option id) x xs h e =
    (λ i. if no_dashes x xs e i then [] else flag_word_fault s.rules s.args_override_self (no_long x xs e i) (x ∷ xs) h) ∙ ap (λ flags. option_map_or (λ f. bundle_fault s.rules s.args_override_self f h) flags []) (no_short x xs e)
no_word_fault s positional x xs h e =
    (λ i. if no_dashes x xs e i then [] else flag_word_fault s.rules s.args_override_self (no_long x xs e i) (x ∷ xs) h) ∙ ap (λ flags. option_map_or (λ f. bundle_fault s.rules s.args_override_self f h) flags []) (no_short x xs e)

-- the walk after such a word
abbrev plain_step : List Rule → Walk → List ℕ → Walk
plain_step c w word = after_step c word w (plain_word c w.waiting word w.held).0 (plain_word c w.waiting word w.held).1

plain_walked : (c : List Rule) (w : Walk) (x : ℕ) (xs : List ℕ) → (x == 45) ≡ false → w.is_trailing ≡ false → w.stopped ≡ None → walked c [] w (x ∷ xs) ≡ plain_step c w (x ∷ xs)
unfolding walked
plain_walked c w x xs e running going =
    ap (λ stopped. walked_from c [] stopped w (x ∷ xs)) going
    ∙ ap (λ t. after_step c (x ∷ xs) w (word_met c [] t w.waiting w.position (x ∷ xs) w.held).0 (word_met c [] t w.waiting w.position (x ∷ xs) w.held).1) running
    ∙ ap (λ (met : Held × Step). after_step c (x ∷ xs) w met.0 met.1) (met_plain c w.waiting w.position x xs w.held e)

-- its faults are those of where it goes to
plain_turn : (s : Shape) (w : Walk) (x : ℕ) (xs : List ℕ) → (x == 45) ≡ false → w.is_trailing ≡ false → w.stopped ≡ None
    → turn_fault s [] w (x ∷ xs) ≡ step_fault s w.position (plain_word s.rules w.waiting (x ∷ xs) w.held).0 (plain_word s.rules w.waiting (x ∷ xs) w.held).1
plain_turn s w x xs e running going =
    ap (λ stopped. if is_some stopped then [] else or_else (word_fault s [] w.is_trailing w.waiting (x ∷ xs) w.held)
    (step_fault s w.position (word_met s.rules [] w.is_trailing w.waiting w.position (x ∷ xs) w.held).0 (word_met s.rules [] w.is_trailing w.waiting w.position (x ∷ xs) w.held).1)) going
    ∙ ap (λ t. or_else (word_fault s [] t w.waiting (x ∷ xs) w.held)
    (step_fault s w.position (word_met s.rules [] t w.waiting w.position (x ∷ xs) w.held).0 (word_met s.rules [] t w.waiting w.position (x ∷ xs) w.held).1)) running
    ∙ (λ i. or_else (no_word_fault s w.waiting x xs w.held e i) (step_fault s w.position (met_plain s.rules w.waiting w.position x xs w.held e i).0 (met_plain s.rules w.waiting w.position x xs w.held e i).1))

-- ---- words one after the other

abbrev app : App
app = built command

abbrev shape : Shape
shape = app.top

abbrev rules : List Rule
rules = shape.rules

-- a walk goes over the words, none of which is refused, to an end
record Reads (w : Walk) (words : List (List ℕ)) (end : Walk) : Type 0 where
  walks : fold (walked rules []) w words ≡ end
  faultless : walk_fault shape [] w words ≡ []

at_end : (w : Walk) → Reads w [] w
unfolding walk_fault
at_end w = record { walks = refl; faultless = refl }

over_known : (w end : Walk) (word : List ℕ) (rest : List (List ℕ)) → turn_fault shape [] w word ≡ [] → Reads (walked rules [] w word) rest end → Reads w (word ∷ rest) end
unfolding walk_fault
over_known w end word rest fine reads = record {
  walks = reads.walks;
  faultless = ap (λ kinds. or_else kinds (walk_fault shape [] (walked rules [] w word) rest)) fine ∙ reads.faultless;
}

over_plain : (w end : Walk) (x : ℕ) (xs : List ℕ) (rest : List (List ℕ)) → (x == 45) ≡ false → w.is_trailing ≡ false → w.stopped ≡ None
    → step_fault shape w.position (plain_word rules w.waiting (x ∷ xs) w.held).0 (plain_word rules w.waiting (x ∷ xs) w.held).1 ≡ []
    → Reads (plain_step rules w (x ∷ xs)) rest end → Reads w ((x ∷ xs) ∷ rest) end
unfolding walk_fault
over_plain w end x xs rest e running going fine reads = record {
  walks = ap (λ v. fold (walked rules []) v rest) (plain_walked rules w x xs e running going) ∙ reads.walks;
  faultless = (λ i. or_else ((plain_turn shape w x xs e running going ∙ fine) i) (walk_fault shape [] (plain_walked rules w x xs e running going i) rest)) ∙ reads.faultless;
}

-- what is found where a walk ends
abbrev outcome : Walk → Kinds → Option Given
outcome w kinds = unless_refused
    (or_else kinds (or_else (entered_fault app w.stopped) (or_else (settle_fault rules shape.args_override_self w.held)
    (or_else (defaults_fault (settled rules w.held).rows rules) (check_fault shape (finished rules w.held) (is_some (entered app w.stopped)))))))
    (given_in (finished rules w.held))

abbrev start : Walk
start = walk_from nothing_held

given_by : (words : List (List ℕ)) (end : Walk) → Reads start words end → given_of words ≡ outcome end []
unfolding given_of
given_by words end reads = λ i. outcome (reads.walks i) (reads.faultless i)

-- ---- the words of the form

abbrev after_verb : Walk
after_verb = walked rules [] start (codes "exec")

abbrev before_image : Walk
before_image = walked rules [] after_verb (codes "-o")

abbrev after_image : List ℕ → Walk
after_image image = plain_step rules before_image image

abbrev before_value : List ℕ → Walk → Walk
before_value name w = walked rules [] w name

abbrev after_value : List ℕ → Walk → List ℕ → Walk
after_value name w value = plain_step rules (before_value name w) value

read_image : (x : ℕ) (xs : List ℕ) (rest : List (List ℕ)) (end : Walk) → (x == 45) ≡ false → Reads (after_image (x ∷ xs)) rest end → Reads start (codes "exec" ∷ codes "-o" ∷ (x ∷ xs) ∷ rest) end
unfolding clap_on_literals
read_image x xs rest end e reads =
    over_known start end (codes "exec") (codes "-o" ∷ (x ∷ xs) ∷ rest) refl
    (over_known after_verb end (codes "-o") ((x ∷ xs) ∷ rest) refl (over_plain before_image end x xs rest e refl refl refl reads))

read_steps : (image : List ℕ) (n : ℕ) (ns : List ℕ) (rest : List (List ℕ)) (end : Walk) → (n == 45) ≡ false
    → Reads (after_value (codes "--steps") (after_image image) (n ∷ ns)) rest end → Reads (after_image image) (codes "--steps" ∷ (n ∷ ns) ∷ rest) end
unfolding clap_on_literals
read_steps image n ns rest end e reads =
    over_known (after_image image) end (codes "--steps") ((n ∷ ns) ∷ rest) refl
    (over_plain (before_value (codes "--steps") (after_image image)) end n ns rest e refl refl refl reads)

read_semantic : (image : List ℕ) (s : ℕ) (ss : List ℕ) (rest : List (List ℕ)) (end : Walk) → (s == 45) ≡ false
    → Reads (after_value (codes "--semantic") (after_image image) (s ∷ ss)) rest end → Reads (after_image image) (codes "--semantic" ∷ (s ∷ ss) ∷ rest) end
unfolding clap_on_literals
read_semantic image s ss rest end e reads =
    over_known (after_image image) end (codes "--semantic") ((s ∷ ss) ∷ rest) refl
    (over_plain (before_value (codes "--semantic") (after_image image)) end s ss rest e refl refl refl reads)

abbrev after_steps : List ℕ → List ℕ → Walk
after_steps image steps = after_value (codes "--steps") (after_image image) steps

read_both : (image steps : List ℕ) (s : ℕ) (ss : List ℕ) (rest : List (List ℕ)) (end : Walk) → (s == 45) ≡ false
    → Reads (after_value (codes "--semantic") (after_steps image steps) (s ∷ ss)) rest end → Reads (after_steps image steps) (codes "--semantic" ∷ (s ∷ ss) ∷ rest) end
unfolding clap_on_literals
read_both image steps s ss rest end e reads =
    over_known (after_steps image steps) end (codes "--semantic") ((s ∷ ss) ∷ rest) refl
    (over_plain (before_value (codes "--semantic") (after_steps image steps)) end s ss rest e refl refl refl reads)

-- ---- what is found in all four forms

abbrev told : List ℕ → Option (List ℕ) → Option (List ℕ) → List ℕ → Given
told image steps semantic unit = record {
  verb = Some (codes "exec");
  names = unit ∷ [];
  output = Some image;
  plan = None;
  steps = steps;
  semantic = semantic;
  journal = None;
}

found_none : (x u : ℕ) (xs us : List ℕ) → (x == 45) ≡ false → (u == 45) ≡ false → given_of (plain_words (x ∷ xs) None None (u ∷ us)) ≡ Some (told (x ∷ xs) None None (u ∷ us))
unfolding clap_on_literals
found_none x u xs us e f =
    let w = after_image (x ∷ xs) in
    let end = plain_step rules w (u ∷ us) in
    given_by (plain_words (x ∷ xs) None None (u ∷ us)) end
    (read_image x xs ((u ∷ us) ∷ []) end e (over_plain w end u us [] f refl refl refl (at_end end)))

found_steps : (x n u : ℕ) (xs ns us : List ℕ) → (x == 45) ≡ false → (n == 45) ≡ false → (u == 45) ≡ false
    → given_of (plain_words (x ∷ xs) (Some (n ∷ ns)) None (u ∷ us)) ≡ Some (told (x ∷ xs) (Some (n ∷ ns)) None (u ∷ us))
unfolding clap_on_literals
found_steps x n u xs ns us e g f =
    let w = after_steps (x ∷ xs) (n ∷ ns) in
    let end = plain_step rules w (u ∷ us) in
    given_by (plain_words (x ∷ xs) (Some (n ∷ ns)) None (u ∷ us)) end
    (read_image x xs (codes "--steps" ∷ (n ∷ ns) ∷ (u ∷ us) ∷ []) end e
    (read_steps (x ∷ xs) n ns ((u ∷ us) ∷ []) end g (over_plain w end u us [] f refl refl refl (at_end end))))

found_semantic : (x s u : ℕ) (xs ss us : List ℕ) → (x == 45) ≡ false → (s == 45) ≡ false → (u == 45) ≡ false
    → given_of (plain_words (x ∷ xs) None (Some (s ∷ ss)) (u ∷ us)) ≡ Some (told (x ∷ xs) None (Some (s ∷ ss)) (u ∷ us))
unfolding clap_on_literals
found_semantic x s u xs ss us e g f =
    let w = after_value (codes "--semantic") (after_image (x ∷ xs)) (s ∷ ss) in
    let end = plain_step rules w (u ∷ us) in
    given_by (plain_words (x ∷ xs) None (Some (s ∷ ss)) (u ∷ us)) end
    (read_image x xs (codes "--semantic" ∷ (s ∷ ss) ∷ (u ∷ us) ∷ []) end e
    (read_semantic (x ∷ xs) s ss ((u ∷ us) ∷ []) end g (over_plain w end u us [] f refl refl refl (at_end end))))

found_both : (x n s u : ℕ) (xs ns ss us : List ℕ) → (x == 45) ≡ false → (n == 45) ≡ false → (s == 45) ≡ false → (u == 45) ≡ false
    → given_of (plain_words (x ∷ xs) (Some (n ∷ ns)) (Some (s ∷ ss)) (u ∷ us)) ≡ Some (told (x ∷ xs) (Some (n ∷ ns)) (Some (s ∷ ss)) (u ∷ us))
unfolding clap_on_literals
found_both x n s u xs ns ss us e g h f =
    let w = after_value (codes "--semantic") (after_steps (x ∷ xs) (n ∷ ns)) (s ∷ ss) in
    let end = plain_step rules w (u ∷ us) in
    given_by (plain_words (x ∷ xs) (Some (n ∷ ns)) (Some (s ∷ ss)) (u ∷ us)) end
    (read_image x xs (codes "--steps" ∷ (n ∷ ns) ∷ codes "--semantic" ∷ (s ∷ ss) ∷ (u ∷ us) ∷ []) end e
    (read_steps (x ∷ xs) n ns (codes "--semantic" ∷ (s ∷ ss) ∷ (u ∷ us) ∷ []) end g
    (read_both (x ∷ xs) (n ∷ ns) s ss ((u ∷ us) ∷ []) end h (over_plain w end u us [] f refl refl refl (at_end end)))))

-- ---- the values of the options begin with no `-`

first_byte : (x : ℕ) (xs : List ℕ) → is_plain (x ∷ xs) ≡ true → (x == 45) ≡ false
first_byte x xs h = elim (cases_Bool (x == 45)) [ inl e ↦ absurd (no_dash (x == 45) e h) | inr e ↦ e ]
  where
    no_dash : (b : Bool) → b ≡ true → not b ≡ true → ⊥
    no_dash true e h = absurd (cc)
    no_dash false e h = absurd (cc)

number_byte : (x : ℕ) (xs : List ℕ) (n : ℕ) → number_in most_steps (x ∷ xs) ≡ Some n → (x == 45) ≡ false
number_byte x xs n h = elim (cases_Bool (x == 45)) [
  | inl e ↦ let none : None ≡ Some n = subst (λ y. number_in most_steps (y ∷ xs) ≡ Some n) (eqb-true x 45 e) h in absurd (cc)
  | inr e ↦ e
]

semantic_byte : (x : ℕ) (xs : List ℕ) (s : Semantic) → semantic_in (x ∷ xs) ≡ Some s → (x == 45) ≡ false
semantic_byte x xs s h = elim (cases_Bool (x == 45)) [
  | inl e ↦ let none : None ≡ Some s = subst (λ y. semantic_in (y ∷ xs) ≡ Some s) (eqb-true x 45 e) h in absurd (cc)
  | inr e ↦ e
]

found : (image unit : List ℕ) (steps semantic : Option (List ℕ)) (n : ℕ) (s : Semantic) → is_plain image ≡ true → is_plain unit ≡ true
    → steps_of steps ≡ Some n → semantic_of semantic ≡ Some s → given_of (plain_words image steps semantic unit) ≡ Some (told image steps semantic unit)
found [] unit steps semantic n s p q hn hs = absurd (cc)
found (x ∷ xs) [] steps semantic n s p q hn hs = absurd (cc)
found (x ∷ xs) (u ∷ us) None None n s p q hn hs = found_none x u xs us (first_byte x xs p) (first_byte u us q)
found (x ∷ xs) (u ∷ us) (Some []) semantic n s p q hn hs = absurd (cc)
found (x ∷ xs) (u ∷ us) None (Some []) n s p q hn hs = absurd (cc)
found (x ∷ xs) (u ∷ us) (Some (b ∷ bs)) (Some []) n s p q hn hs = absurd (cc)
found (x ∷ xs) (u ∷ us) (Some (b ∷ bs)) None n s p q hn hs = found_steps x b u xs bs us (first_byte x xs p) (number_byte b bs n hn) (first_byte u us q)
found (x ∷ xs) (u ∷ us) None (Some (c ∷ cs)) n s p q hn hs = found_semantic x c u xs cs us (first_byte x xs p) (semantic_byte c cs s hs) (first_byte u us q)
found (x ∷ xs) (u ∷ us) (Some (b ∷ bs)) (Some (c ∷ cs)) n s p q hn hs =
    found_both x b c u xs bs cs us (first_byte x xs p) (number_byte b bs n hn) (semantic_byte c cs s hs) (first_byte u us q)

-- ---- and they ask for what they say

asked : (image unit : List ℕ) (steps semantic : Option (List ℕ)) → is_name image ≡ true → is_name unit ≡ true → is_asked Exec (told image steps semantic unit) ≡ true
asked image unit steps semantic hi hu = λ i. ((true && ((((hu i && true) && hi i) && true) && true)) && true) && true

pub plain_words_are_read : PlainWordsAreRead
plain_words_are_read image unit steps semantic n s hi pi hu pu hn hs =
    let given = told image steps semantic unit in
    let request : Request = record { verb = Exec; names = unit ∷ []; output = Some image; plan = None; journal = None; steps = n; semantic = s } in
    ap (option_and_then request_by) (found image unit steps semantic n s pi pu hn hs)
    ∙ (λ i. request_with given (Some Exec) (hn i) (hs i))
    ∙ ap (λ b. if b then Some request else None) (asked image unit steps semantic hi hu)
