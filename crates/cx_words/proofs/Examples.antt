-- What some words ask for, computed. The words of a row are those between its blanks.
use Rattle.std.proofs.Common.{◌≡◌, ℕ, ◌==◌, List, [], ◌∷◌, Bool, true, Option, Some, None, codes, refl}
use Rattle.std.specs.Prelude.{is_none, if◌then◌else◌}
use Rattle.std.specs.List.{list_all}
use Rattle.clap.proofs.OnLiterals.{clap_on_literals}
use Rattle.cx_code.specs.declared.violation.Semantic.TheVariants.{Ignore, Observe, Enforce, QuickEnforce}
use Rattle.cx_words.specs.declared.verbs.Verb.{Verb}
use Rattle.cx_words.specs.declared.verbs.Verb.TheVariants.{Exec, Compile, Link, Run, Explain, Make}
use Rattle.cx_words.specs.Words.{Request, given_of, request_of}

abbrev with_first : ℕ → List (List ℕ) → List (List ℕ)
with_first byte [] = (byte ∷ []) ∷ []
with_first byte (word ∷ words) = (byte ∷ word) ∷ words

abbrev words_in : List ℕ → List (List ℕ)
words_in [] = [] ∷ []
words_in (byte ∷ text) = if byte == 32 then [] ∷ words_in text else with_first byte (words_in text)

abbrev asks : List ℕ → Option Request
asks text = request_of (words_in text)

abbrev ask_nothing : List (List ℕ) → Bool
ask_nothing = list_all (λ text. is_none (asks text))

-- a verb with names, a file that is made or none, and no other option
abbrev plainly : Verb → List ℕ → Option (List ℕ) → Request
plainly verb names output = record {
  verb = verb;
  names = words_in names;
  output = output;
  plan = None;
  journal = None;
  steps = 1000000;
  semantic = Enforce;
}

-- exec, with the image i
abbrev exec : List ℕ → Request
exec units = plainly Exec units (Some (codes "i"))

-- ---- where options stand

pub option_first : asks (codes "exec -o i u") ≡ Some (exec (codes "u"))
unfolding clap_on_literals given_of
option_first = refl

pub option_last : asks (codes "exec u -o i") ≡ Some (exec (codes "u"))
unfolding clap_on_literals given_of
option_last = refl

pub option_before_the_verb : asks (codes "-o i exec u") ≡ Some (exec (codes "u"))
unfolding clap_on_literals given_of
option_before_the_verb = refl

pub option_between_names : asks (codes "exec u -o i t") ≡ Some (exec (codes "u t"))
unfolding clap_on_literals given_of
option_between_names = refl

pub all_options : asks (codes "exec --plan p --journal j --semantic quick_enforce --steps 7 -o i u t") ≡ Some (record (exec (codes "u t")) { plan = Some (codes "p"); journal = Some (codes "j"); semantic = QuickEnforce; steps = 7 })
unfolding clap_on_literals given_of
all_options = refl

pub twice : ask_nothing (codes "exec -o i -o j u" ∷ codes "exec -o i --steps 5 --steps 5 u" ∷ []) ≡ true
unfolding clap_on_literals given_of
twice = refl

-- ---- where their values stand

pub behind_equals : asks (codes "exec -o=i u") ≡ Some (exec (codes "u"))
unfolding clap_on_literals given_of
behind_equals = refl

pub attached : asks (codes "exec -oi u") ≡ Some (exec (codes "u"))
unfolding clap_on_literals given_of
attached = refl

pub with_equals : asks (codes "exec -o i --journal=j=k u") ≡ Some (record (exec (codes "u")) { journal = Some (codes "j=k") })
unfolding clap_on_literals given_of
with_equals = refl

pub like_an_option : asks (codes "exec -o=-p u") ≡ Some (plainly Exec (codes "u") (Some (codes "-p")))
unfolding clap_on_literals given_of
like_an_option = refl

pub no_value : ask_nothing (codes "exec -o -p u" ∷ codes "exec -o --plan u" ∷ codes "exec -o -- u" ∷ codes "exec u -o" ∷ codes "exec -o= u" ∷ codes "exec -o i --steps= u" ∷ []) ≡ true
unfolding clap_on_literals given_of
no_value = refl

-- ---- what is no option

pub behind_dashes : asks (codes "exec -o i -- -o -- u") ≡ Some (exec (codes "-o -- u"))
unfolding clap_on_literals given_of
behind_dashes = refl

pub one_dash : asks (codes "exec -o i -") ≡ Some (exec (codes "-"))
unfolding clap_on_literals given_of
one_dash = refl

pub unknown_option : ask_nothing (codes "exec -o i -x u" ∷ codes "exec --output i u" ∷ codes "exec -o i --step 5 u" ∷ codes "exec -o i --verb u" ∷ []) ≡ true
unfolding clap_on_literals given_of
unknown_option = refl

pub no_help : ask_nothing (codes "-h" ∷ codes "--help" ∷ codes "help" ∷ codes "exec -o i u --help" ∷ codes "-V" ∷ codes "--version" ∷ []) ≡ true
unfolding clap_on_literals given_of
no_help = refl

-- ---- numbers and semantics

pub few_steps : asks (codes "exec --steps=1 -o i u") ≡ Some (record (exec (codes "u")) { steps = 1 })
unfolding clap_on_literals given_of
few_steps = refl

pub many_steps : asks (codes "exec --steps 10000000 -o i u") ≡ Some (record (exec (codes "u")) { steps = 10000000 })
unfolding clap_on_literals given_of
many_steps = refl

pub no_steps : ask_nothing (codes "exec --steps=0 -o i u" ∷ codes "exec --steps 10000001 -o i u" ∷ codes "exec --steps 01 -o i u" ∷ codes "exec --steps +1 -o i u" ∷ codes "exec --steps=-1 -o i u" ∷ codes "exec --steps 1x -o i u" ∷ []) ≡ true
unfolding clap_on_literals given_of
no_steps = refl

pub observed : asks (codes "exec --semantic observe -o i u") ≡ Some (record (exec (codes "u")) { semantic = Observe })
unfolding clap_on_literals given_of
observed = refl

pub no_semantic : ask_nothing (codes "exec --semantic sometimes -o i u" ∷ codes "exec --semantic Observe -o i u" ∷ codes "exec --semantic=quick -o i u" ∷ []) ≡ true
unfolding clap_on_literals given_of
no_semantic = refl

-- ---- names

pub one_name_for_two : asks (codes "exec -o u --plan u u") ≡ Some (record (plainly Exec (codes "u") (Some (codes "u"))) { plan = Some (codes "u") })
unfolding clap_on_literals given_of
one_name_for_two = refl

pub equal_names : ask_nothing (codes "exec -o i u t u" ∷ codes "link -o i a a" ∷ []) ≡ true
unfolding clap_on_literals given_of
equal_names = refl

pub empty_name : ask_nothing (codes "exec -o i  u" ∷ codes "exec -o  u" ∷ codes "exec -o i --plan= u" ∷ codes "exec -o i --journal= u" ∷ []) ≡ true
unfolding clap_on_literals given_of
empty_name = refl

abbrev named : ℕ → Option Request
named byte = request_of (codes "exec" ∷ codes "-o" ∷ codes "i" ∷ (byte ∷ []) ∷ [])

pub least_byte : named 33 ≡ Some (exec (33 ∷ []))
unfolding clap_on_literals given_of
least_byte = refl

pub greatest_byte : named 126 ≡ Some (exec (126 ∷ []))
unfolding clap_on_literals given_of
greatest_byte = refl

pub other_bytes : list_all (λ byte. is_none (named byte)) (10 ∷ 32 ∷ 127 ∷ []) ≡ true
unfolding clap_on_literals given_of
other_bytes = refl

-- ---- the verbs

pub no_verb : ask_nothing ([] ∷ codes "-o i" ∷ codes "execute -o i u" ∷ codes "Exec -o i u" ∷ codes "-- -o i" ∷ []) ≡ true
unfolding clap_on_literals given_of
no_verb = refl

pub no_words : request_of [] ≡ None
unfolding clap_on_literals given_of
no_words = refl

pub wrong_exec : ask_nothing (codes "exec u" ∷ codes "exec -o i" ∷ []) ≡ true
unfolding clap_on_literals given_of
wrong_exec = refl

pub compile : asks (codes "compile -o o --plan p --semantic ignore u") ≡ Some (record (plainly Compile (codes "u") (Some (codes "o"))) { plan = Some (codes "p"); semantic = Ignore })
unfolding clap_on_literals given_of
compile = refl

pub wrong_compile : ask_nothing (codes "compile u" ∷ codes "compile -o o u t" ∷ codes "compile -o o --steps 5 u" ∷ codes "compile -o o --journal j u" ∷ []) ≡ true
unfolding clap_on_literals given_of
wrong_compile = refl

pub link : asks (codes "link -o i a b") ≡ Some (plainly Link (codes "a b") (Some (codes "i")))
unfolding clap_on_literals given_of
link = refl

pub wrong_link : ask_nothing (codes "link a" ∷ codes "link -o i" ∷ codes "link -o i --plan p a" ∷ codes "link -o i --semantic observe a" ∷ []) ≡ true
unfolding clap_on_literals given_of
wrong_link = refl

pub run : asks (codes "run --steps 5 --journal j i") ≡ Some (record (plainly Run (codes "i") None) { steps = 5; journal = Some (codes "j") })
unfolding clap_on_literals given_of
run = refl

pub wrong_run : ask_nothing (codes "run" ∷ codes "run i j" ∷ codes "run -o i j" ∷ codes "run --plan p i" ∷ codes "run --semantic observe i" ∷ []) ≡ true
unfolding clap_on_literals given_of
wrong_run = refl

pub explain : asks (codes "explain --plan p --semantic observe u t") ≡ Some (record (plainly Explain (codes "u t") None) { plan = Some (codes "p"); semantic = Observe })
unfolding clap_on_literals given_of
explain = refl

pub wrong_explain : ask_nothing (codes "explain" ∷ codes "explain -o i u" ∷ codes "explain --steps 5 u" ∷ codes "explain --journal j u" ∷ []) ≡ true
unfolding clap_on_literals given_of
wrong_explain = refl

pub make : asks (codes "make 1 --steps 5 -o m") ≡ Some (record (plainly Make (codes "1") (Some (codes "m"))) { steps = 5 })
unfolding clap_on_literals given_of
make = refl

pub most_made : asks (codes "make 64 -o m") ≡ Some (plainly Make (codes "64") (Some (codes "m")))
unfolding clap_on_literals given_of
most_made = refl

pub wrong_make : ask_nothing (codes "make 0 -o m" ∷ codes "make 65 -o m" ∷ codes "make 01 -o m" ∷ codes "make u -o m" ∷ codes "make 1 2 -o m" ∷ codes "make 1" ∷ codes "make 1 -o m --semantic observe" ∷ codes "make 1 -o m --journal j" ∷ []) ≡ true
unfolding clap_on_literals given_of
wrong_make = refl
