-- This defines what the words of the command line ask for: what clap finds in them, by the table of verbs. This project's own.
use Rattle.std.specs.Prelude.{ℕ, List, [], ◌∷◌, length, Bool, true, ◌&&◌, codes, map, Option, Some, None, is_some, unwrap_or, option_map, option_and_then, if◌then◌else◌}
use Rattle.std.specs.List.{list_all}
use Rattle.std.specs.Option.{option_map_or}
use Rattle.std.specs.Borrow.{Bor}
use Rattle.clap.specs.Walk.{Row, all_of, first_of}
use Rattle.clap.specs.Simple.{matches_of}
use Rattle.clap.specs.Faults.{fault_of}
use Rattle.clap.specs.Kinds.{Kinds}
use Rattle.cx_code.specs.declared.violation.Semantic.{Semantic}
use Rattle.cx_code.specs.declared.violation.Semantic.TheVariants.{Enforce}
use Rattle.cx_words.specs.declared.verbs.Verb.{Verb}
use Rattle.cx_words.specs.declared.verbs.Verb.TheVariants.{Make}
use Rattle.cx_words.specs.declared.verbs.Row.{Row as TableRow}
use Rattle.cx_words.specs.declared.given.Given.{Given as Found}
use Rattle.cx_words.specs.declared.words.Request.{Request as Asked}
use Rattle.cx_words.specs.Command.{command}
use Rattle.cx_words.specs.Value.{is_name, are_distinct, number_in, most_steps, most_made, semantic_in}
use Rattle.cx_words.specs.Verbs.{verb_in, row_of, fits_place, fits_number}

-- what the words ask for: the verb, the names behind it in their order, the values of the options, and the limit of steps and the semantic, which are 1,000,000 and enforce where the words don't say
pub record Request : Type 0 where
  pub verb : Verb
  pub names : List (List ℕ)
  pub output : Option (List ℕ)
  pub plan : Option (List ℕ)
  pub journal : Option (List ℕ)
  pub steps : ℕ
  pub semantic : Semantic

abbrev pub text_of : Option (Bor (List ℕ)) → Option (List ℕ)
text_of = option_map (λ text. text.now)

-- the same of the program's own record
abbrev pub plain_request : Asked → Request
plain_request asked = record {
  verb = asked.verb;
  names = map (λ name. name.now) asked.names;
  output = text_of asked.output;
  plan = text_of asked.plan;
  journal = text_of asked.journal;
  steps = asked.steps;
  semantic = asked.semantic;
}

-- ---- what clap finds

-- the values of the arguments, as they are written
pub record Given : Type 0 where
  pub verb : Option (List ℕ)
  pub names : List (List ℕ)
  pub output : Option (List ℕ)
  pub plan : Option (List ℕ)
  pub steps : Option (List ℕ)
  pub semantic : Option (List ℕ)
  pub journal : Option (List ℕ)

-- the same of the program's own record
abbrev pub plain_given : Found → Given
plain_given given = record {
  verb = text_of given.verb;
  names = map (λ name. name.now) given.names;
  output = text_of given.output;
  plan = text_of given.plan;
  steps = text_of given.steps;
  semantic = text_of given.semantic;
  journal = text_of given.journal;
}

abbrev pub given_in : List Row → Given
given_in rows = record {
  verb = first_of (codes "verb") rows;
  names = unwrap_or (all_of (codes "names") rows) [];
  output = first_of (codes "output") rows;
  plan = first_of (codes "plan") rows;
  steps = first_of (codes "steps") rows;
  semantic = first_of (codes "semantic") rows;
  journal = first_of (codes "journal") rows;
}

-- clap refuses words by the kinds of error that they have, and takes them where they have none
abbrev pub unless_refused : Kinds → Given → Option Given
unless_refused [] given = Some given
unless_refused (kind ∷ kinds) given = None

-- what clap finds in the words, where it takes them
unfoldable pub given_of : List (List ℕ) → Option Given
given_of words = unless_refused (fault_of command words) (given_in (matches_of command words))

-- ---- what is asked for

-- the limit of steps
abbrev pub steps_of : Option (List ℕ) → Option ℕ
steps_of None = Some 1000000
steps_of (Some word) = number_in most_steps word

abbrev pub semantic_of : Option (List ℕ) → Option Semantic
semantic_of None = Some Enforce
semantic_of (Some word) = semantic_in word

-- the options are those of the row, and the number of names fits it
abbrev pub fits_row : TableRow → Given → Bool
fits_row row given =
    fits_place row.output (is_some given.output) && fits_place row.plan (is_some given.plan)
    && fits_place row.steps (is_some given.steps) && fits_place row.semantic (is_some given.semantic)
    && fits_place row.journal (is_some given.journal) && fits_number row.names (length given.names)

-- an option's value is a name, where it is there
abbrev pub is_name_or_none : Option (List ℕ) → Bool
is_name_or_none value = option_map_or is_name value true

-- what is named has a name
abbrev pub has_names : Given → Bool
has_names given =
    list_all is_name given.names && is_name_or_none given.output && is_name_or_none given.plan && is_name_or_none given.journal

-- the verb make has a number behind it
abbrev pub has_size : Verb → List (List ℕ) → Bool
has_size Make names = list_all (λ name. is_some (number_in most_made name)) names
has_size verb names = true

abbrev pub is_asked : Verb → Given → Bool
is_asked verb given =
    fits_row (row_of verb) given && has_names given && has_size verb given.names && are_distinct given.names

abbrev pub request_with : Given → Option Verb → Option ℕ → Option Semantic → Option Request
request_with given (Some verb) (Some steps) (Some semantic) =
    if is_asked verb given then Some (record {
      verb = verb;
      names = given.names;
      output = given.output;
      plan = given.plan;
      journal = given.journal;
      steps = steps;
      semantic = semantic;
    }) else None
request_with given verb steps semantic = None

abbrev pub request_by : Given → Option Request
request_by given = request_with given (option_and_then verb_in given.verb) (steps_of given.steps) (semantic_of given.semantic)

-- what the words ask for
abbrev pub request_of : List (List ℕ) → Option Request
request_of words = option_and_then request_by (given_of words)
