-- What the law of this crate says of words in the form exec -o IMAGE [--steps N] [--semantic S] UNIT; this project's own.
use Rattle.std.specs.Prelude.{◌≡◌, ℕ, List, [], ◌∷◌, ◌++◌, Bool, true, false, not, ◌==◌, codes, Option, Some, None}
use Rattle.cx_code.specs.declared.violation.Semantic.{Semantic}
use Rattle.cx_words.specs.declared.verbs.Verb.TheVariants.{Exec}
use Rattle.cx_words.specs.Value.{is_name}
use Rattle.cx_words.specs.Words.{request_of, semantic_of, steps_of}

-- a word that begins with another byte than `-`
abbrev pub is_plain : List ℕ → Bool
is_plain [] = false
is_plain (first ∷ rest) = not (first == 45)

-- an option with its value, where it is given
abbrev pub option_words : List ℕ → Option (List ℕ) → List (List ℕ)
option_words option None = []
option_words option (Some value) = option ∷ value ∷ []

abbrev pub plain_words : List ℕ → Option (List ℕ) → Option (List ℕ) → List ℕ → List (List ℕ)
plain_words image steps semantic unit =
    codes "exec" ∷ codes "-o" ∷ image ∷ (option_words (codes "--steps") steps ++ (option_words (codes "--semantic") semantic ++ unit ∷ []))

abbrev pub PlainWordsAreRead : Type 0
PlainWordsAreRead =
    (image unit : List ℕ) (steps semantic : Option (List ℕ)) (n : ℕ) (s : Semantic)
    → is_name image ≡ true → is_plain image ≡ true → is_name unit ≡ true → is_plain unit ≡ true
    → steps_of steps ≡ Some n → semantic_of semantic ≡ Some s
    → request_of (plain_words image steps semantic unit) ≡ Some (record {
      verb = Exec;
      names = unit ∷ [];
      output = Some image;
      plan = None;
      journal = None;
      steps = n;
      semantic = s;
    })
