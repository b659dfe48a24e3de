-- This defines the command that clap reads the words of: the verb, the names behind it, and the options. Clap's own definitions say which words it takes and what it finds there. This project's own.
use Rattle.std.specs.Prelude.{ℕ, true, List, [], ◌∷◌, Some, codes}
use Rattle.clap.specs.Lexer.{usize_max}
use Rattle.clap.specs.Walk.{Rule}
use Rattle.clap.specs.Simple.{App, new_rule, new_shape}

-- the first word that is no option; it has to be there
abbrev pub verb_rule : Rule
verb_rule = record (new_rule (codes "verb")) { required = true }

-- all words behind it that are no options, any number of them
abbrev pub names_rule : Rule
names_rule = record (new_rule (codes "names")) { range = Some (record { start_inclusive = 0; end_inclusive = usize_max }) }

-- -o, with one value
abbrev pub output_rule : Rule
output_rule = record (new_rule (codes "output")) { short = Some 111 }

-- an option of this long name, with one value
abbrev pub option_rule : List ℕ → Rule
option_rule name = record (new_rule name) { long = Some name }

-- the words have no program's name before them, and neither help nor a version can be asked for
abbrev pub command : App
command = record {
  top = record (new_shape (codes "cx")) {
    rules = verb_rule ∷ names_rule ∷ output_rule ∷ option_rule (codes "plan") ∷ option_rule (codes "steps")
        ∷ option_rule (codes "semantic") ∷ option_rule (codes "journal") ∷ [];
    no_binary_name = true;
    disable_help_flag = true;
    disable_version_flag = true;
  };
  subs = [];
}
