-- This defines the verbs, and the table of what each of them takes. This project's own.
use Rattle.std.specs.Prelude.{ℕ, List, Bool, true, not, ◌==◌, nat_le, codes, Option, Some, None, if◌then◌else◌}
use Rattle.std.specs.Str.{bytes_eq}
use Rattle.cx_words.specs.declared.verbs.Verb.{Verb}
use Rattle.cx_words.specs.declared.verbs.Verb.TheVariants.{Exec, Compile, Link, Run, Explain, Make}
use Rattle.cx_words.specs.declared.verbs.Place.{Place}
use Rattle.cx_words.specs.declared.verbs.Place.TheVariants.{Required, Allowed, Absent}
use Rattle.cx_words.specs.declared.verbs.Number.{Number}
use Rattle.cx_words.specs.declared.verbs.Number.TheVariants.{One, Several}
use Rattle.cx_words.specs.declared.verbs.Row.{Row}

abbrev pub verb_name : Verb → List ℕ
verb_name Exec = codes "exec"
verb_name Compile = codes "compile"
verb_name Link = codes "link"
verb_name Run = codes "run"
verb_name Explain = codes "explain"
verb_name Make = codes "make"

-- the verb of this name
abbrev pub verb_in : List ℕ → Option Verb
verb_in word =
    if bytes_eq word (verb_name Exec) then Some Exec
    else (if bytes_eq word (verb_name Compile) then Some Compile
    else (if bytes_eq word (verb_name Link) then Some Link
    else (if bytes_eq word (verb_name Run) then Some Run
    else (if bytes_eq word (verb_name Explain) then Some Explain
    else (if bytes_eq word (verb_name Make) then Some Make else None)))))

abbrev pub columns : Place → Place → Place → Place → Place → Number → Row
columns output plan steps semantic journal names =
    record { output = output; plan = plan; steps = steps; semantic = semantic; journal = journal; names = names }

-- the table; its columns are -o, --plan, --steps, --semantic, --journal, and the names
abbrev pub row_of : Verb → Row
row_of Exec = columns Required Allowed Allowed Allowed Allowed Several
row_of Compile = columns Required Allowed Absent Allowed Absent One
row_of Link = columns Required Absent Absent Absent Absent Several
row_of Run = columns Absent Absent Allowed Absent Allowed One
row_of Explain = columns Absent Allowed Absent Allowed Absent Several
row_of Make = columns Required Absent Allowed Absent Absent One

-- an option that is given, or isn't, fits its place in a row
abbrev pub fits_place : Place → Bool → Bool
fits_place Required given = given
fits_place Allowed given = true
fits_place Absent given = not given

-- so many names fit
abbrev pub fits_number : Number → ℕ → Bool
fits_number One count = count == 1
fits_number Several count = nat_le 1 count
