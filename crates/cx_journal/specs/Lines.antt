-- The text of a journal: a line for each event, by the names of the source, and a last one for the ending. It is this project's own.
use Rattle.std.specs.Prelude.{◌≡◌, ℕ, ◌<◌, ◌≤◌, List, [], ◌++◌, codes, length, min, Result, Ok, Err, ⊤}
use Rattle.std.specs.List.{flat_map}
use Rattle.std.specs.Fmt.{decimal, signed_decimal}
use Rattle.cx_code.specs.Violation.{kind_name, mode_name, semantic_name}
use Rattle.cx_core.specs.Words.{AssertionKind, DetectionMode, Semantic, Party, Definer, Caller, Verdict, Holds, False, Threw, Violation, Kind, Overflow, Division, Shift, Null, Dead, Unset, Flow, Mixed, Ending, Returned, ContractTerminated, Terminated, Undefined, TooDeep, StepsSpent}
use Rattle.cx_core.specs.Event.{Evaluation, Event, out, input, input_end, begin, verdict, handler, throw, catch, destroyed}
use Rattle.cx_core.specs.Runs.{MachineRun}
use Rattle.cx_code.specs.declared.image.Image.{Image}
use Rattle.cx_code.specs.declared.run.Run.{Run}
use Rattle.cx_simulation.specs.ImageMachine.{named_run}
use Rattle.cx_journal.specs.declared.fault.JournalFault.{JournalFault}
use Rattle.cx_journal.specs.declared.fault.JournalFault.TheVariants as faults

abbrev pub party_name : Party → List ℕ
party_name Definer = codes "definer"
party_name Caller = codes "caller"

abbrev pub verdict_name : Verdict → List ℕ
verdict_name Holds = codes "holds"
verdict_name False = codes "false"
verdict_name Threw = codes "threw"

-- ASSERTION PARTY SEMANTIC
abbrev pub evaluation_text : Evaluation → List ℕ
evaluation_text e = e.assertion ++ codes " " ++ party_name e.party ++ codes " " ++ semantic_name e.semantic

-- KIND MODE SEMANTIC, and a blank
unfoldable pub causes_text : AssertionKind → DetectionMode → Semantic → List ℕ
causes_text kind mode semantic = kind_name kind ++ codes " " ++ mode_name mode ++ codes " " ++ semantic_name semantic ++ codes " "

-- FILE:LINE:COLUMN, and a blank
unfoldable pub place_text : List ℕ → ℕ → ℕ → List ℕ
place_text file line column = file ++ codes ":" ++ decimal line ++ codes ":" ++ decimal column ++ codes " "

-- KIND MODE SEMANTIC FILE:LINE:COLUMN ASSERTION
abbrev pub violation_text : Violation → List ℕ
violation_text v = causes_text v.kind v.mode v.semantic ++ place_text v.file v.line v.column ++ v.assertion

abbrev pub event_text : Event → List ℕ
event_text (out byte) = codes "out " ++ decimal byte
event_text (input byte) = codes "in " ++ decimal byte
event_text input_end = codes "in end"
event_text (begin e) = codes "begin " ++ evaluation_text e
event_text (verdict v) = codes "verdict " ++ verdict_name v
event_text (handler v) = codes "handler " ++ violation_text v
event_text (throw type) = codes "throw " ++ type
event_text (catch type) = codes "catch " ++ type
event_text (destroyed class object leaf) = codes "destroyed " ++ class ++ codes " " ++ decimal object ++ codes " " ++ decimal leaf

abbrev pub event_line : Event → List ℕ
event_line e = event_text e ++ codes "\n"

unfoldable pub kind_text : Kind → List ℕ
kind_text Overflow = codes "overflow"
kind_text Division = codes "division"
kind_text Shift = codes "shift"
kind_text Null = codes "null"
kind_text Dead = codes "dead"
kind_text Unset = codes "unset"
kind_text Flow = codes "flow"
kind_text Mixed = codes "mixed"

-- how a run ended that took so many steps; a run that didn't end, or didn't begin, has no text
abbrev pub ending_text : Ending → ℕ → List ℕ
ending_text (Returned value) steps = codes "returned " ++ signed_decimal value
ending_text ContractTerminated steps = codes "contract-terminated"
ending_text Terminated steps = codes "terminated"
ending_text (Undefined kind) steps = codes "undefined: " ++ kind_text kind
ending_text TooDeep steps = codes "too deep"
ending_text StepsSpent steps = codes "steps spent: " ++ decimal steps
ending_text ending steps = []

abbrev pub ending_line : Ending → ℕ → List ℕ
ending_line ending steps = codes "ending " ++ ending_text ending steps ++ codes "\n"

-- the text of a run by the names of the source
unfoldable pub told_text : MachineRun → List ℕ
told_text run = flat_map event_line run.journal ++ ending_line run.ending run.steps

-- the same of the machine's run of an image, which has the names
abbrev pub journal_text : Image → Run → List ℕ
journal_text image run = told_text (named_run image run)

-- ---- its length

-- how many bytes a text has, or the greatest number that can be counted
abbrev pub counted : List ℕ → ℕ
counted text = min (length text) 18446744073709551615

-- the text that is given, which may have so many bytes; or that it has more, and how many; or want of memory
abbrev pub IsText : ℕ → List ℕ → Result (List ℕ) JournalFault → Type 0
IsText most text (Ok given) = (given ≡ text) × (length text ≤ most)
IsText most text (Err faults.OutOfMemory) = ⊤
IsText most text (Err (faults.TooLong count)) = (count ≡ counted text) × (most < length text)
