-- Which answer each fault of a unit has: of its files, lines and tokens, and then of the list that is assembled of them.
use Rattle.std.specs.Prelude.{◌≡◌, ◌⊎◌, ℕ, List, Option}
use Rattle.cx_outside.specs.Folder.{Folder}
use Rattle.cx_outside.specs.declared.limit.Limit.TheVariants as limits
use Rattle.cx_lexer.specs.declared.fault.LexFault.{LexFault}
use Rattle.cx_lexer.specs.declared.fault.LexFault.TheVariants as lexical
use Rattle.cx_includes.specs.declared.assembly.AssembleFault.{AssembleFault}
use Rattle.cx_includes.specs.declared.assembly.AssembleFault.TheVariants as faults
use Rattle.cx_includes.specs.declared.assembled.Assembled.{Assembled}
use Rattle.cx_includes.specs.Assembled.{HasCause, IsListOver}
use Rattle.cx_faults.specs.declared.fault.ListFault.{ListFault}
use Rattle.cx_faults.specs.declared.fault.ListFault.TheVariants as list_faults
use Rattle.cx_faults.specs.Faults.{IsListFault}
use Rattle.cx_tool.specs.declared.answer.Answer.{Answer}
use Rattle.cx_tool.specs.declared.answer.Answer.TheVariants as answers
use Rattle.cx_tool.specs.declared.answer.Rule.{Rule}
use Rattle.cx_tool.specs.declared.answer.Rule.TheVariants as rules
use Rattle.cx_front.specs.Front.{name_of_file}

-- the unit is refused at a place of one of its files
abbrev pub refused : List ℕ → List ℕ → ℕ → ℕ → Rule → Answer
refused unit file line column rule = answers.UnitRefused (record { unit = unit; file = file; line = line; column = column; rule = rule })

-- a fault of tokens: X1 to X4, or a name that is too long
abbrev pub lexical_answer : List ℕ → List ℕ → ℕ → ℕ → LexFault → Answer
lexical_answer unit file line column lexical.OutOfMemory = answers.OutOfMemory
lexical_answer unit file line column (lexical.BadByte at) = refused unit file line column (rules.Lexical 1)
lexical_answer unit file line column (lexical.OpenComment at) = refused unit file line column (rules.Lexical 2)
lexical_answer unit file line column (lexical.OpenText at) = refused unit file line column (rules.Lexical 3)
lexical_answer unit file line column (lexical.TooWide at) = refused unit file line column (rules.Lexical 4)
lexical_answer unit file line column (lexical.LongName at count) = answers.TooMany limits.Name count

-- a fault of the unit of a name; that of a line, I1 or I2, has the column 1
abbrev pub fault_answer : List ℕ → AssembleFault → Answer
fault_answer unit faults.OutOfMemory = answers.OutOfMemory
fault_answer unit (faults.Missing name) = answers.NoFile name
fault_answer unit faults.Failed = answers.FileFault
fault_answer unit (faults.Lex file line column fault) = lexical_answer unit file line column fault
fault_answer unit (faults.BadLine file line) = refused unit file line 1 (rules.Line 1)
fault_answer unit (faults.Depth file line) = refused unit file line 1 (rules.Line 2)
fault_answer unit (faults.Large count) = answers.TooMany limits.UnitText count

-- The answer is that of the unit's first fault over the told files. Where they tell nothing, it is that of a first fault
-- over some files; a file that is missing and a text that is too large then come only where a call on the files failed.
pub record HasFault (content : Option Folder) (rose : Type 0) (unit : List ℕ) (answer : Answer) : Type 0 where
  pub fault : AssembleFault
  pub answered : answer ≡ fault_answer unit fault
  pub cause : HasCause content unit rose fault

-- a fault of an assembled list of the unit of a name
abbrev pub list_fault_answer : List ℕ → Assembled → ListFault → Answer
list_fault_answer unit list list_faults.OutOfMemory = answers.OutOfMemory
list_fault_answer unit list (list_faults.OpenTokens count) = answers.TooMany limits.OpenTokens count
list_fault_answer unit list (list_faults.Syntax place) = refused unit (name_of_file list place.file) place.line place.column rules.Syntax

-- the answer is that of the list's first fault
pub record IsListAnswer (unit : List ℕ) (list : Assembled) (answer : Answer) : Type 0 where
  pub fault : ListFault
  pub is : IsListFault list fault
  pub answered : answer ≡ list_fault_answer unit list fault

-- the answer is that of the first fault of the unit's assembled list
pub record HasListFault (content : Option Folder) (unit : List ℕ) (answer : Answer) : Type 0 where
  pub list : Assembled
  pub listed : IsListOver content unit list
  pub its : IsListAnswer unit list answer

-- the answer is that of the unit's first fault: of its files, lines and tokens, or where it has none of its list
abbrev pub HasUnitFault : Option Folder → Type 0 → List ℕ → Answer → Type 0
HasUnitFault content rose unit answer = HasFault content rose unit answer ⊎ HasListFault content unit answer
