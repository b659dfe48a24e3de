-- Linking keeps apart what the tables of a unit tell apart: a law of its renamings; this project's own.
use Rattle.std.specs.Prelude.{◌≡◌, ℕ, false, List, [], ◌∷◌, ◌++◌, map}
use Rattle.cx_core.specs.Unit.{TranslationUnit}
use Rattle.cx_core.specs.Numbers.{Planned}
use Rattle.cx_core.specs.Linked.{is_among, names_of}

abbrev pub IsInjective : (ℕ → ℕ) → Type 0
IsInjective f = (i j : ℕ) → f i ≡ f j → i ≡ j

abbrev pub AreDistinct : List (List ℕ) → Type 0
AreDistinct [] = Unit {0}
AreDistinct (name ∷ names) = (is_among names name ≡ false) × AreDistinct names

-- each function, type of functions, class and global has one place in its table
pub record NamesOnce (unit : TranslationUnit) : Type 0 where
  pub functions : AreDistinct (map (λ f. f.name) unit.functions)
  pub function_types : AreDistinct (map (λ t. t.name) unit.function_types)
  pub classes : AreDistinct (map (λ c. c.name) unit.classes)
  pub globals : AreDistinct (map (λ g. g.name) unit.globals)

-- the program's numbers of what a unit's trees name
pub record KeepsApart (earlier : List Planned) (p : Planned) (later : List Planned) : Type 0 where
  pub functions : IsInjective (names_of (earlier ++ p ∷ later) p).function_number
  pub function_types : IsInjective (names_of (earlier ++ p ∷ later) p).function_type_number
  pub classes : IsInjective (names_of (earlier ++ p ∷ later) p).class_number
  pub globals : IsInjective (names_of (earlier ++ p ∷ later) p).global_number

abbrev pub LinkingKeepsApart : Type 0
LinkingKeepsApart = (earlier : List Planned) (p : Planned) (later : List Planned) → NamesOnce p.unit → KeepsApart earlier p later
