-- Which code leaves scopes, and what is around a statement for it: the patterns follow [stmt.jump.general] of the C++ draft; the instructions are this project's own.
use Rattle.std.specs.Prelude.{◌≡◌, ◌≢◌, ℕ, zero, suc, List, [], ◌∷◌, Option, Some, None, slice_get}
use Rattle.cx_code.specs.declared.image.Image.{Image}
use Rattle.cx_code.specs.declared.image.Function.{Function}
use Rattle.cx_code.specs.declared.operation.Operation.TheVariants as does
use Rattle.cx_emit.specs.Configuration.{Has}
use Rattle.cx_emit.specs.Checks.{GoesOn}

-- the innermost loop around a statement: how many scopes there are inside it around the statement, and where it is left and goes on
pub record Loop : Type 0 where
  pub depth : ℕ
  pub break_to : ℕ
  pub continue_to : ℕ

-- what is around a scope: where a value is returned, a loop, and the slots of the objects that the scopes around have declared, the innermost scope and the latest object first
pub record Surroundings : Type 0 where
  pub exit : ℕ
  pub loop : Option Loop
  pub scopes : List (List ℕ)

-- the body of a function
abbrev pub around_body : (exit : ℕ) → Surroundings
around_body exit = record { exit = exit; loop = None; scopes = [] }

abbrev pub deeper : Option Loop → Option Loop
deeper None = None
deeper (Some l) = Some (record l { depth = suc l.depth })

-- a scope inside one that has declared objects in these slots
abbrev pub inside : Surroundings → List ℕ → Surroundings
inside around now = record around { loop = deeper around.loop; scopes = now ∷ around.scopes }

-- the body of a loop
abbrev pub in_loop : Surroundings → (break_to continue_to : ℕ) → Surroundings
in_loop around break_to continue_to = record around { loop = Some (record { depth = 0; break_to = break_to; continue_to = continue_to }) }

-- no object of these scopes has the slot
abbrev pub IsOther : ℕ → List ℕ → Type 0
IsOther slot [] = Unit {0}
IsOther slot (other ∷ slots) = (other ≢ slot) × IsOther slot slots

abbrev pub IsUnused : ℕ → List (List ℕ) → Type 0
IsUnused slot [] = Unit {0}
IsUnused slot (slots ∷ scopes) = IsOther slot slots × IsUnused slot scopes

-- how many slots a frame of the function has
abbrev pub slots_in : Option Function → ℕ
slots_in None = 0
slots_in (Some function) = function.slots

abbrev pub slot_count : Image → ℕ → ℕ
slot_count image function = slots_in (slice_get image.functions function)

module _ (image : Image) (function : ℕ) where
  -- the objects in these slots end
  abbrev pub StandsEnds : List ℕ → ℕ → ℕ → Type 0
  StandsEnds [] from to = to ≡ from
  StandsEnds (slot ∷ slots) from to = (p q : ℕ) × Has image function from (does.Get slot) p × Has image function p does.End q × StandsEnds slots q to

  -- the objects of so many scopes end, and the code goes on somewhere else
  abbrev pub StandsExit : ℕ → List (List ℕ) → ℕ → ℕ → Type 0
  StandsExit zero scopes from to = GoesOn image function from to
  StandsExit (suc n) [] from to = ⊥
  StandsExit (suc n) (slots ∷ scopes) from to = (p : ℕ) × StandsEnds slots from p × StandsExit n scopes p to
