-- What is known of the names of a list's front; this project's own.
use Rattle.std.specs.Prelude.{◌≡◌, ℕ, ◌+◌, ◌||◌, Bool, false, if◌then◌else◌, List, Option, Some, None, codes, bytes_eq, nat_lt}
use Rattle.std.specs.Ordering.{nat_cmp}
use Rattle.std.specs.Cmp.Lexicographic.{slice_cmp}
use Rattle.std.specs.BTreeMap.{BTreeMap, get_by}
use denote.Ref.{Bor}
use Rattle.cx_syntax.specs.declared.mark.Mark.{Mark}
use Rattle.cx_syntax.specs.declared.mark.Mark.TheVariants as M
use Rattle.cx_marks.specs.declared.scan.Known.{Known}
use Rattle.cx_marks.specs.Marks.{Tokens, declares_at, first_place, number, some_below}

-- what the map has at the name
abbrev pub known_name : BTreeMap (Bor (List ℕ)) Known → List ℕ → Option Known
known_name names name = get_by (λ k. slice_cmp nat_cmp name k.now) names

-- with the name at a place, directly after `class` or `struct` or not
unfoldable pub noted : Option Known → ℕ → Bool → Known
noted None at after_key = record { number = at + 3; is_class = after_key }
noted (Some known) at after_key = record { number = known.number; is_class = after_key || known.is_class }

-- the mark of a name by what is known of it
abbrev pub mark_by : Known → Mark
mark_by k = if k.is_class then M.Class k.number else M.Name k.number

-- before the first token
unfoldable pub fixed : List ℕ → Option Known
fixed name =
    if bytes_eq (codes "contracts") name then Some (record { number = 0; is_class = false })
    else if bytes_eq (codes "pre") name then Some (record { number = 1; is_class = false })
    else if bytes_eq (codes "post") name then Some (record { number = 2; is_class = false })
    else None

abbrev pub is_fixed : List ℕ → Bool
is_fixed name = bytes_eq (codes "contracts") name || bytes_eq (codes "pre") name || bytes_eq (codes "post") name

-- what so many tokens say of the name
unfoldable pub known : Tokens → ℕ → List ℕ → Option Known
known ts i name =
    if is_fixed name || nat_lt (first_place ts name) i then Some (record { number = number ts name; is_class = some_below i (declares_at ts name) })
    else None

-- The map has what so many tokens say of each name but `std`.
unfoldable pub Knows : BTreeMap (Bor (List ℕ)) Known → Tokens → ℕ → Type 0
Knows names ts i = (name : List ℕ) → bytes_eq name (codes "std") ≡ false → known_name names name ≡ known ts i name
