-- A list of marks is grammatical, or has the place of a fault.
use Rattle.std.proofs.Common.{◌≡◌, ℕ, zero, suc, ◌+◌, List, Some, None, length, get_or, refl, subst, arith, inl, inr, ⊎_elim}
use Rattle.std.specs.Prelude.{◌⊎◌, slice_get}
use Rattle.cx_syntax.specs.declared.mark.Mark.TheVariants as M
use Rattle.cx_syntax.specs.Place.{Grammatical, IsPlace, IsTree}
use Rattle.cx_syntax.specs.Spell.{Marks}
use Rattle.cx_syntax.specs.Tree.{UnitTree}
use Rattle.cx_table.specs.declared.symbol.Symbol.{Symbol}
use Rattle.cx_parser.specs.declared.recognizer.Settled.{Settled}
use Rattle.cx_parser.specs.declared.recognizer.Settled.TheVariants.{Ate, Ended, Stuck}
use Rattle.cx_parser.specs.Machine.{first_stack}
use Rattle.cx_parser.specs.Reads.{Reads, ReadsEnd, Stands}
use Rattle.cx_parser.proofs.OneReading.{at_most_one_tree}
use Rattle.cx_parser.proofs.Reached.{at_first, reads, reads_end}
use Rattle.cx_faults.specs.declared.fault.ListFault.TheVariants as faults
use Rattle.cx_faults.specs.Faults.{IsListFault, marks_of, most_open, open_count, place_of}
use Rattle.cx_judged.specs.Laws.{FaultlessHasNoFault, FaultlessHasTree, FaultlessOrFault}
use Rattle.cx_judged.proofs.Choices.{at_most_or_more}
use Rattle.cx_judged.proofs.Settling.{settles}

module _ (ts : Marks) where
  abbrev Answer : Type 0
  Answer = Grammatical ts ⊎ ((place : ℕ) × IsPlace ts place)

  at_end : (r : Settled) → ReadsEnd r ts → Answer
  at_end Ended it = inl it
  at_end Ate it = inr (length ts, it)
  at_end Stuck it = inr (length ts, it)

  at_mark : (p : ℕ) (j : List Symbol) → (Stands ts (p + 1) j → Answer) → (r : Settled) → Reads r ts p j → Answer
  at_mark p j on Ate it = on it
  at_mark p j on Ended it = inr (p, it)
  at_mark p j on Stuck it = inr (p, it)

  read_from : (left p : ℕ) (k : List Symbol) → p + left ≡ length ts → Stands ts p k → Answer
  read_from zero p k is stands =
      let there : p ≡ length ts = omega arith in
      let it = settles k None in
      at_end it.0 (reads_end ts k it.1 it.0 it.2 (subst (λ q. Stands ts q k) there stands))
  read_from (suc left) p k is stands =
      let it = settles k (Some (get_or ts p M.Number)) in
      at_mark p it.1 (λ further. read_from left (p + 1) it.1 (omega arith) further) it.0 (reads ts p M.Number k it.1 it.0 it.2 (omega arith) stands)

  pub grammatical_or_place : Answer
  grammatical_or_place = read_from (length ts) 0 first_stack (omega arith) (at_first first_stack ts refl)

-- ---- of lists

pub faultless_or_fault : FaultlessOrFault
faultless_or_fault list =
    ⊎_elim
    (λ shallow. ⊎_elim
    (λ grammatical. inl (record { shallow = shallow; grammatical = grammatical }))
    (λ place. inr (faults.Syntax (place_of list (slice_get list.placed place.0)), IsListFault.syntax shallow place.0 place.1))
    (grammatical_or_place (marks_of list)))
    (λ many. inr (faults.OpenTokens (open_count list), IsListFault.opened many))
    (at_most_or_more (open_count list) most_open)

pub faultless_has_no_fault : FaultlessHasNoFault
faultless_has_no_fault list fault faultless (IsListFault.opened many) = let shallow = faultless.shallow in omega arith
faultless_has_no_fault list fault faultless (IsListFault.syntax shallow place is) = is.0 faultless.grammatical

pub one_tree : (ts : Marks) → Grammatical ts → (tree : UnitTree) × IsTree ts tree
one_tree ts (tree, shaped, spells) = (tree, (shaped, spells, λ other is spelled. at_most_one_tree ts other tree is shaped spelled spells))

pub faultless_has_tree : FaultlessHasTree
faultless_has_tree list faultless = one_tree (marks_of list) faultless.grammatical
