-- The parts of a file are taken whole, with the files that they include, or up to a first fault.
use Rattle.std.proofs.Common.{◌≡◌, ℕ, zero, suc, ◌+◌, ◌<◌, ◌≤◌, List, [], ◌∷◌, ◌++◌, Option, Some, None, length, refl, sym, ◌∙◌, subst, arith, append_assoc, inl, inr, ⊎_elim}
use Rattle.std.specs.Prelude.{◌⊎◌}
use Rattle.std.proofs.lemmas.List.{append-nil}
use Rattle.std.proofs.lemmas.Option.{none-some}
use Rattle.cx_outside.specs.Folder.{Folder}
use Rattle.cx_lexer.specs.declared.fault.LexFault.TheVariants as lex_faults
use Rattle.cx_includes.specs.declared.assembly.AssembleFault.{AssembleFault}
use Rattle.cx_includes.specs.declared.assembly.AssembleFault.TheVariants as faults
use Rattle.cx_includes.specs.declared.part.Directive.TheVariants as directives
use Rattle.cx_includes.specs.declared.part.Part.{Part}
use Rattle.cx_includes.specs.declared.part.Part.TheVariants as parts
use Rattle.cx_includes.specs.declared.part.Span.{Span}
use Rattle.cx_includes.specs.Directive.{name_in}
use Rattle.cx_includes.specs.Parts.{IsReading}
use Rattle.cx_includes.specs.Place.{column_at}
use Rattle.cx_includes.specs.Unit.{IsAssembled, IsTakenAlready, Opens, Taken, Takes, longest_file_name, most_bytes, most_open, nothing_taken, opened, with_contracts, with_cstdio, with_token}
use Rattle.cx_includes.specs.Fault.{Fails, IsAtFault, IsFirstFault}
use Rattle.cx_judged.proofs.Choices.{at_most_or_more}
use Rattle.cx_judged.proofs.Readings.{reading}
use Rattle.cx_judged.proofs.Once.{already_decided}

module _ (folder : Folder) where
  -- the parts are taken, or there is a first fault
  abbrev Ends : (depth : ℕ) (name text : List ℕ) → List Part → Taken → Type 0
  Ends depth name text all before = ((after : Taken) × Takes folder depth name text all before after) ⊎ ((fault : AssembleFault) × Fails folder depth name text all before fault)

  -- so it is of any file that is opened
  abbrev AllEnd : ℕ → Type 0
  AllEnd depth = (name text : List ℕ) (all : List Part) (before : Taken) → Ends depth name text all before

  module _ (depth : ℕ) (name text : List ℕ) where
    -- one part more is taken, or has the first fault
    abbrev Goes : Taken → Part → Type 0
    Goes now part =
        ((after : Taken) × ((front : List Part) (before : Taken) → Takes folder depth name text front before now → Takes folder depth name text (front ++ part ∷ []) before after))
        ⊎ ((fault : AssembleFault) × ((front rest : List Part) (before : Taken) → Takes folder depth name text front before now → Fails folder depth name text (front ++ part ∷ rest) before fault))

    at_fault : (now : Taken) (part : Part) (fault : AssembleFault) → IsAtFault folder depth name text now part fault → Goes now part
    at_fault now part fault at = inr (fault, λ front rest before so_far. Fails.here rest so_far at)

    -- ---- an include line

    module _ (now : Taken) (span : Span) (line : ℕ) where
      abbrev part : Part
      part = parts.Line (directives.File span) line

      abbrev inner_name : List ℕ
      inner_name = name_in text span

      goes_inside : (inner : List ℕ) (all : List Part) → Opens folder depth now inner_name inner → IsReading inner all → Ends (suc depth) inner_name inner all (opened now inner_name inner) → Goes now part
      goes_inside inner all opens reads (inl (after, takes)) = inl (after, λ front before so_far. Takes.include span line inner all so_far opens reads takes)
      goes_inside inner all opens reads (inr (fault, fails)) = inr (fault, λ front rest before so_far. Fails.within rest span line inner all so_far opens reads fails)

      module _ (short : length inner_name ≤ longest_file_name) where
        too_deep : (IsTakenAlready folder now inner_name → ⊥) → most_open ≤ depth → Goes now part
        too_deep fresh deep = at_fault now part (faults.Depth name line) (IsAtFault.deep short fresh deep)

        opens_file : (inner : List ℕ) → folder inner_name ≡ Some inner → (IsTakenAlready folder now inner_name → ⊥) → depth < most_open → AllEnd (suc depth) → Goes now part
        opens_file inner told fresh shallow below =
            ⊎_elim
            (λ fits. let read = reading inner in
            goes_inside inner read.0 (record { short = short; fresh = fresh; shallow = shallow; told = told; small = fits }) read.1 (below inner_name inner read.0 (opened now inner_name inner)))
            (λ much. at_fault now part (faults.Large (most_bytes + 1)) (IsAtFault.large short fresh shallow told much))
            (at_most_or_more (now.bytes + length inner) most_bytes)

        told_goes : (inner : List ℕ) → folder inner_name ≡ Some inner → (depth < most_open → AllEnd (suc depth)) → Goes now part
        told_goes inner told below =
            ⊎_elim
            (λ once. inl (now, λ front before so_far. Takes.again span line so_far short once))
            (λ fresh. ⊎_elim (too_deep fresh) (λ shallow. opens_file inner told fresh shallow (below shallow)) (at_most_or_more most_open depth))
            (already_decided folder now inner_name inner told)

        untold_goes : folder inner_name ≡ None → Goes now part
        untold_goes none =
            ⊎_elim (too_deep (λ already. none-some already.text (sym none ∙ already.told)))
            (λ shallow. at_fault now part (faults.Missing inner_name) (IsAtFault.missing short shallow none))
            (at_most_or_more most_open depth)

        short_goes : (depth < most_open → AllEnd (suc depth)) → (told : Option (List ℕ)) → folder inner_name ≡ told → Goes now part
        short_goes below None is = untold_goes is
        short_goes below (Some inner) is = told_goes inner is below

      file_goes : (depth < most_open → AllEnd (suc depth)) → Goes now part
      file_goes below =
          ⊎_elim
          (λ short. short_goes short below (folder inner_name) refl)
          (λ long. at_fault now part (faults.Lex name line (column_at text span.start) (lex_faults.LongName span.start (length inner_name))) (IsAtFault.long_name long))
          (at_most_or_more (length inner_name) longest_file_name)

    -- ---- any part

    part_goes : (depth < most_open → AllEnd (suc depth)) → (now : Taken) (part : Part) → Goes now part
    part_goes below now (parts.Token token spot) = inl (with_token now name token spot, λ front before so_far. Takes.token token spot so_far)
    part_goes below now (parts.Line directives.Once line) = inl (now, λ front before so_far. Takes.once line so_far)
    part_goes below now (parts.Line directives.Contracts line) = inl (with_contracts now, λ front before so_far. Takes.contracts line so_far)
    part_goes below now (parts.Line directives.Cstdio line) = inl (with_cstdio now, λ front before so_far. Takes.cstdio line so_far)
    part_goes below now (parts.Line (directives.File span) line) = file_goes now span line below
    part_goes below now (parts.BadLine line) = at_fault now (parts.BadLine line) (faults.BadLine name line) IsAtFault.bad_line
    part_goes below now (parts.Fault fault spot) = at_fault now (parts.Fault fault spot) (faults.Lex name spot.line spot.column fault) IsAtFault.lexical

    parts_end : ((now : Taken) (part : Part) → Goes now part) → (rest front : List Part) (before now : Taken) → Takes folder depth name text front before now → Ends depth name text (front ++ rest) before
    parts_end goes [] front before now so_far = inl (now, subst (λ l. Takes folder depth name text l before now) (sym (append-nil front)) so_far)
    parts_end goes (part ∷ rest) front before now so_far =
        ⊎_elim
        (λ more. subst (λ l. Ends depth name text l before) (append_assoc front (part ∷ []) rest) (parts_end goes rest (front ++ part ∷ []) before more.0 (more.1 front before so_far)))
        (λ stops. inr (stops.0, stops.1 front rest before so_far))
        (goes now part)

  file_ends : (depth : ℕ) → (depth < most_open → AllEnd (suc depth)) → AllEnd depth
  file_ends depth below name text all before = parts_end depth name text (part_goes depth name text below) all [] before before Takes.none

  -- files are opened no deeper than the limit
  all_end : (more depth : ℕ) → most_open ≤ depth + more → AllEnd depth
  all_end zero depth deep = file_ends depth (λ shallow. absurd (omega arith))
  all_end (suc more) depth enough = file_ends depth (λ shallow. all_end more (suc depth) (omega arith))

  -- ---- a unit

  abbrev UnitEnds : List ℕ → Type 0
  UnitEnds name = ((taken : Taken) × IsAssembled folder name taken) ⊎ ((fault : AssembleFault) × IsFirstFault folder name fault)

  whole_ends : (name text : List ℕ) (all : List Part) → folder name ≡ Some text → length text ≤ most_bytes → IsReading text all → Ends 0 name text all (opened nothing_taken name text) → UnitEnds name
  whole_ends name text all told small reads (inl (taken, takes)) = inl (taken, record { text = text; told = told; small = small; all = all; reading = reads; takes = takes })
  whole_ends name text all told small reads (inr (fault, fails)) = inr (fault, IsFirstFault.first told small reads fails)

  unit_of : (name : List ℕ) (told : Option (List ℕ)) → folder name ≡ told → UnitEnds name
  unit_of name None is = inr (faults.Missing name, IsFirstFault.no_unit is)
  unit_of name (Some text) is =
      ⊎_elim
      (λ small. let read = reading text in whole_ends name text read.0 is small read.1 (all_end 16 0 (omega arith) name text read.0 (opened nothing_taken name text)))
      (λ much. inr (faults.Large (most_bytes + 1), IsFirstFault.large_unit is much))
      (at_most_or_more (length text) most_bytes)

  pub unit_ends : (name : List ℕ) → UnitEnds name
  unit_ends name = unit_of name (folder name) refl
