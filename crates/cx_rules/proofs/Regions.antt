-- Which rules a region breaks.
use Rattle.std.proofs.Common.{◌≡◌, ℕ, ◌<◌, ◌≤◌, ◌^◌, ℤ, pos, ◌<ℤ◌, ◌≤ℤ◌, List, length, Option, Some, None, ◌+◌, refl, arith, inl, inr, lit≤}
use Rattle.std.proofs.lemmas.Bool.{cases_lt}
use Rattle.std.proofs.lemmas.Int.{ints}
use Rattle.std.proofs.lemmas.Option.{slice_get_within}
use Rattle.cx_code.specs.declared.code.Region.{Region}
use Rattle.cx_code.specs.declared.image.Image.{Image}
use Rattle.cx_code.specs.declared.image.Function.{Function}
use Rattle.cx_code.specs.Reached.{taken_count}
use Rattle.cx_code.specs.Rules.{HasType, Encloses}
use Rattle.cx_reach.specs.declared.rule.Rule.{Rule}
use Rattle.cx_reach.specs.declared.rule.Rule.TheVariants as rules
use Rattle.cx_reach.specs.Broken.{RegionBreaks, IsBadRegion}
use Rattle.cx_reach.specs.Order.{number_of}
use Rattle.cx_rules.specs.First.{RegionsKeepBefore, IsFirstInRegions}
use Rattle.cx_rules.specs.Spans.{IsLeast, EnclosesFirst, EnclosesEarlier, IsCrossed, IsMisplaced}

at_most : (a b : ℕ) → ¬ (b < a) → a ≤ b
at_most a b never = elim (cases_lt b a) [ inl less ↦ absurd (never less) | inr not_less ↦ not_less ]

pub covers_some : (function : Function) (region : Region) → ¬ IsMisplaced function region → region.start < region.end
covers_some function region placed = elim (cases_lt region.start region.end) [ inl less ↦ less | inr not_less ↦ absurd (placed (inl not_less)) ]

pub covers_code : (function : Function) (region : Region) → ¬ IsMisplaced function region → region.end ≤ length function.code
covers_code function region placed = at_most region.end (length function.code) (λ more. placed (inr (inl more)))

module _ (image : Image) (function : Function) (index : ℕ) (region : Region) (has : HasType image region) (target : region.target < length function.code) where
  pub after_second : (other : Rule) → RegionBreaks image function index region other → 4 ≤ number_of other
  after_second rules.V1 broken = absurd (broken has)
  after_second rules.V2 past = absurd (omega (arith, target, past))
  after_second rules.V3 broken = absurd broken
  after_second rules.V4 broken = lit≤ tt
  after_second rules.V5 broken = absurd broken
  after_second rules.V6 broken = absurd broken
  after_second rules.V7 broken = absurd broken

  module _ (low : ℕ) (known : IsLeast image function region.start region.end low) (small : region.depth < 2 ^ 32) where
    pub keeps_too_much : low < region.depth → IsBadRegion image function index region
    keeps_too_much less = let (place, depth, operation, since, before, here, at, lacks) = (known region.depth small).1 less in inr (inr (inl (place, depth, operation, since, before, here, at, lacks)))

    apart : (least : ℕ) (depth : ℤ) → pos least ≤ℤ depth → depth <ℤ pos least → ⊥
    apart least depth enough less = omega (arith, ints)

    good_region : ¬ IsMisplaced function region → EnclosesFirst function.regions index region → region.depth ≤ low → ¬ IsBadRegion image function index region
    good_region placed around keeps (inl empty) = placed (inl empty)
    good_region placed around keeps (inr (inl past)) = placed (inr (inl past))
    good_region placed around keeps (inr (inr (inl (place, depth, operation, since, before, here, at, lacks)))) =
        apart (region.depth + taken_count function operation) depth ((known region.depth small).0 keeps place since before depth operation here at) lacks
    good_region placed around keeps (inr (inr (inr (inl covers)))) = placed (inr (inr covers))
    good_region placed around keeps (inr (inr (inr (inr (earlier, other, before, at, overlaps, across))))) = across (around earlier other before at overlaps)

    pub none : ¬ IsMisplaced function region → EnclosesFirst function.regions index region → region.depth ≤ low → (rule : Rule) → ¬ RegionBreaks image function index region rule
    none placed around keeps rules.V1 broken = broken has
    none placed around keeps rules.V2 past = omega (arith, target, past)
    none placed around keeps rules.V3 broken = broken
    none placed around keeps rules.V4 broken = good_region placed around keeps broken
    none placed around keeps rules.V5 broken = broken
    none placed around keeps rules.V6 broken = broken
    none placed around keeps rules.V7 broken = broken

-- ---- the first region that crosses

encloses : (outer inner : Region) → ¬ ¬ Encloses outer inner → Encloses outer inner
encloses outer inner stays = (
  at_most outer.start inner.start (λ more. stays (λ (from, to). omega (arith, from, more))),
  at_most inner.end outer.end (λ more. stays (λ (from, to). omega (arith, to, more))),
)

pub around : (regions : List Region) (crossing : Option ℕ) (index : ℕ) → IsCrossed regions crossing → ((at : ℕ) → crossing ≡ Some at → index ≤ at) → ¬ (crossing ≡ Some index) → EnclosesEarlier regions index
around regions None index nested ahead isnt region e earlier other less at overlaps = nested earlier index other region less at e overlaps
around regions (Some at_first) index first ahead isnt region e earlier other less at overlaps =
    encloses region other
    (λ across. elim (cases_lt index at_first) [
      | inl before ↦ first.first index before (record { earlier = earlier; before = less; a = other; b = region; at_earlier = at; at_later = e; overlaps = overlaps; not_around = across })
      | inr not_before ↦ isnt (let same : at_first ≡ index = (let ahead_of = ahead at_first refl in omega (arith, ahead_of, not_before)) in cc)
    ])

pub all_passed : (image : Image) (function : Function) (index : ℕ) → length function.regions ≤ index → RegionsKeepBefore image function index → IsFirstInRegions image function None
all_passed image function index past before at region rule e = let within = slice_get_within function.regions at region e in before at region rule (omega (arith, past, within)) e
