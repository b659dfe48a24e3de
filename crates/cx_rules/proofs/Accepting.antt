-- The first broken rule of an image, from those of its functions and of its tables.
use Rattle.std.proofs.Common.{◌≡◌, ◌⊎◌, ap, ℕ, ◌+◌, ◌<◌, ◌≤◌, ◌^◌, List, [], ◌∷◌, length, Option, Some, None, slice_get, refl, subst, arith, inl, inr}
use Rattle.std.proofs.lemmas.Bool.{cases_lt}
use Rattle.std.proofs.lemmas.Option.{slice_get_within, get_or_from_slice_get}
use Rattle.std.proofs.lemmas.List.Elements.{All-get_or}
use Rattle.cx_code.specs.declared.image.Image.{Image}
use Rattle.cx_code.specs.declared.image.Function.{Function}
use Rattle.cx_code.specs.Storable.{IsStorable, IsStorableFunction}
use Rattle.cx_reach.specs.declared.item.Item.{Item}
use Rattle.cx_reach.specs.declared.item.Item.TheVariants as items
use Rattle.cx_reach.specs.declared.rule.Rule.{Rule}
use Rattle.cx_reach.specs.Broken.{IsBroken}
use Rattle.cx_reach.specs.Order.{number_of, rank_of, IsBefore, IsFirstBroken}
use Rattle.cx_rules.specs.Parts.{IsOf, IsOfTables, IsFirstAmong, IsKnown, FunctionsKeep, IsFirstIn}

pub few_regions : (image : Image) (index : ℕ) (function : Function) → IsStorable image → slice_get image.functions index ≡ Some function → length function.regions < 2 ^ 32
few_regions image index function storable at =
    let within = slice_get_within image.functions index function at in
    let is = All-get_or IsStorableFunction image.functions index function within storable.each_function in
    subst (λ (f : Function). length f.regions < 2 ^ 32) (get_or_from_slice_get image.functions index function function at) is.regions

pub one_more : (image : Image) (index : ℕ) (function : Function) → slice_get image.functions index ≡ Some function → FunctionsKeep image index → IsFirstAmong image (IsOf index) None → IsKnown image function → FunctionsKeep image (index + 1)
one_more image index function at before keeps known = record {
  keep = λ other less. elim (cases_lt other index) [
    | inl earlier ↦ before.keep other earlier
    | inr not_earlier ↦ let here : index ≡ other = omega (arith, less, not_earlier) in subst (λ (i : ℕ). IsFirstAmong image (IsOf i) None) here keeps
  ];
  known = λ other its less there. elim (cases_lt other index) [
    | inl earlier ↦ before.known other its earlier there
    | inr not_earlier ↦ let here : other ≡ index = omega (arith, less, not_earlier) in let same : function ≡ its = cc in subst (IsKnown image) same known
  ];
}

not_later : (g f : ℕ) (a b : List ℕ) → f < g → ¬ IsBefore (0 ∷ g ∷ a) (0 ∷ f ∷ b)
not_later g f a b later (inl never) = omega (arith, never)
not_later g f a b later (inr (zero, inl less)) = omega (arith, less, later)
not_later g f a b later (inr (zero, inr (same, rest))) = omega (arith, same, later)

-- an item of a function is before none of an earlier one, and an item of the tables before none of a function
after : (g f : ℕ) (a b : List ℕ) → IsBefore (0 ∷ g ∷ a) (0 ∷ f ∷ b) → g ≤ f
after g f a b less = elim (cases_lt f g) [ inl later ↦ absurd (not_later g f a b later less) | inr not ↦ not ]

tables_later : (a : List ℕ) (f : ℕ) (b : List ℕ) → ¬ IsBefore (1 ∷ a) (0 ∷ f ∷ b)
tables_later a f b (inl never) = omega (arith, never)
tables_later a f b (inr (same, rest)) = omega (arith, same)

module _ (image : Image) (index : ℕ) (keep : FunctionsKeep image index) where
  -- an item of an earlier function, or of no earlier one
  of_function : (item : Item) (rule : Rule) (g : ℕ) → IsOf g item → IsBroken image item rule → index ≤ g
  of_function item rule g among broken = elim (cases_lt g index) [ inl earlier ↦ absurd (keep.keep g earlier item rule among broken) | inr not ↦ not ]

  module _ (item : Item) (rule : Rule) (among : IsOf index item) (broken : IsBroken image item rule)
      (before : (other : Item) (its : Rule) → IsOf index other → IsBroken image other its → ¬ IsBefore (rank_of other its) (rank_of item rule)) where
    own : (other : Item) (its : Rule) (g : ℕ) → IsOf g other → IsBroken image other its → g ≤ index → ¬ IsBefore (rank_of other its) (rank_of item rule)
    own other its g is also low less =
        let here : g ≡ index = (let high = of_function other its g is also in omega (arith, high, low)) in
        before other its (subst (λ (i : ℕ). IsOf i other) here is) also less

    pub first_in_function : (a : List ℕ) → rank_of item rule ≡ 0 ∷ index ∷ a → IsFirstBroken image item rule
    first_in_function a is = record { broken = broken; before = none_before } where
      rest : (r : List ℕ) → IsBefore r (rank_of item rule) → IsBefore r (0 ∷ index ∷ a)
      rest r less = subst (IsBefore r) is less

      none_before : (other : Item) (its : Rule) → IsBroken image other its → ¬ IsBefore (rank_of other its) (rank_of item rule)
      none_before (items.Instruction g p) its also less = own (items.Instruction g p) its g refl also (after g index (0 ∷ p ∷ number_of its ∷ []) a (rest (0 ∷ g ∷ 0 ∷ p ∷ number_of its ∷ []) less)) less
      none_before (items.Count g) its also less = own (items.Count g) its g refl also (after g index (1 ∷ 0 ∷ number_of its ∷ []) a (rest (0 ∷ g ∷ 1 ∷ 0 ∷ number_of its ∷ []) less)) less
      none_before (items.Region g p) its also less = own (items.Region g p) its g refl also (after g index (2 ∷ p ∷ number_of its ∷ []) a (rest (0 ∷ g ∷ 2 ∷ p ∷ number_of its ∷ []) less)) less
      none_before (items.Dropper t) its also less = tables_later (0 ∷ 0 ∷ t ∷ number_of its ∷ []) index a (rest (1 ∷ 0 ∷ 0 ∷ t ∷ number_of its ∷ []) less)
      none_before items.Main its also less = tables_later (0 ∷ 1 ∷ 0 ∷ number_of its ∷ []) index a (rest (1 ∷ 0 ∷ 1 ∷ 0 ∷ number_of its ∷ []) less)
      none_before items.Handler its also less = tables_later (0 ∷ 2 ∷ 0 ∷ number_of its ∷ []) index a (rest (1 ∷ 0 ∷ 2 ∷ 0 ∷ number_of its ∷ []) less)

pub first_found : (image : Image) (index : ℕ) → FunctionsKeep image index → (found : Item × Rule) → IsFirstAmong image (IsOf index) (Some found) → IsFirstBroken image found.0 found.1
first_found image index keep (items.Instruction g p, rule) (same, broken, before) =
    first_in_function image index keep (items.Instruction g p) rule same broken before (0 ∷ p ∷ number_of rule ∷ []) (ap (λ (i : ℕ). 0 ∷ i ∷ 0 ∷ p ∷ number_of rule ∷ []) same)
first_found image index keep (items.Count g, rule) (same, broken, before) =
    first_in_function image index keep (items.Count g) rule same broken before (1 ∷ 0 ∷ number_of rule ∷ []) (ap (λ (i : ℕ). 0 ∷ i ∷ 1 ∷ 0 ∷ number_of rule ∷ []) same)
first_found image index keep (items.Region g p, rule) (same, broken, before) =
    first_in_function image index keep (items.Region g p) rule same broken before (2 ∷ p ∷ number_of rule ∷ []) (ap (λ (i : ℕ). 0 ∷ i ∷ 2 ∷ p ∷ number_of rule ∷ []) same)
first_found image index keep (items.Dropper t, rule) (never, broken, before) = absurd never
first_found image index keep (items.Main, rule) (never, broken, before) = absurd never
first_found image index keep (items.Handler, rule) (never, broken, before) = absurd never

module _ (image : Image) (index : ℕ) (keep : FunctionsKeep image index) (past : length image.functions ≤ index) where
  unbroken : (item : Item) (rule : Rule) → ((other : Item) (its : Rule) → IsOfTables other → ¬ IsBroken image other its) ⊎ ¬ IsOfTables item → ¬ IsBroken image item rule
  unbroken (items.Instruction g p) rule fine (its, instruction, at, e, breaks) =
      let within = slice_get_within image.functions g its at in keep.keep g (omega (arith, within, past)) (items.Instruction g p) rule refl (its, instruction, at, e, breaks)
  unbroken (items.Count g) rule fine (six, (its, at, none)) =
      let within = slice_get_within image.functions g its at in keep.keep g (omega (arith, within, past)) (items.Count g) rule refl (six, (its, at, none))
  unbroken (items.Region g p) rule fine (its, instruction, at, e, breaks) =
      let within = slice_get_within image.functions g its at in keep.keep g (omega (arith, within, past)) (items.Region g p) rule refl (its, instruction, at, e, breaks)
  unbroken (items.Dropper t) rule (inl fine) broken = fine (items.Dropper t) rule tt broken
  unbroken items.Main rule (inl fine) broken = fine items.Main rule tt broken
  unbroken items.Handler rule (inl fine) broken = fine items.Handler rule tt broken
  unbroken (items.Dropper t) rule (inr never) broken = never tt
  unbroken items.Main rule (inr never) broken = never tt
  unbroken items.Handler rule (inr never) broken = never tt

  pub tables_found : (found : Option (Item × Rule)) → IsFirstAmong image IsOfTables found → IsFirstIn image found
  tables_found None fine = (
    (λ item rule. unbroken item rule (inl fine)),
    (λ i function at. let within = slice_get_within image.functions i function at in keep.known i function (omega (arith, within, past)) at),
  )
  tables_found (Some found) (among, broken, before) = record { broken = broken; before = none_before } where
    none_before : (other : Item) (its : Rule) → IsBroken image other its → ¬ IsBefore (rank_of other its) (rank_of found.0 found.1)
    none_before (items.Instruction g p) its also less = unbroken (items.Instruction g p) its (inr (λ never. never)) also
    none_before (items.Count g) its also less = unbroken (items.Count g) its (inr (λ never. never)) also
    none_before (items.Region g p) its also less = unbroken (items.Region g p) its (inr (λ never. never)) also
    none_before (items.Dropper t) its also less = before (items.Dropper t) its tt also less
    none_before items.Main its also less = before items.Main its tt also less
    none_before items.Handler its also less = before items.Handler its tt also less
