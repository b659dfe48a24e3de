-- The first broken rule among the items of the tables.
use Rattle.std.proofs.Common.{◌≡◌, ℕ, ◌<◌, ◌≤◌, List, [], ◌∷◌, Some, None, IfSome, slice_get, refl, ap, arith, inl, inr}
use Rattle.cx_code.specs.declared.image.Image.{Image}
use Rattle.cx_code.specs.Rules.{IsEntry, IsHookAt}
use Rattle.cx_reach.specs.declared.item.Item.{Item}
use Rattle.cx_reach.specs.declared.item.Item.TheVariants as items
use Rattle.cx_reach.specs.declared.rule.Rule.{Rule}
use Rattle.cx_reach.specs.declared.rule.Rule.TheVariants as rules
use Rattle.cx_reach.specs.Broken.{IsBroken}
use Rattle.cx_reach.specs.Order.{number_of, rank_of, IsBefore}
use Rattle.cx_rules.specs.Parts.{IsOfTables, IsFirstAmong}
use Rattle.cx_rules.specs.Tables.{IsUnfit, IsLost, BreaksDropper}
use Rattle.cx_rules.proofs.Lowest.{IsEither}

pub same_head : (x y : ℕ) (xs ys : List ℕ) → x ≡ y → IsBefore (x ∷ xs) (y ∷ ys) → IsBefore xs ys
same_head x y xs ys same (inl less) = absurd (omega (arith, less, same))
same_head x y xs ys same (inr (equal, rest)) = rest

pub later_head : (x y : ℕ) (xs ys : List ℕ) → y < x → ¬ IsBefore (x ∷ xs) (y ∷ ys)
later_head x y xs ys later (inl less) = omega (arith, less, later)
later_head x y xs ys later (inr (equal, rest)) = omega (arith, equal, later)

-- of two items of the tables
inner : (a b : List ℕ) → IsBefore (1 ∷ 0 ∷ a) (1 ∷ 0 ∷ b) → IsBefore a b
inner a b before = same_head 0 0 a b refl (same_head 1 1 (0 ∷ a) (0 ∷ b) refl before)

at_number : (t of : ℕ) (its : Rule) → its ≡ rules.V7 → of ≤ t → ¬ IsBefore (t ∷ number_of its ∷ []) (of ∷ 7 ∷ [])
at_number t of its seven low (inl less) = omega (arith, less, low)
at_number t of its seven low (inr (same, inl less)) = let is : number_of its ≡ 7 = ap number_of seven in omega (arith, is, less)
at_number t of its seven low (inr (same, inr (equal, never))) = never

module _ (image : Image) where
  before_dropper : (of : ℕ) → ((m : ℕ) → BreaksDropper image m → of ≤ m) → (other : Item) (its : Rule) → IsOfTables other → IsBroken image other its → ¬ IsBefore (rank_of other its) (1 ∷ 0 ∷ 0 ∷ of ∷ 7 ∷ [])
  before_dropper of low (items.Dropper t) its among (seven, broken) less =
      at_number t of its seven (low t broken) (same_head 0 0 (t ∷ number_of its ∷ []) (of ∷ 7 ∷ []) refl (inner (0 ∷ t ∷ number_of its ∷ []) (0 ∷ of ∷ 7 ∷ []) less))
  before_dropper of low items.Main its among broken less = later_head 1 0 (0 ∷ number_of its ∷ []) (of ∷ 7 ∷ []) (omega arith) (inner (1 ∷ 0 ∷ number_of its ∷ []) (0 ∷ of ∷ 7 ∷ []) less)
  before_dropper of low items.Handler its among broken less = later_head 2 0 (0 ∷ number_of its ∷ []) (of ∷ 7 ∷ []) (omega arith) (inner (2 ∷ 0 ∷ number_of its ∷ []) (0 ∷ of ∷ 7 ∷ []) less)
  before_dropper of low (items.Instruction f p) its among broken less = among
  before_dropper of low (items.Count f) its among broken less = among
  before_dropper of low (items.Region f p) its among broken less = among

  pub dropper_first : (of : ℕ) → BreaksDropper image of → ((m : ℕ) → BreaksDropper image m → of ≤ m) → IsFirstAmong image IsOfTables (Some (items.Dropper of, rules.V7))
  dropper_first of breaks low = (tt, (refl, breaks), before_dropper of low)

  module _ (fine : (m : ℕ) → ¬ BreaksDropper image m) where
    before_main : (other : Item) (its : Rule) → IsOfTables other → IsBroken image other its → ¬ IsBefore (rank_of other its) (1 ∷ 0 ∷ 1 ∷ 0 ∷ 7 ∷ [])
    before_main (items.Dropper t) its among (seven, broken) less = fine t broken
    before_main items.Main its among (seven, broken) less = at_number 0 0 its seven (omega arith) (same_head 1 1 (0 ∷ number_of its ∷ []) (0 ∷ 7 ∷ []) refl (inner (1 ∷ 0 ∷ number_of its ∷ []) (1 ∷ 0 ∷ 7 ∷ []) less))
    before_main items.Handler its among broken less = later_head 2 1 (0 ∷ number_of its ∷ []) (0 ∷ 7 ∷ []) (omega arith) (inner (2 ∷ 0 ∷ number_of its ∷ []) (1 ∷ 0 ∷ 7 ∷ []) less)
    before_main (items.Instruction f p) its among broken less = among
    before_main (items.Count f) its among broken less = among
    before_main (items.Region f p) its among broken less = among

    pub main_first : ¬ IfSome (slice_get image.functions image.main) IsEntry → IsFirstAmong image IsOfTables (Some (items.Main, rules.V7))
    main_first broken = (tt, (refl, broken), before_main)

    module _ (entry : IfSome (slice_get image.functions image.main) IsEntry) where
      before_handler : (other : Item) (its : Rule) → IsOfTables other → IsBroken image other its → ¬ IsBefore (rank_of other its) (1 ∷ 0 ∷ 2 ∷ 0 ∷ 7 ∷ [])
      before_handler (items.Dropper t) its among (seven, broken) less = fine t broken
      before_handler items.Main its among (seven, broken) less = broken entry
      before_handler items.Handler its among (seven, broken) less = at_number 0 0 its seven (omega arith) (same_head 2 2 (0 ∷ number_of its ∷ []) (0 ∷ 7 ∷ []) refl (inner (2 ∷ 0 ∷ number_of its ∷ []) (2 ∷ 0 ∷ 7 ∷ []) less))
      before_handler (items.Instruction f p) its among broken less = among
      before_handler (items.Count f) its among broken less = among
      before_handler (items.Region f p) its among broken less = among

      pub handler_first : ¬ IsHookAt image image.handler → IsFirstAmong image IsOfTables (Some (items.Handler, rules.V7))
      handler_first broken = (tt, (refl, broken), before_handler)

      pub none_first : IsHookAt image image.handler → IsFirstAmong image IsOfTables None
      none_first hook (items.Dropper t) its among (seven, broken) = fine t broken
      none_first hook items.Main its among (seven, broken) = broken entry
      none_first hook items.Handler its among (seven, broken) = broken hook
      none_first hook (items.Instruction f p) its among broken = among
      none_first hook (items.Count f) its among broken = among
      none_first hook (items.Region f p) its among broken = among

  pub unfit_or_lost : IsEither (IsUnfit image) (IsLost image) (BreaksDropper image)
  unfit_or_lost = record {
    left = λ n (entry, e, unfit). (entry, e, inl unfit);
    right = λ n ((entry, e, zero), thrown). (entry, e, inr (zero, thrown));
    either = λ n (entry, e, bad). elim bad [ inl unfit ↦ inl (entry, e, unfit) | inr (zero, thrown) ↦ inr ((entry, e, zero), thrown) ];
  }
