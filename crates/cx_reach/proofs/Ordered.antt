-- There is one first broken rule at most.
use Rattle.std.proofs.Common.{◌≡◌, ℕ, ◌==◌, if◌then◌else◌, List, [], ◌∷◌, length, refl, sym, ap, ◌∙◌, arith, inl, inr}
use Rattle.std.proofs.lemmas.Bool.{cases_order}
use Rattle.cx_reach.specs.declared.item.Item.{Item}
use Rattle.cx_reach.specs.declared.item.Item.TheVariants as items
use Rattle.cx_reach.specs.declared.rule.Rule.{Rule}
use Rattle.cx_reach.specs.declared.rule.Rule.TheVariants as rules
use Rattle.cx_reach.specs.Order.{number_of, rank_of, IsBefore, OneIsFirst}

-- two lists of one length of which neither is before the other are equal
neither : (xs ys : List ℕ) → length xs ≡ length ys → ¬ IsBefore xs ys → ¬ IsBefore ys xs → xs ≡ ys
neither [] [] same left right = refl
neither [] (y ∷ ys) same left right = absurd (omega (arith, same))
neither (x ∷ xs) [] same left right = absurd (omega (arith, same))
neither (x ∷ xs) (y ∷ ys) same left right = elim (cases_order x y) [
  | inr (inl less) ↦ absurd (left (inl less))
  | inr (inr more) ↦ absurd (right (inl more))
  | inl equal ↦
      let rest : xs ≡ ys = neither xs ys (omega (arith, same)) (λ before. left (inr (equal, before))) (λ before. right (inr (sym equal, before))) in
      rw (equal, rest) refl
]

-- the item and the rule of a rank
item_of : List ℕ → Item
item_of (part ∷ function ∷ kind ∷ place ∷ rest) =
    if part == 0
    then (if kind == 0 then items.Instruction function place else if kind == 1 then items.Count function else items.Region function place)
    else (if kind == 0 then items.Dropper place else if kind == 1 then items.Main else items.Handler)
item_of rank = items.Main

numbered : ℕ → Rule
numbered n = if n == 1 then rules.V1 else if n == 2 then rules.V2 else if n == 3 then rules.V3 else if n == 4 then rules.V4 else if n == 5 then rules.V5 else if n == 6 then rules.V6 else rules.V7

rule_of : List ℕ → Rule
rule_of (part ∷ function ∷ kind ∷ place ∷ number ∷ rest) = numbered number
rule_of rank = rules.V7

same_item : (item : Item) (rule : Rule) → item_of (rank_of item rule) ≡ item
unfolding item_of
same_item (items.Instruction function place) rule = refl
same_item (items.Count function) rule = refl
same_item (items.Region function index) rule = refl
same_item (items.Dropper type) rule = refl
same_item items.Main rule = refl
same_item items.Handler rule = refl

same_number : (rule : Rule) → numbered (number_of rule) ≡ rule
unfolding numbered
same_number rules.V1 = refl
same_number rules.V2 = refl
same_number rules.V3 = refl
same_number rules.V4 = refl
same_number rules.V5 = refl
same_number rules.V6 = refl
same_number rules.V7 = refl

same_rule : (item : Item) (rule : Rule) → rule_of (rank_of item rule) ≡ rule
unfolding rule_of
same_rule (items.Instruction function place) rule = same_number rule
same_rule (items.Count function) rule = same_number rule
same_rule (items.Region function index) rule = same_number rule
same_rule (items.Dropper type) rule = same_number rule
same_rule items.Main rule = same_number rule
same_rule items.Handler rule = same_number rule

five : (item : Item) (rule : Rule) → length (rank_of item rule) ≡ 5
five (items.Instruction function place) rule = refl
five (items.Count function) rule = refl
five (items.Region function index) rule = refl
five (items.Dropper type) rule = refl
five items.Main rule = refl
five items.Handler rule = refl

pub one_is_first : OneIsFirst
one_is_first image one other rule its first second =
    let same : rank_of one rule ≡ rank_of other its =
    neither (rank_of one rule) (rank_of other its) (five one rule ∙ sym (five other its)) (second.before one rule first.broken) (first.before other its second.broken) in
    (sym (same_item one rule) ∙ ap item_of same ∙ same_item other its, sym (same_rule one rule) ∙ ap rule_of same ∙ same_rule other its)
