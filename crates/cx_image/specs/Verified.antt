-- Which fault an image that isn't accepted has: the rule that is broken first, where its item stands in the file; this project's own.
use Rattle.std.specs.Prelude.{◌≡◌, ℕ, ◌+◌}
use Rattle.cx_code.specs.declared.image.Image.{Image}
use Rattle.cx_reach.specs.declared.item.Item.{Item}
use Rattle.cx_reach.specs.declared.rule.Rule.{Rule}
use Rattle.cx_reach.specs.Order.{IsFirstBroken, number_of}
use Rattle.cx_image.specs.declared.validity.BrokenRule.{BrokenRule}
use Rattle.cx_image.specs.Places.{place_of}

pub record IsFirstFault (image : Image) (fault : BrokenRule) : Type 0 where
  pub item : Item
  pub first : IsFirstBroken image item fault.rule
  pub place : fault.at ≡ place_of image item

-- the number of the reason in the file formats
abbrev pub reason_of : Rule → ℕ
reason_of rule = 10 + number_of rule
