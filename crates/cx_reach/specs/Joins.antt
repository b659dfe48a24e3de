-- This defines what two arrivals say together, and what one says behind an instruction; it is this project's own.
use Rattle.std.specs.Prelude.{◌≡◌, ◌≢◌, ◌⊎◌, ◌==◌, ◌||◌, not, ℕ, pos, neg_ℤ, ◌+ℤ◌, ◌-ℤ◌, ◌≤ℤ◌}
use Rattle.cx_code.specs.declared.code.Region.{Region}
use Rattle.cx_reach.specs.declared.arriving.Arrival.{Arrival}
use Rattle.cx_reach.specs.declared.arriving.Depths.{Depths}
use Rattle.cx_reach.specs.declared.arriving.Depths.TheVariants as depths

-- the third says what the first two say
abbrev pub JoinsDepths : Depths → Depths → Depths → Type 0
JoinsDepths depths.None b both = both ≡ b
JoinsDepths (depths.One a) depths.None both = both ≡ depths.One a
JoinsDepths (depths.One a) (depths.One b) both = ((a ≡ b) × (both ≡ depths.One a)) ⊎ ((a ≢ b) × (both ≡ depths.Several))
JoinsDepths (depths.One a) depths.Several both = both ≡ depths.Several
JoinsDepths depths.Several b both = both ≡ depths.Several

pub record IsJoin (a b both : Arrival) : Type 0 where
  pub depths : JoinsDepths a.depths b.depths both.depths
  pub plain : both.plain ≡ (a.plain || b.plain)
  pub cleanup : both.cleanup ≡ (a.cleanup || b.cleanup)

-- the depths behind an instruction that takes so many operands and gives so many
abbrev pub moved : Depths → ℕ → ℕ → Depths
moved depths.None taken given = depths.None
moved (depths.One depth) taken given = depths.One ((depth -ℤ pos taken) +ℤ pos given)
moved depths.Several taken given = depths.Several

-- a depth is between the negative of a bound and the bound
abbrev pub IsSmall : ℕ → Depths → Type 0
IsSmall bound depths.None = Unit {0}
IsSmall bound (depths.One depth) = (neg_ℤ (pos bound) ≤ℤ depth) × (depth ≤ℤ pos bound)
IsSmall bound depths.Several = Unit {0}

-- how a region's target is reached
abbrev pub target_arrival : Region → Arrival
target_arrival region = record { depths = depths.One (pos region.depth); plain = not (region.kind == 1); cleanup = region.kind == 1 }
