-- This defines the first of the rules that are broken at an item, and the first instruction and the first region of a function that break one; it is this project's own.
use Rattle.std.specs.Prelude.{◌≡◌, ℕ, ◌<◌, ◌≤◌, Option, Some, None, slice_get}
use Rattle.cx_code.specs.declared.code.Instruction.{Instruction}
use Rattle.cx_code.specs.declared.code.Region.{Region}
use Rattle.cx_code.specs.declared.image.Image.{Image}
use Rattle.cx_code.specs.declared.image.Function.{Function}
use Rattle.cx_reach.specs.declared.rule.Rule.{Rule}
use Rattle.cx_reach.specs.Broken.{BreaksAt, RegionBreaks}
use Rattle.cx_reach.specs.Order.{number_of}

-- the rule is broken, and none with a lower number; or none is
abbrev pub IsFirstOf : (Rule → Type 0) → Option Rule → Type 0
IsFirstOf breaks None = (rule : Rule) → ¬ breaks rule
IsFirstOf breaks (Some rule) = breaks rule × ((other : Rule) → breaks other → number_of rule ≤ number_of other)

-- the first rule that the instruction at a place breaks, if it breaks one
abbrev pub IsFirstAtPlace : Image → Function → ℕ → Option Rule → Type 0
IsFirstAtPlace image function place found = (instruction : Instruction) × (slice_get function.code place ≡ Some instruction) × IsFirstOf (BreaksAt image function place instruction) found

-- no instruction before the place breaks a rule
abbrev pub KeepBefore : Image → Function → ℕ → Type 0
KeepBefore image function place = (earlier : ℕ) (instruction : Instruction) (rule : Rule) → earlier < place → slice_get function.code earlier ≡ Some instruction
    → ¬ BreaksAt image function earlier instruction rule

-- the first place whose instruction breaks a rule, and the first such rule; or none does
abbrev pub IsFirstInCode : Image → Function → Option (ℕ × Rule) → Type 0
IsFirstInCode image function None = (place : ℕ) (instruction : Instruction) (rule : Rule) → slice_get function.code place ≡ Some instruction → ¬ BreaksAt image function place instruction rule
IsFirstInCode image function (Some found) = IsFirstAtPlace image function found.0 (Some found.1) × KeepBefore image function found.0

-- ---- regions

-- the first rule that a region breaks, if it breaks one
abbrev pub IsFirstAtRegion : Image → Function → ℕ → Option Rule → Type 0
IsFirstAtRegion image function index found = (region : Region) × (slice_get function.regions index ≡ Some region) × IsFirstOf (RegionBreaks image function index region) found

-- no region before the index breaks a rule
abbrev pub RegionsKeepBefore : Image → Function → ℕ → Type 0
RegionsKeepBefore image function index = (earlier : ℕ) (region : Region) (rule : Rule) → earlier < index → slice_get function.regions earlier ≡ Some region
    → ¬ RegionBreaks image function earlier region rule

-- the first region that breaks a rule, and the first such rule; or none does
abbrev pub IsFirstInRegions : Image → Function → Option (ℕ × Rule) → Type 0
IsFirstInRegions image function None = (index : ℕ) (region : Region) (rule : Rule) → slice_get function.regions index ≡ Some region → ¬ RegionBreaks image function index region rule
IsFirstInRegions image function (Some found) = IsFirstAtRegion image function found.0 (Some found.1) × RegionsKeepBefore image function found.0
