-- This defines at which items of an image a rule of a valid image is broken, for a check that names the first such item; it is this project's own.
use Rattle.std.specs.Prelude.{◌≡◌, ◌⊎◌, ℕ, ◌+◌, ◌<◌, ◌≤◌, ℤ, pos, ◌<ℤ◌, List, length, Some, IfSome, slice_get}
use Rattle.cx_code.specs.declared.code.Instruction.{Instruction}
use Rattle.cx_code.specs.declared.code.Region.{Region}
use Rattle.cx_code.specs.declared.image.Image.{Image}
use Rattle.cx_code.specs.declared.image.Function.{Function}
use Rattle.cx_code.specs.declared.image.TypeEntry.{TypeEntry}
use Rattle.cx_code.specs.declared.operation.Operation.{Operation}
use Rattle.cx_code.specs.declared.operation.Operation.TheVariants as does
use Rattle.cx_code.specs.Operation.{operation_of}
use Rattle.cx_code.specs.Reached.{Plain, Cleanup, operation_at, HasIndices, taken_count, Follows}
use Rattle.cx_code.specs.Rules.{IsInRange, HasType, HasPlaces, Overlaps, Encloses, PassesArguments, IsEntry, IsHookAt, IsValid}
use Rattle.cx_code.specs.Storable.{IsStorable}
use Rattle.cx_reach.specs.declared.arriving.Arrival.{Arrival}
use Rattle.cx_reach.specs.declared.item.Item.{Item}
use Rattle.cx_reach.specs.declared.item.Item.TheVariants as items
use Rattle.cx_reach.specs.declared.rule.Rule.{Rule}
use Rattle.cx_reach.specs.declared.rule.Rule.TheVariants as rules
use Rattle.cx_reach.specs.Comes.{ComesWith, ComesFrom, SeveralCome, AreArrivals}

-- ---- an instruction

-- two depths come to the place, or one that is below what its instruction takes or above 4,096
abbrev pub HasBadDepth : Image → Function → ℕ → Instruction → Type 0
HasBadDepth image function place instruction =
    SeveralCome image function place
    ⊎ (((depth : ℤ) × (operation : Operation) × ComesWith image function place depth × (operation_of instruction ≡ Some operation) × (depth <ℤ pos (taken_count function operation)))
    ⊎ ((depth : ℤ) × ComesWith image function place depth × (pos 4096 <ℤ depth)))

-- it is reached and can be followed by a place behind the code
abbrev pub RunsOff : Image → Function → ℕ → Instruction → Type 0
RunsOff image function place instruction =
    (depth : ℤ) × (operation : Operation) × (next : ℕ) × ComesWith image function place depth × (operation_of instruction ≡ Some operation) × HasIndices image operation
    × Follows operation place next × (length function.code ≤ next)

-- the place is reached from both, or `resume` stands where no Cleanup leads, or `return` where one does
abbrev pub HasBadOrigin : Image → Function → ℕ → Instruction → Type 0
HasBadOrigin image function place instruction =
    (ComesFrom image function Plain place × ComesFrom image function Cleanup place)
    ⊎ (((operation_of instruction ≡ Some does.Resume) × ¬ ComesFrom image function Cleanup place)
    ⊎ ((operation_of instruction ≡ Some does.Return) × ComesFrom image function Cleanup place))

abbrev pub BreaksAt : Image → Function → ℕ → Instruction → Rule → Type 0
BreaksAt image function place instruction rules.V1 = ¬ IsInRange image (operation_of instruction)
BreaksAt image function place instruction rules.V2 = ¬ HasPlaces function (operation_of instruction)
BreaksAt image function place instruction rules.V3 = HasBadDepth image function place instruction
BreaksAt image function place instruction rules.V4 = ⊥
BreaksAt image function place instruction rules.V5 = ¬ PassesArguments image (operation_of instruction)
BreaksAt image function place instruction rules.V6 = RunsOff image function place instruction ⊎ HasBadOrigin image function place instruction
BreaksAt image function place instruction rules.V7 = ⊥

-- ---- a region

-- fewer operands are left than the region keeps, at a place that it covers, after the instruction has taken its own
abbrev pub KeepsTooMuch : Image → Function → Region → Type 0
KeepsTooMuch image function region =
    (place : ℕ) × (depth : ℤ) × (operation : Operation) × (region.start ≤ place) × (place < region.end) × ComesWith image function place depth
    × (operation_at function.code place ≡ Some operation) × (depth <ℤ pos (region.depth + taken_count function operation))

-- an earlier region overlaps it and isn't within it
abbrev pub CutsAcross : List Region → ℕ → Region → Type 0
CutsAcross regions index region = (earlier : ℕ) × (other : Region) × (earlier < index) × (slice_get regions earlier ≡ Some other) × Overlaps other region × ¬ Encloses region other

abbrev pub IsBadRegion : Image → Function → ℕ → Region → Type 0
IsBadRegion image function index region =
    (region.end ≤ region.start)
    ⊎ ((length function.code < region.end)
    ⊎ (KeepsTooMuch image function region
    ⊎ (((region.start ≤ region.target) × (region.target < region.end))
    ⊎ CutsAcross function.regions index region)))

abbrev pub RegionBreaks : Image → Function → ℕ → Region → Rule → Type 0
RegionBreaks image function index region rules.V1 = ¬ HasType image region
RegionBreaks image function index region rules.V2 = length function.code ≤ region.target
RegionBreaks image function index region rules.V3 = ⊥
RegionBreaks image function index region rules.V4 = IsBadRegion image function index region
RegionBreaks image function index region rules.V5 = ⊥
RegionBreaks image function index region rules.V6 = ⊥
RegionBreaks image function index region rules.V7 = ⊥

-- ---- the tables

-- an instruction throws exceptions of the type, reached or not
abbrev pub IsThrown : Image → ℕ → Type 0
IsThrown image type =
    (index : ℕ) × (function : Function) × (place : ℕ) × (instruction : Instruction) × (slice_get image.functions index ≡ Some function)
    × (slice_get function.code place ≡ Some instruction) × (operation_of instruction ≡ Some (does.Throw type))

abbrev pub IsBadDropper : Image → ℕ → TypeEntry → Type 0
IsBadDropper image type entry = (¬ IsHookAt image entry.dropper) ⊎ ((entry.dropper ≡ 0) × IsThrown image type)

-- ---- an item

abbrev pub IsBroken : Image → Item → Rule → Type 0
IsBroken image (items.Instruction function place) rule =
    (its : Function) × (instruction : Instruction) × (slice_get image.functions function ≡ Some its) × (slice_get its.code place ≡ Some instruction) × BreaksAt image its place instruction rule
IsBroken image (items.Count function) rule = (rule ≡ rules.V6) × ((its : Function) × (slice_get image.functions function ≡ Some its) × (length its.code ≡ 0))
IsBroken image (items.Region function index) rule =
    (its : Function) × (region : Region) × (slice_get image.functions function ≡ Some its) × (slice_get its.regions index ≡ Some region) × RegionBreaks image its index region rule
IsBroken image (items.Dropper type) rule = (rule ≡ rules.V7) × ((entry : TypeEntry) × (slice_get image.types type ≡ Some entry) × IsBadDropper image type entry)
IsBroken image items.Main rule = (rule ≡ rules.V7) × ¬ IfSome (slice_get image.functions image.main) IsEntry
IsBroken image items.Handler rule = (rule ≡ rules.V7) × ¬ IsHookAt image image.handler

abbrev pub NothingIsBroken : Image → Type 0
NothingIsBroken image = (item : Item) (rule : Rule) → ¬ IsBroken image item rule

-- it is known of each function how its places are reached
abbrev pub AreKnown : Image → Type 0
AreKnown image = (index : ℕ) (function : Function) → slice_get image.functions index ≡ Some function → (arrivals : List Arrival) × AreArrivals image function arrivals

abbrev pub ValidWhereNothingIsBroken : Type 0
ValidWhereNothingIsBroken = (image : Image) → IsStorable image → AreKnown image → NothingIsBroken image → IsValid image

abbrev pub NothingIsBrokenInValid : Type 0
NothingIsBrokenInValid = (image : Image) → IsValid image → NothingIsBroken image
