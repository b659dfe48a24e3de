-- This defines how an exception is unwound through the regions of the frames, one move at a time; the tables are this project's own, and stand for [except.ctor] and [except.handle].
use Rattle.std.specs.Prelude.{ℕ, ◌+◌, ◌-◌, ◌==◌, ◌&&◌, ◌||◌, List, [], ◌∷◌, length, drop, Option, Some, None, Bool, nat_lt, nat_le, if◌then◌else◌, slice_get}
use Rattle.cx_code.specs.declared.code.Region.{Region}
use Rattle.cx_code.specs.declared.image.Image.{Image}
use Rattle.cx_code.specs.declared.image.Function.{Function}
use Rattle.cx_code.specs.declared.run.Value.{Value}
use Rattle.cx_code.specs.declared.run.Event.{Event}
use Rattle.cx_code.specs.declared.run.Event.TheVariants as events
use Rattle.cx_code.specs.declared.run.Verdict.TheVariants as verdicts
use Rattle.cx_code.specs.declared.run.Ending.TheVariants as endings
use Rattle.cx_code.specs.State.{State, Frame, Exception, Runs, Unwinds}
use Rattle.cx_code.specs.Act.{Step, Goes, Ends, moved}

-- a region covers its start, and not its end
abbrev pub covers : ℕ → Region → Bool
covers place region = nat_le region.start place && nat_lt place region.end

-- the regions behind the last one that was tried
abbrev pub first_left : Option ℕ → ℕ
first_left None = 0
first_left (Some after) = after + 1

-- the first of the regions that covers the place; the index is that of the first of them
abbrev pub first_covering : List Region → ℕ → ℕ → Option ℕ
first_covering [] index place = None
first_covering (region ∷ regions) index place = if covers place region then Some index else first_covering regions (index + 1) place

-- the next region that covers the place
abbrev pub next_region : List Region → ℕ → Option ℕ → Option ℕ
next_region regions place after = first_covering (drop (first_left after) regions) (first_left after) place

abbrev pub regions_of : Option Function → List Region
regions_of None = []
regions_of (Some function) = function.regions

-- the lowest operands, so many
abbrev pub cut : ℕ → List Value → List Value
cut depth operands = drop (length operands - depth) operands

abbrev pub landed : Region → Frame → Frame
landed region frame = moved frame region.target (cut region.depth frame.operands)

-- the exception waits while the code at the target runs
abbrev pub cleans : State → Exception → Region → Step
cleans s exception region =
    Goes (record s { frame = record (landed region s.frame) { pending = exception ∷ s.frame.pending }; control = Runs }) None

abbrev pub catches : State → Exception → Region → Event → Step
catches s exception region event =
    Goes (record s { frame = landed region s.frame; held = exception ∷ s.held; control = Runs }) (Some event)

abbrev pub is_caught : Exception → Region → Bool
is_caught exception region = (region.of == 0) || (region.of == exception.of + 1)

-- 1 Cleanup, 2 Catch, 3 Guard, 4 Barrier
abbrev pub tried : State → Exception → ℕ → Region → Step
tried s exception index region =
    if region.kind == 1 then cleans s exception region else
    if region.kind == 2 then (if is_caught exception region then catches s exception region (events.Catch exception.of) else Goes (record s { control = Unwinds exception (Some index) }) None) else
    if region.kind == 3 then catches s exception region (events.Verdict verdicts.Threw) else Ends endings.Terminated None

-- no region is left in the frame
abbrev pub gone : State → Exception → List Frame → Step
gone s exception [] = Ends endings.Terminated None
gone s exception (caller ∷ below) = Goes (record s { frame = caller; below = below; control = Unwinds exception None }) None

abbrev pub tried_at : State → Exception → ℕ → Option Region → Step
tried_at s exception index None = gone s exception s.below
tried_at s exception index (Some region) = tried s exception index region

abbrev pub moved_to : State → Exception → List Region → Option ℕ → Step
moved_to s exception regions None = gone s exception s.below
moved_to s exception regions (Some index) = tried_at s exception index (slice_get regions index)

-- one move: a region is tried, or the frame is left
unfoldable pub unwound : Image → State → Exception → Option ℕ → Step
unwound image s exception after =
    let regions : List Region = regions_of (slice_get image.functions s.frame.function) in
    moved_to s exception regions (next_region regions s.frame.place after)
