-- What a move of an exception comes to.
use Rattle.std.proofs.Common.{◌≡◌, ◌≢◌, ℕ, ◌-◌, ◌<◌, ◌≤◌, ◌==◌, List, [], ◌∷◌, length, Option, Some, None, Bool, true, false, if◌then◌else◌, slice_get, subst, refl, sym, arith}
use Rattle.std.specs.List.{All}
use Rattle.std.proofs.lemmas.List.{length-drop}
use Rattle.std.proofs.lemmas.Bool.Decides.{nat_tests}
use Rattle.std.proofs.lemmas.List.Elements.{All-cons, All-head, All-tail}
use Rattle.cx_code.specs.declared.code.Region.{Region}
use Rattle.cx_code.specs.declared.image.Image.{Image}
use Rattle.cx_code.specs.declared.run.Value.{Value}
use Rattle.cx_code.specs.declared.run.Event.TheVariants as events
use Rattle.cx_code.specs.declared.run.Verdict.TheVariants as verdicts
use Rattle.cx_code.specs.declared.run.Ending.TheVariants as endings
use Rattle.cx_code.specs.State.{State, Frame, Exception, Runs, Unwinds}
use Rattle.cx_code.specs.Act.{Step, Goes, Ends}
use Rattle.cx_code.specs.Reached.{Origin, Plain, Cleanup, origin_of, IsReached, target}
use Rattle.cx_code.specs.Rules.{IsValid, IsRegionOf}
use Rattle.cx_code.specs.Unwind.{covers, first_left, next_region, cut, landed, cleans, catches, is_caught, tried, gone, tried_at, moved_to, unwound}
use Rattle.cx_sound.specs.Sound.{IsReady, HasTaken, IsStack, IsThrown, ArePending, GoesBy, IsSound}
use Rattle.cx_sound.specs.Laws.{HasRegions, EachMoveHasItsRegions}
use Rattle.cx_sound.proofs.Places.{at_index, function_valid, is_within}
use Rattle.cx_sound.proofs.Steps.{EachGoes, each_branch}
use Rattle.cx_unwind.proofs.Covering.{found_from}

covered_start : (place : ℕ) (region : Region) → covers place region ≡ true → region.start ≤ place
covered_start place region covered = grind (arith, nat_tests)

covered_end : (place : ℕ) (region : Region) → covers place region ≡ true → place < region.end
covered_end place region covered = grind (arith, nat_tests)

length_cut : (depth : ℕ) (operands : List Value) → depth ≤ length operands → length (cut depth operands) ≡ depth
length_cut depth operands fits = omega (arith, length-drop (length operands - depth) operands)

-- the operands that a region keeps are there
pub keeps_enough : (image : Image) (frame : Frame) (taken : HasTaken image frame) (index : ℕ) (region : Region) → IsValid image → slice_get taken.function.regions index ≡ Some region
    → covers frame.place region ≡ true → region.depth ≤ length frame.operands
keeps_enough image frame taken index region valid is covered =
    let ruled = function_valid image frame.function taken.function valid taken.stands.its_function in
    let of = at_index (IsRegionOf image taken.function) taken.function.regions index region ruled.each_region is in
    omega (arith, of.depth taken.origin frame.place _ taken.operation (covered_start frame.place region covered) (covered_end frame.place region covered) taken.stands.is_reached taken.now)

lands : (image : Image) (frame : Frame) (taken : HasTaken image frame) (index : ℕ) (region : Region) (pending : List Exception) → IsValid image → slice_get taken.function.regions index ≡ Some region
    → covers frame.place region ≡ true → (origin_of region ≡ Cleanup → pending ≢ []) → IsReady image (record (landed region frame) { pending = pending })
lands image frame taken index region pending valid is covered waits = record {
  function = taken.function;
  origin = origin_of region;
  stands = record {
    its_function = taken.stands.its_function;
    is_reached = subst (λ depth. IsReached image taken.function (origin_of region) region.target depth)
        (sym (length_cut region.depth frame.operands (keeps_enough image frame taken index region valid is covered))) (target index region is);
    its_slots = taken.stands.its_slots;
  };
  pending = waits;
}

not_cleanup : (b : Bool) → b ≡ false → ◌≡◌ {A = Origin} (if b then Cleanup else Plain) Cleanup → ⊥
not_cleanup true is e = cc
not_cleanup false is e = cc

not_empty : (exception : Exception) (pending : List Exception) → exception ∷ pending ≢ []
not_empty exception pending e = cc

module _ {image : Image} (valid : IsValid image) (s : State) (exception : Exception) (sound : IsSound image s) (taken : HasTaken image s.frame) (is_thrown : IsThrown image s.thrown exception) where
  pending_here : All (IsThrown image s.thrown) s.frame.pending
  pending_here = All-head (ArePending image s.thrown) s.frame s.below sound.pending

  pending_below : All (ArePending image s.thrown) s.below
  pending_below = All-tail (ArePending image s.thrown) s.frame s.below sound.pending

  is_clean : (index : ℕ) (region : Region) → slice_get taken.function.regions index ≡ Some region → covers s.frame.place region ≡ true
      → IsSound image (record s { frame = record (landed region s.frame) { pending = exception ∷ s.frame.pending }; control = Runs })
  is_clean index region is covered = record {
    last = lands image s.frame taken index region (exception ∷ s.frame.pending) valid is covered (λ e. not_empty exception s.frame.pending);
    below = sound.below;
    held = sound.held;
    pending = All-cons (ArePending image s.thrown) (record (landed region s.frame) { pending = exception ∷ s.frame.pending }) s.below
        (All-cons (IsThrown image s.thrown) exception s.frame.pending is_thrown pending_here) pending_below;
    violations = sound.violations;
  }

  is_caught_there : (index : ℕ) (region : Region) → slice_get taken.function.regions index ≡ Some region → covers s.frame.place region ≡ true → (region.kind == 1) ≡ false
      → IsSound image (record s { frame = landed region s.frame; held = exception ∷ s.held; control = Runs })
  is_caught_there index region is covered kind = record {
    last = lands image s.frame taken index region s.frame.pending valid is covered (λ e. absurd (not_cleanup (region.kind == 1) kind e));
    below = sound.below;
    held = All-cons (IsThrown image s.thrown) exception s.held is_thrown sound.held;
    pending = All-cons (ArePending image s.thrown) (landed region s.frame) s.below pending_here pending_below;
    violations = sound.violations;
  }

  -- the next region is asked
  is_passed : (index : ℕ) → IsSound image (record s { control = Unwinds exception (Some index) })
  is_passed index = record { last = (taken, is_thrown); below = sound.below; held = sound.held; pending = sound.pending; violations = sound.violations }

  tried_goes : (index : ℕ) (region : Region) → slice_get taken.function.regions index ≡ Some region → covers s.frame.place region ≡ true → EachGoes (IsSound image) (tried s exception index region)
  tried_goes index region is covered =
      let passed : Step = Goes (record s { control = Unwinds exception (Some index) }) None in
      let caught : Step = catches s exception region (events.Catch exception.of) in
      let guarded : Step = catches s exception region (events.Verdict verdicts.Threw) in
      let barred : Step = Ends endings.Terminated None in
      each_branch (IsSound image) (region.kind == 1) (cleans s exception region) (if region.kind == 2 then (if is_caught exception region then caught else passed) else (if region.kind == 3 then guarded else barred))
      (λ cleanup. is_clean index region is covered)
      (λ kind. each_branch (IsSound image) (region.kind == 2) (if is_caught exception region then caught else passed) (if region.kind == 3 then guarded else barred)
      (λ catch. each_branch (IsSound image) (is_caught exception region) caught passed (λ its. is_caught_there index region is covered kind) (λ other. is_passed index))
      (λ more. each_branch (IsSound image) (region.kind == 3) guarded barred (λ guard. is_caught_there index region is covered kind) (λ barrier. tt)))

  -- ---- the frame is left

  gone_goes : (below : List Frame) → IsStack image s.frame.function below → All (ArePending image s.thrown) below → EachGoes (IsSound image) (gone s exception below)
  gone_goes [] stack pending = tt
  gone_goes (caller ∷ below) (waiting, stack) pending = record { last = (waiting.taken, is_thrown); below = stack; held = sound.held; pending = pending; violations = sound.violations }

  tried_at_goes : (index : ℕ) (region : Option Region) → slice_get taken.function.regions index ≡ region → ((r : Region) → region ≡ Some r → covers s.frame.place r ≡ true)
      → EachGoes (IsSound image) (tried_at s exception index region)
  tried_at_goes index None is covered = gone_goes s.below sound.below pending_below
  tried_at_goes index (Some region) is covered = tried_goes index region is (covered region refl)

  moved_to_goes : (after found : Option ℕ) → next_region taken.function.regions s.frame.place after ≡ found → EachGoes (IsSound image) (moved_to s exception taken.function.regions found)
  moved_to_goes after None is = gone_goes s.below sound.below pending_below
  moved_to_goes after (Some index) is =
      let f = found_from taken.function.regions (first_left after) s.frame.place index is in
      tried_at_goes index (slice_get taken.function.regions index) refl (λ r e.
      let same : f.region ≡ r = cc (f.at, e) in
      subst (λ (r : Region). covers s.frame.place r ≡ true) same f.covers)

  pub unwound_goes : (after : Option ℕ) → EachGoes (IsSound image) (unwound image s exception after)
  unfolding unwound
  unwound_goes after = rw taken.stands.its_function (moved_to_goes after (next_region taken.function.regions s.frame.place after) refl)

-- ---- what a move needs

has_regions : (image : Image) (s : State) → IsValid image → HasTaken image s.frame → HasRegions image s
has_regions image s valid taken =
    let ruled = function_valid image s.frame.function taken.function valid taken.stands.its_function in
    record {
      function = taken.function;
      its_function = taken.stands.its_function;
      place = is_within ruled taken.stands.is_reached;
      slots = taken.stands.its_slots;
      depth = λ index region is covered. keeps_enough image s.frame taken index region valid is covered;
      target = λ index region is. at_index (λ (r : Region). r.target < length taken.function.code) taken.function.regions index region ruled.has_targets is;
    }

pub each_move_has_its_regions : EachMoveHasItsRegions
each_move_has_its_regions image s exception after valid sound unwinds =
    let (taken, is_thrown) = subst (GoesBy image s) unwinds sound.last in
    (has_regions image s valid taken, is_thrown)
