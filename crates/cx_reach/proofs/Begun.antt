-- What is known once the start and the regions' targets are told of.
use Rattle.std.proofs.Common.{◌≡◌, ◌⊎◌, ℕ, ◌+◌, ◌*◌, ◌^◌, ◌<◌, ◌≤◌, ◌==◌, not, Bool, true, false, if◌then◌else◌, ℤ, pos, List, [], length, replicate, Some, slice_get, subst, refl, sym, ap, ◌∙◌, arith, inl, inr}
use Rattle.std.specs.Prelude.{sum_by}
use Rattle.std.specs.List.{Contains}
use Rattle.std.proofs.lemmas.Bool.{cases_lt}
use Rattle.std.proofs.lemmas.List.{get_or-replicate, length-replicate}
use Rattle.std.proofs.lemmas.List.Elements.{All-nil, All-same, All-weaker, All-replicate}
use Rattle.std.proofs.lemmas.List.Folds.{sum_by-replicate}
use Rattle.std.proofs.lemmas.Int.{ints}
use Rattle.std.proofs.lemmas.Option.{slice_get_within, get_or_from_slice_get}
use Rattle.cx_code.specs.declared.code.Region.{Region}
use Rattle.cx_code.specs.declared.image.Image.{Image}
use Rattle.cx_code.specs.declared.image.Function.{Function}
use Rattle.cx_code.specs.Reached.{Plain, Cleanup, origin_of}
use Rattle.cx_reach.specs.declared.arriving.Arrival.{Arrival}
use Rattle.cx_reach.specs.declared.arriving.Depths.TheVariants as depths
use Rattle.cx_reach.specs.Comes.{Comes, start, target}
use Rattle.cx_reach.specs.Joins.{IsSmall, target_arrival}
use Rattle.cx_reach.specs.Says.{Says, IsSound, AreSound, AreSmall, room_of, work, HaveGrown, HasJoined, HasTold, IsClosedAt, HasBegun, IsSearched, bound_of}
use Rattle.cx_reach.proofs.Joined.{small_more}
use Rattle.cx_reach.proofs.Grown.{same_found, found_too, grown_on}

-- ---- the targets of regions

target_sound : (image : Image) (function : Function) (place : ℕ) (depth : ℤ) (cleanup : Bool) → Comes image function (if cleanup then Cleanup else Plain) place depth
    → IsSound image function place (record { depths = depths.One depth; plain = not cleanup; cleanup = cleanup })
target_sound image function place depth true comes = record { depths = (Cleanup, comes); plain = λ never. absurd (cc); cleanup = λ is. (depth, comes) }
target_sound image function place depth false comes = record { depths = (Plain, comes); plain = λ is. (depth, comes); cleanup = λ never. absurd (cc) }

target_says : (depth : ℤ) (cleanup : Bool) → Says (record { depths = depths.One depth; plain = not cleanup; cleanup = cleanup }) (if cleanup then Cleanup else Plain) depth
target_says depth true = record { from = refl; many = refl }
target_says depth false = record { from = refl; many = refl }

module _ (regions : List Region) (count : ℕ) (region : Region) (arrival : Arrival) (is : arrival ≡ target_arrival region) (first second third : List Arrival) (ps qs rs : List ℕ) (stands : slice_get regions count ≡ Some region) (few : IsSmall (2 ^ 32) arrival.depths)
    (told : HasTold regions count first second ps qs) (joins : HasJoined (Some region.target) arrival second third qs rs) where
  more : HasJoined (Some region.target) (target_arrival region) second third qs rs
  more = subst (λ a. HasJoined (Some region.target) a second third qs rs) is joins

  said_more : (index : ℕ) (r : Region) (now : Arrival) → index < count + 1 → slice_get regions index ≡ Some r → slice_get third r.target ≡ Some now → Says now (origin_of r) (pos r.depth)
  said_more index r now within e here = elim (cases_lt index count) [
    | inl before ↦
        let was : (b : Arrival) × (slice_get second r.target ≡ Some b) = found_too third second r.target now (sym more.grew.same_length) here in
        more.grew.more r.target was.0 now was.1 here (origin_of r) (pos r.depth) (told.said index r was.0 before e was.1)
    | inr not_before ↦
        let last : index ≡ count = omega arith in
        let same : region ≡ r = same_found (slice_get regions count) region r stands (ap (slice_get regions) (sym last) ∙ e) in
        let at : Says now (origin_of region) (pos region.depth) =
        more.said region.target now refl (ap (λ (r : Region). slice_get third r.target) same ∙ here) (origin_of region) (pos region.depth) (target_says (pos region.depth) (region.kind == 1)) in
        subst (λ (r : Region). Says now (origin_of r) (pos r.depth)) same at
  ]

  sound_more : (image : Image) (function : Function) → function.regions ≡ regions → AreSound image function first → AreSound image function third
  sound_more image function same sound =
      more.sound image function
      (λ at e inside.
      let there : region.target ≡ at = cc in
      subst (λ p. IsSound image function p (target_arrival region)) there
      (target_sound image function region.target (pos region.depth) (region.kind == 1) (target count region (ap (λ l. slice_get l count) same ∙ stands))))
      (told.sound image function same sound)

  pub told_more : HasTold regions (count + 1) first third ps rs
  told_more = record {
    grew = grown_on first second third ps qs rs told.grew more.grew;
    said = said_more;
    sound = sound_more;
    small = λ small. joins.small (2 ^ 32) few (told.small small);
  }

-- ---- the start

abbrev blank : Arrival
blank = record { depths = depths.None; plain = false; cleanup = false }

abbrev started : Arrival
started = record { depths = depths.One (pos 0); plain = true; cleanup = false }

is_blank : (n place : ℕ) (a : Arrival) → slice_get (replicate n blank) place ≡ Some a → a ≡ blank
is_blank n place a e =
    let within : place < n = omega (arith, slice_get_within (replicate n blank) place a e, length-replicate n blank) in
    sym (get_or_from_slice_get (replicate n blank) place a a e) ∙ get_or-replicate n place blank a within

blank_sound : (image : Image) (function : Function) (place : ℕ) → IsSound image function place blank
blank_sound image function place = record { depths = tt; plain = λ never. absurd (cc); cleanup = λ never. absurd (cc) }

start_sound : (image : Image) (function : Function) → IsSound image function 0 started
start_sound image function = record { depths = (Plain, start); plain = λ is. (pos 0, start); cleanup = λ never. absurd (cc) }

module _ (function : Function) (first second third : List Arrival) (ps qs rs : List ℕ) (is_first : first ≡ replicate (length function.code) blank) (none : ps ≡ [])
    (begins : HasJoined (Some 0) started first second ps qs) (told : HasTold function.regions (length function.regions) second third qs rs) where
  grew : HaveGrown first third ps rs
  grew = grown_on first second third ps qs rs begins.grew told.grew

  first_is : (place : ℕ) (a : Arrival) → slice_get first place ≡ Some a → a ≡ blank
  first_is place a e = is_blank (length function.code) place a (subst (λ l. slice_get l place ≡ Some a) is_first e)

  length_first : length first ≡ length function.code
  length_first = ap length is_first ∙ length-replicate (length function.code) blank

  room_third : work third rs ≤ 4 * length third
  room_third = omega (arith, grew.room, grew.same_length, length_first, ap length none, ap (sum_by room_of) is_first ∙ sum_by-replicate room_of (length function.code) blank)

  begun_third : HasBegun function.regions third
  begun_third = record {
    start = λ now e.
        let was : (b : Arrival) × (slice_get second 0 ≡ Some b) = found_too third second 0 now (sym told.grew.same_length) e in
        told.grew.more 0 was.0 now was.1 e Plain (pos 0) (begins.said 0 was.0 refl was.1 Plain (pos 0) (record { from = refl; many = refl }));
    targets = λ index region now at here. told.said index region now (slice_get_within function.regions index region at) at here;
  }

  small_third : AreSmall (2 ^ 32) third
  small_third =
      told.small (begins.small (2 ^ 32) (omega (arith, ints), omega (arith, ints))
      (All-same (λ (a : Arrival). IsSmall (2 ^ 32) a.depths) first (replicate (length function.code) blank) is_first (All-replicate (λ (a : Arrival). IsSmall (2 ^ 32) a.depths) (length function.code) blank tt)))

  closed_third : (image : Image) (place : ℕ) → Contains rs place ⊎ IsClosedAt image function third place
  closed_third image place = elim (grew.marked place) [
    | inr marked ↦ inl marked
    | inl same ↦ inr (λ a now operation next found stands has follows here origin depth says.
        let is : a ≡ blank = first_is place a (sym same ∙ found) in
        absurd ((subst (λ (x : Arrival). Says x origin depth) is says).many))
  ]

  sound_third : (image : Image) → AreSound image function third
  sound_third image =
      told.sound image function refl
      (begins.sound image function (λ at e inside. let there : 0 ≡ at = cc in subst (λ p. IsSound image function p started) there (start_sound image function))
      (λ place a e. subst (IsSound image function place) (sym (first_is place a e)) (blank_sound image function place)))

  pub searched_first : (image : Image) → IsSearched image function third rs
  searched_first image = record {
    each_place = grew.same_length ∙ length_first;
    begun = begun_third;
    sound = sound_third image;
    closed = closed_third image;
    inside =
        All-weaker (λ p. p < length first) (λ p. p < length third) (λ p is. omega (arith, grew.same_length)) rs
        (grew.inside (All-same (λ p. p < length first) ps [] none (All-nil (λ p. p < length first))));
    room = room_third;
    small = All-weaker (λ (a : Arrival). IsSmall (2 ^ 32) a.depths) (λ (a : Arrival). IsSmall (bound_of third rs) a.depths)
        (λ a is. small_more (2 ^ 32) (bound_of third rs) (omega (arith, room_third)) a.depths is) third small_third;
  }
