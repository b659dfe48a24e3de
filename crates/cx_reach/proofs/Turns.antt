-- What one turn of the search keeps, and what is known when nothing is pending.
use Rattle.std.proofs.Common.{◌≡◌, ◌⊎◌, ℕ, ◌+◌, ◌^◌, ◌<◌, ◌≤◌, ℤ, pos, List, [], ◌∷◌, ◌++◌, length, Some, slice_get, subst, sym, ap, ◌∙◌, arith, inl, inr, length-append}
use Rattle.std.specs.List.{All, Contains}
use Rattle.std.proofs.lemmas.List.Elements.{All-weaker, All-pop, Contains-push_cases}
use Rattle.std.proofs.lemmas.Option.{slice_get_within, slice_get_cases, option_and_then_some}
use Rattle.cx_code.specs.declared.image.Image.{Image}
use Rattle.cx_code.specs.declared.image.Function.{Function}
use Rattle.cx_code.specs.declared.operation.Operation.{Operation}
use Rattle.cx_code.specs.Operation.{operation_of}
use Rattle.cx_code.specs.Reached.{Origin, Plain, Cleanup, origin_of, operation_at, HasIndices, taken_count, given_count, Follows}
use Rattle.cx_reach.specs.declared.arriving.Arrival.{Arrival}
use Rattle.cx_reach.specs.declared.arriving.Depths.{Depths}
use Rattle.cx_reach.specs.declared.arriving.Depths.TheVariants as depths
use Rattle.cx_reach.specs.declared.effect.Effect.{Effect}
use Rattle.cx_reach.specs.Comes.{Comes, start, target, onwards, ComesWith, left_behind, AreDepths, IsArrival, AreArrivals}
use Rattle.cx_reach.specs.Effects.{IsEffect, IsEffectAt}
use Rattle.cx_reach.specs.Joins.{IsSmall, moved}
use Rattle.cx_reach.specs.Says.{SaysDepth, Says, IsWithin, DepthsCome, IsSound, AreSound, AreSmall, work, HasJoined, HasLooked, IsClosedAt, HasBegun, IsSearched, bound_of}
use Rattle.cx_reach.proofs.Joined.{small_more, small_moved, says_moved, moved_come}
use Rattle.cx_reach.proofs.Grown.{same_found, found_too, at_all, grown_on}

-- ---- a place is looked at

-- what an instruction hands on of an arrival
abbrev handed_on : Image → Function → Operation → Arrival → Arrival
handed_on image function operation arrival = record arrival { depths = moved arrival.depths (taken_count function operation) (given_count image operation) }

module _ (image : Image) (function : Function) (place : ℕ) (operation : Operation) (stands : operation_at function.code place ≡ Some operation) (has : HasIndices image operation) where
  sound_on : (next : ℕ) (arrival : Arrival) → Follows operation place next → next < length function.code → IsSound image function place arrival → IsSound image function next (handed_on image function operation arrival)
  sound_on next arrival follows inside sound = record {
    depths = moved_come image function place next (taken_count function operation) (given_count image operation)
        (λ depth (origin, comes). (origin, onwards origin place depth operation next comes stands has follows inside)) arrival.depths sound.depths;
    plain = λ is. let (depth, comes) = sound.plain is in (left_behind image function operation depth, onwards Plain place depth operation next comes stands has follows inside);
    cleanup = λ is. let (depth, comes) = sound.cleanup is in (left_behind image function operation depth, onwards Cleanup place depth operation next comes stands has follows inside);
  }

  says_on : (arrival : Arrival) (origin : Origin) (depth : ℤ) → Says arrival origin depth → Says (handed_on image function operation arrival) origin (left_behind image function operation depth)
  says_on arrival Plain depth says = record { from = says.from; many = says_moved (taken_count function operation) (given_count image operation) arrival.depths depth says.many }
  says_on arrival Cleanup depth says = record { from = says.from; many = says_moved (taken_count function operation) (given_count image operation) arrival.depths depth says.many }

module _ (image : Image) (function : Function) (place : ℕ) (effect : Effect) (known arrival : Arrival) (first second third : List Arrival) (ps qs rs : List ℕ)
    (few : effect.taken < 2 ^ 32) (less : effect.given < 2 ^ 32)
    (found : slice_get first place ≡ Some known) (each : length first ≡ length function.code)
    (behind : HasJoined effect.nexts.behind arrival first second ps qs) (jump : HasJoined effect.nexts.target arrival second third qs rs)
    (handed : arrival ≡ record known { depths = moved known.depths effect.taken effect.given }) where
  small_on : (bound : ℕ) → AreSmall bound first → AreSmall (bound + 2 ^ 32) third
  small_on bound small =
      let weaker = All-weaker (λ (a : Arrival). IsSmall bound a.depths) (λ (a : Arrival). IsSmall (bound + 2 ^ 32) a.depths) (λ a is. small_more bound (bound + 2 ^ 32) (omega arith) a.depths is) first small in
      let was : IsSmall bound known.depths = at_all (λ (a : Arrival). IsSmall bound a.depths) first place known small found in
      let is : IsSmall (bound + 2 ^ 32) arrival.depths =
      subst (λ (a : Arrival). IsSmall (bound + 2 ^ 32) a.depths) (sym handed) (small_moved bound effect.taken effect.given few less known.depths was) in
      jump.small (bound + 2 ^ 32) is (behind.small (bound + 2 ^ 32) is weaker)

  module _ (operation : Operation) (stands : operation_at function.code place ≡ Some operation) (has : HasIndices image operation) (is : IsEffect image function operation place effect) where
    is_handed : arrival ≡ handed_on image function operation known
    is_handed = handed ∙ ap (λ n. record known { depths = moved known.depths n effect.given }) is.taken ∙ ap (λ n. record known { depths = moved known.depths (taken_count function operation) n }) is.given

    comes_on : IsSound image function place known → (next : ℕ) → Follows operation place next → next < length first → IsSound image function next arrival
    comes_on sound next follows inside =
        let within : next < length function.code = omega arith in
        subst (IsSound image function next) (sym is_handed) (sound_on image function place operation stands has next known follows within sound)

    sound_third : AreSound image function first → AreSound image function third
    sound_third sound =
        let on = comes_on (sound place known found) in
        jump.sound image function (λ at e inside. let within : at < length first = omega (arith, behind.grew.same_length) in on at ((is.nexts at).1 (inr e)) within)
        (behind.sound image function (λ at e inside. on at ((is.nexts at).1 (inl e)) inside) sound)

    said_third : (next : ℕ) (now : Arrival) → Follows operation place next → slice_get third next ≡ Some now → IsWithin arrival now
    said_third next now follows e = elim ((is.nexts next).0 follows) [
      | inl at ↦
          let before : (b : Arrival) × (slice_get second next ≡ Some b) = found_too third second next now (sym jump.grew.same_length) e in
          λ origin depth says. jump.grew.more next before.0 now before.1 e origin depth (behind.said next before.0 at before.1 origin depth says)
      | inr at ↦ jump.said next now at e
    ]

    handed_third : (a now : Arrival) (other : Operation) (next : ℕ) → slice_get first place ≡ Some a
        → operation_at function.code place ≡ Some other → HasIndices image other → Follows other place next → slice_get third next ≡ Some now
        → (origin : Origin) (depth : ℤ) → Says a origin depth → Says now origin (left_behind image function other depth)
    handed_third a now other next e stands' has' follows here origin depth says =
        let same : other ≡ operation = same_found (operation_at function.code place) other operation stands' stands in
        let was : a ≡ known = same_found (slice_get first place) a known e found in
        subst (λ o. Says now origin (left_behind image function o depth)) (sym same)
        (said_third next now (subst (λ o. Follows o place next) same follows) here origin (left_behind image function operation depth)
        (subst (λ (x : Arrival). Says x origin (left_behind image function operation depth)) (sym is_handed)
        (says_on image function place operation stands has known origin depth (subst (λ (x : Arrival). Says x origin depth) was says))))

    looked_by : HasLooked image function place first third ps rs
    looked_by = record { grew = grown_on first second third ps qs rs behind.grew jump.grew; handed = handed_third; sound = sound_third; small = small_on }

  pub looked : IsEffectAt image function place (Some effect) → HasLooked image function place first third ps rs
  looked (operation, stands, has, is) = looked_by operation stands has is

-- ---- a turn

last_out : (pending rest : List ℕ) (place : ℕ) → pending ≡ rest ++ place ∷ [] → length pending ≡ length rest + 1
last_out pending rest place is = omega (arith, ap length is, length-append rest (place ∷ []))

module _ (image : Image) (function : Function) (place : ℕ) (arrivals grown : List Arrival) (pending rest later : List ℕ)
    (so_far : IsSearched image function arrivals pending) (out : pending ≡ rest ++ place ∷ []) where
  rest_inside : All (λ p. p < length arrivals) rest × (place < length arrivals)
  rest_inside = All-pop (λ p. p < length arrivals) pending rest (Some place) out so_far.inside

  module _ (looks : HasLooked image function place arrivals grown rest later) where
    closed_still : (at : ℕ) → IsClosedAt image function arrivals at → slice_get grown at ≡ slice_get arrivals at → IsClosedAt image function grown at
    closed_still at closed same a now operation next found stands has follows here origin depth says =
        let before : (b : Arrival) × (slice_get arrivals next ≡ Some b) = found_too grown arrivals next now (sym looks.grew.same_length) here in
        looks.grew.more next before.0 now before.1 here origin (left_behind image function operation depth)
        (closed a before.0 operation next (sym same ∙ found) stands has follows before.1 origin depth says)

    closed_here : slice_get grown place ≡ slice_get arrivals place → IsClosedAt image function grown place
    closed_here same a now operation next found stands has follows here origin depth says =
        looks.handed a now operation next (sym same ∙ found) stands has follows here origin depth says

    closed_at : (at : ℕ) → slice_get grown at ≡ slice_get arrivals at → Contains later at ⊎ IsClosedAt image function grown at
    closed_at at same = elim (so_far.closed at) [
      | inr closed ↦ inr (closed_still at closed same)
      | inl contains ↦ elim (Contains-push_cases rest place at (subst (λ l. Contains l at) out contains)) [
        | inl kept ↦ inl (looks.grew.kept at kept)
        | inr here ↦ inr (subst (IsClosedAt image function grown) here (closed_here (ap (slice_get grown) here ∙ same ∙ ap (slice_get arrivals) (sym here))))
      ]
    ]

    closed_on : (at : ℕ) → Contains later at ⊎ IsClosedAt image function grown at
    closed_on at = elim (looks.grew.marked at) [ inr marked ↦ inl marked | inl same ↦ closed_at at same ]

    less_work : work grown later + 1 ≤ work arrivals pending
    less_work = omega (arith, looks.grew.room, last_out pending rest place out)

    begun_on : HasBegun function.regions grown
    begun_on = record {
      start = λ now e.
          let before : (b : Arrival) × (slice_get arrivals 0 ≡ Some b) = found_too grown arrivals 0 now (sym looks.grew.same_length) e in
          looks.grew.more 0 before.0 now before.1 e Plain (pos 0) (so_far.begun.start before.0 before.1);
      targets = λ index region now r e.
          let before : (b : Arrival) × (slice_get arrivals region.target ≡ Some b) = found_too grown arrivals region.target now (sym looks.grew.same_length) e in
          looks.grew.more region.target before.0 now before.1 e (origin_of region) (pos region.depth) (so_far.begun.targets index region before.0 r before.1);
    }

    deeper : bound_of arrivals pending + 2 ^ 32 ≤ bound_of grown later
    deeper = omega (arith, less_work, looks.grew.same_length, so_far.room)

    pub searched_on : IsSearched image function grown later
    searched_on = record {
      each_place = looks.grew.same_length ∙ so_far.each_place;
      begun = begun_on;
      sound = looks.sound so_far.sound;
      closed = closed_on;
      inside = All-weaker (λ p. p < length arrivals) (λ p. p < length grown) (λ p is. omega (arith, looks.grew.same_length)) later (looks.grew.inside (rest_inside).0);
      room = omega (arith, less_work, looks.grew.same_length, so_far.room);
      small = All-weaker (λ (a : Arrival). IsSmall (bound_of arrivals pending + 2 ^ 32) a.depths) (λ (a : Arrival). IsSmall (bound_of grown later) a.depths)
          (λ a is. small_more (bound_of arrivals pending + 2 ^ 32) (bound_of grown later) deeper a.depths is) grown (looks.small (bound_of arrivals pending) so_far.small);
    }

-- ---- the end

depths_are : (image : Image) (function : Function) (place : ℕ) (d : Depths) → DepthsCome image function place d → ((depth : ℤ) → ComesWith image function place depth → SaysDepth d depth)
    → AreDepths image function place d
depths_are image function place depths.None come all = all
depths_are image function place (depths.One depth) come all = (come, all)
depths_are image function place depths.Several come all = come

module _ (image : Image) (function : Function) (arrivals : List Arrival) (pending : List ℕ) (so_far : IsSearched image function arrivals pending) (none : length pending ≡ 0) where
  all_closed : (place : ℕ) → IsClosedAt image function arrivals place
  all_closed place = elim (so_far.closed place) [ inl (k, within, is) ↦ absurd (omega arith) | inr closed ↦ closed ]

  known_at : (place : ℕ) (operation : Operation) → operation_at function.code place ≡ Some operation → (a : Arrival) × (slice_get arrivals place ≡ Some a)
  known_at place operation stands =
      option_and_then_some operation_of (slice_get function.code place) operation stands
      (λ i found is. elim (slice_get_cases arrivals place).1 [
        | inl (a, inside, here, read) ↦ (a, here)
        | inr (past, lacks) ↦ absurd (omega (arith, slice_get_within function.code place i found, so_far.each_place))
      ])

  complete : (origin : Origin) (place : ℕ) (depth : ℤ) → Comes image function origin place depth → (a : Arrival) → slice_get arrivals place ≡ Some a → Says a origin depth
  complete _ _ _ start a e = so_far.begun.start a e
  complete _ _ _ (target index region at) a e = so_far.begun.targets index region a at e
  complete _ _ _ (onwards origin place depth operation next before stands has follows inside) a e =
      let found = known_at place operation stands in
      all_closed place found.0 a operation next found.1 stands has follows e origin depth (complete origin place depth before found.0 found.1)

  is_arrival : (place : ℕ) (a : Arrival) → slice_get arrivals place ≡ Some a → IsArrival image function place a
  is_arrival place a e = record {
    depths = depths_are image function place a.depths (so_far.sound place a e).depths (λ depth (origin, comes). (complete origin place depth comes a e).many);
    plain = ((so_far.sound place a e).plain, λ (depth, comes). (complete Plain place depth comes a e).from);
    cleanup = ((so_far.sound place a e).cleanup, λ (depth, comes). (complete Cleanup place depth comes a e).from);
  }

  pub finished : AreArrivals image function arrivals
  finished = record { each_place = so_far.each_place; exact = is_arrival }
