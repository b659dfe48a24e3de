-- Arrivals only grow, and the place of one that did is pending.
use Rattle.std.proofs.Common.{◌≡◌, ◌≢◌, ◌⊎◌, ℕ, ◌<◌, ◌≤◌, List, [], ◌∷◌, ◌++◌, length, Option, Some, set, get_or, slice_get, subst, refl, sym, ap, ◌∙◌, arith, inl, inr, get_or-set_same, get_or-set_other, length-set, length-append}
use Rattle.std.specs.List.{All, Contains}
use Rattle.std.proofs.lemmas.Bool.{cases_eq}
use Rattle.std.proofs.lemmas.List.Sums.{sum_by-set}
use Rattle.std.proofs.lemmas.List.Elements.{All-weaker, All-set, All-push, All-get_or, Contains-append_left, Contains-push}
use Rattle.std.proofs.lemmas.Option.{slice_get_within, slice_get-get_or, slice_get_past, slice_get_cases, get_or_from_slice_get}
use Rattle.cx_reach.specs.declared.arriving.Arrival.{Arrival}
use Rattle.cx_reach.specs.Joins.{IsJoin, IsSmall}
use Rattle.cx_reach.specs.Says.{Says, IsWithin, IsSound, room_of, work, HaveGrown, HasJoined}
use Rattle.cx_reach.proofs.Joined.{within_left, within_right, sound_join, small_join}

pub same_found : {X : Type 0} (found : Option X) (a b : X) → found ≡ Some a → found ≡ Some b → a ≡ b
same_found found a b x y = cc

pub found_too : {X : Type 0} (xs ys : List X) (at : ℕ) (x : X) → length ys ≡ length xs → slice_get xs at ≡ Some x → (y : X) × (slice_get ys at ≡ Some y)
found_too xs ys at x same e =
    let within : at < length xs = slice_get_within xs at x e in
    let inside : at < length ys = omega arith in
    (get_or ys at x, slice_get-get_or ys at x inside)

set_here : {X : Type 0} (xs : List X) (at : ℕ) (x : X) → at < length xs → slice_get (set xs at x) at ≡ Some x
set_here xs at x inside =
    let within : at < length (set xs at x) = omega (arith, length-set xs at x) in
    slice_get-get_or (set xs at x) at x within ∙ ap Some (get_or-set_same xs at x x inside)

set_elsewhere : {X : Type 0} (xs : List X) (at other : ℕ) (x : X) → other ≢ at → slice_get (set xs at x) other ≡ slice_get xs other
set_elsewhere xs at other x apart = elim (slice_get_cases xs other).1 [
  | inl (y, inside, is, read) ↦
      let within : other < length (set xs at x) = omega (arith, length-set xs at x) in
      slice_get-get_or (set xs at x) other y within ∙ ap Some (get_or-set_other xs at other x y apart ∙ read) ∙ sym is
  | inr (past, is) ↦
      let beyond : length (set xs at x) ≤ other = omega (arith, length-set xs at x) in
      slice_get_past (set xs at x) other beyond ∙ sym is
]

within_itself : (a b : Arrival) → a ≡ b → IsWithin a b
within_itself a b same origin depth says = subst (λ (x : Arrival). Says x origin depth) same says

pub at_all : {X : Type 0} (P : X → Type 0) (xs : List X) (at : ℕ) (x : X) → All P xs → slice_get xs at ≡ Some x → P x
at_all P xs at x all e = subst P (get_or_from_slice_get xs at x x e) (All-get_or P xs at x (slice_get_within xs at x e) all)

-- ---- nothing changed, and one after the other

pub as_before : (arrivals : List Arrival) (pending : List ℕ) → HaveGrown arrivals arrivals pending pending
as_before arrivals pending = record {
  same_length = refl;
  more = λ place a b x y. within_itself a b (same_found (slice_get arrivals place) a b x y);
  kept = λ place is. is;
  marked = λ place. inl refl;
  inside = λ inside. inside;
  room = omega arith;
}

inside_too : (arrivals grown : List Arrival) (pending : List ℕ) → length grown ≡ length arrivals → All (λ place. place < length arrivals) pending → All (λ place. place < length grown) pending
inside_too arrivals grown pending same inside = All-weaker (λ place. place < length arrivals) (λ place. place < length grown) (λ place is. omega arith) pending inside

pub grown_on : (first second third : List Arrival) (ps qs rs : List ℕ) → HaveGrown first second ps qs → HaveGrown second third qs rs → HaveGrown first third ps rs
grown_on first second third ps qs rs before after = record {
  same_length = after.same_length ∙ before.same_length;
  more = λ place a c x z.
      let found : (b : Arrival) × (slice_get second place ≡ Some b) = found_too first second place a before.same_length x in
      λ origin depth says. after.more place found.0 c found.1 z origin depth (before.more place a found.0 x found.1 origin depth says);
  kept = λ place is. after.kept place (before.kept place is);
  marked = λ place. elim (after.marked place) [
    | inr later ↦ inr later
    | inl same ↦ elim (before.marked place) [ inl too ↦ inl (same ∙ too) | inr marked ↦ inr (after.kept place marked) ]
  ];
  inside = λ inside.
      inside_too second first rs (sym before.same_length) (after.inside (inside_too first second qs before.same_length (before.inside inside)));
  room = omega (arith, before.room, after.room);
}

-- ---- one arrival is joined to that of a place

pub joined_nothing : (place : Option ℕ) (arrival : Arrival) (arrivals : List Arrival) (pending : List ℕ)
    → ((at : ℕ) (now : Arrival) → place ≡ Some at → slice_get arrivals at ≡ Some now → IsWithin arrival now) → HasJoined place arrival arrivals arrivals pending pending
joined_nothing place arrival arrivals pending said =
    record { grew = as_before arrivals pending; said = said; sound = λ image function is sound. sound; small = λ bound is small. small }

pub joined_same : (at : ℕ) (known arrival both : Arrival) (arrivals : List Arrival) (pending : List ℕ) → slice_get arrivals at ≡ Some known → IsJoin known arrival both → both ≡ known
    → HasJoined (Some at) arrival arrivals arrivals pending pending
joined_same at known arrival both arrivals pending found is same =
    joined_nothing (Some at) arrival arrivals pending
    (λ place now here e.
    let there : at ≡ place = cc in
    let is_now : both ≡ now = same ∙ same_found (slice_get arrivals at) known now found (ap (slice_get arrivals) there ∙ e) in
    λ origin depth says. within_itself both now is_now origin depth (within_right known arrival both is origin depth says))

module _ (at : ℕ) (known arrival both : Arrival) (arrivals : List Arrival) (pending : List ℕ) (found : slice_get arrivals at ≡ Some known) (is : IsJoin known arrival both) where
  inside : at < length arrivals
  inside = slice_get_within arrivals at known found

  here : (now : Arrival) (place : ℕ) → place ≡ at → slice_get (set arrivals at both) place ≡ Some now → both ≡ now
  here now place same e = same_found (slice_get (set arrivals at both) at) both now (set_here arrivals at both inside) (ap (slice_get (set arrivals at both)) (sym same) ∙ e)

  elsewhere : (now : Arrival) (place : ℕ) → place ≢ at → slice_get (set arrivals at both) place ≡ Some now → slice_get arrivals place ≡ Some now
  elsewhere now place apart e = sym (set_elsewhere arrivals at place both apart) ∙ e

  grows_more : (place : ℕ) (a b : Arrival) → slice_get arrivals place ≡ Some a → slice_get (set arrivals at both) place ≡ Some b → IsWithin a b
  grows_more place a b x y = elim (cases_eq place at) [
    | inl same ↦
        let was : a ≡ known = same_found (slice_get arrivals at) a known (ap (slice_get arrivals) (sym same) ∙ x) found in
        λ origin depth says. within_itself both b (here b place same y) origin depth (within_left known arrival both is origin depth (within_itself a known was origin depth says))
    | inr apart ↦ within_itself a b (same_found (slice_get arrivals place) a b x (elsewhere b place apart y))
  ]

  grows_marked : (place : ℕ) → (slice_get (set arrivals at both) place ≡ slice_get arrivals place) ⊎ Contains (pending ++ at ∷ []) place
  grows_marked place = elim (cases_eq place at) [
    | inl same ↦ inr (subst (Contains (pending ++ at ∷ [])) (sym same) (Contains-push pending at))
    | inr apart ↦ inl (set_elsewhere arrivals at place both apart)
  ]

  grows_room : room_of both < room_of known → work (set arrivals at both) (pending ++ at ∷ []) ≤ work arrivals pending
  grows_room less =
      omega (arith, less, sum_by-set room_of arrivals at both known inside, ap room_of (get_or_from_slice_get arrivals at known known found), length-append pending (at ∷ []))

  pub joined_more : room_of both < room_of known → HasJoined (Some at) arrival arrivals (set arrivals at both) pending (pending ++ at ∷ [])
  joined_more less = record {
    grew = record {
      same_length = length-set arrivals at both;
      more = grows_more;
      kept = λ place. Contains-append_left pending (at ∷ []) place;
      marked = grows_marked;
      inside = λ all. All-push (λ place. place < length arrivals) pending at all inside;
      room = grows_room less;
    };
    said = λ place now at_is e.
        let same : place ≡ at = cc in
        λ origin depth says. within_itself both now (here now place same e) origin depth (within_right known arrival both is origin depth says);
    sound = λ image function comes sound place now e. elim (cases_eq place at) [
      | inl same ↦
          subst (λ p. IsSound image function p now) (sym same)
          (subst (IsSound image function at) (here now place same e)
          (sound_join image function at known arrival both is (sound at known found) (comes at refl inside)))
      | inr apart ↦ sound place now (elsewhere now place apart e)
    ];
    small = λ bound is_small all.
        let was : IsSmall bound known.depths = at_all (λ (a : Arrival). IsSmall bound a.depths) arrivals at known all found in
        All-set (λ (a : Arrival). IsSmall bound a.depths) arrivals at both (small_join bound known.depths arrival.depths both.depths is.depths was is_small) all;
  }
