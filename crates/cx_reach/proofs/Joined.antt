-- What is joined says what its parts say, and no more.
use Rattle.std.proofs.Common.{◌≡◌, ◌≢◌, ◌⊎◌, ℕ, ◌+◌, ◌^◌, ◌<◌, ◌≤◌, ◌||◌, ℤ, pos, ◌+ℤ◌, ◌-ℤ◌, Bool, true, false, if◌then◌else◌, subst, refl, sym, ap, ◌∙◌, arith, inl, inr}
use Rattle.std.proofs.lemmas.Bool.{or_cases}
use Rattle.std.proofs.lemmas.Int.{ints}
use Rattle.cx_code.specs.declared.image.Image.{Image}
use Rattle.cx_code.specs.declared.image.Function.{Function}
use Rattle.cx_code.specs.Reached.{Origin, Plain, Cleanup}
use Rattle.cx_reach.specs.declared.arriving.Arrival.{Arrival}
use Rattle.cx_reach.specs.declared.arriving.Depths.{Depths}
use Rattle.cx_reach.specs.declared.arriving.Depths.TheVariants as depths
use Rattle.cx_reach.specs.Comes.{ComesWith, ComesFrom}
use Rattle.cx_reach.specs.Joins.{JoinsDepths, IsJoin, moved, IsSmall}
use Rattle.cx_reach.specs.Says.{SaysDepth, SaysOrigin, IsWithin, DepthsCome, IsSound, depths_room, room_of}

-- ---- what is said

depths_left : (a b both : Depths) → JoinsDepths a b both → (depth : ℤ) → SaysDepth a depth → SaysDepth both depth
depths_left depths.None b both is depth says = absurd says
depths_left (depths.One one) depths.None both is depth says = subst (λ d. SaysDepth d depth) (sym is) says
depths_left (depths.One one) (depths.One other) both (inl (same, is)) depth says = subst (λ d. SaysDepth d depth) (sym is) says
depths_left (depths.One one) (depths.One other) both (inr (apart, is)) depth says = subst (λ d. SaysDepth d depth) (sym is) tt
depths_left (depths.One one) depths.Several both is depth says = subst (λ d. SaysDepth d depth) (sym is) tt
depths_left depths.Several b both is depth says = subst (λ d. SaysDepth d depth) (sym is) tt

depths_right : (a b both : Depths) → JoinsDepths a b both → (depth : ℤ) → SaysDepth b depth → SaysDepth both depth
depths_right depths.None b both is depth says = subst (λ d. SaysDepth d depth) (sym is) says
depths_right (depths.One one) depths.None both is depth says = absurd says
depths_right (depths.One one) (depths.One other) both (inl (same, is)) depth says = subst (λ d. SaysDepth d depth) (sym is) (says ∙ sym same)
depths_right (depths.One one) (depths.One other) both (inr (apart, is)) depth says = subst (λ d. SaysDepth d depth) (sym is) tt
depths_right (depths.One one) depths.Several both is depth says = subst (λ d. SaysDepth d depth) (sym is) tt
depths_right depths.Several b both is depth says = subst (λ d. SaysDepth d depth) (sym is) tt

flag_left : (a b both : Bool) → both ≡ (a || b) → a ≡ true → both ≡ true
flag_left true b both is holds = is
flag_left false b both is holds = absurd (cc)

flag_right : (a b both : Bool) → both ≡ (a || b) → b ≡ true → both ≡ true
flag_right true b both is holds = is
flag_right false b both is holds = is ∙ holds

origin_left : (a b both : Arrival) → IsJoin a b both → (origin : Origin) → SaysOrigin a origin → SaysOrigin both origin
origin_left a b both is Plain says = flag_left a.plain b.plain both.plain is.plain says
origin_left a b both is Cleanup says = flag_left a.cleanup b.cleanup both.cleanup is.cleanup says

origin_right : (a b both : Arrival) → IsJoin a b both → (origin : Origin) → SaysOrigin b origin → SaysOrigin both origin
origin_right a b both is Plain says = flag_right a.plain b.plain both.plain is.plain says
origin_right a b both is Cleanup says = flag_right a.cleanup b.cleanup both.cleanup is.cleanup says

pub within_left : (a b both : Arrival) → IsJoin a b both → IsWithin a both
within_left a b both is origin depth says = record { from = origin_left a b both is origin says.from; many = depths_left a.depths b.depths both.depths is.depths depth says.many }

pub within_right : (a b both : Arrival) → IsJoin a b both → IsWithin b both
within_right a b both is origin depth says = record { from = origin_right a b both is origin says.from; many = depths_right a.depths b.depths both.depths is.depths depth says.many }

-- ---- what comes

depths_come : (image : Image) (function : Function) (place : ℕ) (a b both : Depths) → JoinsDepths a b both → DepthsCome image function place a → DepthsCome image function place b → DepthsCome image function place both
depths_come image function place depths.None b both is x y = subst (λ d. DepthsCome image function place d) (sym is) y
depths_come image function place (depths.One one) depths.None both is x y = subst (λ d. DepthsCome image function place d) (sym is) x
depths_come image function place (depths.One one) (depths.One other) both (inl (same, is)) x y = subst (λ d. DepthsCome image function place d) (sym is) x
depths_come image function place (depths.One one) (depths.One other) both (inr (apart, is)) x y = subst (λ d. DepthsCome image function place d) (sym is) (one, other, apart, x, y)
depths_come image function place (depths.One one) depths.Several both is x y = subst (λ d. DepthsCome image function place d) (sym is) y
depths_come image function place depths.Several b both is x y = subst (λ d. DepthsCome image function place d) (sym is) x

flag_comes : (P : Type 0) (a b both : Bool) → both ≡ (a || b) → (a ≡ true → P) → (b ≡ true → P) → both ≡ true → P
flag_comes P a b both is x y holds = elim (or_cases a b (sym is ∙ holds)) [ inl left ↦ x left | inr right ↦ y right ]

pub sound_join : (image : Image) (function : Function) (place : ℕ) (a b both : Arrival) → IsJoin a b both → IsSound image function place a → IsSound image function place b → IsSound image function place both
sound_join image function place a b both is x y = record {
  depths = depths_come image function place a.depths b.depths both.depths is.depths x.depths y.depths;
  plain = flag_comes (ComesFrom image function Plain place) a.plain b.plain both.plain is.plain x.plain y.plain;
  cleanup = flag_comes (ComesFrom image function Cleanup place) a.cleanup b.cleanup both.cleanup is.cleanup x.cleanup y.cleanup;
}

-- ---- how much can still grow

depths_grow : (a b both : Depths) → JoinsDepths a b both → (both ≡ a) ⊎ (depths_room both < depths_room a)
depths_grow depths.None depths.None both is = inl is
depths_grow depths.None (depths.One other) both is = inr (subst (λ d. depths_room d < 2) (sym is) (omega arith))
depths_grow depths.None depths.Several both is = inr (subst (λ d. depths_room d < 2) (sym is) (omega arith))
depths_grow (depths.One one) depths.None both is = inl is
depths_grow (depths.One one) (depths.One other) both (inl (same, is)) = inl is
depths_grow (depths.One one) (depths.One other) both (inr (apart, is)) = inr (subst (λ d. depths_room d < 1) (sym is) (omega arith))
depths_grow (depths.One one) depths.Several both is = inr (subst (λ d. depths_room d < 1) (sym is) (omega arith))
depths_grow depths.Several b both is = inl is

abbrev flag_room : Bool → ℕ
flag_room flag = if flag then 0 else 1

flag_grows : (a b both : Bool) → both ≡ (a || b) → (both ≡ a) ⊎ (flag_room both < flag_room a)
flag_grows true b both is = inl is
flag_grows false false both is = inl is
flag_grows false true both is = inr (subst (λ f. flag_room f < 1) (sym is) (omega arith))

no_more : {X : Type 0} (room : X → ℕ) (a both : X) → (both ≡ a) ⊎ (room both < room a) → room both ≤ room a
no_more room a both (inl same) = omega (arith, ap room same)
no_more room a both (inr less) = omega arith

same_arrival : (d e : Depths) (p q c f : Bool) → d ≡ e → p ≡ q → c ≡ f
    → ◌≡◌ {A = Arrival} (record { depths = d; plain = p; cleanup = c }) (record { depths = e; plain = q; cleanup = f })
same_arrival d e p q c f x y z = rw (x, y, z) refl

join_grows : (a b both : Arrival) → IsJoin a b both → (both ≡ a) ⊎ (room_of both < room_of a)
join_grows a b both is =
    let d = depths_grow a.depths b.depths both.depths is.depths in
    let p = flag_grows a.plain b.plain both.plain is.plain in
    let c = flag_grows a.cleanup b.cleanup both.cleanup is.cleanup in
    let dn = no_more depths_room a.depths both.depths d in
    let pn = no_more flag_room a.plain both.plain p in
    let cn = no_more flag_room a.cleanup both.cleanup c in
    elim d [
      | inr less ↦ inr (omega (arith, dn, pn, cn, less))
      | inl same_depths ↦ elim p [
        | inr less ↦ inr (omega (arith, dn, pn, cn, less))
        | inl same_plain ↦ elim c [
          | inr less ↦ inr (omega (arith, dn, pn, cn, less))
          | inl same_cleanup ↦ inl (same_arrival both.depths a.depths both.plain a.plain both.cleanup a.cleanup same_depths same_plain same_cleanup)
        ]
      ]
    ]

pub join_less : (a b both : Arrival) → IsJoin a b both → both ≢ a → room_of both < room_of a
join_less a b both is apart = elim (join_grows a b both is) [ inl same ↦ absurd (apart same) | inr less ↦ less ]

-- ---- how deep

pub small_join : (bound : ℕ) (a b both : Depths) → JoinsDepths a b both → IsSmall bound a → IsSmall bound b → IsSmall bound both
small_join bound depths.None b both is x y = subst (IsSmall bound) (sym is) y
small_join bound (depths.One one) depths.None both is x y = subst (IsSmall bound) (sym is) x
small_join bound (depths.One one) (depths.One other) both (inl (same, is)) x y = subst (IsSmall bound) (sym is) x
small_join bound (depths.One one) (depths.One other) both (inr (apart, is)) x y = subst (IsSmall bound) (sym is) tt
small_join bound (depths.One one) depths.Several both is x y = subst (IsSmall bound) (sym is) tt
small_join bound depths.Several b both is x y = subst (IsSmall bound) (sym is) tt

pub small_more : (bound more : ℕ) → bound ≤ more → (d : Depths) → IsSmall bound d → IsSmall more d
small_more bound more le depths.None small = tt
small_more bound more le (depths.One depth) (low, high) = (omega (arith, ints), omega (arith, ints))
small_more bound more le depths.Several small = tt

-- ---- behind an instruction

pub small_moved : (bound taken given : ℕ) → taken < 2 ^ 32 → given < 2 ^ 32 → (d : Depths) → IsSmall bound d → IsSmall (bound + 2 ^ 32) (moved d taken given)
small_moved bound taken given few less depths.None small = tt
small_moved bound taken given few less (depths.One depth) (low, high) = (omega (arith, ints), omega (arith, ints))
small_moved bound taken given few less depths.Several small = tt

pub says_moved : (taken given : ℕ) (d : Depths) (depth : ℤ) → SaysDepth d depth → SaysDepth (moved d taken given) ((depth -ℤ pos taken) +ℤ pos given)
says_moved taken given depths.None depth says = absurd says
says_moved taken given (depths.One one) depth says = ap (λ z. (z -ℤ pos taken) +ℤ pos given) says
says_moved taken given depths.Several depth says = tt

apart_moved : (one other : ℤ) (taken given : ℕ) → one ≢ other → ((one -ℤ pos taken) +ℤ pos given) ≢ ((other -ℤ pos taken) +ℤ pos given)
apart_moved one other taken given apart same = apart (omega (arith, ints))

pub moved_come : (image : Image) (function : Function) (place next taken given : ℕ)
    → ((depth : ℤ) → ComesWith image function place depth → ComesWith image function next ((depth -ℤ pos taken) +ℤ pos given))
    → (d : Depths) → DepthsCome image function place d → DepthsCome image function next (moved d taken given)
moved_come image function place next taken given on depths.None come = tt
moved_come image function place next taken given on (depths.One depth) come = on depth come
moved_come image function place next taken given on depths.Several (one, other, apart, x, y) =
    ((one -ℤ pos taken) +ℤ pos given, (other -ℤ pos taken) +ℤ pos given, apart_moved one other taken given apart, on one x, on other y)
