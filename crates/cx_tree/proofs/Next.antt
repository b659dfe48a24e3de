-- A step of the machine, from what it does to the symbols and what the symbol on top makes of the values.
use Rattle.std.proofs.Common.{◌≡◌, Bool, true, false, cond, List, [], ◌∷◌, Some, None, refl, ◌∙◌, ap}
use Rattle.cx_table.specs.declared.symbol.Kind.{Kind}
use Rattle.cx_table.specs.declared.symbol.Symbol.{Symbol}
use Rattle.cx_table.specs.declared.symbol.Symbol.TheVariants.{Expect, Make, Read}
use Rattle.cx_parser.specs.Machine.{ahead, config, eats, front, left_as, mark_at, moved, next, reduced, stays, value_at}
use Rattle.cx_syntax.specs.Spell.{Spot, Spots}
use Rattle.cx_table.specs.Moves.{Move, eat, halt, move, push}
use Rattle.cx_table.specs.Sorts.{fits}
use Rattle.cx_table.specs.Steps.{bare, bare_eats, bare_goes, bare_moved, bare_stays}
use Rattle.cx_tree.specs.Stacks.{TopMakes}
use Rattle.cx_values.specs.Values.{Values}

token_goes : (b : Bool) (k j : List Symbol) → cond b (bare_eats k) bare_stays ≡ bare_goes j → ⊥
token_goes true k j h = cc
token_goes false k j h = cc

move_goes : (v : Move) (x : Symbol) (k j : List Symbol) (vs us : Values) (w : Spots) → bare_moved v k (front w) ≡ bare_goes j → us ≡ vs → left_as (moved v k vs (ahead w)) (x ∷ k) vs w ≡ config j us w
move_goes (push b) x k j vs us w h e = cc
move_goes (eat b) x k j vs us [] h e = cc
move_goes (eat b) x k j vs us (m ∷ w) h e = cc
move_goes halt x k j vs us w h e = cc

pub next_goes : (k j : List Symbol) (vs us : Values) (w : Spots) → bare k (front w) ≡ bare_goes j → TopMakes k vs us → next (config k vs w) ≡ config j us w
next_goes [] j vs us w h e = cc
next_goes (Expect t ∷ k) j vs us [] h e = cc
next_goes (Expect t ∷ k) j vs us (m ∷ w) h e = absurd (token_goes (fits t (mark_at m)) k j h)
next_goes (Make a ∷ k) j vs us w h e = let q : k ≡ j = cc in ap (λ r. left_as (reduced r k) (Make a ∷ k) vs w) e ∙ ap (λ i. config i us w) q
next_goes (Read x ∷ k) j vs us w h e = move_goes (move x (front w)) (Read x) k j vs us w h e

token_eats : (b : Bool) (t : Kind) (m : Spot) (k j : List Symbol) (vs us : Values) (w : Spots) → cond b (bare_eats k) bare_stays ≡ bare_eats j → us ≡ vs → left_as (cond b (eats k (value_at m ∷ vs)) stays) (Expect t ∷ k) vs (m ∷ w) ≡ config j (value_at m ∷ us) w
token_eats true t m k j vs us w h e = cc
token_eats false t m k j vs us w h e = cc

move_eats : (v : Move) (x : Symbol) (m : Spot) (k j : List Symbol) (vs us : Values) (w : Spots) → bare_moved v k (Some (mark_at m)) ≡ bare_eats j → us ≡ vs → left_as (moved v k vs (Some m)) (x ∷ k) vs (m ∷ w) ≡ config j (value_at m ∷ us) w
move_eats (push b) x m k j vs us w h e = cc
move_eats (eat b) x m k j vs us w h e = cc
move_eats halt x m k j vs us w h e = cc

pub next_eats : (k j : List Symbol) (m : Spot) (vs us : Values) (w : Spots) → bare k (Some (mark_at m)) ≡ bare_eats j → TopMakes k vs us → next (config k vs (m ∷ w)) ≡ config j (value_at m ∷ us) w
next_eats [] j m vs us w h e = cc
next_eats (Expect t ∷ k) j m vs us w h e = token_eats (fits t (mark_at m)) t m k j vs us w h e
next_eats (Make a ∷ k) j m vs us w h e = cc
next_eats (Read x ∷ k) j m vs us w h e = move_eats (move x (Some (mark_at m))) (Read x) m k j vs us w h e

move_eats_none : (v : Move) (k j : List Symbol) → bare_moved v k None ≡ bare_eats j → ⊥
move_eats_none (push b) k j h = cc
move_eats_none (eat b) k j h = cc
move_eats_none halt k j h = cc

-- no token is taken where none is left
pub eats_none : (k j : List Symbol) → bare k None ≡ bare_eats j → ⊥
eats_none [] j h = cc
eats_none (Expect t ∷ k) j h = cc
eats_none (Make a ∷ k) j h = cc
eats_none (Read x ∷ k) j h = move_eats_none (move x None) k j h

token_stays : (b : Bool) (t : Kind) (m : Spot) (k : List Symbol) (vs : Values) (w : Spots) → cond b (bare_eats k) bare_stays ≡ bare_stays → left_as (cond b (eats k (value_at m ∷ vs)) stays) (Expect t ∷ k) vs (m ∷ w) ≡ config (Expect t ∷ k) vs (m ∷ w)
token_stays true t m k vs w h = cc
token_stays false t m k vs w h = refl

move_stays : (v : Move) (x : Symbol) (k : List Symbol) (vs : Values) (w : Spots) → bare_moved v k (front w) ≡ bare_stays → left_as (moved v k vs (ahead w)) (x ∷ k) vs w ≡ config (x ∷ k) vs w
move_stays (push b) x k vs w h = cc
move_stays (eat b) x k vs [] h = refl
move_stays (eat b) x k vs (m ∷ w) h = cc
move_stays halt x k vs w h = refl

pub next_stays : (k : List Symbol) (vs : Values) (w : Spots) → bare k (front w) ≡ bare_stays → next (config k vs w) ≡ config k vs w
next_stays [] vs w h = refl
next_stays (Expect t ∷ k) vs [] h = refl
next_stays (Expect t ∷ k) vs (m ∷ w) h = token_stays (fits t (mark_at m)) t m k vs w h
next_stays (Make a ∷ k) vs w h = cc
next_stays (Read x ∷ k) vs w h = move_stays (move x (front w)) (Read x) k vs w h
