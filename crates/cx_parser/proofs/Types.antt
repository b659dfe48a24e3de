-- The machine reads a type.
use Rattle.std.proofs.Common.{◌≡◌, ℕ, zero, suc, ◌+◌, ◌≤◌, Bool, true, false, List, [], ◌∷◌, Option, Some, None, ◌-◌, refl, arith}
use Rattle.cx_syntax.specs.declared.mark.Punct.{Punct}
use Rattle.cx_syntax.specs.declared.mark.Punct.TheVariants as P
use Rattle.cx_syntax.specs.declared.mark.Word.{Word}
use Rattle.cx_syntax.specs.declared.mark.Word.TheVariants as W
use Rattle.cx_syntax.specs.declared.mark.Mark.{Mark}
use Rattle.cx_syntax.specs.declared.mark.Mark.TheVariants as M
use Rattle.cx_table.specs.declared.symbol.Act.TheVariants.{DoWordBase, DoType}
use Rattle.cx_table.specs.declared.symbol.Kind.TheVariants.{TheContracts}
use Rattle.cx_table.specs.declared.symbol.Part.TheVariants.{TypePart, BasePart, StarTail, OptWord, OptSign}
use Rattle.cx_table.specs.declared.symbol.Symbol.{Symbol}
use Rattle.cx_table.specs.declared.symbol.Symbol.TheVariants.{Make, Read}
use Rattle.cx_parser.proofs.Facts.{base_facts}
use Rattle.cx_parser.proofs.Runs.{Takes, done, steps, thus}
use Rattle.cx_parser.proofs.Same.{punct_self, word_self}
use Rattle.cx_parser.specs.Machine.{config, front}
use Rattle.cx_values.specs.Values.{Values, base_val, flag_val, pointers_val, type_val}
use Rattle.cx_syntax.specs.Shaped.{ShapedBase, ShapedType, contracts_name, is_named, star_count}
use Rattle.cx_syntax.specs.Spell.{Spots, if_sign, if_word, sign, spell_base, spell_stars, spell_type}
use Rattle.cx_syntax.specs.Tree.{Base, Stars, TypeTree, class_base, library_base, long_long, no_stars, star, type_tree, unsigned_int, unsigned_long_long, word_base}
use Rattle.cx_table.specs.Moves.{push, unsigned_move}
use Rattle.cx_table.specs.Sorts.{fits, is_mark, is_word}

-- what follows goes on no type
abbrev pub Parts : Option Mark → Type 0
Parts o = (is_mark P.Star o ≡ false) × (is_mark P.And o ≡ false) × (is_word W.Const o ≡ false) × (unsigned_move o ≡ push (Make DoWordBase ∷ []))

pub word_run : (f : Option ℕ) (k : Word) (ks : List Symbol) (vs : Values) (w : Spots) → is_word k (front w) ≡ false → Takes (config (Read (OptWord k) ∷ ks) vs (if_word f k w)) (config ks (flag_val f ∷ vs) w)
word_run (Some i) k ks vs w h = steps 1 (rw (word_self k) (steps 1 (done _)))
word_run None k ks vs w h = steps 1 (rw h (steps 1 (done _)))

sign_run : (f : Option ℕ) (p : Punct) (ks : List Symbol) (vs : Values) (w : Spots) → is_mark p (front w) ≡ false → Takes (config (Read (OptSign p) ∷ ks) vs (if_sign f p w)) (config ks (flag_val f ∷ vs) w)
sign_run (Some i) p ks vs w h = steps 1 (rw (punct_self p) (steps 1 (done _)))
sign_run None p ks vs w h = steps 1 (rw h (steps 1 (done _)))

stars_front : (l : Stars) (u : Spots) → unsigned_move (front u) ≡ push (Make DoWordBase ∷ []) → unsigned_move (front (spell_stars l u)) ≡ push (Make DoWordBase ∷ [])
stars_front no_stars u h = h
stars_front (star l i c) u h = stars_front l (sign P.Star i (if_word c W.Const u)) refl

stars_run : (l : Stars) (n d : ℕ) (c : Option ℕ) (b : Base) (ks : List Symbol) (vs : Values) (u : Spots) → star_count l + d ≡ n → is_word W.Const (front u) ≡ false → Takes (config (Read (StarTail n) ∷ ks) (pointers_val c b no_stars ∷ vs) (spell_stars l u)) (config (Read (StarTail d) ∷ ks) (pointers_val c b l ∷ vs) u)
stars_run no_stars n d c b ks vs u e h = let q : n ≡ d = omega arith in rw q (done _)
stars_run (star l i f) n d c b ks vs u e h =
    thus (stars_run l n (suc d) c b ks vs (sign P.Star i (if_word f W.Const u)) (omega arith) refl) (steps 1 (thus (word_run f W.Const _ _ u h) (steps 1 (done _))))

stars_end : (d : ℕ) (ks : List Symbol) (vs : Values) (u : Spots) → is_mark P.Star (front u) ≡ false → Takes (config (Read (StarTail d) ∷ ks) vs u) (config ks vs u)
stars_end zero ks vs u h = steps 1 (done _)
stars_end (suc d) ks vs u h = steps 1 (rw h (done _))

name_or_class : (m : Mark) → is_named contracts_name m ≡ true → fits TheContracts m ≡ true
name_or_class (M.Name n) h = h
name_or_class (M.Class n) h = h
name_or_class _ h = absurd (cc)

base_run : (b : Base) → ShapedBase b → (ks : List Symbol) (vs : Values) (u : Spots) → unsigned_move (front u) ≡ push (Make DoWordBase ∷ []) → Takes (config (Read BasePart ∷ ks) vs (spell_base b u)) (config ks (base_val b ∷ vs) u)
base_run (word_base W.Unsigned i) z ks vs u h = steps 1 (steps 1 (rw h (steps 1 (done _))))
base_run (word_base W.Void i) z ks vs u h = steps 2 (done _)
base_run (word_base W.Bool i) z ks vs u h = steps 2 (done _)
base_run (word_base W.Char i) z ks vs u h = steps 2 (done _)
base_run (word_base W.Int i) z ks vs u h = steps 2 (done _)
base_run (word_base _ i) z ks vs u h = absurd (cc)
base_run (unsigned_int i j) z ks vs u h = steps 3 (done _)
base_run (long_long i j) z ks vs u h = steps 3 (done _)
base_run (unsigned_long_long i j k) z ks vs u h = steps 4 (done _)
base_run (class_base n i) z ks vs u h = steps 2 (done _)
base_run (library_base i j m k l n a) z ks vs u h = steps 3 (rw (name_or_class m z) (steps 3 (done _)))

base_front : (b : Base) (u : Spots) → ShapedBase b → is_word W.Const (front (spell_base b u)) ≡ false
base_front (word_base k i) u z = (base_facts k z).0
base_front (unsigned_int i j) u z = refl
base_front (long_long i j) u z = refl
base_front (unsigned_long_long i j k) u z = refl
base_front (class_base n i) u z = refl
base_front (library_base i j m k l n a) u z = refl

-- the `*` and the `&` after a base
pub rest_run : (c r : Option ℕ) (b : Base) (l : Stars) (ks : List Symbol) (vs : Values) (w : Spots) → star_count l ≤ 8 → Parts (front w) → Takes (config (Read (StarTail 8) ∷ Read (OptSign P.And) ∷ Make DoType ∷ ks) (pointers_val c b no_stars ∷ vs) (spell_stars l (if_sign r P.And w))) (config ks (type_val (type_tree c b l r) ∷ vs) w)
rest_run c r b l ks vs w h p =
    thus (stars_run l 8 (8 - star_count l) c b (Read (OptSign P.And) ∷ Make DoType ∷ ks) vs (if_sign r P.And w) (omega arith) (front_const r))
    (thus (stars_end (8 - star_count l) (Read (OptSign P.And) ∷ Make DoType ∷ ks) (pointers_val c b l ∷ vs) (if_sign r P.And w) (front_star r)) (thus (sign_run r P.And (Make DoType ∷ ks) (pointers_val c b l ∷ vs) w p.1) (steps 1 (done _))))
  where
    front_const : (r : Option ℕ) → is_word W.Const (front (if_sign r P.And w)) ≡ false
    front_const (Some i) = refl
    front_const None = p.2

    front_star : (r : Option ℕ) → is_mark P.Star (front (if_sign r P.And w)) ≡ false
    front_star (Some i) = refl
    front_star None = p.0

after_base : (l : Stars) (r : Option ℕ) (w : Spots) → Parts (front w) → unsigned_move (front (spell_stars l (if_sign r P.And w))) ≡ push (Make DoWordBase ∷ [])
after_base l (Some i) w p = stars_front l (sign P.And i w) refl
after_base l None w p = stars_front l w p.3

pub type_run : (t : TypeTree) → ShapedType t → (ks : List Symbol) (vs : Values) (w : Spots) → Parts (front w) → Takes (config (Read TypePart ∷ ks) vs (spell_type t w)) (config ks (type_val t ∷ vs) w)
type_run (type_tree c b l r) h ks vs w p =
    steps 1 (thus (word_run c W.Const _ _ (spell_base b (spell_stars l (if_sign r P.And w))) (base_front b (spell_stars l (if_sign r P.And w)) h.0))
    (thus (base_run b h.0 _ _ (spell_stars l (if_sign r P.And w)) (after_base l r w p)) (steps 1 (rest_run c r b l ks vs w h.1 p))))
