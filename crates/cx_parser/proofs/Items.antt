-- The machine reads each shaped item, and so each shaped unit.
use Rattle.std.proofs.Common.{◌≡◌, ℕ, Bool, true, false, List, [], ◌∷◌, Option, Some, None, refl, ap}
use Rattle.cx_syntax.specs.declared.mark.Punct.{Punct}
use Rattle.cx_syntax.specs.declared.mark.Punct.TheVariants as P
use Rattle.cx_syntax.specs.declared.mark.Word.{Word}
use Rattle.cx_syntax.specs.declared.mark.Word.TheVariants as W
use Rattle.cx_syntax.specs.declared.mark.Mark.{Mark}
use Rattle.cx_syntax.specs.declared.mark.Mark.TheVariants as M
use Rattle.cx_table.specs.declared.symbol.Act.TheVariants.{DoNoFlag, DoFunction, DoNoItems, DoMoreItems}
use Rattle.cx_table.specs.declared.symbol.Part.TheVariants.{Assign, ParamsRest, SuffixPart, TailPart, ItemsPart, ItemPart, Declaration, AfterType, AfterName, ConstantPart}
use Rattle.cx_table.specs.declared.symbol.Symbol.{Symbol}
use Rattle.cx_table.specs.declared.symbol.Symbol.TheVariants.{Make, Read}
use Rattle.cx_parser.proofs.Facts.{base_facts}
use Rattle.cx_parser.proofs.Functions.{block_ends, const_suffix_run, inits_ends, inits_run, open_params, params_at, params_run, suffix_run, tail_ends, tail_run}
use Rattle.cx_parser.proofs.Members.{members_run, stars_follow}
use Rattle.cx_parser.proofs.Runs.{Takes, by_step, done, steps, thus}
use Rattle.cx_parser.proofs.Statements.{block_run}
use Rattle.cx_parser.proofs.Types.{Parts, rest_run, type_run}
use Rattle.cx_parser.specs.Machine.{ahead, config, front, left_as, moved, next, rest, start}
use Rattle.cx_values.specs.Values.{Values, constant_val, flag_val, item_val, mark_val, type_val, unit_val}
use Rattle.cx_syntax.specs.Shaped.{ShapedConstant, ShapedItem, ShapedType, ShapedUnit}
use Rattle.cx_syntax.specs.Spell.{Spots, class_name, if_word, name, sign, spell, spell_block, spell_constant, spell_inits, spell_item, spell_items, spell_params, spell_suffix, spell_tail, spell_type}
use Rattle.cx_syntax.specs.Tree.{Constant, Item, Params, TypeTree, UnitTree, class_base, class_defined, class_named, external, function, global, library_base, long_long, more_items, negative, no_items, no_params, outer_constructor, outer_destructor, outer_method, params, plain, type_tree, unsigned_int, unsigned_long_long, with_value, without, word_base}
use Rattle.cx_table.specs.Moves.{item_move, move, push}
use Rattle.cx_table.specs.Sorts.{is_mark}

-- a global may be declared without `inline` alone
abbrev may_be_global : Option ℕ → Bool
may_be_global None = true
may_be_global (Some i) = false

by_inline : (l : Option ℕ) (ks : List Symbol) (vs : Values) (w : Spots) → item_move (front w) ≡ push (Make DoNoFlag ∷ Read (Declaration true) ∷ []) → Takes (config (Read ItemPart ∷ ks) vs (if_word l W.Inline w)) (config (Read (Declaration (may_be_global l)) ∷ ks) (flag_val l ∷ vs) w)
by_inline (Some i) ks vs w q = steps 2 (done _)
by_inline None ks vs w q = by_step (ap (λ v. left_as (moved v ks vs (ahead w)) (Read ItemPart ∷ ks) vs w) q) (steps 1 (done _))

type_item : (t : TypeTree) (w : Spots) → ShapedType t → item_move (front (spell_type t w)) ≡ push (Make DoNoFlag ∷ Read (Declaration true) ∷ [])
type_item (type_tree (Some x) b p r) w h = refl
type_item (type_tree None (word_base k x) p r) w h = (base_facts k h.0).5
type_item (type_tree None (unsigned_int x y) p r) w h = refl
type_item (type_tree None (long_long x y) p r) w h = refl
type_item (type_tree None (unsigned_long_long x y z) p r) w h = refl
type_item (type_tree None (class_base c x) p r) w h = refl
type_item (type_tree None (library_base x y m k l c d) p r) w h = refl

-- what follows the type of a declaration
abbrev AfterIt : Option Mark → Type 0
AfterIt o = Parts o × (is_mark P.OpenParen o ≡ false) × (is_mark P.Scope o ≡ false)

declared_type_run : (g : Bool) (t : TypeTree) → ShapedType t → (ks : List Symbol) (vs : Values) (w : Spots) → AfterIt (front w) → Takes (config (Read (Declaration g) ∷ ks) vs (spell_type t w)) (config (Read (AfterType g) ∷ ks) (type_val t ∷ vs) w)
declared_type_run g (type_tree None (class_base c x) p r) h ks vs w q =
    steps 2 (rw ((stars_follow p r w (q.1, q.2)).1) (steps 2 (rest_run None r (class_base c x) p _ _ w h.1 q.0)))
declared_type_run g (type_tree None (word_base k x) p r) h ks vs w q = steps 1 (type_run (type_tree None (word_base k x) p r) h _ _ w q.0)
declared_type_run g (type_tree (Some y) b p r) h ks vs w q = steps 1 (type_run (type_tree (Some y) b p r) h _ _ w q.0)
declared_type_run g (type_tree None (unsigned_int x y) p r) h ks vs w q = steps 1 (type_run (type_tree None (unsigned_int x y) p r) h _ _ w q.0)
declared_type_run g (type_tree None (long_long x y) p r) h ks vs w q = steps 1 (type_run (type_tree None (long_long x y) p r) h _ _ w q.0)
declared_type_run g (type_tree None (unsigned_long_long x y z) p r) h ks vs w q = steps 1 (type_run (type_tree None (unsigned_long_long x y z) p r) h _ _ w q.0)
declared_type_run g (type_tree None (library_base x y m k l c d) p r) h ks vs w q = steps 1 (type_run (type_tree None (library_base x y m k l c d) p r) h _ _ w q.0)

-- an item up to its type
typed_item_run : (l : Option ℕ) (t : TypeTree) → ShapedType t → (ks : List Symbol) (vs : Values) (w : Spots) → AfterIt (front w) → Takes (config (Read ItemPart ∷ ks) vs (if_word l W.Inline (spell_type t w))) (config (Read (AfterType (may_be_global l)) ∷ ks) (type_val t ∷ flag_val l ∷ vs) w)
typed_item_run l t h ks vs w q = thus (by_inline l ks vs (spell_type t w) (type_item t w h)) (declared_type_run (may_be_global l) t h ks (flag_val l ∷ vs) w q)

enter_function : (g : Bool) (p : Params) (ks : List Symbol) (vs : Values) (w : Spots) → next (config (Read (AfterName g) ∷ ks) vs (spell_params p w)) ≡ config (Read ParamsRest ∷ Read SuffixPart ∷ Read TailPart ∷ Make DoFunction ∷ ks) (mark_val (M.Punct P.OpenParen) (params_at p) ∷ vs) (rest (spell_params p w))
enter_function g (no_params i j) ks vs w = refl
enter_function g (params i r j) ks vs w = refl

constant_run : (c : Constant) → ShapedConstant c → (ks : List Symbol) (vs : Values) (w : Spots) → Takes (config (Read ConstantPart ∷ ks) vs (spell_constant c w)) (config ks (constant_val c ∷ vs) w)
constant_run (plain i M.Number) h ks vs w = steps 2 (done _)
constant_run (plain i M.Char) h ks vs w = steps 2 (done _)
constant_run (plain i (M.Word W.True)) h ks vs w = steps 2 (done _)
constant_run (plain i (M.Word W.False)) h ks vs w = steps 2 (done _)
constant_run (plain i (M.Word W.Nullptr)) h ks vs w = steps 2 (done _)
constant_run (plain i _) h ks vs w = absurd (cc)
constant_run (negative i j) h ks vs w = steps 3 (done _)

pub item_run : (t : Item) → ShapedItem t → (ks : List Symbol) (vs : Values) (w : Spots) → Takes (config (Read ItemPart ∷ ks) vs (spell_item t w)) (config ks (item_val t ∷ vs) w)
item_run (class_named i W.Class n j l) h ks vs w = steps 4 (done _)
item_run (class_named i W.Struct n j l) h ks vs w = steps 4 (done _)
item_run (class_named i _ n j l) h ks vs w = absurd (cc)
item_run (class_defined i W.Class n j l m y z) h ks vs w = steps 3 (thus (members_run m h.1 _ _ (sign P.CloseBrace y (sign P.Semicolon z w))) (steps 4 (done _)))
item_run (class_defined i W.Struct n j l m y z) h ks vs w = steps 3 (thus (members_run m h.1 _ _ (sign P.CloseBrace y (sign P.Semicolon z w))) (steps 4 (done _)))
item_run (class_defined i _ n j l m y z) h ks vs w = absurd (cc)
item_run (external i t n j k) h ks vs w = steps 1 (thus (type_run t h _ _ (name n j (sign P.Semicolon k w)) (refl, refl, refl, refl)) (steps 3 (done _)))
item_run (global t n i without j) h ks vs w =
    thus (typed_item_run None t h.0 ks vs (name n i (sign P.Semicolon j w)) ((refl, refl, refl, refl), refl, refl)) (steps 5 (done _))
item_run (global t n i (with_value k c) j) h ks vs w =
    thus (typed_item_run None t h.0 ks vs (name n i (sign P.Assign k (spell_constant c (sign P.Semicolon j w)))) ((refl, refl, refl, refl), refl, refl))
    (steps 2 (thus (constant_run c h.1 _ _ (sign P.Semicolon j w)) (steps 3 (done _))))
item_run (function l t n i p z b) h ks vs w =
    let u : Spots = spell_suffix z (spell_tail b w) in
    thus (typed_item_run l t h.0 ks vs (name n i (spell_params p u)) ((refl, refl, refl, refl), refl, refl))
    (steps 1 (by_step (enter_function (may_be_global l) p _ _ u) (thus (params_run p h.1 _ _ u) (thus (suffix_run z h.2 _ _ (spell_tail b w) (tail_ends b w).1) (thus (tail_run b h.3 _ _ w) (steps 1 (done _)))))))
item_run (outer_method l t c j k n i p x z b) h ks vs w =
    let u : Spots = if_word x W.Const (spell_suffix z (spell_block b w)) in
    thus (typed_item_run l t h.0 ks vs (class_name c j (sign P.Scope k (name n i (spell_params p u)))) ((refl, refl, refl, refl), refl, refl))
    (steps 3 (by_step (open_params p _ _ u) (thus (params_run p h.1 _ _ u) (thus (const_suffix_run x z h.2 _ _ (spell_block b w) (block_ends b w)) (thus (block_run b h.3 _ _ w) (steps 1 (done _)))))))
item_run (outer_constructor l c j k n i p z a b) h ks vs w =
    let u : Spots = spell_suffix z (spell_inits a (spell_block b w)) in
    thus (by_inline l ks vs (class_name c j (sign P.Scope k (class_name n i (spell_params p u)))) refl)
    (steps 3 (by_step (open_params p _ _ u) (thus (params_run p h.0 _ _ u) (thus (suffix_run z h.1 _ _ (spell_inits a (spell_block b w)) (inits_ends a b w).1) (thus (inits_run a b h.2 _ _ w) (thus (block_run b h.3 _ _ w) (steps 1 (done _))))))))
item_run (outer_destructor l c j k y n i d e z b) h ks vs w =
    thus (by_inline l ks vs (class_name c j (sign P.Scope k (sign P.Tilde y (class_name n i (sign P.OpenParen d (sign P.CloseParen e (spell_suffix z (spell_block b w)))))))) refl)
    (steps 6 (thus (suffix_run z h.0 _ _ (spell_block b w) (block_ends b w).1) (thus (block_run b h.1 _ _ w) (steps 1 (done _)))))

-- an item has a first token
items_push : (w : Spots) → ((w ≡ []) → ⊥) → move ItemsPart (front w) ≡ push (Read ItemPart ∷ Make DoMoreItems ∷ Read ItemsPart ∷ [])
items_push [] h = absurd (h refl)
items_push (x ∷ w) h = refl

type_some : (t : TypeTree) (w : Spots) → spell_type t w ≡ [] → ⊥
type_some (type_tree (Some x) b p r) w q = cc
type_some (type_tree None (word_base k x) p r) w q = cc
type_some (type_tree None (unsigned_int x y) p r) w q = cc
type_some (type_tree None (long_long x y) p r) w q = cc
type_some (type_tree None (unsigned_long_long x y z) p r) w q = cc
type_some (type_tree None (class_base c x) p r) w q = cc
type_some (type_tree None (library_base x y m k l c d) p r) w q = cc

item_some : (t : Item) (w : Spots) → spell_item t w ≡ [] → ⊥
item_some (class_named i k n j l) w q = cc
item_some (class_defined i k n j l m y z) w q = cc
item_some (external i t n j k) w q = cc
item_some (global t n i v j) w q = type_some t _ q
item_some (function (Some x) t n i p z b) w q = cc
item_some (function None t n i p z b) w q = type_some t _ q
item_some (outer_method (Some x) t c j k n i p y z b) w q = cc
item_some (outer_method None t c j k n i p y z b) w q = type_some t _ q
item_some (outer_constructor (Some x) c j k n i p z a b) w q = cc
item_some (outer_constructor None c j k n i p z a b) w q = cc
item_some (outer_destructor (Some x) c j k y n i d e z b) w q = cc
item_some (outer_destructor None c j k y n i d e z b) w q = cc

items_run : (u : UnitTree) → ShapedUnit u → (ks : List Symbol) (vs : Values) (w : Spots) → Takes (config (Make DoNoItems ∷ Read ItemsPart ∷ ks) vs (spell_items u w)) (config (Read ItemsPart ∷ ks) (unit_val u ∷ vs) w)
items_run no_items h ks vs w = steps 1 (done _)
items_run (more_items u t) h ks vs w =
    thus (items_run u h.0 ks vs (spell_item t w))
    (by_step (ap (λ v. left_as (moved v ks (unit_val u ∷ vs) (ahead (spell_item t w))) (Read ItemsPart ∷ ks) (unit_val u ∷ vs) (spell_item t w)) (items_push (spell_item t w) (item_some t w))) (thus (item_run t h.1 _ _ w) (steps 1 (done _))))

-- each shaped unit is accepted, and its tree is what is left
pub accepts : (u : UnitTree) → ShapedUnit u → Takes (start (spell u)) (config [] (unit_val u ∷ []) [])
accepts u h = thus (items_run u h [] [] []) (steps 1 (done _))
