-- The machine reads each shaped member.
use Rattle.std.proofs.Common.{◌≡◌, ℕ, false, List, ◌∷◌, ◌++◌, Option, Some, None, refl}
use Rattle.cx_syntax.specs.declared.mark.Punct.{Punct}
use Rattle.cx_syntax.specs.declared.mark.Punct.TheVariants as P
use Rattle.cx_syntax.specs.declared.mark.Word.TheVariants as W
use Rattle.cx_syntax.specs.declared.mark.Mark.TheVariants as M
use Rattle.cx_table.specs.declared.symbol.Act.TheVariants.{DoNoMembers}
use Rattle.cx_table.specs.declared.symbol.Part.TheVariants.{MembersPart, MemberPart, MemberClass, MemberName, VirtualRest}
use Rattle.cx_table.specs.declared.symbol.Symbol.{Symbol}
use Rattle.cx_table.specs.declared.symbol.Symbol.TheVariants.{Make, Read}
use Rattle.cx_parser.proofs.Facts.{base_facts}
use Rattle.cx_parser.proofs.Functions.{const_suffix_run, making_ends, making_run, open_params, params_at, params_run, suffix_run, tail_ends, tail_run}
use Rattle.cx_parser.proofs.Runs.{Takes, by_step, done, steps, thus}
use Rattle.cx_parser.proofs.Statements.{type_opens}
use Rattle.cx_parser.proofs.Types.{rest_run, type_run}
use Rattle.cx_parser.specs.Machine.{config, front, next, rest}
use Rattle.cx_values.specs.Values.{Values, flag_val, mark_val, member_val, members_val, type_val}
use Rattle.cx_syntax.specs.Shaped.{ShapedMaking, ShapedMember, ShapedMembers, ShapedParams, ShapedSuffix, ShapedTail, ShapedType}
use Rattle.cx_syntax.specs.Spell.{Spots, class_name, if_sign, if_word, name, sign, spell_making, spell_member, spell_members, spell_params, spell_stars, spell_suffix, spell_tail, spell_type}
use Rattle.cx_syntax.specs.Tree.{Making, Member, Members, Params, Stars, Suffix, Tail, TypeTree, access, class_base, constructor, destructor, field, library_base, long_long, method, more_members, no_members, no_params, no_stars, params, star, type_tree, unsigned_int, unsigned_long_long, word_base}
use Rattle.cx_table.specs.Moves.{constructor_rest, method_rest}
use Rattle.cx_table.specs.Sorts.{is_mark}

-- what follows a class name that is a type
pub stars_follow : (p : Stars) (r : Option ℕ) (w : Spots) → (is_mark P.OpenParen (front w) ≡ false) × (is_mark P.Scope (front w) ≡ false) → (is_mark P.OpenParen (front (spell_stars p (if_sign r P.And w))) ≡ false) × (is_mark P.Scope (front (spell_stars p (if_sign r P.And w))) ≡ false)
stars_follow no_stars (Some i) w h = (refl, refl)
stars_follow no_stars None w h = h
stars_follow (star p i c) r w h = stars_over p (sign P.Star i (if_word c W.Const (if_sign r P.And w))) (refl, refl)
  where
    stars_over : (p : Stars) (w : Spots) → (is_mark P.OpenParen (front w) ≡ false) × (is_mark P.Scope (front w) ≡ false) → (is_mark P.OpenParen (front (spell_stars p w)) ≡ false) × (is_mark P.Scope (front (spell_stars p w)) ≡ false)
    stars_over no_stars w h = h
    stars_over (star p i c) w h = stars_over p (sign P.Star i (if_word c W.Const w)) (refl, refl)

-- a type and a name at the beginning of a member
typed_run : (t : TypeTree) → ShapedType t → (n i : ℕ) (ks : List Symbol) (vs : Values) (w : Spots) → Takes (config (Read MemberPart ∷ ks) vs (spell_type t (name n i w))) (config (Read MemberName ∷ ks) (mark_val (M.Name n) i ∷ type_val t ∷ flag_val None ∷ vs) w)
typed_run (type_tree None (class_base c x) p r) h n i ks vs w =
    steps 4 (rw ((stars_follow p r (name n i w) (refl, refl)).0) (steps 2 (thus (rest_run None r (class_base c x) p _ _ (name n i w) h.1 (refl, refl, refl, refl)) (steps 1 (done _)))))
typed_run (type_tree None (word_base k x) p r) h n i ks vs w =
    steps 1 (rw ((base_facts k h.0).4) (steps 2 (thus (type_run (type_tree None (word_base k x) p r) h _ _ (name n i w) (refl, refl, refl, refl)) (steps 1 (done _)))))
typed_run (type_tree (Some y) b p r) h n i ks vs w = steps 3 (thus (type_run (type_tree (Some y) b p r) h _ _ (name n i w) (refl, refl, refl, refl)) (steps 1 (done _)))
typed_run (type_tree None (unsigned_int x y) p r) h n i ks vs w = steps 3 (thus (type_run (type_tree None (unsigned_int x y) p r) h _ _ (name n i w) (refl, refl, refl, refl)) (steps 1 (done _)))
typed_run (type_tree None (long_long x y) p r) h n i ks vs w = steps 3 (thus (type_run (type_tree None (long_long x y) p r) h _ _ (name n i w) (refl, refl, refl, refl)) (steps 1 (done _)))
typed_run (type_tree None (unsigned_long_long x y z) p r) h n i ks vs w = steps 3 (thus (type_run (type_tree None (unsigned_long_long x y z) p r) h _ _ (name n i w) (refl, refl, refl, refl)) (steps 1 (done _)))
typed_run (type_tree None (library_base x y m k l c d) p r) h n i ks vs w = steps 3 (thus (type_run (type_tree None (library_base x y m k l c d) p r) h _ _ (name n i w) (refl, refl, refl, refl)) (steps 1 (done _)))

-- no type begins with `~`
type_tilde : (t : TypeTree) (w : Spots) → ShapedType t → is_mark P.Tilde (front (spell_type t w)) ≡ false
type_tilde (type_tree (Some x) b p r) w h = refl
type_tilde (type_tree None (word_base k x) p r) w h = refl
type_tilde (type_tree None (unsigned_int x y) p r) w h = refl
type_tilde (type_tree None (long_long x y) p r) w h = refl
type_tilde (type_tree None (unsigned_long_long x y z) p r) w h = refl
type_tilde (type_tree None (class_base c x) p r) w h = refl
type_tilde (type_tree None (library_base x y m k l c d) p r) w h = refl

enter_method : (p : Params) (ks : List Symbol) (vs : Values) (w : Spots) → next (config (Read MemberName ∷ ks) vs (spell_params p w)) ≡ config (method_rest ++ ks) (mark_val (M.Punct P.OpenParen) (params_at p) ∷ vs) (rest (spell_params p w))
enter_method (no_params i j) ks vs w = refl
enter_method (params i r j) ks vs w = refl

enter_constructor : (p : Params) (ks : List Symbol) (vs : Values) (w : Spots) → next (config (Read MemberClass ∷ ks) vs (spell_params p w)) ≡ config (constructor_rest ++ ks) (mark_val (M.Punct P.OpenParen) (params_at p) ∷ vs) (rest (spell_params p w))
enter_constructor (no_params i j) ks vs w = refl
enter_constructor (params i r j) ks vs w = refl

method_end : (v : Option ℕ) (t : TypeTree) (n i : ℕ) (p : Params) (c : Option ℕ) (z : Suffix) (b : Tail) → ShapedParams p → ShapedSuffix z → ShapedTail b → (ks : List Symbol) (vs : Values) (w : Spots)
    → Takes (config (method_rest ++ ks) (mark_val (M.Punct P.OpenParen) (params_at p) ∷ mark_val (M.Name n) i ∷ type_val t ∷ flag_val v ∷ vs) (rest (spell_params p (if_word c W.Const (spell_suffix z (spell_tail b w)))))) (config ks (member_val (method v t n i p c z b) ∷ vs) w)
method_end v t n i p c z b hp hz hb ks vs w =
    thus (params_run p hp _ _ (if_word c W.Const (spell_suffix z (spell_tail b w))))
    (thus (const_suffix_run c z hz _ _ (spell_tail b w) (tail_ends b w)) (thus (tail_run b hb _ _ w) (steps 1 (done _))))

constructor_end : (x : Option ℕ) (n i : ℕ) (p : Params) (z : Suffix) (b : Making) → ShapedParams p → ShapedSuffix z → ShapedMaking b → (ks : List Symbol) (vs : Values) (w : Spots)
    → Takes (config (constructor_rest ++ ks) (mark_val (M.Punct P.OpenParen) (params_at p) ∷ mark_val (M.Class n) i ∷ flag_val x ∷ vs) (rest (spell_params p (spell_suffix z (spell_making b w))))) (config ks (member_val (constructor x n i p z b) ∷ vs) w)
constructor_end x n i p z b hp hz hb ks vs w =
    thus (params_run p hp _ _ (spell_suffix z (spell_making b w)))
    (thus (suffix_run z hz _ _ (spell_making b w) (making_ends b w).1) (thus (making_run b hb _ _ w) (steps 1 (done _))))

destructor_end : (v : Option ℕ) (y n i j k : ℕ) (z : Suffix) (b : Tail) → ShapedSuffix z → ShapedTail b → (ks : List Symbol) (vs : Values) (w : Spots)
    → Takes (config (Read VirtualRest ∷ ks) (flag_val v ∷ vs) (sign P.Tilde y (class_name n i (sign P.OpenParen j (sign P.CloseParen k (spell_suffix z (spell_tail b w))))))) (config ks (member_val (destructor v y n i j k z b) ∷ vs) w)
destructor_end v y n i j k z b hz hb ks vs w = steps 4 (thus (suffix_run z hz _ _ (spell_tail b w) (tail_ends b w).1) (thus (tail_run b hb _ _ w) (steps 1 (done _))))

pub member_run : (t : Member) → ShapedMember t → (ks : List Symbol) (vs : Values) (w : Spots) → Takes (config (Read MemberPart ∷ ks) vs (spell_member t w)) (config ks (member_val t ∷ vs) w)
member_run (access i W.Public j) h ks vs w = steps 3 (done _)
member_run (access i W.Private j) h ks vs w = steps 3 (done _)
member_run (access i _ j) h ks vs w = absurd (cc)
member_run (field t n i j) h ks vs w = thus (typed_run t h n i _ _ (sign P.Semicolon j w)) (steps 3 (done _))
member_run (method None t n i p c z b) h ks vs w =
    let u : Spots = if_word c W.Const (spell_suffix z (spell_tail b w)) in
    thus (typed_run t h.0 n i _ _ (spell_params p u)) (by_step (enter_method p _ _ u) (method_end None t n i p c z b h.1 h.2 h.3 ks vs w))
member_run (method (Some x) t n i p c z b) h ks vs w =
    let u : Spots = if_word c W.Const (spell_suffix z (spell_tail b w)) in
    steps 3 (rw (type_tilde t (name n i (spell_params p u)) h.0) (thus (type_run t h.0 _ _ (name n i (spell_params p u)) (refl, refl, refl, refl)) (steps 1 (by_step (open_params p _ _ u) (method_end (Some x) t n i p c z b h.1 h.2 h.3 ks vs w)))))
member_run (constructor None n i p z b) h ks vs w = steps 3 (by_step (enter_constructor p _ _ (spell_suffix z (spell_making b w))) (constructor_end None n i p z b h.0 h.1 h.2 ks vs w))
member_run (constructor (Some x) n i p z b) h ks vs w = steps 3 (by_step (open_params p _ _ (spell_suffix z (spell_making b w))) (constructor_end (Some x) n i p z b h.0 h.1 h.2 ks vs w))
member_run (destructor None y n i j k z b) h ks vs w = steps 2 (destructor_end None y n i j k z b h.0 h.1 ks vs w)
member_run (destructor (Some x) y n i j k z b) h ks vs w = steps 2 (destructor_end (Some x) y n i j k z b h.0 h.1 ks vs w)

type_brace : (t : TypeTree) (w : Spots) → ShapedType t → is_mark P.CloseBrace (front (spell_type t w)) ≡ false
type_brace t w h = (type_opens t w h).2

member_brace : (t : Member) (w : Spots) → ShapedMember t → is_mark P.CloseBrace (front (spell_member t w)) ≡ false
member_brace (access i k j) w h = refl
member_brace (field t n i j) w h = type_brace t (name n i (sign P.Semicolon j w)) h
member_brace (method (Some x) t n i p c z b) w h = refl
member_brace (method None t n i p c z b) w h = type_brace t (name n i (spell_params p (if_word c W.Const (spell_suffix z (spell_tail b w))))) h.0
member_brace (constructor (Some x) n i p z b) w h = refl
member_brace (constructor None n i p z b) w h = refl
member_brace (destructor (Some x) y n i j k z b) w h = refl
member_brace (destructor None y n i j k z b) w h = refl

pub members_run : (l : Members) → ShapedMembers l → (ks : List Symbol) (vs : Values) (w : Spots) → Takes (config (Make DoNoMembers ∷ Read MembersPart ∷ ks) vs (spell_members l w)) (config (Read MembersPart ∷ ks) (members_val l ∷ vs) w)
members_run no_members h ks vs w = steps 1 (done _)
members_run (more_members l t) h ks vs w =
    thus (members_run l h.0 ks vs (spell_member t w)) (steps 1 (rw (member_brace t w h.1) (thus (member_run t h.1 _ _ w) (steps 1 (done _)))))
