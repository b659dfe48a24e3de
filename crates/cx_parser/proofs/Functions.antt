-- The machine reads parameters, specifiers, and the ends of functions.
use Rattle.std.proofs.Common.{◌≡◌, ℕ, true, false, eqb, List, [], ◌∷◌, Option, Some, None, refl, sym, ◌∙◌, ap, subst, arith}
use Rattle.cx_syntax.specs.declared.mark.Punct.{Punct}
use Rattle.cx_syntax.specs.declared.mark.Punct.TheVariants as P
use Rattle.cx_syntax.specs.declared.mark.Word.{Word}
use Rattle.cx_syntax.specs.declared.mark.Word.TheVariants as W
use Rattle.cx_syntax.specs.declared.mark.Mark.{Mark}
use Rattle.cx_syntax.specs.declared.mark.Mark.TheVariants as M
use Rattle.cx_table.specs.declared.symbol.Act.TheVariants.{DoOneParam, DoNoSpecs, DoMoreSpecs, DoPre, DoPost, DoOneInit}
use Rattle.cx_table.specs.declared.symbol.Part.{Part}
use Rattle.cx_table.specs.declared.symbol.Part.TheVariants.{Cond, OptWord, ParamPart, ParamsRest, ParamsTail, SuffixPart, SpecsPart, PostRest, TailPart, MakingPart, InitsPart, MemberInitPart, InitsTail}
use Rattle.cx_table.specs.declared.symbol.Symbol.{Symbol}
use Rattle.cx_table.specs.declared.symbol.Symbol.TheVariants.{Make, Read}
use Rattle.cx_parser.proofs.Entries.{follows, from_name, named_run}
use Rattle.cx_parser.proofs.Expressions.{cond_run, first, front_first, listed, no_close}
use Rattle.cx_parser.proofs.Facts.{Opens}
use Rattle.cx_parser.proofs.Runs.{Takes, by_step, done, eqb_above, equal_eqb, steps, thus}
use Rattle.cx_parser.proofs.Spine.{open_args}
use Rattle.cx_parser.proofs.Statements.{EndsParam, block_run, param_run, type_opens}
use Rattle.cx_parser.proofs.Types.{word_run}
use Rattle.cx_parser.specs.Machine.{Config, ahead, config, front, left_as, moved, next, rest}
use Rattle.cx_values.specs.Values.{Values, flag_val, init_row_val, inits_val, making_val, mark_val, member_init_val, params_val, row_val, spec_val, specs_val, suffix_val, tail_val}
use Rattle.cx_syntax.specs.Shaped.{ShapedCond, ShapedInitRow, ShapedInits, ShapedMaking, ShapedMemberInit, ShapedParams, ShapedRow, ShapedSpec, ShapedSpecs, ShapedSuffix, ShapedTail, is_named, post_name, pre_name}
use Rattle.cx_syntax.specs.Spell.{Spots, if_word, sign, spell_block, spell_expr, spell_init_row, spell_inits, spell_making, spell_member_init, spell_optional_name, spell_param, spell_params, spell_row, spell_spec, spell_specs, spell_suffix, spell_tail}
use Rattle.cx_syntax.specs.Tree.{Block, Expr, InitRow, Inits, Making, MemberInit, ParamRow, Params, Spec, Specs, Suffix, Tail, after, after_named, before, block, declared, defined, inits, leaf, made, member_init, more_inits, more_params, more_specs, no_inits, no_params, no_specs, one_init, one_param, param, params, suffix, unmade}
use Rattle.cx_table.specs.Moves.{Move, eat, move, post_rest, push, s, specs_move}
use Rattle.cx_table.specs.Sorts.{is_mark, is_word, name_number}

abbrev pub params_at : Params → ℕ
params_at (no_params i j) = i
params_at (params i r j) = i

pub open_params : (p : Params) (ks : List Symbol) (vs : Values) (w : Spots) → next (config (s P.OpenParen ∷ ks) vs (spell_params p w)) ≡ config ks (mark_val (M.Punct P.OpenParen) (params_at p) ∷ vs) (rest (spell_params p w))
open_params (no_params i j) ks vs w = refl
open_params (params i r j) ks vs w = refl

-- what begins with an opening parenthesis
pub params_front : (p : Params) (w : Spots) → is_mark P.OpenParen (front (spell_params p w)) ≡ true
params_front (no_params i j) w = refl
params_front (params i r j) w = refl

row_opens : (r : ParamRow) (w : Spots) → ShapedRow r → Opens (front (spell_row r w))
row_opens (one_param (param t n)) w h = type_opens t (spell_optional_name n w) h
row_opens (more_params r i p) w h = row_opens r (sign P.Comma i (spell_param p w)) h.0

row_run : (r : ParamRow) → ShapedRow r → (ks : List Symbol) (vs : Values) (w : Spots) → EndsParam (front w) → Takes (config (Read ParamPart ∷ Make DoOneParam ∷ Read ParamsTail ∷ ks) vs (spell_row r w)) (config (Read ParamsTail ∷ ks) (row_val r ∷ vs) w)
row_run (one_param p) h ks vs w q = thus (param_run p h _ _ w q) (steps 1 (done _))
row_run (more_params r i p) h ks vs w q = thus (row_run r h.0 _ _ (sign P.Comma i (spell_param p w)) ((refl, refl, refl, refl), refl)) (steps 1 (thus (param_run p h.1 _ _ w q) (steps 1 (done _))))

-- parameters whose `(` was taken
pub params_run : (p : Params) → ShapedParams p → (ks : List Symbol) (vs : Values) (w : Spots) → Takes (config (Read ParamsRest ∷ ks) (mark_val (M.Punct P.OpenParen) (params_at p) ∷ vs) (rest (spell_params p w))) (config ks (params_val p ∷ vs) w)
params_run (no_params i j) h ks vs w = steps 2 (done _)
params_run (params i r j) h ks vs w =
    steps 1 (rw (no_close (front (spell_row r (sign P.CloseParen j w))) (row_opens r (sign P.CloseParen j w) h).0) (thus (row_run r h _ _ (sign P.CloseParen j w) ((refl, refl, refl, refl), refl)) (steps 3 (done _))))

-- what may follow specifiers
abbrev pub EndsSpecs : Option Mark → Type 0
EndsSpecs o = (is_word W.Noexcept o ≡ false) × (name_number o ≡ None)

named_noexcept : (n : ℕ) (m : Mark) → is_named n m ≡ true → is_word W.Noexcept (Some m) ≡ false
named_noexcept n (M.Name k) h = refl
named_noexcept n (M.Class k) h = refl
named_noexcept n _ h = absurd (cc)

specs_noexcept : (l : Specs) (w : Spots) → ShapedSpecs l → is_word W.Noexcept (front w) ≡ false → is_word W.Noexcept (front (spell_specs l w)) ≡ false
specs_noexcept no_specs w h q = q
specs_noexcept (more_specs l (before m i j e k)) w h q = specs_noexcept l (spell_spec (before m i j e k) w) h.0 (named_noexcept pre_name m h.1.0)
specs_noexcept (more_specs l (after m i j e k)) w h q = specs_noexcept l (spell_spec (after m i j e k) w) h.0 (named_noexcept post_name m h.1.0)
specs_noexcept (more_specs l (after_named m i j n a c e k)) w h q = specs_noexcept l (spell_spec (after_named m i j n a c e k) w) h.0 (named_noexcept post_name m h.1.0)

-- `post (` was taken, and a predicate without a result name follows
post_run : (m : Mark) (i j : ℕ) (e : Expr) (k : ℕ) → ShapedCond e → (ks : List Symbol) (vs : Values) (w : Spots) → Takes (config (Read PostRest ∷ ks) (mark_val (M.Punct P.OpenParen) j ∷ mark_val m i ∷ vs) (spell_expr e (sign P.CloseParen k w))) (config ks (spec_val (after m i j e k) ∷ vs) w)
post_run m i j e k h ks vs w = by_first (first e) refl
  where
    u : Spots
    u = sign P.CloseParen k w

    us : Values
    us = mark_val (M.Punct P.OpenParen) j ∷ mark_val m i ∷ vs

    nameless : post_rest (front (spell_expr e u)) ≡ push (Read Cond ∷ s P.CloseParen ∷ Make DoPost ∷ []) → Takes (config (Read PostRest ∷ ks) us (spell_expr e u)) (config ks (spec_val (after m i j e k) ∷ vs) w)
    nameless q = by_step (ap (λ v. left_as (moved v ks us (ahead (spell_expr e u))) (Read PostRest ∷ ks) us (spell_expr e u)) q) (thus (cond_run e h _ _ u refl) (steps 2 (done _)))

    of_name : (n : ℕ) → first e ≡ M.Name n → Takes (config (Read PostRest ∷ ks) us (spell_expr e u)) (config ks (spec_val (after m i j e k) ∷ vs) w)
    of_name n q =
        let f = from_name e n h.1 q in
        let g = follows (leaf f.0 (M.Name n)) e f.1 h.1 u refl in
        let Q : Spots → Type 0 = λ x. Takes (config (Read PostRest ∷ ks) us x) (config ks (spec_val (after m i j e k) ∷ vs) w) in
        subst Q (sym g.1) (steps 2 (rw g.2 (thus (named_run f.0 n e f.1 h (s P.CloseParen ∷ Make DoPost ∷ ks) us u g.0 refl g.1) (steps 2 (done _)))))

    by_first : (f : Mark) → first e ≡ f → Takes (config (Read PostRest ∷ ks) us (spell_expr e u)) (config ks (spec_val (after m i j e k) ∷ vs) w)
    by_first (M.Name n) q = of_name n q
    by_first (M.Class n) q = nameless (ap post_rest (front_first e u ∙ ap Some q))
    by_first M.Std q = nameless (ap post_rest (front_first e u ∙ ap Some q))
    by_first (M.Word x) q = nameless (ap post_rest (front_first e u ∙ ap Some q))
    by_first M.Number q = nameless (ap post_rest (front_first e u ∙ ap Some q))
    by_first M.Char q = nameless (ap post_rest (front_first e u ∙ ap Some q))
    by_first M.Text q = nameless (ap post_rest (front_first e u ∙ ap Some q))
    by_first (M.Punct x) q = nameless (ap post_rest (front_first e u ∙ ap Some q))

post_not_pre : (n : ℕ) → eqb n post_name ≡ true → eqb n pre_name ≡ false
post_not_pre n h = let e : n ≡ 2 = equal_eqb n 2 h in eqb_above n 1 (omega arith)

-- a specifier's first step, by its name
entered : (n : ℕ) (m : Mark) → is_named n m ≡ true → (x : ℕ) × (name_number (Some m) ≡ Some x) × (eqb x n ≡ true)
entered n (M.Name k) h = (k, refl, h)
entered n (M.Class k) h = (k, refl, h)
entered n _ h = absurd (cc)

enter_pre : (m : Mark) → is_named pre_name m ≡ true → specs_move (name_number (Some m)) ≡ eat (s P.OpenParen ∷ Read Cond ∷ s P.CloseParen ∷ Make DoPre ∷ Make DoMoreSpecs ∷ Read SpecsPart ∷ [])
enter_pre m h = let x = entered pre_name m h in rw (x.1, x.2) refl

enter_post : (m : Mark) → is_named post_name m ≡ true → specs_move (name_number (Some m)) ≡ eat (s P.OpenParen ∷ Read PostRest ∷ Make DoMoreSpecs ∷ Read SpecsPart ∷ [])
enter_post m h = let x = entered post_name m h in rw (x.1, post_not_pre x.0 x.2, x.2) refl

by_move : (x : Part) (v : Move) (ks : List Symbol) (vs : Values) (w : Spots) (c : Config) → move x (front w) ≡ v → Takes (left_as (moved v ks vs (ahead w)) (Read x ∷ ks) vs w) c → Takes (config (Read x ∷ ks) vs w) c
by_move x v ks vs w c q a = by_step (ap (λ v. left_as (moved v ks vs (ahead w)) (Read x ∷ ks) vs w) q) a

spec_run : (t : Spec) (l : Specs) → ShapedSpec t → (ks : List Symbol) (vs : Values) (w : Spots) → Takes (config (Read SpecsPart ∷ ks) (specs_val l ∷ vs) (spell_spec t w)) (config (Read SpecsPart ∷ ks) (specs_val (more_specs l t) ∷ vs) w)
spec_run (before m i j e k) l h ks vs w = by_move SpecsPart _ ks (specs_val l ∷ vs) (spell_spec (before m i j e k) w) _ (enter_pre m h.0) (steps 1 (thus (cond_run e h.1 _ _ (sign P.CloseParen k w) refl) (steps 3 (done _))))
spec_run (after m i j e k) l h ks vs w = by_move SpecsPart _ ks (specs_val l ∷ vs) (spell_spec (after m i j e k) w) _ (enter_post m h.0) (steps 1 (thus (post_run m i j e k h.1 _ _ w) (steps 1 (done _))))
spec_run (after_named m i j n a c e k) l h ks vs w = by_move SpecsPart _ ks (specs_val l ∷ vs) (spell_spec (after_named m i j n a c e k) w) _ (enter_post m h.0) (steps 3 (thus (cond_run e h.1 _ _ (sign P.CloseParen k w) refl) (steps 3 (done _))))

specs_run : (l : Specs) → ShapedSpecs l → (ks : List Symbol) (vs : Values) (w : Spots) → Takes (config (Make DoNoSpecs ∷ Read SpecsPart ∷ ks) vs (spell_specs l w)) (config (Read SpecsPart ∷ ks) (specs_val l ∷ vs) w)
specs_run no_specs h ks vs w = steps 1 (done _)
specs_run (more_specs l t) h ks vs w = thus (specs_run l h.0 ks vs (spell_spec t w)) (spec_run t l h.1 ks vs w)

pub suffix_run : (z : Suffix) → ShapedSuffix z → (ks : List Symbol) (vs : Values) (w : Spots) → EndsSpecs (front w) → Takes (config (Read SuffixPart ∷ ks) vs (spell_suffix z w)) (config ks (suffix_val z ∷ vs) w)
suffix_run (suffix x l) h ks vs w q =
    steps 1 (thus (word_run x W.Noexcept _ _ (spell_specs l w) (specs_noexcept l w h q.0))
    (thus (specs_run l h _ _ w) (steps 1 (rw q.1 (steps 1 (done _))))))

-- a function's const and suffix
abbrev pub EndsConst : Option Mark → Type 0
EndsConst o = (is_word W.Const o ≡ false) × EndsSpecs o

named_const : (n : ℕ) (m : Mark) → is_named n m ≡ true → is_word W.Const (Some m) ≡ false
named_const n (M.Name k) h = refl
named_const n (M.Class k) h = refl
named_const n _ h = absurd (cc)

specs_const : (l : Specs) (w : Spots) → ShapedSpecs l → is_word W.Const (front w) ≡ false → is_word W.Const (front (spell_specs l w)) ≡ false
specs_const no_specs w h q = q
specs_const (more_specs l (before m i j e k)) w h q = specs_const l (spell_spec (before m i j e k) w) h.0 (named_const pre_name m h.1.0)
specs_const (more_specs l (after m i j e k)) w h q = specs_const l (spell_spec (after m i j e k) w) h.0 (named_const post_name m h.1.0)
specs_const (more_specs l (after_named m i j n a c e k)) w h q = specs_const l (spell_spec (after_named m i j n a c e k) w) h.0 (named_const post_name m h.1.0)

suffix_const : (z : Suffix) (w : Spots) → ShapedSuffix z → is_word W.Const (front w) ≡ false → is_word W.Const (front (spell_suffix z w)) ≡ false
suffix_const (suffix (Some i) l) w h q = refl
suffix_const (suffix None l) w h q = specs_const l w h q

pub const_suffix_run : (c : Option ℕ) (z : Suffix) → ShapedSuffix z → (ks : List Symbol) (vs : Values) (w : Spots) → EndsConst (front w) → Takes (config (Read (OptWord W.Const) ∷ Read SuffixPart ∷ ks) vs (if_word c W.Const (spell_suffix z w))) (config ks (suffix_val z ∷ flag_val c ∷ vs) w)
const_suffix_run c z h ks vs w q = thus (word_run c W.Const _ _ (spell_suffix z w) (suffix_const z w h q.0)) (suffix_run z h _ _ w q.1)

pub block_ends : (b : Block) (w : Spots) → EndsConst (front (spell_block b w))
block_ends (block i b j) w = (refl, (refl, refl))

pub tail_ends : (b : Tail) (w : Spots) → EndsConst (front (spell_tail b w))
tail_ends (declared i) w = (refl, (refl, refl))
tail_ends (defined (block i b j)) w = (refl, (refl, refl))

pub inits_ends : (a : Inits) (b : Block) (w : Spots) → EndsConst (front (spell_inits a (spell_block b w)))
inits_ends no_inits b w = block_ends b w
inits_ends (inits i l) b w = (refl, (refl, refl))

pub making_ends : (b : Making) (w : Spots) → EndsConst (front (spell_making b w))
making_ends (unmade i) w = (refl, (refl, refl))
making_ends (made a b) w = inits_ends a b w

pub tail_run : (b : Tail) → ShapedTail b → (ks : List Symbol) (vs : Values) (w : Spots) → Takes (config (Read TailPart ∷ ks) vs (spell_tail b w)) (config ks (tail_val b ∷ vs) w)
tail_run (declared i) h ks vs w = steps 2 (done _)
tail_run (defined (block i b j)) h ks vs w = steps 1 (thus (block_run (block i b j) h _ _ w) (steps 1 (done _)))

member_init_run : (a : MemberInit) → ShapedMemberInit a → (ks : List Symbol) (vs : Values) (w : Spots) → Takes (config (Read MemberInitPart ∷ ks) vs (spell_member_init a w)) (config ks (member_init_val a ∷ vs) w)
member_init_run (member_init n i a) h ks vs w = steps 2 (by_step (open_args a _ _ w) (thus (listed a h _ _ w) (steps 1 (done _))))

init_row_run : (l : InitRow) → ShapedInitRow l → (ks : List Symbol) (vs : Values) (w : Spots) → Takes (config (Read MemberInitPart ∷ Make DoOneInit ∷ Read InitsTail ∷ ks) vs (spell_init_row l w)) (config (Read InitsTail ∷ ks) (init_row_val l ∷ vs) w)
init_row_run (one_init a) h ks vs w = thus (member_init_run a h _ _ w) (steps 1 (done _))
init_row_run (more_inits l i a) h ks vs w = thus (init_row_run l h.0 _ _ (sign P.Comma i (spell_member_init a w))) (steps 1 (thus (member_init_run a h.1 _ _ w) (steps 1 (done _))))

-- a member initialiser list before a block
pub inits_run : (a : Inits) (b : Block) → ShapedInits a → (ks : List Symbol) (vs : Values) (w : Spots) → Takes (config (Read InitsPart ∷ ks) vs (spell_inits a (spell_block b w))) (config ks (inits_val a ∷ vs) (spell_block b w))
inits_run no_inits (block i b j) h ks vs w = steps 2 (done _)
inits_run (inits x l) (block i b j) h ks vs w = steps 1 (thus (init_row_run l h _ _ (spell_block (block i b j) w)) (steps 2 (done _)))

inits_semicolon : (a : Inits) (b : Block) (w : Spots) → is_mark P.Semicolon (front (spell_inits a (spell_block b w))) ≡ false
inits_semicolon no_inits (block i b j) w = refl
inits_semicolon (inits i l) b w = refl

pub making_run : (b : Making) → ShapedMaking b → (ks : List Symbol) (vs : Values) (w : Spots) → Takes (config (Read MakingPart ∷ ks) vs (spell_making b w)) (config ks (making_val b ∷ vs) w)
making_run (unmade i) h ks vs w = steps 2 (done _)
making_run (made a b) h ks vs w = steps 1 (rw (inits_semicolon a b w) (thus (inits_run a b h.0 _ _ w) (thus (block_run b h.1 _ _ w) (steps 1 (done _)))))
