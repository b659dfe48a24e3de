-- Expressions whose leftmost part was read before their own entry: after `std ::` at the beginning of a statement, and after a name in a postcondition.
use Rattle.std.proofs.Common.{◌≡◌, ℕ, suc, true, false, eqb, List, ◌∷◌, ◌⊎◌, refl, sym, ap, subst, inl, inr, arith}
use Rattle.cx_syntax.specs.declared.mark.Punct.{Punct}
use Rattle.cx_syntax.specs.declared.mark.Punct.TheVariants as P
use Rattle.cx_syntax.specs.declared.mark.Mark.TheVariants as M
use Rattle.cx_table.specs.declared.symbol.Act.TheVariants.{DoLeaf, DoStandard}
use Rattle.cx_table.specs.declared.symbol.Part.TheVariants.{AssignTail, CondTail, LevelTail, PostTail}
use Rattle.cx_table.specs.declared.symbol.Symbol.{Symbol}
use Rattle.cx_table.specs.declared.symbol.Symbol.TheVariants.{Make, Read}
use Rattle.cx_parser.proofs.Expressions.{first, good, listed, whole}
use Rattle.cx_parser.proofs.Facts.{assign_facts, colon_facts, member_facts, step_facts}
use Rattle.cx_parser.proofs.Runs.{Takes, done, steps}
use Rattle.cx_parser.proofs.Spine.{Good, args_scope, assign_good, binary_good, call_post, choose_good, member_post, postfix_good, stepped_post}
use Rattle.cx_parser.specs.Machine.{Config, config, front, rest}
use Rattle.cx_values.specs.Values.{Values, expr_val, mark_val}
use Rattle.cx_syntax.specs.Shaped.{Shaped, ShapedCond, begins_type}
use Rattle.cx_syntax.specs.Spell.{Spots, name, sign, spell_args, spell_expr}
use Rattle.cx_syntax.specs.Tree.{Expr, assign, binary, call, choose, leaf, library, member, paren, standard, static_cast, stepped, temporary, unary, word_cast}
use Rattle.cx_table.specs.Moves.{tails}
use Rattle.cx_table.specs.Sorts.{is_free, is_mark, loose}

-- the leftmost part of an expression is this one
abbrev pub From : Expr → Expr → Type 0
From p (member i e o j n k) = From p e
From p (call i e a) = From p e
From p (stepped i e o j) = From p e
From p (binary i l o j r) = From p l
From p (choose i c j a k b) = From p c
From p (assign i l o j r) = From p l
From p e = e ≡ p

-- what follows that part
abbrev Follows : Expr → Expr → Spots → Type 0
Follows p e u = (v : Spots) × (spell_expr e u ≡ spell_expr p v) × (is_mark P.Colon (front v) ≡ false)

pub follows : (p e : Expr) → From p e → Shaped e → (u : Spots) → is_mark P.Colon (front u) ≡ false → Follows p e u
follows p (member i e o j n k) f h u c = follows p e f h.2 (sign o j (name n k u)) (member_facts o h.0).3
follows p (call i e a) f h u c = follows p e f h.1 (spell_args a u) (args_scope a u).1
follows p (stepped i e o j) f h u c = follows p e f h.2 (sign o j u) (step_facts o h.0).2
follows p (binary i l o j r) f h u c = follows p l f h.4 (sign o j (spell_expr r u)) (colon_facts o (omega (arith, h.1)))
follows p (choose i c1 j a k b) f h u c = follows p c1 f h.1 (sign P.Question j (spell_expr a (sign P.Colon k (spell_expr b u)))) refl
follows p (assign i l o j r) f h u c = follows p l f h.2 (sign o j (spell_expr r u)) (assign_facts o h.0).1
follows p (leaf i m) f h u c = (u, ap (λ e. spell_expr e u) f, c)
follows p (paren i e j) f h u c = (u, ap (λ e. spell_expr e u) f, c)
follows p (temporary i n a) f h u c = (u, ap (λ e. spell_expr e u) f, c)
follows p (word_cast i k j e l) f h u c = (u, ap (λ e. spell_expr e u) f, c)
follows p (static_cast i j t k l e z) f h u c = (u, ap (λ e. spell_expr e u) f, c)
follows p (standard i j n k) f h u c = (u, ap (λ e. spell_expr e u) f, c)
follows p (library i j m k l t a z n b) f h u c = (u, ap (λ e. spell_expr e u) f, c)
follows p (unary i o e) f h u c = (u, ap (λ e. spell_expr e u) f, c)

module _ (E : ℕ → List Symbol → Values → Spots → Config) (descend : (d : ℕ) (ks : List Symbol) (vs : Values) (u : Spots) → Takes (E (suc d) ks vs u) (E d (Read (LevelTail (suc d)) ∷ ks) vs u)) (p : Expr) (base : Good E descend p) where
  pub from_good : (e : Expr) → From p e → Shaped e → Good E descend e
  from_good (member i e o j n k) f h = postfix_good E descend (member i e o j n k) refl (member_post E descend i e o j n k h.0 h.3 ((from_good e f h.2).0 h.1))
  from_good (call i e a) f h = postfix_good E descend (call i e a) refl (call_post E descend i e a h.3 (listed a h.2) ((from_good e f h.1).0 h.0))
  from_good (stepped i e o j) f h = postfix_good E descend (stepped i e o j) refl (stepped_post E descend i e o j h.0 h.3 ((from_good e f h.2).0 h.1))
  from_good (binary i l o j r) f h = binary_good E descend i l o j r h.0 h.1 h.2 h.6 (from_good l f h.4) (λ d q. ((good r h.5).1 (omega (arith, h.1, h.3))).0 d (omega (arith, q, h.3)))
  from_good (choose i c j a k b) f h = choose_good E descend i c j a k b h.0 h.4 (from_good c f h.1) (whole a h.2) (whole b h.3)
  from_good (assign i l o j r) f h = assign_good E descend i l o j r h.0 h.1 h.4 (from_good l f h.2) (whole r h.3)
  from_good (leaf i m) f h = subst (Good E descend) (sym f) base
  from_good (paren i e j) f h = subst (Good E descend) (sym f) base
  from_good (temporary i n a) f h = subst (Good E descend) (sym f) base
  from_good (word_cast i k j e l) f h = subst (Good E descend) (sym f) base
  from_good (static_cast i j t k l e z) f h = subst (Good E descend) (sym f) base
  from_good (standard i j n k) f h = subst (Good E descend) (sym f) base
  from_good (library i j m k l t a z n b) f h = subst (Good E descend) (sym f) base
  from_good (unary i o e) f h = subst (Good E descend) (sym f) base

-- after `std :: NAME`
StandardEntry : ℕ → ℕ → ℕ → ℕ → ℕ → List Symbol → Values → Spots → Config
StandardEntry i j n k d ks vs u = config (Make DoStandard ∷ tails d ks) (mark_val (M.Name n) k ∷ mark_val (M.Punct P.Scope) j ∷ mark_val M.Std i ∷ vs) (rest (rest (rest u)))

standard_down : (i j n k d : ℕ) (ks : List Symbol) (vs : Values) (u : Spots) → Takes (StandardEntry i j n k (suc d) ks vs u) (StandardEntry i j n k d (Read (LevelTail (suc d)) ∷ ks) vs u)
unfolding StandardEntry
standard_down i j n k d ks vs u = done _

standard_post : (i j n k : ℕ) (ks : List Symbol) (vs : Values) (w : Spots) → Takes (StandardEntry i j n k 0 ks vs (spell_expr (standard i j n k) w)) (config (Read PostTail ∷ ks) (expr_val (standard i j n k) ∷ vs) w)
unfolding StandardEntry
standard_post i j n k ks vs w = steps 1 (done _)

standard_good : (i j n k : ℕ) → Good (StandardEntry i j n k) (standard_down i j n k) (standard i j n k)
standard_good i j n k = postfix_good (StandardEntry i j n k) (standard_down i j n k) (standard i j n k) refl (λ ks vs w _. standard_post i j n k ks vs w)

-- an expression that begins with `std :: NAME`, after it
pub standard_run : (i j n k : ℕ) (e : Expr) → From (standard i j n k) e → Shaped e → (ks : List Symbol) (vs : Values) (w v : Spots) → loose (front w) ≡ 12 → spell_expr e w ≡ spell_expr (standard i j n k) v → Takes (config (Make DoStandard ∷ tails 10 (Read AssignTail ∷ ks)) (mark_val (M.Name n) k ∷ mark_val (M.Punct P.Scope) j ∷ mark_val M.Std i ∷ vs) v) (config ks (expr_val e ∷ vs) w)
unfolding StandardEntry
standard_run i j n k e f h ks vs w v l q =
    let Q : Spots → Type 0 = λ u. Takes (config (Make DoStandard ∷ tails 10 (Read AssignTail ∷ ks)) (mark_val (M.Name n) k ∷ mark_val (M.Punct P.Scope) j ∷ mark_val M.Std i ∷ vs) (rest (rest (rest u)))) (config ks (expr_val e ∷ vs) w) in
    subst Q q ((from_good (StandardEntry i j n k) (standard_down i j n k) (standard i j n k) (standard_good i j n k) e f h).2 ks vs w l)

-- after a name
NameEntry : ℕ → ℕ → ℕ → List Symbol → Values → Spots → Config
NameEntry i n d ks vs u = config (Make DoLeaf ∷ tails d ks) (mark_val (M.Name n) i ∷ vs) (rest u)

name_down : (i n d : ℕ) (ks : List Symbol) (vs : Values) (u : Spots) → Takes (NameEntry i n (suc d) ks vs u) (NameEntry i n d (Read (LevelTail (suc d)) ∷ ks) vs u)
unfolding NameEntry
name_down i n d ks vs u = done _

name_post : (i n : ℕ) (ks : List Symbol) (vs : Values) (w : Spots) → Takes (NameEntry i n 0 ks vs (spell_expr (leaf i (M.Name n)) w)) (config (Read PostTail ∷ ks) (expr_val (leaf i (M.Name n)) ∷ vs) w)
unfolding NameEntry
name_post i n ks vs w = steps 1 (done _)

name_good : (i n : ℕ) → Good (NameEntry i n) (name_down i n) (leaf i (M.Name n))
name_good i n = postfix_good (NameEntry i n) (name_down i n) (leaf i (M.Name n)) refl (λ ks vs w _. name_post i n ks vs w)

-- a `cond` that begins with a name, after it
pub named_run : (i n : ℕ) (e : Expr) → From (leaf i (M.Name n)) e → ShapedCond e → (ks : List Symbol) (vs : Values) (w v : Spots) → loose (front w) ≡ 12 → spell_expr e w ≡ spell_expr (leaf i (M.Name n)) v → Takes (config (Make DoLeaf ∷ tails 10 (Read CondTail ∷ ks)) (mark_val (M.Name n) i ∷ vs) v) (config ks (expr_val e ∷ vs) w)
unfolding NameEntry
named_run i n e f h ks vs w v l q =
    let Q : Spots → Type 0 = λ u. Takes (config (Make DoLeaf ∷ tails 10 (Read CondTail ∷ ks)) (mark_val (M.Name n) i ∷ vs) (rest u)) (config ks (expr_val e ∷ vs) w) in
    subst Q q ((from_good (NameEntry i n) (name_down i n) (leaf i (M.Name n)) (name_good i n) e f h.1).3 h.0 ks vs w l)

-- an expression that begins with a name
pub from_name : (e : Expr) (n : ℕ) → Shaped e → first e ≡ M.Name n → (i : ℕ) × From (leaf i (M.Name n)) e
from_name (leaf i m) n h q = (i, ap (leaf i) q)
from_name (member i e o j m k) n h q = from_name e n h.2 q
from_name (call i e a) n h q = from_name e n h.1 q
from_name (stepped i e o j) n h q = from_name e n h.2 q
from_name (binary i l o j r) n h q = from_name l n h.4 q
from_name (choose i c j a k b) n h q = from_name c n h.1 q
from_name (assign i l o j r) n h q = from_name l n h.2 q
from_name _ n h q = absurd (cc)

-- how an expression begins where a declaration may stand too
abbrev pub FreelyBegins : Expr → Type 0
FreelyBegins e = (is_free (first e) ≡ true) ⊎ ((i : ℕ) × (j : ℕ) × (n : ℕ) × (k : ℕ) × From (standard i j n k) e × (eqb n 0 ≡ false))

pub freely_begins : (e : Expr) → begins_type e ≡ false → Shaped e → FreelyBegins e
freely_begins (leaf i m) b h = inl (rw h refl)
freely_begins (paren i e j) b h = inl refl
freely_begins (temporary i n a) b h = absurd (cc)
freely_begins (word_cast i k j e l) b h = absurd (cc)
freely_begins (static_cast i j t k l e z) b h = inl refl
freely_begins (standard i j n k) b h = inr (i, j, n, k, refl, b)
freely_begins (library i j m k l t a z n d) b h = absurd (cc)
freely_begins (member i e p j n k) b h = freely_begins e b h.2
freely_begins (call i e a) b h = freely_begins e b h.1
freely_begins (stepped i e p j) b h = freely_begins e b h.2
freely_begins (unary i p e) b h = inl (rw h.0 refl)
freely_begins (binary i l p j r) b h = freely_begins l b h.4
freely_begins (choose i c j a k d) b h = freely_begins c b h.1
freely_begins (assign i l p j r) b h = freely_begins l b h.2
