-- What the machine makes of an expression, whatever its leftmost part was entered by.
use Rattle.std.proofs.Common.{◌≡◌, ℕ, zero, suc, ◌+◌, ◌<◌, ◌≤◌, true, false, List, [], ◌∷◌, Some, ◌⊎◌, ◌-◌, refl, sym, ap, subst, inl, inr, arith}
use Rattle.cx_syntax.specs.declared.mark.Punct.{Punct}
use Rattle.cx_syntax.specs.declared.mark.Punct.TheVariants as P
use Rattle.cx_syntax.specs.declared.mark.Mark.{Mark}
use Rattle.cx_syntax.specs.declared.mark.Mark.TheVariants as M
use Rattle.cx_table.specs.declared.symbol.Act.TheVariants.{DoCall}
use Rattle.cx_table.specs.declared.symbol.Part.TheVariants.{Assign, AssignTail, CondTail, Operand, LevelTail, PostTail, ArgsRest}
use Rattle.cx_table.specs.declared.symbol.Symbol.{Symbol}
use Rattle.cx_table.specs.declared.symbol.Symbol.TheVariants.{Make, Read}
use Rattle.cx_parser.proofs.Facts.{assign_facts, member_facts, no_question, scope_facts, step_facts}
use Rattle.cx_parser.proofs.Runs.{Takes, by_step, done, eqb_above, eqb_equal, steps, thus}
use Rattle.cx_parser.specs.Machine.{Config, config, front, mark_at, next, rest}
use Rattle.cx_values.specs.Values.{Values, args_val, expr_val, mark_val}
use Rattle.cx_syntax.specs.Shaped.{at_of, is_assign, is_cond, is_member, is_postfix, is_step, looseness, rank}
use Rattle.cx_syntax.specs.Spell.{Spots, name, sign, spell_args, spell_expr}
use Rattle.cx_syntax.specs.Tree.{Args, Expr, args, assign, binary, call, choose, member, no_args, stepped}
use Rattle.cx_table.specs.Moves.{s}
use Rattle.cx_table.specs.Sorts.{is_mark, loose}

-- an expression where one may stand
abbrev pub Whole : Expr → Type 0
Whole e = (ks : List Symbol) (vs : Values) (w : Spots) → loose (front w) ≡ 12 → Takes (config (Read Assign ∷ ks) vs (spell_expr e w)) (config ks (expr_val e ∷ vs) w)

-- an operand of a level
abbrev pub Operates : Expr → ℕ → Type 0
Operates e d = (ks : List Symbol) (vs : Values) (w : Spots) → d < loose (front w) → Takes (config (Read (Operand d) ∷ ks) vs (spell_expr e w)) (config ks (expr_val e ∷ vs) w)

abbrev pub args_at : Args → ℕ
args_at (no_args i j) = i
args_at (args i s j) = i

-- arguments whose `(` was taken
abbrev pub Listed : Args → Type 0
Listed a = (ks : List Symbol) (vs : Values) (w : Spots) → Takes (config (Read ArgsRest ∷ ks) (mark_val (M.Punct P.OpenParen) (args_at a) ∷ vs) (rest (spell_args a w))) (config ks (args_val a ∷ vs) w)

pub open_args : (a : Args) (ks : List Symbol) (vs : Values) (w : Spots) → next (config (s P.OpenParen ∷ ks) vs (spell_args a w)) ≡ config ks (mark_val (M.Punct P.OpenParen) (args_at a) ∷ vs) (rest (spell_args a w))
open_args (no_args i j) ks vs w = refl
open_args (args i l j) ks vs w = refl

pub enter_args : (a : Args) (ks : List Symbol) (vs : Values) (w : Spots) → next (config (Read PostTail ∷ ks) vs (spell_args a w)) ≡ config (Read ArgsRest ∷ Make DoCall ∷ Read PostTail ∷ ks) (mark_val (M.Punct P.OpenParen) (args_at a) ∷ vs) (rest (spell_args a w))
enter_args (no_args i j) ks vs w = refl
enter_args (args i l j) ks vs w = refl

pub args_scope : (a : Args) (w : Spots) → (is_mark P.Scope (front (spell_args a w)) ≡ false) × (is_mark P.Colon (front (spell_args a w)) ≡ false)
args_scope (no_args i j) w = (refl, refl)
args_scope (args i l j) w = (refl, refl)

pop_tail : (d : ℕ) (ks : List Symbol) (vs : Values) (w : Spots) → suc d < loose (front w) → next (config (Read (LevelTail (suc d)) ∷ ks) vs w) ≡ config ks vs w
pop_tail d ks vs w h = rw (eqb_above (loose (front w)) (suc d) h) refl

pop_post : (ks : List Symbol) (vs : Values) (w : Spots) → 0 < loose (front w) → next (config (Read PostTail ∷ ks) vs w) ≡ config ks vs w
pop_post ks vs w h = rw (eqb_above (loose (front w)) 0 h) refl

pop_assign : (ks : List Symbol) (vs : Values) (w : Spots) → loose (front w) ≡ 12 → next (config (Read AssignTail ∷ ks) vs w) ≡ config ks vs w
pop_assign ks vs w h = rw h refl

pop_cond : (ks : List Symbol) (vs : Values) (w : Spots) → loose (front w) ≡ 12 → next (config (Read CondTail ∷ ks) vs w) ≡ config ks vs w
pop_cond ks vs w h = rw (no_question (front w) h) refl

split : (q d : ℕ) → q ≤ d → (d ≡ q) ⊎ (suc q ≤ d)
split zero zero h = inl refl
split zero (suc d) h = inr (omega arith)
split (suc q) zero h = absurd (omega arith)
split (suc q) (suc d) h = elim (split q d (omega arith)) [ inl e ↦ inl (ap suc e) | inr l ↦ inr (omega arith) ]

no_scope_mark : (m : Mark) → 0 < loose (Some m) → is_mark P.Scope (Some m) ≡ false
no_scope_mark (M.Punct p) h = scope_facts p h
no_scope_mark _ h = refl

pub no_scope : (w : Spots) → 0 < loose (front w) → is_mark P.Scope (front w) ≡ false
no_scope [] h = refl
no_scope (x ∷ w) h = no_scope_mark (mark_at x) h

module _ (E : ℕ → List Symbol → Values → Spots → Config) (descend : (d : ℕ) (ks : List Symbol) (vs : Values) (u : Spots) → Takes (E (suc d) ks vs u) (E d (Read (LevelTail (suc d)) ∷ ks) vs u)) where
  abbrev pub Full : Expr → ℕ → Type 0
  Full e d = (ks : List Symbol) (vs : Values) (w : Spots) → d < loose (front w) → Takes (E d ks vs (spell_expr e w)) (config ks (expr_val e ∷ vs) w)

  abbrev pub Upto : Expr → ℕ → Type 0
  Upto e d = (ks : List Symbol) (vs : Values) (w : Spots) → suc d ≤ loose (front w) → Takes (E (suc d) ks vs (spell_expr e w)) (config (Read (LevelTail (suc d)) ∷ ks) (expr_val e ∷ vs) w)

  abbrev pub Post : Expr → Type 0
  Post e = (ks : List Symbol) (vs : Values) (w : Spots) → is_mark P.Scope (front w) ≡ false → Takes (E 0 ks vs (spell_expr e w)) (config (Read PostTail ∷ ks) (expr_val e ∷ vs) w)

  abbrev pub Ends : Expr → Type 0
  Ends e = (ks : List Symbol) (vs : Values) (w : Spots) → loose (front w) ≡ 12 → Takes (E 10 (Read AssignTail ∷ ks) vs (spell_expr e w)) (config ks (expr_val e ∷ vs) w)

  abbrev pub Conds : Expr → Type 0
  Conds e = (ks : List Symbol) (vs : Values) (w : Spots) → loose (front w) ≡ 12 → Takes (E 10 (Read CondTail ∷ ks) vs (spell_expr e w)) (config ks (expr_val e ∷ vs) w)

  abbrev pub Levels : Expr → Type 0
  Levels e = ((d : ℕ) → rank e ≤ d → Full e d) × ((d : ℕ) → rank e ≤ suc d → Upto e d)

  -- what is known of an expression that was entered here
  abbrev pub Good : Expr → Type 0
  Good e = (is_postfix e ≡ true → Post e) × (rank e ≤ 10 → Levels e) × Ends e × (is_cond e ≡ true → Conds e)

  close_level : (e : Expr) (d : ℕ) → Upto e d → Full e (suc d)
  close_level e d f ks vs w h = let l : suc d ≤ loose (front w) = omega arith in thus (f ks vs w l) (by_step (pop_tail d ks (expr_val e ∷ vs) w h) (done _))

  lift : (e : Expr) (d : ℕ) → Full e d → Upto e d
  lift e d f ks vs w h = let l : d < loose (front w) = omega arith in thus (descend d ks vs (spell_expr e w)) (f (Read (LevelTail (suc d)) ∷ ks) vs w l)

  climb : (e : Expr) (d j : ℕ) → Full e d → Full e (j + d)
  climb e d zero f = let q : d ≡ zero + d = omega arith in subst (λ n. Full e n) q f
  climb e d (suc j) f = let q : suc (j + d) ≡ suc j + d = omega arith in subst (λ n. Full e n) q (close_level e (j + d) (lift e (j + d) (climb e d j f)))

  above : (e : Expr) (d n : ℕ) → d ≤ n → Full e d → Full e n
  above e d n h f = let q : (n - d) + d ≡ n = omega arith in subst (λ n. Full e n) q (climb e d (n - d) f)

  levels_full : (e : Expr) → rank e ≡ 0 → Full e 0 → Levels e
  levels_full e h f = (λ d l. above e 0 d (omega arith) f, λ d l. lift e d (above e 0 d (omega arith) f))

  levels_upto : (e : Expr) (q : ℕ) → rank e ≡ suc q → Upto e q → Levels e
  levels_upto e q h f = (λ d l. above e (suc q) d (omega arith) (close_level e q f), up)
    where
      up : (d : ℕ) → rank e ≤ suc d → Upto e d
      up d l = elim (split q d (omega arith)) [ inl i ↦ subst (λ n. Upto e n) (sym i) f | inr g ↦ lift e d (above e (suc q) d g (close_level e q f)) ]

  ends_of : (e : Expr) → Full e 10 → Ends e
  ends_of e f ks vs w h = let l : 10 < loose (front w) = omega arith in thus (f (Read AssignTail ∷ ks) vs w l) (by_step (pop_assign ks (expr_val e ∷ vs) w h) (done _))

  conds_of : (e : Expr) → Full e 10 → Conds e
  conds_of e f ks vs w h = let l : 10 < loose (front w) = omega arith in thus (f (Read CondTail ∷ ks) vs w l) (by_step (pop_cond ks (expr_val e ∷ vs) w h) (done _))

  post_full : (e : Expr) → Post e → Full e 0
  post_full e f ks vs w h = thus (f ks vs w (no_scope w h)) (by_step (pop_post ks (expr_val e ∷ vs) w h) (done _))

  pub postfix_good : (e : Expr) → rank e ≡ 0 → Post e → Good e
  postfix_good e h f = let g : Full e 0 = post_full e f in let a : Full e 10 = above e 0 10 (omega arith) g in (λ _. f, λ _. levels_full e h g, ends_of e a, λ _. conds_of e a)

  pub full_good : (e : Expr) → is_postfix e ≡ false → rank e ≡ 0 → Full e 0 → Good e
  full_good e n h g = let a : Full e 10 = above e 0 10 (omega arith) g in (λ y. absurd (cc), λ _. levels_full e h g, ends_of e a, λ _. conds_of e a)

  pub member_post : (i : ℕ) (e : Expr) (p : Punct) (j n k : ℕ) → is_member p ≡ true → i ≡ at_of e → Post e → Post (member i e p j n k)
  member_post i e p j n k h q f ks vs w _ =
      let g = member_facts p h in
      thus (f ks vs (sign p j (name n k w)) g.2) (steps 1 (rw (g.0, g.1, h) (steps 2 (rw q (done _)))))

  pub stepped_post : (i : ℕ) (e : Expr) (p : Punct) (j : ℕ) → is_step p ≡ true → i ≡ at_of e → Post e → Post (stepped i e p j)
  stepped_post i e p j h q f ks vs w _ =
      let g = step_facts p h in
      thus (f ks vs (sign p j w) g.1) (steps 1 (rw (g.0, h) (steps 1 (rw q (done _)))))

  pub call_post : (i : ℕ) (e : Expr) (a : Args) → i ≡ at_of e → Listed a → Post e → Post (call i e a)
  call_post i e a q l f ks vs w _ =
      thus (f ks vs (spell_args a w) (args_scope a w).0)
      (by_step (enter_args a ks (expr_val e ∷ vs) w) (thus (l _ _ w) (steps 1 (rw q (done _)))))

  binary_upto : (i : ℕ) (l : Expr) (p : Punct) (j : ℕ) (r : Expr) (q : ℕ) → looseness p ≡ suc q → i ≡ at_of l → Upto l q → Operates r q → Upto (binary i l p j r) q
  binary_upto i l p j r q h y f g ks vs w b =
      let c : suc q ≤ looseness p = omega arith in
      let d : q < loose (front w) = omega arith in
      thus (f ks vs (sign p j (spell_expr r w)) c)
      (steps 1 (rw (eqb_equal (looseness p) (suc q) h) (thus (g _ _ w d) (steps 1 (rw y (done _))))))

  pub binary_good : (i : ℕ) (l : Expr) (p : Punct) (j : ℕ) (r : Expr) → 1 ≤ looseness p → looseness p ≤ 10 → rank l ≤ looseness p → i ≡ at_of l → Good l → ((d : ℕ) → suc d ≡ looseness p → Operates r d) → Good (binary i l p j r)
  binary_good i l p j r h1 h2 h3 y f g = at (looseness p - 1) (omega arith)
    where
      at : (q : ℕ) → looseness p ≡ suc q → Good (binary i l p j r)
      at q e =
          let u : Upto (binary i l p j r) q = binary_upto i l p j r q e y ((f.1 (omega arith)).1 q (omega arith)) (g q (sym e)) in
          let v : Levels (binary i l p j r) = levels_upto (binary i l p j r) q e u in
          (λ y. absurd (cc), λ _. v, ends_of (binary i l p j r) (v.0 10 h2), λ _. conds_of (binary i l p j r) (v.0 10 h2))

  pub choose_good : (i : ℕ) (c : Expr) (j : ℕ) (a : Expr) (k : ℕ) (b : Expr) → rank c ≤ 10 → i ≡ at_of c → Good c → Whole a → Whole b → Good (choose i c j a k b)
  choose_good i c j a k b h q f g z = (λ y. absurd (cc), λ l. absurd (omega arith), ends, λ _. conds)
    where
      ends : Ends (choose i c j a k b)
      ends ks vs w l =
          thus ((f.1 h).0 10 h (Read AssignTail ∷ ks) vs (sign P.Question j (spell_expr a (sign P.Colon k (spell_expr b w)))) (omega arith))
          (steps 1 (thus (g _ _ (sign P.Colon k (spell_expr b w)) refl) (steps 1 (thus (z _ _ w l) (steps 1 (rw q (done _)))))))

      conds : Conds (choose i c j a k b)
      conds ks vs w l =
          thus ((f.1 h).0 10 h (Read CondTail ∷ ks) vs (sign P.Question j (spell_expr a (sign P.Colon k (spell_expr b w)))) (omega arith))
          (steps 1 (thus (g _ _ (sign P.Colon k (spell_expr b w)) refl) (steps 1 (thus (z _ _ w l) (steps 1 (rw q (done _)))))))

  pub assign_good : (i : ℕ) (a : Expr) (p : Punct) (j : ℕ) (b : Expr) → is_assign p ≡ true → rank a ≤ 10 → i ≡ at_of a → Good a → Whole b → Good (assign i a p j b)
  assign_good i a p j b h r q f z = (λ y. absurd (cc), λ l. absurd (omega arith), ends, λ y. absurd (cc))
    where
      ends : Ends (assign i a p j b)
      ends ks vs w l =
          let g : looseness p ≡ 11 = (assign_facts p h).0 in
          let c : 10 < looseness p = omega arith in
          thus ((f.1 r).0 10 r (Read AssignTail ∷ ks) vs (sign p j (spell_expr b w)) c)
          (steps 1 (rw (g, h) (thus (z _ _ w l) (steps 1 (rw q (done _))))))
