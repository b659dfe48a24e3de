-- Code that goes from one depth to another, and how it is joined: what a part needs of the code around it is the depth at its end, and at the places that a `return` leads to.
use Rattle.std.proofs.Common.{◌≡◌, ◌⊎◌, ℕ, ◌+◌, ◌-◌, ◌*◌, ◌≤◌, List, [], ◌∷◌, ◌++◌, length, Some, refl, sym, subst, arith, length-append, inl, inr}
use Rattle.cx_code.specs.declared.code.Instruction.{Instruction}
use Rattle.cx_code.specs.declared.image.Image.{Image}
use Rattle.cx_code.specs.declared.image.Function.{Function}
use Rattle.cx_code.specs.declared.operation.Operation.{Operation}
use Rattle.cx_code.specs.declared.operation.Operation.TheVariants as does
use Rattle.cx_code.specs.Operation.{operation_of}
use Rattle.cx_code.specs.Reached.{taken_count, depth_after, Follows}
use Rattle.cx_lower.specs.Code.{jump, jump_zero, jump_nonzero}
use Rattle.cx_lower.proofs.Operations.{jump_is, jump_zero_is, jump_nonzero_is}
use Rattle.cx_lower.proofs.Depths.{IsOurs, At, AreAt, at_front, at_back, IsLocal, AreLocal, local_append}

-- where a value is returned while so many variables are live, there is that one operand
abbrev pub Exits : (depths : List ℕ) → (exit most : ℕ) → Type 0
Exits depths exit most = (live : ℕ) → live ≤ most → At depths (exit - 2 * live) 1

-- from the depth at its start to the depth at its end; `exit` and `most` are those of the body that it is a part of
pub record Flow (image : Image) (function : Function) (exit most start first : ℕ) (code : List Instruction) (last : ℕ) : Type 0 where
  pub made : List ℕ
  pub many : length made ≡ length code
  pub local : (depths : List ℕ) → AreAt depths start made → At depths (start + length code) last → Exits depths exit most
      → At depths start first × AreLocal image function depths start code made

module _ (image : Image) (function : Function) (exit most : ℕ) where
  abbrev pub Goes : (start first : ℕ) → List Instruction → (last : ℕ) → Type 0
  Goes start first code last = Flow image function exit most start first code last

  pub nothing : (start depth : ℕ) → Goes start depth [] depth
  nothing start depth = record {
    made = [];
    many = refl;
    local = λ depths at end exits. let e : start + 0 ≡ start = omega arith in (subst (λ (n : ℕ). At depths n depth) e end, tt);
  }

  -- one code after the other
  pub joined : {start first middle last : ℕ} {a b : List Instruction} → Goes start first a middle → Goes (start + length a) middle b last → Goes start first (a ++ b) last
  joined {start} {first} {middle} {last} {a} {b} f g = record {
    made = f.made ++ g.made;
    many = omega (arith, f.many, g.many, length-append f.made g.made, length-append a b);
    local = λ depths at end exits.
        let behind : start + length f.made ≡ start + length a = omega (arith, f.many) in
        let over : start + length (a ++ b) ≡ start + length a + length b = omega (arith, length-append a b) in
        let back = subst (λ (n : ℕ). AreAt depths n g.made) behind (at_back depths start f.made g.made at) in
        let rest = g.local depths back (subst (λ (n : ℕ). At depths n last) over end) exits in
        let here = f.local depths (at_front depths start f.made g.made at) rest.0 exits in
        (here.0, local_append image function depths start a b f.made g.made here.1 rest.1);
  }

  -- ---- one instruction

  pub single : {start first last : ℕ} (i : Instruction) (operation : Operation) → operation_of i ≡ Some operation → taken_count function operation ≤ first → first ≤ 4096 → IsOurs image function operation
      → ((depths : List ℕ) → At depths (start + 1) last → Exits depths exit most → (next : ℕ) → Follows operation start next → At depths next (depth_after image function operation first))
      → Goes start first (i ∷ []) last
  single {start} {first} {last} i operation is enough shallow ours onto = record {
    made = first ∷ [];
    many = refl;
    local = λ depths at end exits. (at.0, ((operation, is, record { enough = enough; shallow = shallow; ours = ours; onto = onto depths end exits }), tt));
  }

  -- it goes on behind it
  pub step : {start first : ℕ} (last : ℕ) (i : Instruction) (operation : Operation) → operation_of i ≡ Some operation → taken_count function operation ≤ first → first ≤ 4096 → IsOurs image function operation
      → ((place next : ℕ) → Follows operation place next → next ≡ place + 1) → depth_after image function operation first ≡ last
      → Goes start first (i ∷ []) last
  step {start} {first} last i operation is enough shallow ours goes makes =
      single i operation is enough shallow ours
      (λ depths end exits next follows.
      let there = subst (λ (n : ℕ). At depths n last) (sym (goes start next follows)) end in
      subst (λ (n : ℕ). At depths next n) (sym makes) there)

  -- nothing comes behind it
  pub stop : {start first last : ℕ} (i : Instruction) (operation : Operation) → operation_of i ≡ Some operation → taken_count function operation ≤ first → first ≤ 4096 → IsOurs image function operation
      → ((place next : ℕ) → Follows operation place next → ⊥) → Goes start first (i ∷ []) last
  stop {start} i operation is enough shallow ours ends = single i operation is enough shallow ours (λ depths end exits next follows. absurd (ends start next follows))

  -- ---- jumps

  unmoved : (depth : ℕ) → depth - 0 + 0 ≡ depth
  unmoved depth = omega arith

  -- to the next place
  pub pass : {start depth : ℕ} → depth ≤ 4096 → Goes start depth (jump (start + 1) ∷ []) depth
  pass {start} {depth} shallow =
      single (jump (start + 1)) (does.Jump (start + 1)) (jump_is (start + 1)) (omega arith) shallow tt
      (λ depths end exits next follows.
      let there = subst (λ (n : ℕ). At depths n depth) (sym follows) end in
      subst (λ (n : ℕ). At depths next n) (sym (unmoved depth)) there)

  -- to where a value is returned
  pub leave : {start last : ℕ} (live : ℕ) → live ≤ most → Goes start 1 (jump (exit - 2 * live) ∷ []) last
  leave live le =
      single (jump (exit - 2 * live)) (does.Jump (exit - 2 * live)) (jump_is (exit - 2 * live)) (omega arith) (omega arith) tt
      (λ depths end exits next follows.
      let there = subst (λ (n : ℕ). At depths n 1) (sym follows) (exits live le) in
      subst (λ (n : ℕ). At depths next n) (sym (unmoved 1)) there)

  -- a jump to a place with the same depth
  goes_to : (depths : List ℕ) (place to : ℕ) → At depths to 0 → IsLocal image function depths place (does.Jump to) 0
  goes_to depths place to at = record {
    enough = omega arith;
    shallow = omega arith;
    ours = tt;
    onto = λ next follows. let there = subst (λ (n : ℕ). At depths n 0) (sym follows) at in subst (λ (n : ℕ). At depths next n) (sym (unmoved 0)) there;
  }

  either_place : (depths : List ℕ) (place to next : ℕ) → At depths to 0 → At depths (place + 1) 0 → (next ≡ to) ⊎ (next ≡ place + 1) → At depths next 0
  either_place depths place to next a b (inl e) = subst (λ (n : ℕ). At depths n 0) (sym e) a
  either_place depths place to next a b (inr e) = subst (λ (n : ℕ). At depths n 0) (sym e) b

  -- jumps that take a number
  asks_zero : (depths : List ℕ) (place to : ℕ) → At depths to 0 → At depths (place + 1) 0 → IsLocal image function depths place (does.JumpZero to) 1
  asks_zero depths place to a b = record { enough = omega arith; shallow = omega arith; ours = tt; onto = λ next follows. either_place depths place to next a b follows }

  asks_nonzero : (depths : List ℕ) (place to : ℕ) → At depths to 0 → At depths (place + 1) 0 → IsLocal image function depths place (does.JumpNonzero to) 1
  asks_nonzero depths place to a b = record { enough = omega arith; shallow = omega arith; ours = tt; onto = λ next follows. either_place depths place to next a b follows }

  -- past code
  pub skip : {start : ℕ} {code : List Instruction} (to : ℕ) → to ≡ start + 1 + length code → Goes (start + 1) 0 code 0 → Goes start 1 (jump_nonzero to ∷ code) 0
  skip {start} {code} to e f = record {
    made = 1 ∷ f.made;
    many = omega (arith, f.many);
    local = λ depths at end exits.
        let over : start + length (jump_nonzero to ∷ code) ≡ start + 1 + length code = omega arith in
        let far = subst (λ (n : ℕ). At depths n 0) over end in
        let rest = f.local depths at.1 far exits in
        let past = subst (λ (n : ℕ). At depths n 0) (sym e) far in
        (at.0, ((does.JumpNonzero to, jump_nonzero_is to, asks_nonzero depths start to past rest.0), rest.1));
  }

  -- one of two codes
  pub branch : {start : ℕ} {c a b : List Instruction} → Goes start 0 c 1 → Goes (start + length c + 1) 0 a 0 → Goes (start + length c + 1 + length a + 1) 0 b 0
      → Goes start 0 (c ++ jump_zero (start + length c + 1 + length a + 1) ∷ (a ++ jump (start + length c + 1 + length a + 1 + length b) ∷ b)) 0
  branch {start} {c} {a} {b} f g h = record {
    made = f.made ++ 1 ∷ (g.made ++ 0 ∷ h.made);
    many = omega (arith, f.many, g.many, h.many, length-append f.made (1 ∷ (g.made ++ 0 ∷ h.made)), length-append g.made (0 ∷ h.made), length-append c (jump_zero (start + length c + 1 + length a + 1) ∷ (a ++ jump (start + length c + 1 + length a + 1 + length b) ∷ b)), length-append a (jump (start + length c + 1 + length a + 1 + length b) ∷ b));
    local = λ depths at end exits.
        let ask = start + length c in
        let other = ask + 1 + length a + 1 in
        let over = other + length b in
        let tail = a ++ jump over ∷ b in
        let asks : start + length f.made ≡ ask = omega (arith, f.many) in
        let at_ask = subst (λ (n : ℕ). AreAt depths n (1 ∷ (g.made ++ 0 ∷ h.made))) asks (at_back depths start f.made (1 ∷ (g.made ++ 0 ∷ h.made)) at) in
        let past : ask + 1 + length g.made ≡ ask + 1 + length a = omega (arith, g.many) in
        let at_past = subst (λ (n : ℕ). AreAt depths n (0 ∷ h.made)) past (at_back depths (ask + 1) g.made (0 ∷ h.made) at_ask.1) in
        let far : start + length (c ++ jump_zero other ∷ tail) ≡ over = omega (arith, length-append c (jump_zero other ∷ tail), length-append a (jump over ∷ b)) in
        let at_end = subst (λ (n : ℕ). At depths n 0) far end in
        let third = h.local depths at_past.1 at_end exits in
        let second = g.local depths (at_front depths (ask + 1) g.made (0 ∷ h.made) at_ask.1) at_past.0 exits in
        let first = f.local depths (at_front depths start f.made (1 ∷ (g.made ++ 0 ∷ h.made)) at) at_ask.0 exits in
        let ends : AreLocal image function depths (ask + 1 + length a) (jump over ∷ b) (0 ∷ h.made) = ((does.Jump over, jump_is over, goes_to depths (ask + 1 + length a) over at_end), third.1) in
        let chosen = local_append image function depths (ask + 1) a (jump over ∷ b) g.made (0 ∷ h.made) second.1 ends in
        (first.0, local_append image function depths start c (jump_zero other ∷ tail) f.made (1 ∷ (g.made ++ 0 ∷ h.made)) first.1 ((does.JumpZero other, jump_zero_is other, asks_zero depths ask other third.0 second.0), chosen));
  }

  -- code that is entered again at its condition
  pub loop : {start : ℕ} {c a : List Instruction} → Goes (start + 1) 0 c 1 → Goes (start + 1 + length c + 1) 0 a 0
      → Goes start 0 (jump (start + 1) ∷ (c ++ jump_zero (start + 1 + length c + 1 + length a + 1) ∷ (a ++ jump (start + 1) ∷ []))) 0
  loop {start} {c} {a} f g = record {
    made = 0 ∷ (f.made ++ 1 ∷ (g.made ++ 0 ∷ []));
    many = omega (arith, f.many, g.many, length-append f.made (1 ∷ (g.made ++ 0 ∷ [])), length-append g.made (0 ∷ []), length-append c (jump_zero (start + 1 + length c + 1 + length a + 1) ∷ (a ++ jump (start + 1) ∷ [])), length-append a (jump (start + 1) ∷ []));
    local = λ depths at end exits.
        let top = start + 1 in
        let ask = top + length c in
        let over = ask + 1 + length a + 1 in
        let tail = a ++ jump top ∷ [] in
        let asks : top + length f.made ≡ ask = omega (arith, f.many) in
        let at_ask = subst (λ (n : ℕ). AreAt depths n (1 ∷ (g.made ++ 0 ∷ []))) asks (at_back depths top f.made (1 ∷ (g.made ++ 0 ∷ [])) at.1) in
        let past : ask + 1 + length g.made ≡ ask + 1 + length a = omega (arith, g.many) in
        let at_past = subst (λ (n : ℕ). AreAt depths n (0 ∷ [])) past (at_back depths (ask + 1) g.made (0 ∷ []) at_ask.1) in
        let far : start + length (jump top ∷ (c ++ jump_zero over ∷ tail)) ≡ over = omega (arith, length-append c (jump_zero over ∷ tail), length-append a (jump top ∷ [])) in
        let at_end = subst (λ (n : ℕ). At depths n 0) far end in
        let second = g.local depths (at_front depths (ask + 1) g.made (0 ∷ []) at_ask.1) at_past.0 exits in
        let first = f.local depths (at_front depths top f.made (1 ∷ (g.made ++ 0 ∷ [])) at.1) at_ask.0 exits in
        let again : AreLocal image function depths (ask + 1 + length a) (jump top ∷ []) (0 ∷ []) = ((does.Jump top, jump_is top, goes_to depths (ask + 1 + length a) top first.0), tt) in
        let body = local_append image function depths (ask + 1) a (jump top ∷ []) g.made (0 ∷ []) second.1 again in
        let asked = local_append image function depths top c (jump_zero over ∷ tail) f.made (1 ∷ (g.made ++ 0 ∷ [])) first.1 ((does.JumpZero over, jump_zero_is over, asks_zero depths ask over at_end second.0), body) in
        (at.0, ((does.Jump top, jump_is top, goes_to depths start top first.0), asked));
  }
