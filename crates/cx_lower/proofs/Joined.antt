-- Code that is put behind code, and jumps in it whose targets are set later.
use Rattle.std.proofs.Common.{◌≡◌, ℕ, ◌+◌, List, [], ◌∷◌, ◌++◌, length, sym, ap, ◌∙◌, arith, append_assoc, length-append}
use Rattle.std.proofs.Math.ListN.{set}
use Rattle.std.proofs.lemmas.List.{set_at, length-set}
use Rattle.cx_code.specs.declared.code.Instruction.{Instruction}
use Rattle.cx_lower.specs.Code.{jump, jump_zero}

abbrev pub Code : Type 0
Code = List Instruction

pub pushed : (code : Code) (i : Instruction) (more : Code) → code ++ i ∷ more ≡ (code ++ i ∷ []) ++ more
pushed code i more = sym (append_assoc code (i ∷ []) more)

-- the code of an `if`, by that of its condition and of its parts at each place
abbrev pub branch_code : (start : ℕ) (truth : Code) (then_at else_at : ℕ → Code) → Code
branch_code start truth then_at else_at =
    let then_start = start + length truth + 1 in
    let then_code = then_at then_start in
    let else_start = then_start + length then_code + 1 in
    let else_code = else_at else_start in
    truth ++ jump_zero else_start ∷ (then_code ++ jump (else_start + length else_code) ∷ else_code)

-- that of a loop, likewise
abbrev pub loop_code : (start : ℕ) (truth : Code) (body_at : ℕ → Code) → Code
loop_code start truth body_at =
    let body_start = start + 1 + length truth + 1 in
    let body_code = body_at body_start in
    jump (start + 1) ∷ (truth ++ jump_zero (body_start + length body_code + 1) ∷ (body_code ++ jump (start + 1) ∷ []))

-- where the parts of an `if` begin
abbrev pub then_place : (start : ℕ) (truth : Code) → ℕ
then_place start truth = start + length truth + 1

abbrev pub else_place : (start : ℕ) (truth : Code) (then_at : ℕ → Code) → ℕ
else_place start truth then_at = then_place start truth + length (then_at (then_place start truth)) + 1

abbrev pub body_place : (start : ℕ) (truth : Code) → ℕ
body_place start truth = start + 1 + length truth + 1

pub length_branch : (start : ℕ) (truth : Code) (then_at else_at : ℕ → Code)
    → start + length (branch_code start truth then_at else_at) ≡ else_place start truth then_at + length (else_at (else_place start truth then_at))
length_branch start truth then_at else_at =
    let then_code = then_at (then_place start truth) in
    let place = else_place start truth then_at in
    let else_code = jump (place + length (else_at place)) ∷ else_at place in
    omega (arith, length-append truth (jump_zero place ∷ (then_code ++ else_code)), length-append then_code else_code)

pub length_loop : (start : ℕ) (truth : Code) (body_at : ℕ → Code)
    → start + length (loop_code start truth body_at) ≡ body_place start truth + length (body_at (body_place start truth)) + 1
length_loop start truth body_at =
    let body_code = body_at (body_place start truth) in
    let again = body_code ++ jump (start + 1) ∷ [] in
    omega (arith, length-append truth (jump_zero (body_place start truth + length body_code + 1) ∷ again), length-append body_code (jump (start + 1) ∷ []))

-- ---- places

pub length_opened : (old opened truth : Code) → opened ≡ old ++ (truth ++ jump_zero 0 ∷ []) → length opened ≡ then_place (length old) truth
length_opened old opened truth is =
    omega (arith, ap length is, length-append old (truth ++ jump_zero 0 ∷ []), length-append truth (jump_zero 0 ∷ []))

pub length_put : (opened first : Code) (at : ℕ → Code) (place : ℕ) → length opened ≡ place → first ≡ opened ++ at (length opened) → length first ≡ place + length (at place)
length_put opened first at place opened_length is =
    omega (arith, ap length (is ∙ ap (λ (n : ℕ). opened ++ at n) opened_length), length-append opened (at place), opened_length)

pub length_turned : (first turned : Code) (i j : Instruction) (over : ℕ) → turned ≡ set (first ++ i ∷ []) over j → length turned ≡ length first + 1
length_turned first turned i j over is = omega (arith, ap length is ∙ length-set (first ++ i ∷ []) over j, length-append first (i ∷ []))

pub length_begun : (old begun : Code) (i : Instruction) → begun ≡ old ++ i ∷ [] → length begun ≡ length old + 1
length_begun old begun i is = omega (arith, ap length is, length-append old (i ∷ []))

-- ---- jumps that are set

-- an instruction is put in the place of another one, with code on both sides
replaced : (front : Code) (i j : Instruction) (back : Code) (at : ℕ) → at ≡ length front → set (front ++ i ∷ back) at j ≡ front ++ j ∷ back
replaced front i j back at e = set_at front i back j at (sym e)

pub branch_closed : (old opened first turned second closed truth : Code) (then_at else_at : ℕ → Code) (over past : ℕ)
    → over ≡ length old + length truth → opened ≡ old ++ (truth ++ jump_zero 0 ∷ [])
    → first ≡ opened ++ then_at (length opened)
    → past ≡ length first → turned ≡ set (first ++ jump 0 ∷ []) over (jump_zero (length first + 1))
    → second ≡ turned ++ else_at (length turned)
    → closed ≡ set second past (jump (length second))
    → closed ≡ old ++ branch_code (length old) truth then_at else_at
branch_closed old opened first turned second closed truth then_at else_at over past over_is opened_is first_is past_is turned_is second_is closed_is =
    let front = old ++ truth in
    let then_start = length old + length truth + 1 in
    let then_code = then_at then_start in
    let else_start = then_start + length then_code + 1 in
    let else_code = else_at else_start in
    let middle = front ++ jump_zero else_start ∷ then_code in
    let front_length = length-append old truth in
    let opened_length : length opened ≡ then_start =
    omega (arith, ap length opened_is, length-append old (truth ++ jump_zero 0 ∷ []), length-append truth (jump_zero 0 ∷ [])) in
    let first_from : first ≡ opened ++ then_code = first_is ∙ ap (λ (n : ℕ). opened ++ then_at n) opened_length in
    let first_length : length first + 1 ≡ else_start = omega (arith, ap length first_from, length-append opened then_code, opened_length) in
    let unturned : first ++ jump 0 ∷ [] ≡ front ++ jump_zero 0 ∷ (then_code ++ jump 0 ∷ []) = rw (first_from, opened_is) (simp append_assoc) in
    let turned_from : turned ≡ front ++ jump_zero else_start ∷ (then_code ++ jump 0 ∷ []) =
    turned_is ∙ ap (λ (w : Code). set w over (jump_zero (length first + 1))) unturned
    ∙ replaced front (jump_zero 0) (jump_zero (length first + 1)) (then_code ++ jump 0 ∷ []) over (omega (arith, over_is, front_length))
    ∙ ap (λ (n : ℕ). front ++ jump_zero n ∷ (then_code ++ jump 0 ∷ [])) first_length in
    let turned_length : length turned ≡ else_start =
    omega (arith, ap length turned_from, length-append front (jump_zero else_start ∷ (then_code ++ jump 0 ∷ [])), length-append then_code (jump 0 ∷ []), front_length) in
    let second_from : second ≡ turned ++ else_code = second_is ∙ ap (λ (n : ℕ). turned ++ else_at n) turned_length in
    let second_length : length second ≡ else_start + length else_code = omega (arith, ap length second_from, length-append turned else_code, turned_length) in
    let unclosed : second ≡ middle ++ jump 0 ∷ else_code = second_from ∙ ap (λ (w : Code). w ++ else_code) turned_from ∙ simp append_assoc in
    let middle_length : past ≡ length middle =
    omega (arith, past_is, first_length, length-append front (jump_zero else_start ∷ then_code), front_length) in
    closed_is ∙ ap (λ (w : Code). set w past (jump (length second))) unclosed
    ∙ replaced middle (jump 0) (jump (length second)) else_code past middle_length
    ∙ ap (λ (n : ℕ). middle ++ jump n ∷ else_code) second_length
    ∙ simp append_assoc

pub loop_closed : (old begun opened body closed truth : Code) (body_at : ℕ → Code) (turn over : ℕ)
    → turn ≡ length old + 1 → begun ≡ old ++ jump (length old + 1) ∷ []
    → over ≡ length begun + length truth → opened ≡ begun ++ (truth ++ jump_zero 0 ∷ [])
    → body ≡ opened ++ body_at (length opened)
    → closed ≡ set (body ++ jump turn ∷ []) over (jump_zero (length body + 1))
    → closed ≡ old ++ loop_code (length old) truth body_at
loop_closed old begun opened body closed truth body_at turn over turn_is begun_is over_is opened_is body_is closed_is =
    let front = begun ++ truth in
    let body_start = length old + 1 + length truth + 1 in
    let body_code = body_at body_start in
    let again = body_code ++ jump (length old + 1) ∷ [] in
    let begun_length : length begun ≡ length old + 1 = omega (arith, ap length begun_is, length-append old (jump (length old + 1) ∷ [])) in
    let opened_length : length opened ≡ body_start =
    omega (arith, ap length opened_is, length-append begun (truth ++ jump_zero 0 ∷ []), length-append truth (jump_zero 0 ∷ []), begun_length) in
    let body_from : body ≡ opened ++ body_code = body_is ∙ ap (λ (n : ℕ). opened ++ body_at n) opened_length in
    let body_length : length body + 1 ≡ body_start + length body_code + 1 = omega (arith, ap length body_from, length-append opened body_code, opened_length) in
    let unclosed : body ++ jump turn ∷ [] ≡ front ++ jump_zero 0 ∷ again = rw (body_from, opened_is, turn_is) (simp append_assoc) in
    closed_is ∙ ap (λ (w : Code). set w over (jump_zero (length body + 1))) unclosed
    ∙ replaced front (jump_zero 0) (jump_zero (length body + 1)) again over (omega (arith, over_is, length-append begun truth))
    ∙ ap (λ (n : ℕ). front ++ jump_zero n ∷ again) body_length
    ∙ ap (λ (w : Code). (w ++ truth) ++ jump_zero (body_start + length body_code + 1) ∷ again) begun_is
    ∙ simp append_assoc
