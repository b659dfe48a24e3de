use Rattle.std.proofs.Common.{◌≡◌, ◌^◌, ◌&&◌, nat_lt, ℕ, List, refl, ap, ◌∙◌, rules, arith}
use Rattle.std.specs.Ordering.{nat_cmp}
use Rattle.std.specs.BTreeSet.{IsFromIterResult, contains}
use Rattle.cx_outside.specs.MemoryObjects.{is_listed}
use Rattle.cx_outside.proofs.Listed.{all_listed}
use Rattle.cx_outside.proofs.memory.calls.Calls.new.Goals as goal

of_list : (c : goal.In_ok-collect) (number : ℕ) → (nat_lt number (2 ^ 32) && contains nat_cmp c.in_ok-collect.field-0 number) ≡ is_listed c.args.failing.now number
of_list c =
    let collected : IsFromIterResult nat_cmp c.args.failing.now c.in_ok-collect.field-0 = search rules in
    all_listed c.args.failing.now c.in_ok-collect.field-0 (λ i. let fits = c.type_inv.failing i in omega arith) collected.0

pub returns-clause-listed : goal.returns-clause-listed
returns-clause-listed c = record { made = refl; faults = refl; listed = of_list c }

pub returns-clause-never : goal.returns-clause-never
returns-clause-never c none number = of_list c number ∙ ap (λ (numbers : List ℕ). is_listed numbers number) none
