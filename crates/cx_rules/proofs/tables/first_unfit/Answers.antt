use Rattle.std.proofs.Common.{◌≡◌, ◌≤◌, List, length, subst, arith, inl, inr}
use Rattle.std.proofs.lemmas.Bool.{cases_lt}
use Rattle.std.proofs.lemmas.Option.{slice_get_within}
use Rattle.cx_code.specs.declared.image.TypeEntry.{TypeEntry}
use Rattle.cx_rules.specs.Tables.{IsUnfit}
use Rattle.cx_rules.proofs.Judging.{denied}
use Rattle.cx_rules.proofs.tables.first_unfit.Goals as goal

pub returns-then-is_unfit : goal.returns-then-is_unfit
returns-then-is_unfit c = (
  c.is_unfit.ensures.0 c.if-is_unfit.true,
  λ m unfit. elim (cases_lt m c.loop-of.of) [ inl less ↦ absurd (c.loop-of.invariant m less unfit) | inr not_less ↦ not_less ],
)

pub loop-of-preserved : goal.loop-of-preserved
loop-of-preserved c = λ n less unfit. elim (cases_lt n c.loop-of.of) [
  | inl before ↦ c.loop-of.invariant n before unfit
  | inr not_before ↦
      let here : n ≡ c.loop-of.of = omega (arith, less, not_before) in
      denied c.is_unfit.result (IsUnfit c.args.image.now c.loop-of.of) c.if-is_unfit.false c.is_unfit.ensures (subst (IsUnfit c.args.image.now) here unfit)
]

pub returns : goal.returns
returns c = λ n (entry, e, unfit).
    let past : length c.args.image.now.types ≤ c.loop-of.of = subst (λ (types : List TypeEntry). length types ≤ c.loop-of.of) c.items-of-end.ensures c.loop-of-test.false in
    let within = slice_get_within c.args.image.now.types n entry e in
    c.loop-of.invariant n (omega (arith, past, within)) (entry, e, unfit)
