use Rattle.std.proofs.Common.{◌+◌, sym, subst, arith, inr}
use Rattle.std.proofs.lemmas.List.{take_rest}
use Rattle.cx_lexer.specs.Spelling.{SpellsTo}
use Rattle.cx_lexer.proofs.Unique.{gap_fits, gap_spelled, token_fits, token_spelled, fault_told}
use Rattle.cx_lexer.proofs.tokens.scan.Goals as goal

pub loop-at-init : goal.loop-at-init
loop-at-init c = record { within = omega arith; spelled = subst (SpellsTo c.args.text.now 0) (sym c.new-tokens.ensures) SpellsTo.start }

-- a blank or a comment
pub overflow_add-at : goal.overflow_add-at
overflow_add-at c = let fits = gap_fits c.args.text.now c.loop-at.at c.in-Gap.length c.loop-at.tokens (rw take_rest at c.in-Gap.ensures) c.loop-at.invariant.within in omega arith

pub loop-at-smaller-in-Gap : goal.loop-at-smaller-in-Gap
loop-at-smaller-in-Gap c = let fits = gap_fits c.args.text.now c.loop-at.at c.in-Gap.length c.loop-at.tokens (rw take_rest at c.in-Gap.ensures) c.loop-at.invariant.within in omega arith

pub loop-at-preserved-in-Gap : goal.loop-at-preserved-in-Gap
loop-at-preserved-in-Gap c =
    let stands = rw take_rest at c.in-Gap.ensures in
    let fits = gap_fits c.args.text.now c.loop-at.at c.in-Gap.length c.loop-at.tokens stands c.loop-at.invariant.within in
    record { within = fits.1; spelled = gap_spelled c.args.text.now c.loop-at.at c.in-Gap.length c.loop-at.tokens c.loop-at.invariant.spelled stands }

-- a token
pub overflow_add-end : goal.overflow_add-end
overflow_add-end c = let fits = token_fits c.args.text.now c.loop-at.at c.in-Token.length c.loop-at.tokens c.in-Token.kind (rw take_rest at c.in-Token.ensures) c.loop-at.invariant.within in omega arith

pub overflow_cast-end : goal.overflow_cast-end
overflow_cast-end c = let fits = token_fits c.args.text.now c.loop-at.at c.in-Token.length c.loop-at.tokens c.in-Token.kind (rw take_rest at c.in-Token.ensures) c.loop-at.invariant.within in omega arith

pub loop-at-smaller : goal.loop-at-smaller
loop-at-smaller c = let fits = token_fits c.args.text.now c.loop-at.at c.in-Token.length c.loop-at.tokens c.in-Token.kind (rw take_rest at c.in-Token.ensures) c.loop-at.invariant.within in omega arith

pub loop-at-preserved : goal.loop-at-preserved
loop-at-preserved c =
    let stands = rw take_rest at c.in-Token.ensures in
    let fits = token_fits c.args.text.now c.loop-at.at c.in-Token.length c.loop-at.tokens c.in-Token.kind stands c.loop-at.invariant.within in
    record {
      within = fits.1;
      spelled = subst (SpellsTo c.args.text.now (c.loop-at.at + c.in-Token.length)) (sym c.in_ok-push-in-Token.ensures.ok) (token_spelled c.args.text.now c.loop-at.at c.in-Token.length c.loop-at.tokens c.in-Token.kind c.loop-at.invariant.spelled stands);
    }

-- a fault
pub returns-in-Fault-clause-fault : goal.returns-in-Fault-clause-fault
returns-in-Fault-clause-fault c =
    inr (fault_told c.args.text.now c.loop-at.at 0 c.loop-at.tokens c.in-Fault.fault c.loop-at.invariant.spelled (rw take_rest at c.in-Fault.ensures))
