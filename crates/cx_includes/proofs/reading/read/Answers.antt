use Rattle.std.proofs.Common.{◌≡◌, ◌+◌, length, arith, sym, subst, refl}
use Rattle.cx_includes.specs.Parts.{ReadsTo, IsReading}
use Rattle.cx_includes.proofs.Stretches.{blank_fits, part_fits, reads_blank, reads_part, reads_last, parts_within}
use Rattle.cx_includes.proofs.reading.read.Goals as goal

pub loop-at-init : goal.loop-at-init
loop-at-init c = record { within = omega arith; reached = record { line = refl; column = refl; blank = refl }; reads = subst (ReadsTo c.args.text.now 0) (sym c.new-parts.ensures) ReadsTo.start }

-- a blank or a comment
pub overflow_add-end : goal.overflow_add-end
overflow_add-end c = let fits = blank_fits c.args.text.now c.loop-at.at c.in-Blank.length c.loop-at.invariant.within c.in-Blank.ensures in omega arith

pub passed-reached-requires-clause-within : goal.passed-reached-requires-clause-within
passed-reached-requires-clause-within c = (blank_fits c.args.text.now c.loop-at.at c.in-Blank.length c.loop-at.invariant.within c.in-Blank.ensures).1

pub loop-at-smaller-in-Blank : goal.loop-at-smaller-in-Blank
loop-at-smaller-in-Blank c = let fits = blank_fits c.args.text.now c.loop-at.at c.in-Blank.length c.loop-at.invariant.within c.in-Blank.ensures in omega arith

pub loop-at-preserved-in-Blank : goal.loop-at-preserved-in-Blank
loop-at-preserved-in-Blank c = record {
  within = (blank_fits c.args.text.now c.loop-at.at c.in-Blank.length c.loop-at.invariant.within c.in-Blank.ensures).1;
  reached = c.passed-reached.ensures;
  reads = reads_blank c.args.text.now c.loop-at.at c.in-Blank.length c.loop-at.parts c.loop-at.invariant.reads c.in-Blank.ensures;
}

-- a part behind which the file goes on
pub overflow_add-end-in-Part : goal.overflow_add-end-in-Part
overflow_add-end-in-Part c = let fits = part_fits c.args.text.now c.loop-at.at c.in-Part.length c.in-Part.part c.loop-at.invariant.within c.in-Part.ensures in omega arith

pub passed-reached-requires-in-Part-clause-within : goal.passed-reached-requires-in-Part-clause-within
passed-reached-requires-in-Part-clause-within c = (part_fits c.args.text.now c.loop-at.at c.in-Part.length c.in-Part.part c.loop-at.invariant.within c.in-Part.ensures).1

pub loop-at-smaller : goal.loop-at-smaller
loop-at-smaller c = let fits = part_fits c.args.text.now c.loop-at.at c.in-Part.length c.in-Part.part c.loop-at.invariant.within c.in-Part.ensures in omega arith

pub loop-at-preserved : goal.loop-at-preserved
loop-at-preserved c = record {
  within = (part_fits c.args.text.now c.loop-at.at c.in-Part.length c.in-Part.part c.loop-at.invariant.within c.in-Part.ensures).1;
  reached = c.passed-reached-in-Part.ensures;
  reads = subst (ReadsTo c.args.text.now (c.loop-at.at + c.in-Part.length)) (sym c.in_ok-push-in-Part.ensures.ok)
      (reads_part c.args.text.now c.loop-at.at c.in-Part.length c.loop-at.parts c.in-Part.part c.loop-at.invariant.reads c.in-Part.ensures);
}

-- the last part, and the end
pub returns-in-Last : goal.returns-in-Last
returns-in-Last c =
    let reading = subst (IsReading c.args.text.now) (sym c.in_ok-push-in-Last.ensures.ok) (reads_last c.args.text.now c.loop-at.at c.loop-at.parts c.in-Last.part c.loop-at.invariant.reads c.in-Last.ensures) in
    record { reading = reading; within = parts_within c.args.text.now c.push-in-Last.new.self reading }

pub returns : goal.returns
returns c =
    let at_end : c.loop-at.at ≡ length c.args.text.now = omega arith in
    let reading = IsReading.whole (subst (λ n. ReadsTo c.args.text.now n c.loop-at.parts) at_end c.loop-at.invariant.reads) in
    record { reading = reading; within = parts_within c.args.text.now c.loop-at.parts reading }
