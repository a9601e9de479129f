use native.Mathlib.Omega.{arith}
use native.Mathlib.Decide.{dec_lt}
use lib.ListN.{length}
use Rattle.plan_cli.proofs.Marks.{mark_none, mark_here, mark_later}
use Rattle.plan_cli.proofs.inputs.end_of.Goals as goal

pub returns-then-inputs-i-eq-MARK-clause-place : goal.returns-then-inputs-i-eq-MARK-clause-place
returns-then-inputs-i-eq-MARK-clause-place c = omega (arith, c.loop-i.invariant, mark_here c.args.inputs.now c.loop-i.i c.loop-i-test.true c.if-inputs-i-eq-MARK.true)

pub loop-i-preserved : goal.loop-i-preserved
loop-i-preserved c = omega (arith, c.loop-i.invariant, mark_later c.args.inputs.now c.loop-i.i c.loop-i-test.true c.if-inputs-i-eq-MARK.false)

pub returns-clause-place : goal.returns-clause-place
returns-clause-place c =
    let inputs = c.args.inputs.now in
    elim (dec_lt c.args.«from» (length inputs)) [
      | yes h ↦ omega (arith, c.loop-i.invariant, c.loop-i.auto.i-end (omega arith), mark_none inputs c.loop-i.i (omega arith))
      | no h ↦ omega (arith, c.requires, mark_none inputs c.args.«from» (omega arith))
    ]
