-- Only the measure is needed: each pass goes past one end.
use Rattle.std.proofs.Common.{length, ◌-◌}
use Rattle.plan_cli.proofs.inputs.answer_each.Given as goal

abbrev pub invariant-loop-from : goal.invariant-loop-from
invariant-loop-from g l = Unit {0}

abbrev pub decreases-loop-from : goal.decreases-loop-from
decreases-loop-from g l = length l.inputs - l.from
