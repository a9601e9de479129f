-- The answer is that of `check_as` in the caller's time; `checked` says what Passed means.
use Rattle.checker.proofs.Checked.{checked}
use Rattle.checker.proofs.checker.check.Goals as goal

pub returns : goal.returns
returns c = let a = c.args in checked a.durations.now a.premises.now a.consequent.now c.check_as.result c.check_as.ensures
