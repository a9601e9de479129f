-- The answer is that of `check_as` in mirrored time; `checked_mirrored` says what Passed means.
use Rattle.checker.proofs.Checked.{checked_mirrored}
use Rattle.checker.proofs.checker.check_mirrored.Goals as goal

pub returns : goal.returns
returns c = let a = c.args in checked_mirrored a.durations.now a.premises.now a.consequent.now c.check_as.result c.check_as.ensures
