-- A query that 6 refuses is refused by 7 where there are too many premises.
use mathlib.Core.Path.{sym}
use mathlib.Core.Bool.{false}
use native.Mathlib.Omega.{arith}
use Rattle.reedgrit.proofs.StateTests.{too_many, malformed_own}
use Rattle.reedgrit.proofs.states.unfit_reason.Goals as goal

pub returns-then-premises : goal.returns-then-premises
returns-then-premises c = sym (too_many c.args.premises.now false (omega arith))

pub returns : goal.returns
returns c = sym (malformed_own c.args.premises.now (omega arith))
