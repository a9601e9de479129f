-- A place outside the array is no place to set either.
use mathlib.Core.Path.{sym}
use native.Mathlib.Omega.{arith}
use lib.Seq.{set_out}
use Rattle.integers.proofs.Ints.{back}
use Rattle.text.proofs.reading.stored.Goals as goal

pub returns-else-at-lt-KEPT : goal.returns-else-at-lt-KEPT
returns-else-at-lt-KEPT c = sym (set_out c.args.kept c.args.at _ (omega (arith, c.well_formed.0.1.0.1)))

pub returns-then-at-lt-KEPT : goal.returns-then-at-lt-KEPT
returns-then-at-lt-KEPT c = rw (back c.ranges.x)
