-- The two cases of the definition, by whether the numbers so far are valid.
use mathlib.Core.Path.{sym}
use borrow.Author.Tests.{not-true, not-false}
use Rattle.integers.proofs.Ints.{back}
use Rattle.text.proofs.ScannerSteps.{number_in, number_out}
use Rattle.text.proofs.reading.Numbers.with_number.Goals as goal

pub returns : goal.returns
returns c =
    rw (number_in c.args.self c.args.x (not-false c.args.self.valid c.if-not-self.false), c.one_more.ensures, c.stored.ensures, back c.ranges.x)

pub returns-then-not-self : goal.returns-then-not-self
returns-then-not-self c = sym (number_out _ _ (not-true _ c.if-not-self.true))
