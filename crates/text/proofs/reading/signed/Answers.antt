-- A magnitude that an i32 holds, with its sign, is the instant that far from the zero moment.
use mathlib.Core.Path.{ap, ◌∙◌}
use native.Mathlib.Omega.{arith}
use mir.Syntax.{w32}
use Rattle.integers.proofs.Ints.{back_of}
use Rattle.text.specs.Scanner.{given}
use Rattle.text.specs.declared.reading.Reading.TheVariants.{Number}
use Rattle.text.proofs.Bytes.{negative_fits, negative_over, positive_fits, positive_over, instant_below, instant_above}
use Rattle.text.proofs.reading.signed.Goals as goal

pub returns-then-magnitude-gt-ZERO_AT : goal.returns-then-magnitude-gt-ZERO_AT
unfolding given
returns-then-magnitude-gt-ZERO_AT c = rw (c.if-negative.true, negative_over c.args.magnitude (omega arith))

pub returns-then-negative : goal.returns-then-negative
unfolding given
returns-then-negative c = rw (c.if-negative.true, negative_fits c.args.magnitude (omega arith))
    (ap Number (back_of w32 _ c.start_of.type_inv ∙ c.start_of.ensures ∙ instant_below c.args.magnitude (omega arith)))

pub returns-then-magnitude-gt-LARGEST : goal.returns-then-magnitude-gt-LARGEST
unfolding given
returns-then-magnitude-gt-LARGEST c = rw (c.if-negative.false, positive_over c.args.magnitude (omega arith))

pub returns : goal.returns
unfolding given
returns c = rw (c.if-negative.false, positive_fits c.args.magnitude (omega arith))
    (ap Number (back_of w32 _ c.start_of-2.type_inv ∙ c.start_of-2.ensures ∙ instant_above _))
