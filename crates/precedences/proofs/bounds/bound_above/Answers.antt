-- A bound past the earliest start is answered; there is none where the code finds none, or one that is not past it.
use mathlib.Core.Path.{refl, ◌∙◌}
use mir.Syntax.{w32}
use borrow.Author.Tests.{le-ltb}
use Rattle.integers.proofs.Ints.{back_of}
use Rattle.precedences.proofs.BoundAnswers.{bound_left, none_left}
use Rattle.precedences.proofs.bounds.bound_above.Goals as goal

pub returns-in_err-bound : goal.returns-in_err-bound
returns-in_err-bound c J f = rw c.from_residual.ensures (none_left f c.args.i c.requires.2 (c.in_err-bound.ensures J f) refl)

pub returns-then-bound-start : goal.returns-then-bound-start
returns-then-bound-start c J f = none_left f c.args.i c.requires.2 (c.in_ok-bound.ensures J f) (le-ltb _ _ c.if-bound-start.true)

pub returns : goal.returns
returns c J f = bound_left f c.args.i c.requires.2 (c.in_ok-bound.ensures J f) c.if-bound-start.false (back_of w32 c.start_of.result c.start_of.type_inv ∙ c.start_of.ensures)
