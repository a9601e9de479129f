-- Each way out is one case of `asked_in`: no first number, another count than one or the number 0, a number above the limit, a size.
use mathlib.Core.Path.{sym, ◌∙◌}
use native.Mathlib.Omega.{arith}
use Rattle.costliest_cli.proofs.AskedSize.{unasked, not_one, low, high, right}
use Rattle.costliest_cli.proofs.size.size_asked.Goals as goal
use Rattle.costliest_cli.proofs.size.size_asked.Goals.{then-numbers-ne1-via-then-numbers-ne1, then-numbers-ne1-via-else-numbers-ne1+then-n-eq0}

pub returns-in_err-n-clause-size : goal.returns-in_err-n-clause-size
returns-in_err-n-clause-size c xs h = c.from_residual.ensures ∙ unasked xs (sym c.in_err-n.was ∙ c.first_natural.ensures.value xs h)

pub returns-then-numbers-ne1-clause-size : goal.returns-then-numbers-ne1-clause-size
returns-then-numbers-ne1-clause-size c xs h = elim c.then-numbers-ne1.branch [
  | then-numbers-ne1-via-then-numbers-ne1 w ↦ not_one c.args.numbers xs h w.if-numbers-ne1.true
  | then-numbers-ne1-via-else-numbers-ne1+then-n-eq0 w ↦ low c.in_ok-n.n xs (sym c.in_ok-n.was ∙ c.first_natural.ensures.value xs h) w.if-n-eq0.true
]

pub returns-then-n-gt-TASKS-clause-size : goal.returns-then-n-gt-TASKS-clause-size
returns-then-n-gt-TASKS-clause-size c xs h = high c.in_ok-n.n xs (sym c.in_ok-n.was ∙ c.first_natural.ensures.value xs h)
    (omega (arith, c.if-n-gt-TASKS.true))

pub returns-clause-size : goal.returns-clause-size
returns-clause-size c xs h = right c.args.numbers c.in_ok-n.n xs h (sym c.in_ok-n.was ∙ c.first_natural.ensures.value xs h) c.if-numbers-ne1.false c.if-n-eq0.false
    (omega (arith, c.if-n-gt-TASKS.false))
