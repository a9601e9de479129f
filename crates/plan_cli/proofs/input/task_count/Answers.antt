-- Past the test the first number counts the triples after it.
use mathlib.Core.Path.{sym, ◌∙◌}
use Rattle.plan_cli.proofs.InputCount.{uncounted, other, right}
use Rattle.plan_cli.proofs.input.task_count.Goals as goal

pub returns-in_err-n : goal.returns-in_err-n
returns-in_err-n c xs h = c.from_residual.ensures ∙ uncounted xs (sym c.in_err-n.was ∙ c.first_natural.ensures.value xs h)

pub returns-then-numbers-n : goal.returns-then-numbers-n
returns-then-numbers-n c xs h = other c.args.numbers c.in_ok-n.n c.in_ok-n.ensures.within xs h (sym c.in_ok-n.was ∙ c.first_natural.ensures.value xs h) c.if-numbers-n.true

pub returns : goal.returns
returns c xs h = right c.args.numbers c.in_ok-n.n c.in_ok-n.ensures.within xs h (sym c.in_ok-n.was ∙ c.first_natural.ensures.value xs h) c.if-numbers-n.false
