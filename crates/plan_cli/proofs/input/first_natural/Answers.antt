-- Each way out is one shape of the list.
use mathlib.Core.Path.{◌∙◌}
use lib.IntN.{pos}
use lib.ListN.{get_or}
use mir.Syntax.{w32}
use borrow.Author.Rules.{rules}
use Rattle.std.proofs.Common.{SFits}
use Rattle.plan_cli.proofs.InputCount.{invalid, nothing, tried}
use Rattle.plan_cli.proofs.input.first_natural.Goals as goal
use Rattle.plan_cli.proofs.input.first_natural.Goals.{then-not-numbers-via-then-not-numbers, then-not-numbers-via-else-not-numbers+then-numbers-eq0}

pub returns-then-not-numbers-clause-value : goal.returns-then-not-numbers-clause-value
returns-then-not-numbers-clause-value c xs h = elim c.then-not-numbers.branch [
  | then-not-numbers-via-then-not-numbers w ↦ invalid c.args.numbers xs h w.if-not-numbers.true
  | then-not-numbers-via-else-not-numbers+then-numbers-eq0 w ↦ nothing c.args.numbers xs h w.if-numbers-eq0.true
]

pub returns-clause-value : goal.returns-clause-value
returns-clause-value c xs h =
    let word : SFits w32 (get_or c.args.numbers.kept 0 (pos 0)) = search rules in
    c.ok.ensures.value ∙ tried c.args.numbers c.try_from.result word c.try_from.ensures c.if-not-numbers.false c.if-numbers-eq0.false xs h
