-- What the core leaves in the places that are lent is stored.
use Rattle.std.proofs.Common.{rules}
use Rattle.disjunctive.proofs.LentRuns.{lent_pass}
use Rattle.disjunctive.proofs.open_calls.by_precedence.precedences.Goals as goal

pub returns : goal.returns
returns c =
    let t = c.take_apart-count in
    let ran = rw (c.all_bars_fit-bars_fit.ensures) at c.precedences-answer.ensures in
    lent_pass c.args.propagator.now c.args.ranges.now t.result _ _ t.ensures (search rules) _ c.precedences-answer.auto.earliest _ c.store_starts.ensures _ ran
