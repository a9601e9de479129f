-- What the core leaves in the places that are lent is stored.
use Rattle.std.proofs.Common.{rules}
use Rattle.disjunctive.proofs.LentRuns.{lent_run}
use Rattle.disjunctive.proofs.open_calls.run.Goals as goal

pub returns : goal.returns
returns c =
    let t = c.take_apart-count in
    let ran = rw (c.all_bars_fit-bars_fit.ensures) at c.propagate-ran.ensures in
    lent_run c.args.propagator.now c.args.ranges.now t.result _ _ t.ensures (search rules) _ c.propagate-ran.auto.earliest _ c.store_starts.ensures c.args.posts.now c.args.atoms.now c.propagate-ran.result _ _ ran
