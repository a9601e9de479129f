use Rattle.std.proofs.Common.{◌≡◌, ◌∙◌, ap, arith}
use Rattle.checking.specs.TaskBounds.{bounds_by}
use Rattle.checking.proofs.FilledBounds.{none_filled, one_filled}
use Rattle.checking.proofs.start_bounds.Bounds.fill.Goals as goal

pub loop-i-init : goal.loop-i-init
loop-i-init g c = λ f means. none_filled f c.requires.empty

pub loop-i-preserved : goal.loop-i-preserved
loop-i-preserved g c = λ f means.
    let l = c.loop-i in
    c.put.ensures ∙ one_filled f l.i c.at.result (means l.i c.at.result c.loop-i-test.true c.at.ensures) (l.invariant f means)

pub returns : goal.returns
returns g c = λ f means. let e : c.loop-i.i ≡ c.args.n = omega arith in c.loop-i.invariant f means ∙ ap (bounds_by f) e
