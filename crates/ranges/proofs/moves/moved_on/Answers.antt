-- The fold over the bars takes the start past each of them.
use mathlib.Core.Path.{ap, ◌∙◌}
use lib.IntN.{ℤ}
use mir.Syntax.{w32}
use mir.Val.{SFits}
use Rattle.std.proofs.Common.{rules, tests}
use Rattle.std.proofs.lemmas.Iterator.{YieldsList-from_slice}
use Rattle.std.proofs.lemmas.Iterator.Consumers.{fold_from_yields_List}
use Rattle.integers.proofs.Ints.{back}
use Rattle.ranges.specs.Bars.{bars_of}
use Rattle.ranges.specs.Moves.{past_the_bar, moved_onward}
use Rattle.ranges.proofs.MovedStarts.{onward_is}
use Rattle.ranges.proofs.moves.moved_on.Goals as goal

pub returns : goal.returns
returns c =
    let y = c.args.range.now in
    let fits : SFits w32 c.fold.result = search rules in
    back fits
    ∙ fold_from_yields_List _ (λ z b. past_the_bar y.latest b z) _ _ c.fold.ensures.ran (YieldsList-from_slice (bars_of y) cc) (λ a x b q k. search (rules, tests))
    ∙ onward_is y.latest _ (bars_of y)
    ∙ ap (λ (z : ℤ). moved_onward y.latest z (bars_of y)) (back c.ranges.start)
