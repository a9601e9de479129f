-- The fold over the bars, from the last one, takes the start before each of them.
use mathlib.Core.Path.{ap, ◌∙◌}
use lib.IntN.{ℤ}
use mir.Syntax.{w32}
use mir.Val.{SFits}
use Rattle.std.proofs.Common.{rules, tests}
use Rattle.std.proofs.lemmas.Iterator.Adapters.{YieldsList-from_rev_slice}
use Rattle.std.proofs.lemmas.Iterator.Consumers.{fold_from_yields_List}
use Rattle.integers.proofs.Ints.{back}
use Rattle.ranges.specs.Bars.{bars_of}
use Rattle.ranges.specs.Moves.{before_the_bar, moved_backward}
use Rattle.ranges.proofs.MovedStarts.{backward_is}
use Rattle.ranges.proofs.moves.moved_back.Goals as goal

pub returns : goal.returns
returns c =
    let y = c.args.range.now in
    let fits : SFits w32 c.fold.result = search rules in
    back fits
    ∙ fold_from_yields_List _ (λ z b. before_the_bar y.earliest b z) _ _ c.fold.ensures.ran (YieldsList-from_rev_slice (bars_of y) cc) (λ a x b q k. search (rules, tests))
    ∙ backward_is y.earliest _ (bars_of y)
    ∙ ap (λ (z : ℤ). moved_backward y.earliest z (bars_of y)) (back c.ranges.start)
