-- Where the closure answers for each range whether its bars fit, `all` answers for all of them.
use mathlib.Core.Path.{◌∙◌}
use Rattle.std.proofs.Common.{rules, tests}
use Rattle.std.proofs.lemmas.Iterator.{YieldsList-from_slice}
use Rattle.std.proofs.lemmas.Iterator.Search.{all_from_yields_List}
use Rattle.ranges.specs.Bars.{bars_are_fit}
use Rattle.ranges.proofs.BarsFrom.{all_is}
use Rattle.ranges.proofs.bars.all_bars_fit.Goals as goal

pub returns : goal.returns
returns c = all_from_yields_List bars_are_fit _ _ _ c.all.ensures.ran (YieldsList-from_slice c.args.ranges.now cc) (λ x b q k. search (rules, tests)) ∙ all_is c.args.ranges.now
