-- The difference of the two ends, which is 0 where they cross.
use Rattle.std.proofs.Common.{rules}
use Rattle.busiest_stretch.specs.StretchMoments.{common_in}
use Rattle.busiest_stretch.proofs.covering.common.Goals as goal

pub returns : goal.returns
unfolding common_in
returns c = search rules
