-- The arrays that are lent are zeros, and so they end as the definition says.
use Rattle.ranges.proofs.TakenApart.{taken_starts}
use Rattle.ranges.proofs.starts.starts_of.Goals as goal

pub returns : goal.returns
returns c = taken_starts c.args.ranges.now _ _ _ c.take_apart-count.ensures
