-- The invariant: the holes from the index on ascend above `last` exactly where all do.
use Rattle.std.proofs.Common.{◌≡◌, drop}
use Rattle.checking.specs.Domains.{ascend}
use Rattle.checking.proofs.domain.ascend_between.Given as goal

abbrev pub invariant-loop-hole : goal.invariant-loop-hole
invariant-loop-hole l = ascend l.last (drop l.hole-index l.holes) l.upper_bound ≡ ascend l.fn.lower_bound l.holes l.upper_bound
