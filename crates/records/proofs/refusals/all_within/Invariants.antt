-- The invariant: `all` says whether every number before this one is within.
use mathlib.Core.Path.{◌≡◌}
use Rattle.integers.specs.Tests.{all_below}
use Rattle.records.specs.Refusals.{within_at}
use Rattle.records.proofs.refusals.all_within.Given as goal

abbrev pub invariant-loop-x : goal.invariant-loop-x
invariant-loop-x l = l.all ≡ all_below (within_at l.low l.high l.xs) l.x-index
