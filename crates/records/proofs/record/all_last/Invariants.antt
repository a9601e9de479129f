-- The invariant: `all` says whether each duration before this one is 1 or more.
use mathlib.Core.Path.{◌≡◌}
use Rattle.integers.specs.Tests.{all_below}
use Rattle.records.specs.Records.{lasts_at}
use Rattle.records.proofs.record.all_last.Given as goal

abbrev pub invariant-loop-x : goal.invariant-loop-x
invariant-loop-x l = l.all ≡ all_below (lasts_at l.durations) l.x-index
