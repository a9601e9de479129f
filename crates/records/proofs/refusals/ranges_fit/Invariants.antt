-- The invariant: `all` says whether no earliest start before place i is above its latest.
use mathlib.Core.Path.{◌≡◌}
use Rattle.integers.specs.Tests.{all_below}
use Rattle.records.specs.Refusals.{range_fits_at}
use Rattle.records.proofs.refusals.ranges_fit.Given as goal

abbrev pub invariant-loop-i : goal.invariant-loop-i
invariant-loop-i l = l.all ≡ all_below (range_fits_at l.earliest l.latest) l.i
