-- The invariant: the bars fit exactly where those from place i on do, each past the one before it and inside.
use mathlib.Core.Path.{◌≡◌}
use Rattle.ranges.specs.Bars.{bars_are_fit}
use Rattle.ranges.proofs.BarsFrom.{fit_from}
use Rattle.ranges.proofs.range.Range.places_fit.Given as goal

abbrev pub invariant-loop-i : goal.invariant-loop-i
invariant-loop-i l = fit_from l.self l.i ≡ bars_are_fit l.self
