-- The invariant: the first i places are filled with the caller's durations, the others are 0.
use mathlib.Core.Path.{◌≡◌}
use Rattle.integers.specs.FilledLists.{filled, no_tasks}
use Rattle.records.specs.Records.{duration_at}
use Rattle.records.proofs.record.durations_of.Given as goal

abbrev pub invariant-loop-i : goal.invariant-loop-i
invariant-loop-i l = l.lengths ≡ filled (duration_at l.durations) l.i no_tasks
