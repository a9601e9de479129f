-- The invariant: the first i places are filled with the moments of the starts.
use mathlib.Core.Path.{◌≡◌}
use Prim.Native.Nat.{◌≤◌}
use lib.ListN.{length}
use Rattle.integers.specs.FilledLists.{filled}
use Rattle.integers.specs.Moments.{moment_at}
use Rattle.integers.proofs.moments.moments_of.Given as goal

abbrev pub invariant-loop-i : goal.invariant-loop-i
invariant-loop-i l = (l.i ≤ length l.xs) × (l.out ≡ filled (moment_at l.xs) l.i l.initial.out)
