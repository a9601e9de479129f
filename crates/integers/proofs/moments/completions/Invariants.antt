-- The invariant: the first i places are filled with the latest completions, which the limit keeps inside a u32.
use mathlib.Core.Path.{◌≡◌}
use Prim.Native.Nat.{◌≤◌}
use Rattle.integers.specs.FilledLists.{filled}
use Rattle.integers.specs.Moments.{completion_at}
use Rattle.integers.proofs.moments.completions.Given as goal

abbrev pub invariant-loop-i : goal.invariant-loop-i
invariant-loop-i l = (l.i ≤ l.n) × (l.out ≡ filled (completion_at l.latest l.durations) l.i l.initial.out)
