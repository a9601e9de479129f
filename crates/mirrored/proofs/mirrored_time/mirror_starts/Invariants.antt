-- After k turns the first k places hold the mirrored starts, and the others are unchanged.
use mathlib.Core.Path.{◌≡◌}
use Prim.Native.Nat.{ℕ, ◌≤◌}
use mathlib.Core.List.{List}
use lib.IntN.{ℤ, pos}
use lib.ListN.{length, get_or, take}
use Rattle.integers.specs.FilledLists.{filled}
use Rattle.scheduling.specs.MirroredTime.{start_mirrored}
use Rattle.mirrored.proofs.mirrored_time.mirror_starts.Given as goal

-- the mirrored start of task k
abbrev pub mirrored_at : List ℤ → List ℕ → ℕ → ℤ
mirrored_at starts durations k = start_mirrored (get_or (take (length starts) durations) k 0) (get_or starts k (pos 0))

abbrev pub invariant-loop-k : goal.invariant-loop-k
invariant-loop-k l = (l.k ≤ length l.starts) × (length l.out ≡ length l.initial.out) × (l.out ≡ filled (mirrored_at l.starts l.durations) l.k l.initial.out)
