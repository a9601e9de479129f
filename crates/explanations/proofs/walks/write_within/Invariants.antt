-- The invariant `Written`: the atoms of Θ's tasks before leaf x stand from place k up to `at`, and the rest is unchanged.
use mathlib.Core.Path.{◌≡◌}
use mathlib.Core.Bool.{true}
use Prim.Native.Nat.{◌-◌, ◌≤◌, ◌<◌}
use Rattle.explanations.specs.Leaves.{white_of, tasks_between}
use Rattle.explanations.proofs.WrittenAtoms.{Written}
use Rattle.explanations.proofs.walks.write_within.Given as goal

abbrev pub invariant-loop-x : goal.invariant-loop-x
invariant-loop-x l = (l.x.0 ≤ l.to) × (l.x.0 < l.to → white_of l.theta l.x.0 ≡ true)
    × Written l.initial.atoms l.k (tasks_between l.theta l.initial.x.0 l.to) l.theta.durations.now l.low l.high l.atoms (tasks_between l.theta l.x.0 l.to) l.at

abbrev pub decreases-loop-x : goal.decreases-loop-x
decreases-loop-x l = l.to - l.x.0
