-- The invariant `WalkedTo`: x is a leaf of Θ, the tasks from it on last so long, and at those before it the answer was no. Somewhere it is not, so the walk
-- halts inside.
use mathlib.Core.Bool.{false}
use Prim.Native.Nat.{◌-◌}
use lib.ListN.{get_or}
use Rattle.explanations.specs.Leaves.{white_of, task_at}
use Rattle.explanations.proofs.LeafWalk.{WalkedTo}
use Rattle.explanations.proofs.walks.walk.Given as goal

abbrev pub invariant-loop-theta : goal.invariant-loop-theta
invariant-loop-theta g l =
    WalkedTo (white_of l.theta) (task_at l.theta) (λ k q. goal.F-post g l.stops (get_or l.theta.est.now k 0) q false) l.theta.durations.now l.fn.suffix.first.0
    l.theta.n l.x.0 l.lasts

abbrev pub decreases-loop-theta : goal.decreases-loop-theta
decreases-loop-theta g l = l.theta.n - l.x.0
