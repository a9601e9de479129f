-- The loop's invariant: no leaf from `place` to before x is white.
use mathlib.Core.Path.{◌≡◌}
use mathlib.Core.Bool.{false}
use Prim.Native.Nat.{ℕ, ◌≤◌, ◌<◌}
use Rattle.trees.specs.ArraySearches.{white_in}
use Rattle.trees.proofs.theta_lambda_tree.ThetaLambdaTree.next_in_theta.Given as goal

abbrev pub invariant-loop-x : goal.invariant-loop-x
invariant-loop-x l = (l.initial.x ≤ l.x) × (l.x ≤ l.count) × ((y : ℕ) → l.initial.x ≤ y → y < l.x → white_in l.nodes l.inner y ≡ false)
