-- A run of n tasks makes at most 4n − 3 leaf changes: n fill Θ, and each level but the last makes two that move a task to Λ. Each task of Λ leaves it by one more at most.
use mathlib.Core.List.{List}
use Prim.Native.Nat.{ℕ, ◌+◌, ◌-◌, ◌*◌, ◌≤◌, ◌<◌}
use native.Mathlib.Omega.{arith}
use lib.ListN.{get_or}
use Rattle.integers.specs.Orders.{index}
use Rattle.scheduling.specs.Scheduling.{natural, Tasks, Proper}
use Rattle.scheduling.specs.Moments.{ByEarliest, ByCompletion}
use Rattle.runs.specs.Runs.{State, run}
use Rattle.runs.specs.Reached.{Reached}
use Rattle.runs.proofs.LevelSteps.{unasked, run_left}
use Rattle.runs.proofs.ReachedStates.{reached_inv}

module _ (o : ℕ) (J : Tasks natural) (ok : Proper J) (est_order lct_order : List ℕ) (rk : ByEarliest J (λ j. get_or est_order j 0) (λ k. index est_order k))
    (ord : ByCompletion J (λ t. get_or lct_order t 0) (λ k. index lct_order k)) where
  pub changes_most : 1 ≤ J.count → (run o J est_order lct_order).changes ≤ 4 * J.count - 3
  changes_most one = omega (arith, (run_left o J ok est_order lct_order rk ord one).counted)

  -- at each state that the run goes through
  pub reached_changes : (t : ℕ) (st : State) → Reached o J est_order lct_order t st → t < J.count → st.changes ≤ J.count + 3 * t
  reached_changes t st r small = omega (arith, (reached_inv o J ok est_order lct_order rk ord (λ _. Unit {0}) (λ _. Unit {0}) (unasked o J ok est_order lct_order rk ord) t st r small).counted)
