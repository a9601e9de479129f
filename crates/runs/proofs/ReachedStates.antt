-- Every state that a run goes through has the invariant of its level.
use mathlib.Core.Path.{subst}
use mathlib.Core.List.{List}
use Prim.Native.Nat.{ℕ, suc, ◌<◌}
use native.Mathlib.Omega.{arith}
use lib.ListN.{get_or}
use Rattle.integers.specs.Orders.{index}
use Rattle.scheduling.specs.Scheduling.{natural, Tasks, Proper, Atom}
use Rattle.scheduling.specs.Moments.{ByEarliest, ByCompletion}
use Rattle.runs.specs.Traces.{Post}
use Rattle.runs.specs.Runs.{State, on}
use Rattle.runs.specs.Reached.{Quiet, moved_onward, Entered, begins, follows, Reached, at_head, moved, turned}
use Rattle.runs.proofs.LevelSteps as steps

module _ (o : ℕ) (J : Tasks natural) (ok : Proper J) (est_order lct_order : List ℕ) (rk : ByEarliest J (λ j. get_or est_order j 0) (λ k. index est_order k))
    (ord : ByCompletion J (λ t. get_or lct_order t 0) (λ k. index lct_order k))
    (Good : Post → Type 0) (GoodEnd : List Atom → Type 0) (meas : steps.Measure o J ok est_order lct_order rk ord Good GoodEnd) where
  abbrev Inv : ℕ → State → Type 0
  Inv = steps.Inv o J ok est_order lct_order rk ord Good GoodEnd meas

  abbrev Closed : ℕ → State → Type 0
  Closed = steps.Closed o J ok est_order lct_order rk ord Good GoodEnd meas

  -- at the head of a level, where Θ does not overload
  quiet_moved : (t : ℕ) (st : State) → t < J.count → Closed t st → Quiet o J est_order lct_order t st → Inv (suc t) (moved_onward o J est_order lct_order t st)
  quiet_moved t st small c q = steps.gray_ok o J ok est_order lct_order rk ord Good GoodEnd meas t st small c (steps.theta_within o J ok est_order lct_order rk ord Good GoodEnd meas t st small c.inv q)

  pub entered_closed : (t : ℕ) (st : State) → Entered o J est_order lct_order t st → t < J.count → Closed t st
  entered_closed t st begins small = steps.first_closed o J ok est_order lct_order rk ord Good GoodEnd meas
  entered_closed t st (follows t₀ st₀ st' e q z) small =
      (steps.level_ok o J ok est_order lct_order rk ord Good GoodEnd meas t₀ st₀ (on st') small (entered_closed t₀ st₀ e (omega arith)) q z).1 tt

  pub reached_inv : (t : ℕ) (st : State) → Reached o J est_order lct_order t st → t < J.count → Inv t st
  reached_inv t st (at_head t₀ st₀ e) small = (entered_closed t st e small).inv
  reached_inv t st (moved t₀ st₀ e q) small = quiet_moved t₀ st₀ (omega arith) (entered_closed t₀ st₀ e (omega arith)) q
  reached_inv t st (turned t₀ st₀ st₁ r e) small = (subst (steps.TurnOk o J ok est_order lct_order rk ord Good GoodEnd meas _ t) e
      (steps.inner_ok o J ok est_order lct_order rk ord Good GoodEnd meas 1 t st₀ small (reached_inv t st₀ r small))).0
