-- The states that a run goes through, at the head of each level and after each turn of the inner loop.
use Rattle.std.specs.Prelude.{◌≡◌, false, List, ℕ, suc}
use Rattle.integers.specs.Orders.{index}
use Rattle.scheduling.specs.Scheduling.{natural, Tasks}
use Rattle.trees.specs.Ects.{exceeds}
use Rattle.trees.specs.Leaves.{ect}
use Rattle.runs.specs.Runs.{State, on, grayed, all_white, sorted_task, lct, inner}

module _ (o : ℕ) (J : Tasks natural) (est_order lct_order : List ℕ) where
  -- Θ does not overload at level t
  abbrev pub Quiet : ℕ → State → Type 0
  Quiet t st = exceeds (ect J est_order st.leaves) (lct o J est_order lct_order t) ≡ false

  -- the state in which the task of level t goes from Θ to Λ
  abbrev pub moved_onward : ℕ → State → State
  moved_onward t st = grayed st (index est_order (sorted_task o J est_order lct_order t))

  -- the state at the head of level t
  pub data Entered : ℕ → State → Type 0 where
    begins : Entered 0 (all_white J)
    follows : (t : ℕ) (st st' : State) → Entered t st → Quiet t st → inner o J est_order lct_order J.count (suc t) (moved_onward t st) ≡ on st'
        → Entered (suc t) st'

  -- a state at level t: at its head, before the inner loop, or after a turn of it
  pub data Reached : ℕ → State → Type 0 where
    at_head : (t : ℕ) (st : State) → Entered t st → Reached t st
    moved : (t : ℕ) (st : State) → Entered t st → Quiet t st → Reached (suc t) (moved_onward t st)
    turned : (t : ℕ) (st st' : State) → Reached t st → inner o J est_order lct_order 1 t st ≡ on st' → Reached t st'
