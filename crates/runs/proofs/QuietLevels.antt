-- Levels with nothing to do: while ect_bar is at most a level's lct, it has no candidate and no overload, and the move of a task to Λ does not raise it.
use mathlib.Core.Path.{◌≡◌, ◌∙◌}
use mathlib.Core.Bool.{true}
use mathlib.Core.List.{List}
use Prim.Native.Nat.{ℕ, zero, suc, ◌≤◌, ◌<◌}
use native.Mathlib.Omega.{arith}
use lib.ListN.{get_or}
use Rattle.integers.specs.Orders.{index}
use Rattle.scheduling.specs.Scheduling.{natural, Tasks, Proper}
use Rattle.scheduling.specs.Moments.{ByEarliest, ByCompletion}
use Rattle.trees.specs.Ects.{raised_to}
use Rattle.trees.proofs.Ects.{within_bound}
use Rattle.trees.specs.Leaves.{white_at, ect_bar_of}
use Rattle.trees.proofs.NodeOrder as order
use Rattle.runs.specs.Runs.{State, on, inner, lct}
use Rattle.runs.specs.Reached.{moved_onward, Entered, at_head}
use Rattle.runs.proofs.InnerLoop.{inner_end, inner_off}
use Rattle.runs.proofs.AtomRoom as room
use Rattle.runs.proofs.LevelSteps as steps
use Rattle.runs.proofs.ReachedStates.{reached_inv}

module _ (o : ℕ) (J : Tasks natural) (ok : Proper J) (est_order lct_order : List ℕ) (rk : ByEarliest J (λ j. get_or est_order j 0) (λ k. index est_order k))
    (ord : ByCompletion J (λ t. get_or lct_order t 0) (λ k. index lct_order k)) where
  -- no candidate
  none_over : (f t : ℕ) (st : State) → raised_to 0 (ect_bar_of J est_order st.leaves) ≤ lct o J est_order lct_order t → inner o J est_order lct_order f t st ≡ on st
  none_over zero t st q = inner_end o J est_order lct_order 0 t st
  none_over (suc f) t st q = inner_off o J est_order lct_order f t st (within_bound 0 (lct o J est_order lct_order t) (ect_bar_of J est_order st.leaves) q)

  module _ (t : ℕ) (st : State) (small : t < J.count) (e : Entered o J est_order lct_order t st) where
    inv : steps.Inv o J ok est_order lct_order rk ord (room.Short o J ok est_order lct_order rk ord) (room.ShortEnd o J ok est_order lct_order rk ord) (room.short o J ok est_order lct_order rk ord) t st
    inv = reached_inv o J ok est_order lct_order rk ord (room.Short o J ok est_order lct_order rk ord) (room.ShortEnd o J ok est_order lct_order rk ord) (room.short o J ok est_order lct_order rk ord) t st
        (at_head t st e) small

    -- the level's task is in Θ
    is_white : white_at st.leaves (index est_order (get_or lct_order t 0)) ≡ true
    is_white = inv.whites (get_or lct_order t 0) (ord.task t small) ∙ (steps.theta_some o J ok est_order lct_order rk ord t small).mem

    pub ect_bar_no_later : raised_to 0 (ect_bar_of J est_order (moved_onward o J est_order lct_order t st).leaves) ≤ raised_to 0 (ect_bar_of J est_order st.leaves)
    ect_bar_no_later = order.ect_bar_no_later J est_order st.leaves (index est_order (get_or lct_order t 0)) (omega (arith, inv.size, rk.placed (get_or lct_order t 0) (ord.task t small))) is_white

    -- the next level, then, has no candidate
    pub passed_over : (f : ℕ) → raised_to 0 (ect_bar_of J est_order st.leaves) ≤ lct o J est_order lct_order (suc t)
        → inner o J est_order lct_order f (suc t) (moved_onward o J est_order lct_order t st) ≡ on (moved_onward o J est_order lct_order t st)
    passed_over f q = none_over f (suc t) (moved_onward o J est_order lct_order t st) (omega (arith, q, ect_bar_no_later))
