-- The starts that a run leaves, however it ends: one for each task, in its range.
use mathlib.Core.Path.{◌≡◌, sym, ap, subst, ◌∙◌}
use mathlib.Core.List.{List}
use Prim.Native.Nat.{ℕ, zero, suc, ◌-◌, ◌≤◌, ◌<◌}
use lib.IntN.{ℤ, pos}
use lib.ListN.{length, get_or, length-map, length-set}
use lib.Signed.{◌≤ℤ◌}
use Rattle.integers.specs.Limits.{MIRRORED}
use Rattle.integers.specs.Moments.{instant, zero_at}
use Rattle.integers.specs.Orders.{index}
use Rattle.integers.proofs.MomentSums.{reflect, above_up}
use Rattle.scheduling.specs.Scheduling.{natural, Tasks, tasks_of}
use Rattle.scheduling.specs.Moments.{moments}
use Rattle.runs.specs.Traces.{Trace}
use Rattle.runs.specs.Runs.{State, Turn, on, stop, inner, outer, run, grayed, propagate, earliest_order, completion_order}
use Rattle.runs.proofs.LevelSteps.{run_left}
use Rattle.runs.proofs.Demand.{AcceptedTasks, accepted_above, accepted_proper, by_earliest_is, by_completion_is}
use Rattle.runs.proofs.InnerLoop.{inner_end, inner_by, outer_end, outer_by, run_is, propagate_is}
use Rattle.runs.proofs.TaskLists.{tab_length}

-- the starts when the inner loop ends, and when a post empties a range
abbrev starts_taken : Turn → List ℕ
starts_taken (on st) = st.starts
starts_taken (stop st) = st.starts

-- A turn of the inner loop keeps how many starts there are, and so does a level.
module _ (o : ℕ) (J : Tasks natural) (est_order lct_order : List ℕ) (m : ℕ) where
  inner_keeps : (f t : ℕ) (st : State) → length st.starts ≡ m → length (starts_taken (inner o J est_order lct_order f t st)) ≡ m
  inner_keeps zero t st h = ap (λ (u : Turn). length (starts_taken u)) (inner_end o J est_order lct_order 0 t st) ∙ h
  inner_keeps (suc f) t st h = inner_by o J est_order lct_order f t st (λ u. length (starts_taken u) ≡ m) (record {
    off = λ z. h;
    absent = λ z w. h;
    passes = λ x z w y. inner_keeps f t _ h;
    empties = λ x b z w is up high. h;
    raises = λ x b z w is up fits. inner_keeps f t _ (length-set st.starts (get_or est_order x 0) b ∙ h);
  })

  outer_keeps : (f t : ℕ) (st : State) → length st.starts ≡ m → length (outer o J est_order lct_order f t st).starts ≡ m
  outer_keeps zero t st h = ap (λ (r : Trace). length r.starts) (outer_end o J est_order lct_order 0 t st) ∙ length-map st.starts (instant o) ∙ h
  outer_keeps (suc f) t st h = outer_by o J est_order lct_order f t st (λ r. length r.starts ≡ m) (record {
    over = λ z. length-map st.starts (instant o) ∙ h;
    further = λ st' z e. outer_keeps f (suc t) st' (turned (on st') e);
    empties = λ st' z e. length-map st'.starts (instant o) ∙ turned (stop st') e;
  })
    where
      turned : (u : Turn) → inner o J est_order lct_order J.count (suc t) (grayed st (index est_order (get_or lct_order t 0))) ≡ u → length (starts_taken u) ≡ m
      turned u e = ap (λ (u : Turn). length (starts_taken u)) (sym e) ∙ inner_keeps J.count (suc t) _ h

module _ (ds : List ℕ) (es ls : List ℤ) where
  abbrev J : Tasks natural
  J = moments zero_at (tasks_of ds es ls)

  pub starts_length : length (propagate ds es ls).starts ≡ length ds
  starts_length = ap (λ (r : Trace). length r.starts) (propagate_is ds es ls ∙ run_is zero_at J (earliest_order J) (completion_order J))
      ∙ outer_keeps zero_at J (earliest_order J) (completion_order J) (length ds) (length ds - 1) 0 _ (tab_length J.earliest 0 (length ds))

  module _ (limit : ℕ) (near : limit ≤ MIRRORED) (a : AcceptedTasks limit ds es ls) where
    pub starts_between : (k : ℕ) → k < length ds
        → (get_or es k (pos 0) ≤ℤ get_or (propagate ds es ls).starts k (pos 0)) × (get_or (propagate ds es ls).starts k (pos 0) ≤ℤ get_or ls k (pos 0))
    starts_between k q =
        let tr : Trace = run zero_at J (earliest_order J) (completion_order J) in
        let above = accepted_above limit near ds es ls a in
        let out = run_left zero_at J (accepted_proper limit near ds es ls a) (earliest_order J) (completion_order J) (by_earliest_is J) (by_completion_is J) a.some in
        subst (λ (r : Trace). (get_or es k (pos 0) ≤ℤ get_or r.starts k (pos 0)) × (get_or r.starts k (pos 0) ≤ℤ get_or ls k (pos 0))) (sym (propagate_is ds es ls)) (
          reflect zero_at (get_or es k (pos 0)) (get_or tr.starts k (pos 0)) (above k q) (out.above k) (out.left.stand.from k q),
          reflect zero_at (get_or tr.starts k (pos 0)) (get_or ls k (pos 0)) (out.above k)
              (above_up zero_at (get_or es k (pos 0)) (get_or ls k (pos 0)) (a.ranges k q) (above k q)) (out.left.stand.to k q),
        )
