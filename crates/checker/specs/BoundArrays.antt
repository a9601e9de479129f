-- What the code of the formula holds: the bounds of the tasks in arrays, and what the loop gathers.
use Rattle.std.specs.Prelude.{Bool, false, cond, List, ℕ, ◌+◌, ◌-◌, min, max, get_or, Option, Some, None}
use Rattle.integers.specs.FilledLists.{filled}
use Rattle.scheduling.specs.Scheduling.{natural, Tasks, TaskSet, total}
use Rattle.chosen_sets.specs.TaskArrays.{HeldSet, Late}
use Rattle.checking.specs.TaskBounds.{bounds_in}
use Rattle.checking.specs.declared.start_bounds.Bounds.{Bounds}
use Rattle.checker.specs.declared.intervals.Interval.{Interval}
use Rattle.checker.specs.Formulas.{any, lowest, highest}

-- Bounds -----------------------------------------------------------------------------------------------------------------------

-- a moment t of the caller's time is 2^32 − t in mirrored time, where a task that starts at t starts p earlier; a task without two bounds stays at 0
abbrev pub moment_mirrored : Bool → ℕ → ℕ → ℕ
moment_mirrored known t p = cond known (4294967296 - (t + p)) 0

-- the bounds in mirrored time
abbrev pub mirrored_bounds : Bounds → List ℕ → ℕ → Bounds
mirrored_bounds b durations n = bounds_in b.bounded
    (filled (λ k. moment_mirrored (get_or b.bounded k false) (get_or b.lst k 0) (get_or durations k 0)) n b.est)
    (filled (λ k. moment_mirrored (get_or b.bounded k false) (get_or b.est k 0) (get_or durations k 0)) n b.lst)

-- the bounds are those of J's tasks in Ω
pub record Bounding (J : Tasks natural) (Ω : TaskSet) (n : ℕ) (b : Bounds) (durations : List ℕ) : Type 0 where
  pub held : HeldSet J Ω n b.bounded b.est durations
  pub late : Late J n b.lst

-- What the loop gathers --------------------------------------------------------------------------------------------------------

abbrev pub interval : ℕ → ℕ → ℕ → Interval
interval lb ub p = record { lb_interval = lb; ub_interval = ub; p = p }

-- that of two sets with no task in common
abbrev pub joined : Interval → Interval → Interval
joined v w = interval (min v.lb_interval w.lb_interval) (max v.ub_interval w.ub_interval) (v.p + w.p)

-- the tasks of Ω below k, where there is one
abbrev pub interval_of : Tasks natural → TaskSet → ℕ → Option Interval
interval_of J Ω k = cond (any Ω k) (Some (interval (lowest J Ω k) (highest J Ω k) (total (λ k. cond (Ω k) (J.duration k) 0) k))) None
