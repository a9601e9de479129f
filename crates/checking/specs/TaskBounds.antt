-- The bounds that a state leaves to the starts of tasks, as moments.
use Rattle.std.specs.Prelude.{◌≡◌, Bool, true, false, List, ℕ, ℤ, set, replicate, Ok, Some, None}
use Rattle.std.specs.Prelude as answer
use Rattle.std.proofs.Math.Option.{Option, some, none}
use Rattle.integers.specs.Limits.{TASKS}
use Rattle.integers.specs.FilledLists.{filled, no_tasks}
use Rattle.integers.specs.Moments.{moment, zero_at}
use Rattle.checking.specs.declared.domain.Domain.{Domain}
use Rattle.checking.specs.declared.variable_state.VariableState.{VariableState}
use Rattle.checking.specs.declared.start_bounds.TaskBounds.{TaskBounds}
use Rattle.checking.specs.declared.start_bounds.Bounds.{Bounds}
use Rattle.checking.specs.Bounds.{finite, lower_in, upper_in}
use Rattle.checking.specs.States.{lower_of, upper_of}

abbrev pub two_bounds : ℕ → ℕ → answer.Option TaskBounds
two_bounds est lst = Some (record { est = est; lst = lst })

-- two finite bounds as moments, or none
abbrev pub bounds_between : Option ℤ → Option ℤ → answer.Option TaskBounds
bounds_between (some u) (some v) = two_bounds (moment zero_at u) (moment zero_at v)
bounds_between (some u) none = None
bounds_between none b = None

-- what the arrays hold of them: whether there are two, and each; where there are none, 0
abbrev pub bounded_of : answer.Option TaskBounds → Bool
bounded_of (Some b) = true
bounded_of None = false

abbrev pub est_of : answer.Option TaskBounds → ℕ
est_of (Some b) = b.est
est_of None = 0

abbrev pub lst_of : answer.Option TaskBounds → ℕ
lst_of (Some b) = b.lst
lst_of None = 0

-- those of a domain
abbrev pub bounds_of_task : Domain → answer.Option TaskBounds
bounds_of_task d = bounds_between (finite (Ok (lower_of d))) (finite (Ok (upper_of d)))

-- those of variable k of a state
abbrev pub bounds_at : VariableState → ℕ → answer.Option TaskBounds
bounds_at s k = bounds_between (lower_in s k) (upper_in s k)

abbrev pub bounds_in : List Bool → List ℕ → List ℕ → Bounds
bounds_in bounded est lst = record { bounded = bounded; est = est; lst = lst }

-- those of task k put in
abbrev pub with_bounds : Bounds → ℕ → answer.Option TaskBounds → Bounds
with_bounds b k t = bounds_in (set b.bounded k (bounded_of t)) (set b.est k (est_of t)) (set b.lst k (lst_of t))

-- no task has bounds
abbrev pub unbounded : Bounds
unbounded = bounds_in (replicate TASKS false) no_tasks no_tasks

-- the bounds of the first n tasks
abbrev pub bounds_by : (ℕ → answer.Option TaskBounds) → ℕ → Bounds
bounds_by at n = bounds_in (filled (λ k. bounded_of (at k)) n (replicate TASKS false)) (filled (λ k. est_of (at k)) n no_tasks) (filled (λ k. lst_of (at k)) n no_tasks)

-- those of the first n variables of a state
abbrev pub bounds_among : VariableState → ℕ → Bounds
bounds_among s = bounds_by (bounds_at s)
