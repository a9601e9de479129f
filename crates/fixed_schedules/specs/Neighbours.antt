-- What the functions on a fixed schedule require and ensure, and the test of neighbours.
use Rattle.std.specs.Prelude.{◌≡◌, Bool, List, ℕ, ◌+◌, ◌≤◌, ◌<◌, ℤ, length, get_or, take, Result, IfOk}
use Rattle.std.specs.Int.Signed.{le_z}
use Rattle.integers.specs.declared.refused.Refusal.{Refusal}
use Rattle.integers.specs.Refused.{number_in}
use Rattle.integers.specs.Limits.{TASKS, DURATIONS}
use Rattle.scheduling.specs.Scheduling.{natural, Tasks}
use Rattle.records.specs.Refusals.{StartFits}
use Rattle.fixed_schedules.specs.FixedSchedules.{start_at, end_at, order_of}

-- At most TASKS tasks, with starts within the limits.
pub record Sortable (es : List ℤ) : Type 0 where
  pub few : length es ≤ TASKS
  pub starts : (k : ℕ) → k < length es → StartFits (start_at es k)

-- Their durations are within the limits too, and an order has one of the tasks at each place.
pub record Traversable (order : List ℕ) (es : List ℤ) (ds : List ℕ) : Type 0 where
  pub sortable : Sortable es
  pub durations : (k : ℕ) → k < length es → get_or ds k 0 ≤ DURATIONS
  pub tasks : (t : ℕ) → t < length order → get_or order t 0 < length es

-- n tasks by the moments of their starts, and their durations
abbrev pub in_moments : ℕ → List ℕ → List ℕ → Tasks natural
in_moments n starts ds = record { count = n; earliest = λ k. get_or starts k 0; latest = λ k. get_or starts k 0; duration = λ k. get_or ds k 0 }

-- the task at place t of an order ends by the start of the next
abbrev pub neighbours_are_apart : List ℕ → List ℤ → List ℕ → ℕ → Bool
neighbours_are_apart order es ds t = le_z (end_at ds es (get_or order t 0)) (start_at es (get_or order (t + 1) 0))

-- The number that refuses is m; and where none does, the order's first places have the tasks by start.
pub record Tested (es : List ℤ) (m : ℕ) (r : Result (List ℕ) Refusal) : Type 0 where
  pub number : number_in r ≡ m
  pub order : IfOk r (λ order. take (length es) order ≡ order_of es)
