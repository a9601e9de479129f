-- What the pass over the tasks requires: their starts as moments, and their order.
use Rattle.std.specs.Prelude.{List, ℕ, ◌+◌, ◌≤◌, ◌<◌, length, get_or}
use Rattle.integers.specs.Limits.{TASKS, MOMENT, LENGTH}
use Rattle.integers.specs.Moments.{zero_at}
use Rattle.integers.specs.Orders.{Ordered}
use Rattle.free_starts.specs.FreeStarts.{LATEST}

-- The order has the tasks by start, and all numbers are far from the largest u32.
pub record Searchable (order starts ds : List ℕ) (t d : ℕ) : Type 0 where
  pub few : length order ≤ TASKS
  pub place : ℕ → ℕ
  pub by_start : Ordered (length order) (λ p. get_or order p 0) place (λ j k. get_or starts j 0 ≤ get_or starts k 0)
  pub ends : (k : ℕ) → k < length order → get_or starts k 0 + get_or ds k 0 ≤ zero_at + LATEST
  pub moment : t ≤ zero_at + MOMENT
  pub duration : d ≤ LENGTH
