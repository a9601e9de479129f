-- Tasks by their moments, which are natural numbers, and the two orders of a run.
use Rattle.std.specs.Prelude.{ℕ, ◌≤◌}
use Rattle.integers.specs.Moments.{moment}
use Rattle.integers.specs.Orders.{Ordered}
use Rattle.scheduling.specs.Scheduling.{whole, natural, Tasks, completion}

-- the tasks, by their moments from −o on
abbrev pub moments : ℕ → Tasks whole → Tasks natural
moments o J = record { count = J.count; earliest = λ k. moment o (J.earliest k); latest = λ k. moment o (J.latest k); duration = J.duration }

-- the tasks by earliest start, least first: T has the task of each place
abbrev pub ByEarliest : Tasks natural → (ℕ → ℕ) → (ℕ → ℕ) → Type 0
ByEarliest J T rank = Ordered J.count T rank (λ j k. J.earliest j ≤ J.earliest k)

-- the tasks by latest completion, greatest first: L has the task of each place
abbrev pub ByCompletion : Tasks natural → (ℕ → ℕ) → (ℕ → ℕ) → Type 0
ByCompletion J L place = Ordered J.count L place (λ j k. completion J k ≤ completion J j)
