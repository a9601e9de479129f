-- The longest suffix of a set, in the order of earliest starts, whose est + p is a given moment.
use Rattle.std.specs.Prelude.{Bool, true, false, ◌&&◌, ℕ, zero, suc, ◌+◌, eqb, leb, get_or}
use Rattle.integers.specs.Orders.{index}
use Rattle.scheduling.specs.Scheduling.{natural, Tasks, TaskSet, processing}
use Rattle.scheduling.specs.Ects.{by_earliest}

module _ (J : Tasks natural) (Ω : TaskSet) where
  -- the tasks of Ω from place x on
  abbrev pub onward : ℕ → TaskSet
  onward x k = leb x (index (by_earliest J) k) && Ω k

  -- a task of Ω stands at place x, and est + p from there on is t
  abbrev pub reaches_at : ℕ → ℕ → Bool
  reaches_at t x = Ω (get_or (by_earliest J) x 0) && eqb (J.earliest (get_or (by_earliest J) x 0) + processing J (onward x)) t

  -- the first such place of the d from x on, or the place after them
  unfoldable pub first_place : ℕ → ℕ → ℕ → ℕ
  first_place t x zero = x
  first_place t x (suc d) = elim (reaches_at t x) [ true ↦ x | false ↦ first_place t (suc x) d ]

  -- the suffix from the first place of all
  abbrev pub suffix_up_to : ℕ → TaskSet
  suffix_up_to t = onward (first_place t 0 J.count)
