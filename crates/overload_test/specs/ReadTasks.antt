-- The tasks are read by latest completion, least first, until those read overload.
use Rattle.std.specs.Prelude.{Bool, true, false, Option, Some, None, List, ℕ, zero, suc, leb, get_or, take}
use Rattle.integers.specs.Orders.{sort, numbers, has}
use Rattle.scheduling.specs.Scheduling.{natural, Tasks, TaskSet, completion}
use Rattle.scheduling.specs.Ects.{ect_of}
use Rattle.trees.specs.Ects.{exceeds}

module _ (J : Tasks natural) where
  -- the tasks by latest completion; the sort is stable, so equal ones go by number
  abbrev pub by_completion : List ℕ
  by_completion = sort (λ j k. leb (completion J j) (completion J k)) (numbers 0 J.count)

  -- the first k of them
  abbrev pub read : ℕ → TaskSet
  read k j = has (take k by_completion) j

  -- with the task at place k read, the ect is past its latest completion
  abbrev pub overloads_at : ℕ → Bool
  overloads_at k = exceeds (ect_of J (read (suc k))) (completion J (get_or by_completion k 0))

  -- how many tasks are read when those read overload, with k of them read and d left; or none
  unfoldable pub answer_from : ℕ → ℕ → Option ℕ
  answer_from k zero = None
  answer_from k (suc d) = elim (overloads_at k) [ true ↦ Some (suc k) | false ↦ answer_from (suc k) d ]

  -- the answer, before any is read
  abbrev pub answer_of : Option ℕ
  answer_of = answer_from 0 J.count
