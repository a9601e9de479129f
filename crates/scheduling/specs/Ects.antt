-- The ect of a set of tasks by the textbook's recurrence: one task after the other, in the order of earliest starts.
use Rattle.std.specs.Prelude.{cond, List, [], ◌∷◌, ℕ, ◌+◌, max, leb}
use Rattle.std.proofs.Math.Option.{Option, some, none}
use Rattle.integers.specs.Orders.{sort, numbers}
use Rattle.scheduling.specs.Scheduling.{natural, Tasks, TaskSet}

module _ (J : Tasks natural) where
  -- the tasks by earliest start, equal ones by number
  abbrev pub by_earliest : List ℕ
  by_earliest = sort (λ j k. leb (J.earliest j) (J.earliest k)) (numbers 0 J.count)

  -- task k first, or after tasks of that ect: max(est k, ect) + p k
  abbrev pub completes : Option ℕ → ℕ → ℕ
  completes none k = J.earliest k + J.duration k
  completes (some ect) k = max (J.earliest k) ect + J.duration k

  module _ (Ω : TaskSet) where
    -- the tasks of a list that are in Ω, one after the other, and after tasks of that ect
    unfoldable pub ect_after : Option ℕ → List ℕ → Option ℕ
    ect_after ect [] = ect
    ect_after ect (k ∷ ks) = ect_after (cond (Ω k) (some (completes ect k)) ect) ks

    -- the ect of Ω, or none where Ω has no task
    abbrev pub ect_of : Option ℕ
    ect_of = ect_after none by_earliest
