-- The sentences of request (h) about one call of the open pass, in the paper's words. Each follows from the call's contract, `PrecedencesLent`.
use Rattle.std.specs.Prelude.{◌≡◌, List, [], ◌∷◌, ◌⊎◌, ◌↔◌, ℕ, ◌<◌, ℤ, pos, get_or, ◌≤ℤ◌, ◌<ℤ◌}
use Rattle.integers.specs.Answers.{answered}
use Rattle.scheduling.specs.Scheduling.{whole, Tasks, Largest, Schedule}
use Rattle.records.specs.declared.record.DisjunctivePropagator.{DisjunctivePropagator}
use Rattle.precedences.specs.Predecessors.{AllBefore, PrecedenceBound}
use Rattle.precedences.specs.declared.answers.Precedences.{Precedences}
use Rattle.precedences.specs.Numbers.{numbers_of_precedences}
use Rattle.ranges.specs.declared.range.Range.{Range}
use Rattle.ranges.specs.Permitted.{FirstPermitted, PermittedSchedule}
use Rattle.ranges.specs.Ranges.{earliests, latests, any_range}
use Rattle.promises.specs.Promise.{tasks_lent}

-- What is said of an accepted pass.
module _ (before : DisjunctivePropagator) (ranges : List Range) (answer : Precedences) (ranges' : List Range) where
  -- the tasks at entry
  abbrev J : Tasks whole
  J = tasks_lent before ranges

  -- the answer's kind: 0 Done, 1 Emptied
  abbrev kind : ℕ
  kind = (numbers_of_precedences answer).kind

  -- the earliest start that task k is left with
  abbrev earliest' : ℕ → ℤ
  earliest' k = get_or (earliests ranges') k (pos 0)

  -- the bound ect(P) of task k is at most its latest start
  abbrev Within : ℕ → Type 0
  Within k = (b : ℤ) → PrecedenceBound J k b → b ≤ℤ J.latest k

  pub record PrecedencesDemand : Type 0 where
    pub outcomes : kind < 2
    -- All of P come before i.
    pub all_before : (s : ℕ → ℤ) → Schedule J s → (i : ℕ) → i < J.count → AllBefore J i s
    -- The pass is Done exactly when no bound passes a latest start.
    pub exactly : kind ≡ 0 ↔ ((k : ℕ) → k < J.count → Within k)
    -- It raises each start to ect(P) where that is larger, all from the ranges at entry, and moves a raised start on to a permitted value.
    pub starts : kind ≡ 0 → (k : ℕ) → k < J.count → (v : ℤ) × Largest whole (λ w. (J.earliest k ≡ w) ⊎ PrecedenceBound J k w) v
        × FirstPermitted (get_or ranges k any_range) v (earliest' k)
    -- If some bound passes a latest start, the lowest such task is reported,
    pub lowest : kind ≡ 1 → (i : ℕ) × (numbers_of_precedences answer ≡ answered 1 (pos i ∷ [])) × (i < J.count)
        × ((b : ℤ) × PrecedenceBound J i b × (J.latest i <ℤ b)) × ((k : ℕ) → k < i → Within k)
    -- no range changes, and there is no schedule.
    pub no_change : kind ≡ 1 → ranges' ≡ ranges
    pub no_schedule : kind ≡ 1 → (s : ℕ → ℤ) → Schedule J s → ⊥
    -- However it ends, no schedule of permitted starts is lost, and no latest start changes.
    pub none_lost : (s : ℕ → ℤ) → PermittedSchedule J ranges s → (k : ℕ) → k < J.count → earliest' k ≤ℤ s k
    pub same_latests : latests ranges' ≡ latests ranges
