-- The sentences of demand 3 about one call of the open run, in the paper's words. Each follows from the call's contract, `RanLent`, or from the check's,
-- `Checked`.
use Rattle.std.specs.Prelude.{◌≡◌, ◌⊎◌, ◌↔◌, List, [], map, ℕ, suc, ◌+◌, ◌*◌, ◌≤◌, ◌<◌, ℤ, pos, length, get_or, take, ◌≤ℤ◌, ◌<ℤ◌}
use Rattle.std.proofs.Math.Option.{Option, some, none}
use Rattle.integers.specs.Answers.{answered}
use Rattle.scheduling.specs.Scheduling.{whole, Tasks, TaskSet, Largest, Overloads, EdgeFindingBound, Schedule, Atom, HoldsAtEntry, PassesFormula, Contradicts}
use Rattle.checking.specs.Atoms.{atoms_of, consequent_of}
use Rattle.post_words.specs.Posts.{word_of_task, task_of, bound_of, number_of_post}
use Rattle.records.specs.declared.record.DisjunctivePropagator.{DisjunctivePropagator}
use Rattle.checker.specs.declared.checker.Verdict.{Verdict}
use Rattle.checker.specs.Verdicts.{numbers_of_verdict}
use Rattle.checker.specs.Checks.{tasks_with, consequent_words}
use Rattle.checker.specs.Checked.{Checked}
use Rattle.runs.specs.declared.outcome.Outcome.{Outcome}
use Rattle.runs.specs.Outcomes.{outcome_numbers, value_of, first_of, count_of}
use Rattle.ranges.specs.declared.range.Range.{Range}
use Rattle.ranges.specs.Permitted.{FirstPermitted, PermittedSchedule}
use Rattle.ranges.specs.Ranges.{earliests, any_range}
use Rattle.promises.specs.Promise.{tasks_lent, reason_of, overload_of}
use Rattle.promises.specs.Planner.{says}

-- The check ----------------------------------------------------------------------------------------------------------------------

-- A check answers Passed.
abbrev pub Passed : Verdict → Type 0
Passed v = numbers_of_verdict v ≡ answered 0 []

-- Where it does, no schedule contradicts it.
abbrev pub PassedMeans : List ℤ → List ℤ → List ℤ → Verdict → Type 0
PassedMeans ds premises consequent v = Passed v → (s : ℕ → ℤ) → Contradicts (tasks_with ds) (atoms_of premises) (consequent_of consequent) s → ⊥

-- A reason, for an atom or for none.
pub record GoodReason (tasks : DisjunctivePropagator) (ranges : List Range) (words : List ℤ) (consequent : Option Atom) : Type 0 where
  -- It holds at entry.
  pub holds : HoldsAtEntry (tasks_lent tasks ranges) (atoms_of words)
  -- It meets the checker's formula over premises.
  pub formula : PassesFormula (tasks_lent tasks ranges) (atoms_of words) consequent
  -- It passes the checker: the open check answers Passed for the record's durations, the words as premises and the atom as consequent.
  pub passes : (v : Verdict) → Checked (map pos (take tasks.count tasks.durations)) words (consequent_words consequent) v → Passed v

-- The run ------------------------------------------------------------------------------------------------------------------------

-- What is said of an accepted run.
module _ (before : DisjunctivePropagator) (ranges : List Range) (answer : Outcome) (ranges' : List Range) (posts atoms : List ℤ) where
  -- the tasks at entry
  abbrev J : Tasks whole
  J = tasks_lent before ranges

  -- the answer's kind, 0 Done, 1 Overload, 2 Emptied, and the number of posts
  abbrev kind : ℕ
  kind = (outcome_numbers answer).kind

  abbrev made : ℕ
  made = value_of answer 0

  -- the task and the bound of post j
  abbrev task : ℕ → ℕ
  task = task_of posts

  abbrev bound : ℕ → ℤ
  bound = bound_of posts

  pub record DemandThree : Type 0 where
    -- The outcome is Done, Overload or Emptied.
    pub outcomes : kind < 3
    -- The run is Done exactly when no set of tasks overloads its span and no edge-finding bound passes a latest start.
    pub exactly : kind ≡ 0 ↔ (((Ω : TaskSet) → Overloads J Ω → ⊥) × ((i : ℕ) (b : ℤ) → EdgeFindingBound J i b → b ≤ℤ J.latest i))
    -- Each earliest start is then the largest of its old value and all its edge-finding bounds, moved to the first permitted start from there on.
    pub starts : kind ≡ 0 → (k : ℕ) → k < J.count → (v : ℤ) → Largest whole (λ w. (J.earliest k ≡ w) ⊎ EdgeFindingBound J k w) v
        → FirstPermitted (get_or ranges k any_range) v (get_or (earliests ranges') k (pos 0))
    -- The posts are one for each task so raised,
    pub raised : kind ≡ 0 → (k : ℕ) → k < J.count → ((b : ℤ) × EdgeFindingBound J k b × (J.earliest k <ℤ b))
        ↔ ((j : ℕ) × (j < made) × (task j ≡ k))
    pub once : kind ≡ 0 → (i j : ℕ) → i < made → j < made → task i ≡ task j → i ≡ j
    -- at the largest of its bounds,
    pub at_largest : kind ≡ 0 → (j : ℕ) → j < made → Largest whole (EdgeFindingBound J (task j)) (bound j)
    -- and no others: whatever the outcome, a post names a task and raises it to one of its edge-finding bounds.
    pub no_others : (j : ℕ) → j < made → (word_of_task posts j ≡ pos (task j)) × (task j < J.count) × EdgeFindingBound J (task j) (bound j)
        × (J.earliest (task j) <ℤ bound j)
    -- An overload or an emptied range means that no schedule exists.
    pub no_schedule : (kind ≡ 1) ⊎ (kind ≡ 2) → (s : ℕ → ℤ) → Schedule J s → ⊥
    -- Emptied is a post above the latest start: the last one.
    pub emptied : kind ≡ 2 → (j : ℕ) × (suc j ≡ made) × (J.latest (task j) <ℤ bound j)
    -- Every outcome keeps the starts raised by the posts before it, and leaves the others.
    pub kept : (j : ℕ) → j < made → ((kind ≡ 2) × (suc j ≡ made) → ⊥)
        → FirstPermitted (get_or ranges (task j) any_range) (bound j) (get_or (earliests ranges') (task j) (pos 0))
    pub others : (k : ℕ) → k < J.count → ((j : ℕ) → j < made → ((kind ≡ 2) × (suc j ≡ made) → ⊥) → task j ≡ k → ⊥)
        → get_or (earliests ranges') k (pos 0) ≡ J.earliest k
    -- Whatever the outcome, every post holds in all schedules, those of permitted starts too.
    pub posts_hold : (j : ℕ) → j < made → (s : ℕ → ℤ) → Schedule J s → bound j ≤ℤ s (task j)
    pub posts_hold_permitted : (j : ℕ) → j < made → (s : ℕ → ℤ) → PermittedSchedule J ranges s → bound j ≤ℤ s (task j)
    -- Every reason holds at entry and passes the checker: each post's, which the post reader hands out,
    pub read : (j : ℕ) → j < made → number_of_post posts atoms made j ≡ 0
    pub reasons : (j : ℕ) → j < made → GoodReason before ranges (reason_of answer posts atoms j) (some (says posts j))
    -- and an overload's, which stands in the slice.
    pub inside : kind ≡ 1 → 3 * first_of answer + 3 * count_of answer ≤ length atoms
    pub overload : kind ≡ 1 → GoodReason before ranges (overload_of answer atoms) none

-- A refused run alters no lent buffer and hands back the record that it got.
abbrev pub NothingAltered : DisjunctivePropagator → List Range → List ℤ → List ℤ → DisjunctivePropagator → List Range → List ℤ
    → List ℤ → Type 0
NothingAltered before ranges posts atoms after ranges' posts' atoms' =
    ◌≡◌ {A = DisjunctivePropagator × List Range × List ℤ × List ℤ} (after, ranges', posts', atoms') (before, ranges, posts, atoms)
