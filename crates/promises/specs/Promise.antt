-- What an accepted run promises its caller: of the record and the ranges that it is lent, its answer, and the ranges and the words that it leaves.
-- Nothing here knows how a run goes. There are sets of tasks, schedules, the post reader and the check. What becomes of the record, `RanLent` says.
use Rattle.std.specs.Prelude.{◌≡◌, ◌↔◌, List, [], map, ℕ, suc, ◌+◌, ◌*◌, ◌≤◌, ◌<◌, ℤ, pos, length, get_or, take, drop, ◌≤ℤ◌, ◌<ℤ◌}
use Rattle.std.proofs.Math.Option.{Option, some, none}
use Rattle.integers.specs.Answers.{answered}
use Rattle.scheduling.specs.Scheduling.{whole, Tasks, EdgeFindingBound, Schedule, Conflict, Done, Atom, HoldsAtEntry, PassesFormula}
use Rattle.checking.specs.Atoms.{atoms_of}
use Rattle.checker.specs.Checks.{check_of, consequent_words}
use Rattle.checker.specs.Verdicts.{numbers_of_verdict}
use Rattle.post_words.specs.Posts.{word_of_task, task_of, bound_of, number_of_post, reason_words}
use Rattle.records.specs.declared.record.DisjunctivePropagator.{DisjunctivePropagator}
use Rattle.records.specs.Records.{tasks_in}
use Rattle.runs.specs.declared.outcome.Outcome.{Outcome}
use Rattle.runs.specs.Outcomes.{outcome_numbers, value_of, first_of, count_of}
use Rattle.ranges.specs.declared.range.Range.{Range}
use Rattle.ranges.specs.Ranges.{earliests, latests, counts, places, any_range}
use Rattle.ranges.specs.Permitted.{FirstPermitted, PermittedSchedule}

-- What a caller reads ----------------------------------------------------------------------------------------------------------

-- the tasks of a lent record and lent ranges
abbrev pub tasks_lent : DisjunctivePropagator → List Range → Tasks whole
tasks_lent before ranges = tasks_in before (earliests ranges) (latests ranges)

-- the durations of a record, as a check takes them
abbrev pub check_durations : DisjunctivePropagator → List ℤ
check_durations before = map pos (take before.count before.durations)

-- the words of post j's reason, as the post reader hands them out
abbrev pub reason_of : Outcome → List ℤ → List ℤ → ℕ → List ℤ
reason_of answer posts atoms j = reason_words posts atoms (value_of answer 0) j

-- the words of an overload's reason, where the answer says that it stands
abbrev pub overload_of : Outcome → List ℤ → List ℤ
overload_of answer atoms = take (3 * count_of answer) (drop (3 * first_of answer) atoms)

-- An overload, whose words are a reason of either direction: `Reason` below, or `MirroredReason`.
pub record OverloadPromise (Reason : List ℤ → Option Atom → Type 0) (answer : Outcome) (atoms : List ℤ) : Type 0 where
  -- Its atoms are inside the slice: value 1 is the first one's index, value 2 their count.
  pub inside : 3 * first_of answer + 3 * count_of answer ≤ length atoms
  -- They are a reason without consequent.
  pub reason : Reason (overload_of answer atoms) none

-- The promise ------------------------------------------------------------------------------------------------------------------

module _ (before : DisjunctivePropagator) (ranges : List Range) (answer : Outcome) (ranges' : List Range) (posts atoms : List ℤ) where
  -- the tasks at entry
  abbrev J : Tasks whole
  J = tasks_lent before ranges

  -- the answer's kind: 0 is Done, 1 Overload, 2 Emptied
  abbrev kind : ℕ
  kind = (outcome_numbers answer).kind

  -- how many posts there are, and the task and the bound of each
  abbrev made : ℕ
  made = value_of answer 0

  abbrev task : ℕ → ℕ
  task = task_of posts

  abbrev bound : ℕ → ℤ
  bound = bound_of posts

  -- the range of task k at entry
  abbrev range : ℕ → Range
  range k = get_or ranges k any_range

  -- the earliest start that task k is left with
  abbrev earliest' : ℕ → ℤ
  earliest' k = get_or (earliests ranges') k (pos 0)

  -- A reason, for an atom or for none.
  pub record Reason (words : List ℤ) (consequent : Option Atom) : Type 0 where
    -- Every choice of starts from the entry ranges meets its atoms.
    pub holds : HoldsAtEntry J (atoms_of words)
    -- They meet the checker's formula.
    pub formula : PassesFormula J (atoms_of words) consequent
    -- The check answers 0, which is Passed.
    pub passes : numbers_of_verdict (check_of (check_durations before) words (consequent_words consequent)) ≡ answered 0 []

  -- Post j.
  pub record PostPromise (j : ℕ) : Type 0 where
    -- The post reader takes it.
    pub read : number_of_post posts atoms made j ≡ 0
    -- Its first word is a task's number.
    pub names : word_of_task posts j ≡ pos (task j)
    pub small : task j < J.count
    -- Its bound is an edge-finding bound of the task, above the earliest start.
    pub edge : EdgeFindingBound J (task j) (bound j)
    pub raises : J.earliest (task j) <ℤ bound j
    -- It holds in all schedules, and so in those of permitted starts.
    pub holds : (s : ℕ → ℤ) → Schedule J s → bound j ≤ℤ s (task j)
    pub holds_permitted : (s : ℕ → ℤ) → PermittedSchedule J ranges s → bound j ≤ℤ s (task j)
    -- What the reader hands out is a reason for task ≥ bound.
    pub reason : Reason (reason_of answer posts atoms j) (some (record { variable = task j; kind = 0; value = bound j }))

  -- A run that is Done.
  pub record DonePromise : Type 0 where
    -- The largest of each task's old earliest start and all its edge-finding bounds; the posts are one for each task that it raises, at the largest of its
    -- bounds, and no others.
    pub largest : ℕ → ℤ
    pub done : Done J largest made task bound
    -- Each earliest start is the first permitted one from there on.
    pub first : (k : ℕ) → k < J.count → FirstPermitted (range k) (largest k) (earliest' k)

  pub record Promise : Type 0 where
    -- The run is Done, or it ends in Overload or Emptied.
    pub ends : kind < 3
    -- It is Done exactly when no set of tasks overloads its span and no edge-finding bound passes a latest start, over every set and every task outside it.
    pub exactly : kind ≡ 0 ↔ (Conflict J → ⊥)
    -- Each earliest start is then the first permitted value not below the largest of its old value and all its edge-finding bounds.
    pub when_done : kind ≡ 0 → DonePromise
    -- An overload or emptied range means that no schedule exists, and so none of permitted starts.
    pub otherwise : (kind ≡ 0 → ⊥) → (s : ℕ → ℤ) → Schedule J s → ⊥
    pub otherwise_permitted : (kind ≡ 0 → ⊥) → (s : ℕ → ℤ) → PermittedSchedule J ranges s → ⊥
    -- No schedule of permitted starts is lost: each starts every task at or after the earliest start that the task is left with.
    pub none_lost : (s : ℕ → ℤ) → PermittedSchedule J ranges s → (k : ℕ) → k < J.count → earliest' k ≤ℤ s k
    -- An emptied run has a post. Its last one, and no other post of any run, has a bound above its task's latest start.
    pub emptied : kind ≡ 2 → 1 ≤ made
    pub above : (j : ℕ) → j < made → J.latest (task j) <ℤ bound j ↔ ((kind ≡ 2) × (suc j ≡ made))
    -- Whatever the outcome, the task of every other post is left with the first permitted start from the bound on,
    pub stands : (j : ℕ) → j < made → bound j ≤ℤ J.latest (task j) → FirstPermitted (range (task j)) (bound j) (earliest' (task j))
    -- and a task that no such post names with the start that it had.
    pub stays : (k : ℕ) → k < J.count → ((j : ℕ) → j < made → bound j ≤ℤ J.latest (task j) → task j ≡ k → ⊥)
        → earliest' k ≡ J.earliest k
    -- Whatever the outcome, every post holds in all schedules, and its reason holds at entry, meets the checker's formula, and passes the check.
    pub every_post : (j : ℕ) → j < made → PostPromise j
    -- So does an overload's reason.
    pub overload : kind ≡ 1 → OverloadPromise Reason answer atoms
    -- No latest start changes, and no bar.
    pub same_latest : latests ranges' ≡ latests ranges
    pub same_counts : counts ranges' ≡ counts ranges
    pub same_places : places ranges' ≡ places ranges
