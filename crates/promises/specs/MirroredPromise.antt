-- What an accepted mirrored pass promises its caller, as `Promise` does for a run: latest starts fall by the mirrored rule, and posts and reasons are in the
-- caller's time.
use Rattle.std.specs.Prelude.{◌≡◌, ◌↔◌, List, [], ℕ, suc, ◌≤◌, ◌<◌, ℤ, pos, get_or, ◌≤ℤ◌, ◌<ℤ◌}
use Rattle.std.proofs.Math.Option.{Option, some}
use Rattle.integers.specs.Answers.{answered}
use Rattle.scheduling.specs.Scheduling.{whole, Tasks, Schedule, Atom, HoldsAtEntry, PassesFormula}
use Rattle.scheduling.specs.MirroredTime.{mirror, mirror_atoms, MirroredBound, MirroredConflict, MirroredDone}
use Rattle.checking.specs.Atoms.{atoms_of}
use Rattle.checker.specs.Checks.{consequent_words}
use Rattle.checker.specs.Verdicts.{numbers_of_verdict}
use Rattle.checker.specs.MirroredChecks.{mirror_if_any, check_mirrored_of}
use Rattle.post_words.specs.Posts.{word_of_task, task_of, bound_of, number_of_post}
use Rattle.records.specs.declared.record.DisjunctivePropagator.{DisjunctivePropagator}
use Rattle.runs.specs.declared.outcome.Outcome.{Outcome}
use Rattle.runs.specs.Outcomes.{outcome_numbers, value_of}
use Rattle.ranges.specs.declared.range.Range.{Range}
use Rattle.ranges.specs.Ranges.{earliests, latests, counts, places, any_range}
use Rattle.ranges.specs.Permitted.{LastPermitted, PermittedSchedule}
use Rattle.promises.specs.Promise.{tasks_lent, check_durations, reason_of, OverloadPromise}

module _ (before : DisjunctivePropagator) (ranges : List Range) (answer : Outcome) (ranges' : List Range) (posts atoms : List ℤ) where
  -- the tasks at entry
  abbrev J : Tasks whole
  J = tasks_lent before ranges

  -- the answer's kind: 0 is Done, 1 Overload, 2 Emptied
  abbrev kind : ℕ
  kind = (outcome_numbers answer).kind

  -- how many posts there are, and the task and the bound of each
  abbrev made : ℕ
  made = value_of answer 0

  abbrev task : ℕ → ℕ
  task = task_of posts

  abbrev bound : ℕ → ℤ
  bound = bound_of posts

  -- the range of task k at entry
  abbrev range : ℕ → Range
  range k = get_or ranges k any_range

  -- the latest start that task k is left with
  abbrev latest' : ℕ → ℤ
  latest' k = get_or (latests ranges') k (pos 0)

  -- A reason, for an atom or for none.
  pub record MirroredReason (words : List ℤ) (consequent : Option Atom) : Type 0 where
    -- Every choice of starts from the entry ranges meets its atoms.
    pub holds : HoldsAtEntry J (atoms_of words)
    -- Mirrored, they meet the checker's formula.
    pub formula : PassesFormula (mirror J) (mirror_atoms J.duration (atoms_of words)) (mirror_if_any J.duration consequent)
    -- The mirrored check answers 0, which is Passed.
    pub passes : numbers_of_verdict (check_mirrored_of (check_durations before) words (consequent_words consequent)) ≡ answered 0 []

  -- Post j.
  pub record MirroredPostPromise (j : ℕ) : Type 0 where
    -- The post reader takes it.
    pub read : number_of_post posts atoms made j ≡ 0
    -- Its first word is a task's number.
    pub names : word_of_task posts j ≡ pos (task j)
    pub small : task j < J.count
    -- Its bound is one of the mirrored rule for the task, below the latest start.
    pub rule : MirroredBound J (task j) (bound j)
    pub lowers : bound j <ℤ J.latest (task j)
    -- It holds in all schedules, and so in those of permitted starts.
    pub holds : (s : ℕ → ℤ) → Schedule J s → s (task j) ≤ℤ bound j
    pub holds_permitted : (s : ℕ → ℤ) → PermittedSchedule J ranges s → s (task j) ≤ℤ bound j
    -- What the reader hands out is a reason for task ≤ bound.
    pub reason : MirroredReason (reason_of answer posts atoms j) (some (record { variable = task j; kind = 1; value = bound j }))

  -- A pass that is Done.
  pub record MirroredDonePromise : Type 0 where
    -- The smallest of each task's old latest start and all bounds that the mirrored rule gives it; the posts are one for each task that it lowers, at the
    -- smallest of its bounds, and no others.
    pub smallest : ℕ → ℤ
    pub done : MirroredDone J smallest made task bound
    -- Each latest start is the last permitted one up to there.
    pub last : (k : ℕ) → k < J.count → LastPermitted (range k) (smallest k) (latest' k)

  pub record MirroredPromise : Type 0 where
    -- The pass is Done, or it ends in Overload or Emptied.
    pub ends : kind < 3
    -- It is Done exactly when no set of tasks overloads its span and no bound of the mirrored rule is below an earliest start, over every set and every task
    -- outside it.
    pub exactly : kind ≡ 0 ↔ (MirroredConflict J → ⊥)
    -- Each latest start is then the last permitted value not above the smallest of its old value and all bounds that the mirrored rule gives.
    pub when_done : kind ≡ 0 → MirroredDonePromise
    -- An overload or emptied range means that no schedule exists, and so none of permitted starts.
    pub otherwise : (kind ≡ 0 → ⊥) → (s : ℕ → ℤ) → Schedule J s → ⊥
    pub otherwise_permitted : (kind ≡ 0 → ⊥) → (s : ℕ → ℤ) → PermittedSchedule J ranges s → ⊥
    -- No schedule of permitted starts is lost: each starts every task at or before the latest start that the task is left with.
    pub none_lost : (s : ℕ → ℤ) → PermittedSchedule J ranges s → (k : ℕ) → k < J.count → s k ≤ℤ latest' k
    -- An emptied pass has a post. Its last one, and no other post of any pass, has a bound below its task's earliest start.
    pub emptied : kind ≡ 2 → 1 ≤ made
    pub below : (j : ℕ) → j < made → bound j <ℤ J.earliest (task j) ↔ ((kind ≡ 2) × (suc j ≡ made))
    -- Whatever the outcome, the task of every other post is left with the last permitted start up to the bound,
    pub stands : (j : ℕ) → j < made → J.earliest (task j) ≤ℤ bound j → LastPermitted (range (task j)) (bound j) (latest' (task j))
    -- and a task that no such post names with the latest start that it had.
    pub stays : (k : ℕ) → k < J.count → ((j : ℕ) → j < made → J.earliest (task j) ≤ℤ bound j → task j ≡ k → ⊥)
        → latest' k ≡ J.latest k
    -- Whatever the outcome, every post holds in all schedules, and its reason holds at entry, meets the checker's formula mirrored, and passes the mirrored
    -- check.
    pub every_post : (j : ℕ) → j < made → MirroredPostPromise j
    -- So does an overload's reason.
    pub overload : kind ≡ 1 → OverloadPromise MirroredReason answer atoms
    -- No earliest start changes, and no bar.
    pub same_earliest : earliests ranges' ≡ earliests ranges
    pub same_counts : counts ranges' ≡ counts ranges
    pub same_places : places ranges' ≡ places ranges
