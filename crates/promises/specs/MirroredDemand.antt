-- The sentences of demand 3 turned to latest starts, about one call of the open mirrored pass. Each follows from the call's contract, `RanMirroredLent`.
use Rattle.std.specs.Prelude.{◌≡◌, ◌⊎◌, ◌↔◌, List, map, ℕ, suc, ◌+◌, ◌*◌, ◌≤◌, ◌<◌, ℤ, pos, length, get_or, take, ◌≤ℤ◌, ◌<ℤ◌}
use Rattle.std.proofs.Math.Option.{Option, some, none}
use Rattle.scheduling.specs.Scheduling.{whole, Tasks, TaskSet, Least, Overloads, Schedule, Atom, HoldsAtEntry, PassesFormula}
use Rattle.scheduling.specs.MirroredTime.{mirror, mirror_atoms, MirroredBound}
use Rattle.checking.specs.Atoms.{atoms_of}
use Rattle.post_words.specs.Posts.{word_of_task, task_of, bound_of, number_of_post}
use Rattle.records.specs.declared.record.DisjunctivePropagator.{DisjunctivePropagator}
use Rattle.checker.specs.declared.checker.Verdict.{Verdict}
use Rattle.checker.specs.Checks.{consequent_words}
use Rattle.checker.specs.MirroredChecks.{mirror_if_any}
use Rattle.checker.specs.Checked.{CheckedMirrored}
use Rattle.runs.specs.declared.outcome.Outcome.{Outcome}
use Rattle.runs.specs.Outcomes.{outcome_numbers, value_of, first_of, count_of}
use Rattle.ranges.specs.declared.range.Range.{Range}
use Rattle.ranges.specs.Permitted.{LastPermitted, PermittedSchedule}
use Rattle.ranges.specs.Ranges.{latests, any_range}
use Rattle.promises.specs.Promise.{tasks_lent, reason_of, overload_of}
use Rattle.promises.specs.Planner.{says_mirrored}
use Rattle.promises.specs.DemandThree.{Passed}

-- A reason, for an atom or for none.
pub record GoodMirroredReason (tasks : DisjunctivePropagator) (ranges : List Range) (words : List ℤ) (consequent : Option Atom) : Type 0 where
  -- It holds at entry,
  pub holds : HoldsAtEntry (tasks_lent tasks ranges) (atoms_of words)
  -- meets the checker's formula when it is mirrored,
  pub formula : PassesFormula (mirror (tasks_lent tasks ranges)) (mirror_atoms (tasks_lent tasks ranges).duration (atoms_of words))
      (mirror_if_any (tasks_lent tasks ranges).duration consequent)
  -- and passes the open mirrored check of the record's durations.
  pub passes : (v : Verdict) → CheckedMirrored (map pos (take tasks.count tasks.durations)) words (consequent_words consequent) v → Passed v

-- What is said of an accepted pass.
module _ (before : DisjunctivePropagator) (ranges : List Range) (answer : Outcome) (ranges' : List Range) (posts atoms : List ℤ) where
  -- the tasks at entry
  abbrev J : Tasks whole
  J = tasks_lent before ranges

  -- the answer's kind, 0 Done, 1 Overload, 2 Emptied, and the number of posts
  abbrev kind : ℕ
  kind = (outcome_numbers answer).kind

  abbrev made : ℕ
  made = value_of answer 0

  -- the task and the bound of post j
  abbrev task : ℕ → ℕ
  task = task_of posts

  abbrev bound : ℕ → ℤ
  bound = bound_of posts

  pub record MirroredDemand : Type 0 where
    -- The outcome is Done, Overload or Emptied.
    pub outcomes : kind < 3
    -- The pass is Done exactly when no set of tasks overloads its span and no bound of the mirrored rule is below an earliest start.
    pub exactly : kind ≡ 0 ↔ (((Ω : TaskSet) → Overloads J Ω → ⊥) × ((i : ℕ) (b : ℤ) → MirroredBound J i b → J.earliest i ≤ℤ b))
    -- Each latest start is then the smallest of its old value and all bounds of the mirrored rule, moved back to the last permitted start.
    pub starts : kind ≡ 0 → (k : ℕ) → k < J.count → (v : ℤ) → Least whole (λ w. (J.latest k ≡ w) ⊎ MirroredBound J k w) v
        → LastPermitted (get_or ranges k any_range) v (get_or (latests ranges') k (pos 0))
    -- The posts are one for each task so lowered,
    pub lowered : kind ≡ 0 → (k : ℕ) → k < J.count → ((b : ℤ) × MirroredBound J k b × (b <ℤ J.latest k))
        ↔ ((j : ℕ) × (j < made) × (task j ≡ k))
    pub once : kind ≡ 0 → (i j : ℕ) → i < made → j < made → task i ≡ task j → i ≡ j
    -- at the smallest of its bounds,
    pub at_smallest : kind ≡ 0 → (j : ℕ) → j < made → Least whole (MirroredBound J (task j)) (bound j)
    -- and no others: whatever the outcome, a post names a task and lowers it to one of its bounds.
    pub no_others : (j : ℕ) → j < made → (word_of_task posts j ≡ pos (task j)) × (task j < J.count) × MirroredBound J (task j) (bound j)
        × (bound j <ℤ J.latest (task j))
    -- An overload or an emptied range means that no schedule exists.
    pub no_schedule : (kind ≡ 1) ⊎ (kind ≡ 2) → (s : ℕ → ℤ) → Schedule J s → ⊥
    -- Emptied is a post below the earliest start: the last one.
    pub emptied : kind ≡ 2 → (j : ℕ) × (suc j ≡ made) × (bound j <ℤ J.earliest (task j))
    -- Every outcome keeps the starts lowered by the posts before it, and leaves the others.
    pub kept : (j : ℕ) → j < made → ((kind ≡ 2) × (suc j ≡ made) → ⊥)
        → LastPermitted (get_or ranges (task j) any_range) (bound j) (get_or (latests ranges') (task j) (pos 0))
    pub others : (k : ℕ) → k < J.count → ((j : ℕ) → j < made → ((kind ≡ 2) × (suc j ≡ made) → ⊥) → task j ≡ k → ⊥)
        → get_or (latests ranges') k (pos 0) ≡ J.latest k
    -- Whatever the outcome, every post holds in all schedules, those of permitted starts too.
    pub posts_hold : (j : ℕ) → j < made → (s : ℕ → ℤ) → Schedule J s → s (task j) ≤ℤ bound j
    pub posts_hold_permitted : (j : ℕ) → j < made → (s : ℕ → ℤ) → PermittedSchedule J ranges s → s (task j) ≤ℤ bound j
    -- Every reason is good: each post's, which the post reader hands out,
    pub read : (j : ℕ) → j < made → number_of_post posts atoms made j ≡ 0
    pub reasons : (j : ℕ) → j < made → GoodMirroredReason before ranges (reason_of answer posts atoms j) (some (says_mirrored posts j))
    -- and an overload's, which stands in the slice.
    pub inside : kind ≡ 1 → 3 * first_of answer + 3 * count_of answer ≤ length atoms
    pub overload : kind ≡ 1 → GoodMirroredReason before ranges (overload_of answer atoms) none
