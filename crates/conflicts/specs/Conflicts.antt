-- The contract: what the call answers, over sets of tasks and schedules.
use Rattle.std.specs.Prelude.{◌≡◌, Bool, true, List, ◌↔◌, ℕ, ◌≤◌, ◌<◌, ℤ, pos, ◌+ℤ◌, ◌<ℤ◌}
use Rattle.integers.specs.Answers.{refused_by}
use Rattle.scheduling.specs.Scheduling.{whole, Tasks, TaskSet, In, Subset, processing, Est, Lct, Ect, Overloads, EdgeFindingBound, Schedule}
use Rattle.scheduling.specs.Scheduling as scheduling
use Rattle.records.specs.declared.record.DisjunctivePropagator.{DisjunctivePropagator}
use Rattle.records.specs.Records.{tasks_in}
use Rattle.records.specs.Refusals.{input_number}
use Rattle.conflicts.specs.declared.answer.Found.TheVariants.{NothingFound, Overload, Late}
use Rattle.conflicts.specs.declared.answer.Work.{Work}
use Rattle.conflicts.specs.declared.answer.Conflict.{Conflict}
use Rattle.conflicts.specs.Numbers.{found_numbers}
use Rattle.conflicts.specs.Answers.{flagged, without_conflict}
use Rattle.conflicts.specs.ConflictOf.{others, conflict_of}

module _ (J : Tasks whole) where
  -- A set of tasks, with its est and its p.
  pub record WorkRight (w : Work) : Type 0 where
    pub small : (k : ℕ) → flagged w.tasks k ≡ true → k < J.count
    pub est : Est J (flagged w.tasks) w.est
    pub p : processing J (flagged w.tasks) ≡ w.p

  -- est + p of the set is `excess` past lct, by 1 or more.
  pub record Exceeds (c : Conflict) : Type 0 where
    pub sum : c.set.est +ℤ pos c.set.p ≡ c.lct +ℤ pos c.excess
    pub some : 1 ≤ c.excess

  -- The set overloads its span, by `excess`.
  pub record OverloadRight (c : Conflict) : Type 0 where
    pub set : WorkRight c.set
    pub lct : Lct J (flagged c.set.tasks) c.lct
    pub exceeds : Exceeds c
    pub overloads : Overloads J (flagged c.set.tasks)

  -- Task i cannot go before the others of the set, since est + p of the set is past their lct. So it starts at their ect or later: that is est + p of
  -- `before`, and past its latest start.
  pub record LateRight (c : Conflict) (i : ℕ) (latest_start bound : ℤ) : Type 0 where
    pub task : In J (flagged c.set.tasks) i
    pub latest : latest_start ≡ J.latest i
    pub passes : latest_start <ℤ bound
    pub set : WorkRight c.set
    pub lct : Lct J (others (flagged c.set.tasks) i) c.lct
    pub exceeds : Exceeds c
    pub before : WorkRight c.before
    pub within : Subset J (flagged c.before.tasks) (others (flagged c.set.tasks) i)
    pub reaches : c.before.est +ℤ pos c.before.p ≡ bound
    pub ect : Ect J (others (flagged c.set.tasks) i) bound
    pub edge : EdgeFindingBound J i bound

-- A refused call shows no set.
pub record RefusedFor (number : ℕ) (c : Conflict) : Type 0 where
  pub answer : found_numbers c.found ≡ refused_by number
  pub alone : c ≡ without_conflict c.found

-- On ranges whose bars fit if `bars`: the first test that fails refuses the input; else the answer is the definition's. Nothing is found exactly where no set
-- overloads its span and no edge-finding bound passes a latest start, an overload exactly where some set overloads, and a late task exactly where none does and
-- some bound passes. Where a conflict is found there is no schedule.
pub record ConflictFound (before : DisjunctivePropagator) (es ls : List ℤ) (bars : Bool) (c : Conflict) : Type 0 where
  pub refused : (input_number before es ls bars ≡ 0 → ⊥) → RefusedFor (input_number before es ls bars) c
  pub answer : input_number before es ls bars ≡ 0 → c ≡ conflict_of before es ls
  pub nothing : input_number before es ls bars ≡ 0 → (c ≡ without_conflict NothingFound) ↔ (scheduling.Conflict (tasks_in before es ls) → ⊥)
  pub overload : input_number before es ls bars ≡ 0 → (c.found ≡ Overload) ↔ ((Ω : TaskSet) × Overloads (tasks_in before es ls) Ω)
  pub late : input_number before es ls bars ≡ 0 → ((i : ℕ) × (z : ℤ) × (b : ℤ) × (c.found ≡ Late i z b)) ↔
      (((Ω : TaskSet) → Overloads (tasks_in before es ls) Ω → ⊥)
      × ((i : ℕ) × (b : ℤ) × EdgeFindingBound (tasks_in before es ls) i b × ((tasks_in before es ls).latest i <ℤ b)))
  pub overloads : c.found ≡ Overload → OverloadRight (tasks_in before es ls) c
  pub is_late : (i : ℕ) (z b : ℤ) → c.found ≡ Late i z b → LateRight (tasks_in before es ls) c i z b
  pub no_schedule : input_number before es ls bars ≡ 0 → (c.found ≡ NothingFound → ⊥) → (s : ℕ → ℤ) → Schedule (tasks_in before es ls) s
      → ⊥
