-- What a planner may count on over a whole search: passes lose no plan, and a reason that was kept stays true.
use Rattle.std.specs.Prelude.{◌≡◌, List, ◌⊎◌, ℕ, ℤ}
use Rattle.std.proofs.Math.Option.{Option, some, none}
use Rattle.scheduling.specs.Scheduling.{NoOverlap, Atom, Meets, Every}
use Rattle.checking.specs.Atoms.{atoms_of}
use Rattle.post_words.specs.Posts.{task_of, bound_of}
use Rattle.records.specs.declared.record.DisjunctivePropagator.{DisjunctivePropagator}
use Rattle.runs.specs.declared.outcome.Outcome.{Outcome}
use Rattle.runs.specs.Outcomes.{outcome_numbers}
use Rattle.precedences.specs.declared.answers.Precedences.{Precedences}
use Rattle.precedences.specs.Numbers.{numbers_of_precedences}
use Rattle.ranges.specs.declared.range.Range.{Range}
use Rattle.ranges.specs.Permitted.{PermittedSchedule}
use Rattle.promises.specs.Promise.{tasks_lent}
use Rattle.promises.specs.RanLent.{RanLent}
use Rattle.promises.specs.RanMirroredLent.{RanMirroredLent}
use Rattle.promises.specs.PrecedencesLent.{PrecedencesLent}

-- Plans ------------------------------------------------------------------------------------------------------------------------

-- The starts s are a plan for a record's tasks in these ranges: permitted starts, no two tasks overlapping.
abbrev pub Plan : DisjunctivePropagator → List Range → (ℕ → ℤ) → Type 0
Plan tasks ranges s = PermittedSchedule (tasks_lent tasks ranges) ranges s

-- One pass by the contract of its call, accepted or refused: from the record and the ranges lent to those left.
pub data Pass (before : DisjunctivePropagator) (ranges : List Range) : DisjunctivePropagator → List Range → Type 0 where
  run : {after : DisjunctivePropagator} {ranges' : List Range} (posts atoms : List ℤ) (answer : Outcome) (changed : ℕ) (posts' atoms' : List ℤ)
      → RanLent before ranges posts atoms answer changed after ranges' posts' atoms' → Pass before ranges after ranges'
  mirrored : {ranges' : List Range} (posts atoms : List ℤ) (answer : Outcome) (posts' atoms' : List ℤ)
      → RanMirroredLent before ranges posts atoms answer ranges' posts' atoms' → Pass before ranges before ranges'
  precedences : {ranges' : List Range} (answer : Precedences) → PrecedencesLent before ranges answer ranges' → Pass before ranges before ranges'

-- It ends in Overload or in Emptied.
abbrev pub Fails : {before after : DisjunctivePropagator} {ranges ranges' : List Range} → Pass before ranges after ranges' → Type 0
Fails (run posts atoms answer changed posts' atoms' ran) = ((outcome_numbers answer).kind ≡ 1) ⊎ ((outcome_numbers answer).kind ≡ 2)
Fails (mirrored posts atoms answer posts' atoms' ran) = ((outcome_numbers answer).kind ≡ 1) ⊎ ((outcome_numbers answer).kind ≡ 2)
Fails (precedences answer ran) = (numbers_of_precedences answer).kind ≡ 1

-- Passes one after another, each on the record and the ranges that the one before left.
pub data Passes (first : DisjunctivePropagator) (ranges : List Range) : DisjunctivePropagator → List Range → Type 0 where
  start : Passes first ranges first ranges
  next : {before after : DisjunctivePropagator} {ranges₁ ranges₂ : List Range} → Passes first ranges before ranges₁
      → Pass before ranges₁ after ranges₂
      → Passes first ranges after ranges₂

-- every plan of the first ranges is one of the last
abbrev pub NoPlanLost : DisjunctivePropagator → List Range → DisjunctivePropagator → List Range → Type 0
NoPlanLost first ranges last ranges' = (s : ℕ → ℤ) → Plan first ranges s → Plan last ranges' s

abbrev pub NoPlan : DisjunctivePropagator → List Range → Type 0
NoPlan tasks ranges = (s : ℕ → ℤ) → Plan tasks ranges s → ⊥

-- Reasons that are kept --------------------------------------------------------------------------------------------------------

-- what post j of a run says: its task starts at or after the bound; of a mirrored pass: at or before it
abbrev pub says : List ℤ → ℕ → Atom
says posts j = record { variable = task_of posts j; kind = 0; value = bound_of posts j }

abbrev pub says_mirrored : List ℤ → ℕ → Atom
says_mirrored posts j = record { variable = task_of posts j; kind = 1; value = bound_of posts j }

-- the atom is met; without one there are no such starts
abbrev pub Follows : (ℕ → ℤ) → Option Atom → Type 0
Follows s none = ⊥
Follows s (some a) = Meets s a

-- The words of a reason stay true, whatever the ranges are later. Its atom follows for all starts that meet it and in which no two of the record's tasks
-- overlap.
abbrev pub StaysTrue : DisjunctivePropagator → List ℤ → Option Atom → Type 0
StaysTrue tasks words consequent = (later : List Range) (s : ℕ → ℤ) → NoOverlap (tasks_lent tasks later) s → Every (Meets s) (atoms_of words)
    → Follows s consequent
