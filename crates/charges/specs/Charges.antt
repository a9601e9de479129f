-- Loan charges of a fixed schedule: what refuses the call, each task's charge, and what the call answers.
use Rattle.std.specs.Prelude.{◌≡◌, Bool, ◌&&◌, List, [], ◌∷◌, ◌++◌, ℕ, ◌+◌, ◌≤◌, ◌<◌, eqb, ℤ, pos, neg_ℤ, ◌≤ℤ◌, length, get_or}
use Rattle.integers.specs.Refused as refused
use Rattle.integers.specs.FilledLists.{no_tasks}
use Rattle.integers.specs.Answers.{answered, refused_by}
use Rattle.integers.specs.Limits.{TASKS, START, DURATIONS, DUE}
use Rattle.integers.specs.Tests.{Test, test, all_below, refusal}
use Rattle.scheduling.specs.Scheduling.{total}
use Rattle.records.specs.declared.record.DisjunctivePropagator.{DisjunctivePropagator}
use Rattle.records.specs.Refusals.{within_at}
use Rattle.fixed_schedules.specs.FixedSchedules.{end_at, fixed_tests, AcceptedFixed}
use Rattle.charges.specs.Tariff.{cost_of_minutes, late_minutes}
use Rattle.charges.specs.declared.answer.TaskCharges.{TaskCharges}
use Rattle.charges.specs.declared.answer.Charges.{Charges}
use Rattle.charges.specs.Numbers.{charges_numbers}

-- The tests ---------------------------------------------------------------------------------------------------------------------

-- task k's due moment is from −DUE to DUE
abbrev pub due_fits_at : List ℤ → ℕ → Bool
due_fits_at due k = within_at (neg_ℤ (pos DUE)) (pos DUE) due k

-- those of a fixed schedule; then 19: a due list not of length n, or a due moment out of range
abbrev pub charges_tests : DisjunctivePropagator → List ℤ → List ℤ → List ℤ → List Test
charges_tests r es ls due = fixed_tests r es ls ++ (test refused.DUE (eqb (length due) r.count && all_below (due_fits_at due) (length due)) ∷ [])

abbrev pub charges_number : DisjunctivePropagator → List ℤ → List ℤ → List ℤ → ℕ
charges_number r es ls due = refusal (charges_tests r es ls due)

-- The test of 19 as facts,
pub record DueFits (z : ℤ) : Type 0 where
  pub low : neg_ℤ (pos DUE) ≤ℤ z
  pub high : z ≤ℤ pos DUE

pub record DuesFit (n : ℕ) (due : List ℤ) : Type 0 where
  pub long : length due ≡ n
  pub within : (k : ℕ) → k < length due → DueFits (get_or due k (pos 0))

-- and what holds of a call that no test refuses.
pub record AcceptedCharges (r : DisjunctivePropagator) (es ls due : List ℤ) : Type 0 where
  pub schedule : AcceptedFixed r es ls
  pub dues : DuesFit r.count due

-- The charges -------------------------------------------------------------------------------------------------------------------

-- the most minutes that a task can be late: due as early as can be, it starts as late and lasts as long
abbrev pub MINUTES : ℕ
MINUTES = DUE + START + DURATIONS

-- task k's charge: what the tariff has for the minutes from its due moment to its end
abbrev pub charge_at : List ℕ → List ℤ → List ℤ → ℕ → ℕ
charge_at ds es due k = cost_of_minutes (late_minutes (end_at ds es k) (get_or due k (pos 0)))

-- Each task's charge is at its number, the other places are 0, and the total is the sum of the tasks' charges.
pub record ChargesRight (r : DisjunctivePropagator) (es due : List ℤ) (b : TaskCharges) : Type 0 where
  pub long : length b.charges ≡ TASKS
  pub charge : (k : ℕ) → k < r.count → get_or b.charges k 0 ≡ charge_at r.durations es due k
  pub unused : (k : ℕ) → r.count ≤ k → get_or b.charges k 0 ≡ 0
  pub total : b.total ≡ total (charge_at r.durations es due) r.count

-- charges of zero
abbrev pub without_charges : TaskCharges
without_charges = record { charges = no_tasks; total = 0 }

-- The call: the first test that fails refuses it, with charges of zero; else it answers the charges and their total.
pub record Charged (r : DisjunctivePropagator) (es ls due : List ℤ) (c : Charges) : Type 0 where
  pub refused : (charges_number r es ls due ≡ 0 → ⊥) → (charges_numbers c ≡ refused_by (charges_number r es ls due)) × (c.charged ≡ without_charges)
  pub made : charges_number r es ls due ≡ 0 → (charges_numbers c ≡ answered 0 (pos (total (charge_at r.durations es due) r.count) ∷ []))
      × ChargesRight r es due c.charged
