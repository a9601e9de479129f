-- What the loop over the tasks requires, and what it leaves.
use Rattle.std.specs.Prelude.{◌≡◌, List, ℕ, ◌≤◌, ◌<◌, ℤ, length, get_or}
use Rattle.integers.specs.FilledLists.{filled, no_tasks}
use Rattle.integers.specs.Limits.{DURATIONS}
use Rattle.scheduling.specs.Scheduling.{total}
use Rattle.fixed_schedules.specs.Neighbours.{Sortable}
use Rattle.charges.specs.declared.answer.TaskCharges.{TaskCharges}
use Rattle.charges.specs.Charges.{DuesFit, charge_at}

-- Starts, durations and due moments within the limits, and a due moment for each task.
pub record Chargeable (ds : List ℕ) (es due : List ℤ) : Type 0 where
  pub sortable : Sortable es
  pub durations : (k : ℕ) → k < length es → get_or ds k 0 ≤ DURATIONS
  pub dues : DuesFit (length es) due

-- The tasks' charges in the first places of an array of zeros, and their sum.
pub record Summed (ds : List ℕ) (es due : List ℤ) (b : TaskCharges) : Type 0 where
  pub charges : b.charges ≡ filled (charge_at ds es due) (length es) no_tasks
  pub sum : b.total ≡ total (charge_at ds es due) (length es)
