-- The invariant: the first i places hold their charges, `sum` is their total, and it is at most 2,000 a task, so it cannot overflow.
use Rattle.std.proofs.Common.{◌≡◌, ◌*◌, ◌≤◌}
use Rattle.integers.specs.FilledLists.{filled, no_tasks}
use Rattle.scheduling.specs.Scheduling.{total}
use Rattle.charges.specs.Charges.{charge_at}
use Rattle.charges.proofs.charging.charges_of.Given as goal

abbrev pub invariant-loop-i : goal.invariant-loop-i
invariant-loop-i l = record {
  charges : l.out ≡ filled (charge_at l.durations l.earliest l.due) l.i no_tasks;
  sum : l.sum ≡ total (charge_at l.durations l.earliest l.due) l.i;
  small : l.sum ≤ l.i * 2000;
}
