-- The code's array is the tariff's table. The invariant: `cost` is what the rows before this one cost, and `done` the hours that they charge.
use Rattle.std.proofs.Common.{◌≡◌, min}
use Rattle.charges.specs.Tariff.{tariff, cost_of_hours}
use Rattle.charges.proofs.Costs.{from}
use Rattle.charges.proofs.rates.cost_of.Given as goal

abbrev pub invariant-loop-row : goal.invariant-loop-row
invariant-loop-row l = record {
  rows : l.row-items ≡ tariff;
  hours : l.done ≡ min l.hours (from l.row-index);
  charged : l.cost ≡ cost_of_hours l.done;
}
