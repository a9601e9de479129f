use Rattle.std.proofs.Common.{rules, arith, ◌≤◌, sym}
use Rattle.integers.specs.FilledLists.{no_tasks}
use Rattle.integers.proofs.FilledLists.{filled_none, filled_store}
use Rattle.scheduling.proofs.Sets.{total_none}
use Rattle.records.proofs.OneMore.{total_step}
use Rattle.charges.proofs.AcceptedCharges.{charge_is, charge_small}
use Rattle.charges.proofs.charging.charges_of.Goals.{After-charge_of-cost}
use Rattle.charges.proofs.charging.charges_of.Goals as goal

-- the sum stays small
cost_small : (c : After-charge_of-cost) → c.charge_of-cost.result ≤ 2000
cost_small c = search (charge_small, rules)

pub loop-i-init : goal.loop-i-init
loop-i-init c = record { charges = sym (filled_none _ no_tasks); sum = sym (total_none _); small = omega arith }

pub overflow_add-sum : goal.overflow_add-sum
overflow_add-sum c = omega (arith, cost_small (goal.at.overflow_add-sum c).After-charge_of-cost, c.requires.sortable.few)

pub loop-i-preserved : goal.loop-i-preserved
loop-i-preserved c =
    let small = cost_small (goal.at.loop-i-preserved c).After-charge_of-cost in
    record { charges = search (filled_store, charge_is, rules); sum = search (total_step, charge_is, rules); small = omega (arith, small, c.loop-i.invariant.small) }
