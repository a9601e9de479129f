-- The keys are the moments of the starts, so the sort by keys is the sort by starts.
use Rattle.fixed_schedules.proofs.ScheduleOrder.{order_is}
use Rattle.fixed_schedules.proofs.order.tasks_by_start.Goals as goal

pub returns : goal.returns
returns c =
    order_is c.args.earliest.now c.moments_of.new.out c.sort_numbers.new.order c.requires c.moments_of.ensures c.sort_numbers.ensures
