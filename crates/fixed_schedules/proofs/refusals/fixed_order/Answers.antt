-- The record and its ranges go before; then neighbours in the order of starts decide for all pairs.
use borrow.Author.Rules.{rules}
use Rattle.fixed_schedules.proofs.FixedRefused.{ranges_refuse, same_counts, sorts, more_starts, traverses, overlapping, none_wrong}
use Rattle.fixed_schedules.proofs.refusals.fixed_order.Goals as goal

pub returns-in_err-range_refusal : goal.returns-in_err-range_refusal
returns-in_err-range_refusal c = search (ranges_refuse, rules)

pub one_start-requires : goal.one_start-requires
one_start-requires c = search (same_counts, rules)

pub returns-then-not-one_start : goal.returns-then-not-one_start
returns-then-not-one_start c = search (more_starts, rules)

pub tasks_by_start-order-requires : goal.tasks_by_start-order-requires
tasks_by_start-order-requires c = search (sorts, rules)

pub neighbours_apart-requires : goal.neighbours_apart-requires
neighbours_apart-requires c = search (traverses, rules)

pub returns-then-not-neighbours_apart : goal.returns-then-not-neighbours_apart
returns-then-not-neighbours_apart c = search (overlapping, rules)

pub returns : goal.returns
returns c = search (none_wrong, rules)
