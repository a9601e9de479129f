-- At each return the tests before it are passed and its own is not.
use borrow.Author.Rules.{rules}
use Rattle.records.proofs.TestsInOrder.{in_order}
use Rattle.records.proofs.refusals.range_refusal.Goals as goal

pub returns-then-not-lawful : goal.returns-then-not-lawful
returns-then-not-lawful c = search (in_order, rules)

pub returns-then-earliest-record : goal.returns-then-earliest-record
returns-then-earliest-record c = search (in_order, rules)

pub returns-then-not-starts_fit : goal.returns-then-not-starts_fit
returns-then-not-starts_fit c = search (in_order, rules)

pub returns-then-not-ranges_fit : goal.returns-then-not-ranges_fit
returns-then-not-ranges_fit c = search (in_order, rules) depth 7

pub returns : goal.returns
returns c = search (in_order, rules) depth 8
