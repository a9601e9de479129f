-- The tests run on the record's durations, and `lasts_said` and `sum_said` say that they are those of the caller's.
use native.Mathlib.Omega.{arith}
use borrow.Author.Rules.{rules}
use Rattle.records.proofs.Creation.{lasts_said, sum_said}
use Rattle.records.proofs.TestsInOrder.{in_order}
use Rattle.records.proofs.record.creation_refusal.Goals as goal

pub returns-then-not-count_fits : goal.returns-then-not-count_fits
returns-then-not-count_fits c = (search (in_order, rules), λ z. absurd (omega arith))

pub returns-then-not-all_last : goal.returns-then-not-all_last
returns-then-not-all_last c = (search (in_order, lasts_said, rules), λ z. absurd (omega arith))

pub returns-then-not-sum_fits : goal.returns-then-not-sum_fits
returns-then-not-sum_fits c = (search (in_order, lasts_said, sum_said, rules), λ z. absurd (omega arith))

pub returns : goal.returns
returns c = (search (in_order, lasts_said, sum_said, rules), λ z. search rules)
