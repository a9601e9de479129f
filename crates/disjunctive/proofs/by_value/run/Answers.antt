use Rattle.std.proofs.Common.{rules}
use Rattle.disjunctive.proofs.by_value.LentCounts.{stored_in}
use Rattle.disjunctive.proofs.by_value.run.Goals as goal

-- the record is the same, by the run's contract
pub returns : goal.returns
returns c = stored_in c.args.ranges (search rules) c.lent-n.result c.lent-n.ensures _ c.run-finished.new.ranges c.run-finished.auto.ranges
    (rw c.run-finished.ensures.same_record at c.run-finished.ensures)
