use Rattle.std.proofs.Common.{rules}
use Rattle.disjunctive.proofs.by_value.LentCounts.{stored_in}
use Rattle.disjunctive.proofs.by_value.run_mirrored.Goals as goal

pub returns : goal.returns
returns c = stored_in c.args.ranges (search rules) c.lent-n.result c.lent-n.ensures _ c.run_mirrored-outcome.new.ranges c.run_mirrored-outcome.auto.ranges c.run_mirrored-outcome.ensures
