use Rattle.std.proofs.Common.{rules}
use Rattle.disjunctive.proofs.by_value.LentCounts.{stored_in}
use Rattle.disjunctive.proofs.by_value.by_precedence.precedences.Goals as goal

pub returns : goal.returns
returns c = stored_in c.args.ranges (search rules) c.lent-n.result c.lent-n.ensures _ c.precedences-answer.new.ranges c.precedences-answer.auto.ranges c.precedences-answer.ensures
