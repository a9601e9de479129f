use mathlib.Core.Path.{sym}
use borrow.Author.Rules.{rules}
use Rattle.integers.proofs.Tests.{all_none}
use Rattle.records.proofs.OneMore.{one_more}
use Rattle.records.proofs.record.all_last.Goals as goal

pub loop-x-init : goal.loop-x-init
loop-x-init c = sym (all_none _)

pub loop-x-preserved : goal.loop-x-preserved
loop-x-preserved c = search (one_more, rules)
