use mathlib.Core.Path.{sym}
use borrow.Author.Rules.{rules}
use Rattle.integers.proofs.Tests.{all_none}
use Rattle.records.proofs.OneMore.{one_more, at_most_words}
use Rattle.records.proofs.refusals.ranges_fit.Goals as goal

pub loop-i-init : goal.loop-i-init
loop-i-init c = sym (all_none _)

pub loop-i-preserved : goal.loop-i-preserved
loop-i-preserved c = search (one_more, at_most_words, rules)
