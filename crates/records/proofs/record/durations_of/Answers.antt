use mathlib.Core.Path.{sym, ◌∙◌}
use borrow.Author.Rules.{rules}
use Rattle.integers.specs.FilledLists.{no_tasks}
use Rattle.integers.proofs.FilledLists.{filled_none, filled_store}
use Rattle.records.proofs.Creation.{duration_word}
use Rattle.records.proofs.record.durations_of.Goals as goal

pub loop-i-init : goal.loop-i-init
loop-i-init c = c.requires.0 ∙ sym (filled_none _ no_tasks)

pub loop-i-preserved : goal.loop-i-preserved
loop-i-preserved c = search (filled_store, duration_word, rules)
