use mathlib.Core.Path.{ap, ◌∙◌}
use borrow.Author.Rules.{rules}
use Rattle.integers.proofs.Ints.{back}
use Rattle.records.specs.Records.{duration_for}
use Rattle.task_changes.proofs.ChangedRecords.{stored_more}
use Rattle.task_changes.proofs.changes.with_task.Goals as goal

pub returns : goal.returns
returns c = stored_more _ c.requires.lawful (search rules) c.requires.room _ (c.duration_of-more.ensures ∙ ap duration_for (back c.ranges.duration))
