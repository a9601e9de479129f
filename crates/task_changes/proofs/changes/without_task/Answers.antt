use borrow.Author.Rules.{rules}
use Rattle.task_changes.proofs.ChangedRecords.{part, stored_less}
use Rattle.task_changes.proofs.PlacedLists.{gap_closed}
use Rattle.task_changes.proofs.changes.without_task.Goals as goal

pub overflow_sub-result-2 : goal.overflow_sub-result-2
overflow_sub-result-2 c = part _ c.requires.lawful (search rules) _ c.requires.there

pub returns : goal.returns
returns c =
    let l = c.requires.lawful in
    let moved = c.copy_within.ensures in
    stored_less _ _ _ (gap_closed _ _ _ _ (search rules) l.few c.requires.there l.unused moved.len moved.by_index.0 moved.by_index.1 moved.by_index.2)
