use mathlib.Core.Path.{sym, ◌∙◌}
use borrow.Author.Rules.{rules}
use Rattle.task_changes.proofs.ChangedRecords.{may_remove, remove_refused, remove_made}
use Rattle.task_changes.proofs.changes.remove.Goals as goal

pub returns-then-is_err : goal.returns-then-is_err
returns-then-is_err c = remove_refused _ _ _ c.remove_refusal-answer.ensures (sym c.is_err.ensures.value ∙ c.if-is_err.true)

pub without_task-requires : goal.without_task-requires
without_task-requires c = let p = may_remove _ _ _ c.remove_refusal-answer.ensures (sym c.is_err.ensures.value ∙ c.if-is_err.false) in record { lawful = p.lawful; there = p.there }

pub returns : goal.returns
returns c = remove_made _ _ _ c.remove_refusal-answer.ensures (sym c.is_err.ensures.value ∙ c.if-is_err.false) _ c.without_task.ensures (search rules)
