use mathlib.Core.Path.{sym, ap, ◌∙◌}
use native.Mathlib.Omega.{arith}
use lib.IntN.{ℤ}
use borrow.Author.Rules.{rules}
use Rattle.integers.proofs.Ints.{back}
use Rattle.records.specs.Records.{duration_for}
use Rattle.task_changes.specs.Changes.{added, add_number}
use Rattle.task_changes.proofs.ChangedRecords.{may_add, add_refused, add_made}
use Rattle.task_changes.proofs.changes.add.Goals as goal

pub returns-then-is_err : goal.returns-then-is_err
returns-then-is_err c = add_refused _ _ _ (c.add_refusal-answer.ensures ∙ ap (add_number _) (back c.ranges.duration)) (sym c.is_err.ensures.value ∙ c.if-is_err.true)

pub with_task-requires : goal.with_task-requires
with_task-requires c =
    let same = back c.ranges.duration in
    let p = may_add c.args.«record» c.args.duration _ (c.add_refusal-answer.ensures ∙ ap (add_number _) same) (sym c.is_err.ensures.value ∙ c.if-is_err.false) in
    record { lawful = p.lawful; room = p.room; fits = omega (arith, p.fits, ap duration_for same) }

pub returns : goal.returns
returns c =
    add_made _ _ _ (c.add_refusal-answer.ensures ∙ ap (add_number _) (back c.ranges.duration)) (sym c.is_err.ensures.value ∙ c.if-is_err.false)
    _ (c.with_task.ensures ∙ ap (λ (d : ℤ). added c.args.«record» (duration_for d)) (back c.ranges.duration)) (search rules)
