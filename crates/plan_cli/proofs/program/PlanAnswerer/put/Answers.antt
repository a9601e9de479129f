-- Where no tasks are read the number stands that refused them; else the run on the tasks.
use mathlib.Core.Path.{refl, sym, ap, ◌∙◌}
use mathlib.Core.Logic.{inl}
use Prim.Native.Nat.{ℕ}
use Rattle.records.specs.Records.{new_record}
use Rattle.plan_cli.specs.Lines.{refused_line}
use Rattle.plan_cli.specs.RunLines.{answer_lines}
use Rattle.plan_cli.specs.Printed.{numbered, ran_on, planned, listed_tasks, or_zero, answered}
use Rattle.plan_cli.proofs.RunLines.{puts_as}
use Rattle.plan_cli.proofs.InputTasks.{answered_tasks, answered_unread}
use Rattle.plan_cli.proofs.program.PlanAnswerer.put.Goals as goal

pub returns-in-Err-clause-text : goal.returns-in-Err-clause-text
unfolding answered
returns-in-Err-clause-text c xs h =
    let told = answered_unread or_zero planned (λ ts. refl) inl refl (λ es ls ds one. ap (λ (k : ℕ). numbered k (ran_on (new_record ds) es ls)) one) (listed_tasks xs)
    c.in-Err.why (sym c.in-Err.is ∙ c.read.ensures xs h) in
    puts_as (ap refused_line c.number.ensures ∙ ap answer_lines told) c.put_refused.ensures.text

pub returns-clause-text : goal.returns-clause-text
unfolding answered
returns-clause-text c xs h =
    let told = answered_tasks or_zero planned (λ ts. refl) (listed_tasks xs) c.in-Ok.tasks (sym c.in-Ok.is ∙ c.read.ensures xs h) in
    let starts = c.copy_from_slice.ensures.after ∙ c.earliest.ensures in
    let run = planned c.copy_from_slice.new.self c.latest.result.now c.durations.result.now in
    puts_as (ap answer_lines ((λ i. planned (starts i) (c.latest.ensures i) (c.durations.ensures i)) ∙ told)) (c.put_run.ensures.text run c.plan-outcome.ensures)
