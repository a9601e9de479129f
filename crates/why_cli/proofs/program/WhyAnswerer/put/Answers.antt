-- Where no tasks are read the number stands that refused them; else the page of the tasks.
use mathlib.Core.Path.{refl, sym, ap, ◌∙◌}
use Prim.Native.Nat.{ℕ}
use Rattle.records.specs.Records.{new_record}
use Rattle.plan_cli.specs.Lines.{refused_line}
use Rattle.plan_cli.specs.Printed.{listed_tasks}
use Rattle.plan_cli.proofs.RunLines.{puts_as}
use Rattle.plan_cli.proofs.InputTasks.{answered_tasks, answered_unread}
use Rattle.why_cli.specs.Written.{refused_or, why_on, why_of, why_of_tasks}
use Rattle.why_cli.proofs.program.WhyAnswerer.put.Goals as goal

pub returns-in-Ok-clause-text : goal.returns-in-Ok-clause-text
returns-in-Ok-clause-text c xs h = puts_as (answered_tasks why_of_tasks why_of (λ ts. refl) (listed_tasks xs) c.in-Ok.tasks (sym c.in-Ok.is ∙ c.read.ensures xs h))
    c.put_why.ensures.text

pub returns-in-Err-clause-text : goal.returns-in-Err-clause-text
returns-in-Err-clause-text c xs h =
    let told = answered_unread why_of_tasks why_of (λ ts. refl) refused_line refl (λ es ls ds one. ap (λ (k : ℕ). refused_or k (why_on (new_record ds) es ls)) one) (listed_tasks xs)
    c.in-Err.why (sym c.in-Err.is ∙ c.read.ensures xs h) in
    puts_as (ap refused_line c.number.ensures ∙ told) c.put_refused.ensures.text
