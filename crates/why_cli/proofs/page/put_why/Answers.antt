-- By creation's answer: its number is written, or the page on the record that it made.
use mathlib.Core.Path.{ap, subst, ◌∙◌}
use mathlib.Core.List.{List}
use lib.IntN.{ℤ}
use Rattle.records.specs.Records.{Creates}
use Rattle.plan_cli.specs.Lines.{refused_line}
use Rattle.plan_cli.proofs.RunLines.{puts_as}
use Rattle.why_cli.specs.Written.{why_on}
use Rattle.why_cli.proofs.PageTexts.{accepted_why, refused_why}
use Rattle.why_cli.proofs.page.put_why.Goals as goal

pub returns-in-Ok-clause-text : goal.returns-in-Ok-clause-text
returns-in-Ok-clause-text c =
    let t = c.args.tasks.now in
    let made = c.create-created.result in
    let creates = subst (λ (ds : List ℤ). Creates ds made) c.durations.ensures c.create-created.ensures in
    puts_as ((λ i. why_on made.«record» (c.earliest.ensures i) (c.latest.ensures i)) ∙ accepted_why t.earliest t.latest t.durations made creates c.in-Ok.is) c.put_found.ensures.text

pub returns-in-Err-clause-text : goal.returns-in-Err-clause-text
returns-in-Err-clause-text c =
    let t = c.args.tasks.now in
    let made = c.create-created.result in
    let creates = subst (λ (ds : List ℤ). Creates ds made) c.durations.ensures c.create-created.ensures in
    puts_as (ap refused_line c.number.ensures ∙ refused_why t.earliest t.latest t.durations made creates c.in-Err.why c.in-Err.is) c.put_refused.ensures.text
