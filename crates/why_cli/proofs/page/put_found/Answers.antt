-- By what the call answered: its page stands already, or a line is written in its place.
use mathlib.Core.Path.{◌≡◌, ap, subst, ◌∙◌}
use mathlib.Core.List.{List}
use Prim.Native.Nat.{ℕ}
use native.Mathlib.Omega.{arith}
use Rattle.integers.specs.Texts.{bytes_of}
use Rattle.text.specs.DecimalText.{Puts}
use Rattle.plan_cli.specs.Lines.{refused_line}
use Rattle.plan_cli.proofs.RunLines.{puts_as}
use Rattle.why_cli.proofs.PageTexts.{page_text, nothing_text, refused_texts}
use Rattle.why_cli.proofs.page.put_found.Goals as goal

-- the text is written over what stood there
over : {first second third text : List ℕ} {next : ℕ} → second ≡ first → Puts second third 0 text next → Puts first third 0 text next
over {third = third} {text = text} {next = next} e p = subst (λ (l : List ℕ). Puts l third 0 text next) e p

pub returns-in-Ok-Some : goal.returns-in-Ok-Some
returns-in-Ok-Some c =
    let left = rw c.in-Ok-Some.field-0-is at c.in-Ok-Some.ensures in
    let page = page_text _ _ _ _ c.requires _ left c.conflict_page.auto.out in
    record { text = page.0; within = page.1 }

pub returns-in-Ok-None : goal.returns-in-Ok-None
unfolding bytes_of
returns-in-Ok-None c =
    let put = c.put_bytes.ensures in
    let left = rw c.in-Ok-None.field-0-is at c.in-Ok-None.ensures in
    let (same, text) = nothing_text _ _ _ _ c.requires left in
    record { text = puts_as text (over same put); within = omega (arith, put.end, c.requires) }

pub returns-in-Err : goal.returns-in-Err
returns-in-Err c =
    let put = c.put_refused.ensures in
    let (same, text) = refused_texts _ _ _ _ c.requires _ c.in-Err.ensures in
    record { text = puts_as (ap refused_line c.number.ensures ∙ text) (over same put.text); within = omega (arith, put.within, c.requires) }
