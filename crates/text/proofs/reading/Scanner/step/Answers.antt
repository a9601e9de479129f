-- The two cases of the definition, by whether the byte is white space.
use mathlib.Core.Path.{sym, ◌∙◌}
use Rattle.text.proofs.ScannerSteps.{step_space, step_other}
use Rattle.text.proofs.reading.Scanner.step.Goals as goal

pub returns-then-is_space : goal.returns-then-is_space
returns-then-is_space c = rw (
  step_space c.args.self _ (sym c.is_space.ensures ∙ c.if-is_space.true),
  c.with_reading.ensures,
  c.reading.ensures,
)

pub returns : goal.returns
returns c = rw (step_other c.args.self _ (sym c.is_space.ensures ∙ c.if-is_space.false), c.next.ensures)
