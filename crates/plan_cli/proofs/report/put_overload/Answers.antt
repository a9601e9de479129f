-- The reason's lines stand before the last.
use mathlib.Core.Path.{◌∙◌}
use Rattle.integers.specs.Texts.{bytes_of}
use Rattle.text.proofs.PutBytes.{puts_append}
use Rattle.plan_cli.specs.Lines.{overload_lines}
use Rattle.plan_cli.proofs.report.put_overload.Goals as goal

pub returns-clause-text : goal.returns-clause-text
unfolding bytes_of overload_lines
returns-clause-text c reason w = puts_append (c.put_reason-end.ensures.text reason (c.stretch.ensures.words ∙ w)) c.put_bytes.ensures
