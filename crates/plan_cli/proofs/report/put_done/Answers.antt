-- The three parts one after another are the line.
use Rattle.integers.specs.Texts.{bytes_of}
use Rattle.text.proofs.PutBytes.{puts_append}
use Rattle.plan_cli.specs.Lines.{done_line}
use Rattle.plan_cli.proofs.report.put_done.Goals as goal

pub returns-clause-text : goal.returns-clause-text
unfolding bytes_of done_line
returns-clause-text c = puts_append (puts_append c.put_bytes-a.ensures c.put_starts-b.ensures.text) c.put_bytes.ensures
