-- The three parts one after another are the line.
use Rattle.integers.specs.Texts.{bytes_of}
use Rattle.text.proofs.PutBytes.{puts_append}
use Rattle.plan_cli.specs.Lines.{refused_line}
use Rattle.plan_cli.proofs.lines.put_refused.Goals as goal

pub returns-clause-text : goal.returns-clause-text
unfolding bytes_of refused_line
returns-clause-text c = puts_append (puts_append c.put_bytes-a.ensures c.put_count-b.ensures.text) c.put_bytes.ensures
