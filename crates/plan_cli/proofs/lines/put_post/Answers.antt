-- The five parts one after another are the line.
use Rattle.integers.proofs.Ints.{back}
use Rattle.integers.specs.Texts.{bytes_of}
use Rattle.text.proofs.PutBytes.{puts_append}
use Rattle.plan_cli.specs.Lines.{post_line}
use Rattle.plan_cli.proofs.RunLines.{puts_number}
use Rattle.plan_cli.proofs.lines.put_post.Goals as goal

pub returns-clause-text : goal.returns-clause-text
unfolding bytes_of post_line
returns-clause-text c =
    puts_append (puts_append (puts_append (puts_append c.put_bytes-a.ensures (puts_number (back c.ranges.task) c.put_number-b.ensures.text)) c.put_bytes-c.ensures)
    (puts_number (back c.ranges.bound) c.put_number-d.ensures.text)) c.put_bytes.ensures
