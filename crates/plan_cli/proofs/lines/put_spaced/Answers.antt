-- A space and the number after it.
use Rattle.integers.proofs.Ints.{back}
use Rattle.integers.specs.Texts.{bytes_of}
use Rattle.text.proofs.PutBytes.{puts_append}
use Rattle.plan_cli.proofs.RunLines.{puts_number}
use Rattle.plan_cli.proofs.lines.put_spaced.Goals as goal

pub returns-clause-text : goal.returns-clause-text
unfolding bytes_of
returns-clause-text c = puts_append c.put_bytes-a.ensures (puts_number (back c.ranges.x) c.put_number.ensures.text)
