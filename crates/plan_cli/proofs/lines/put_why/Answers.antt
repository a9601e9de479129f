-- The five parts one after another are the line.
use mathlib.Core.Path.{ap}
use Rattle.integers.proofs.Ints.{back}
use Rattle.integers.specs.Texts.{bytes_of}
use Rattle.text.proofs.PutBytes.{puts_append}
use Rattle.plan_cli.specs.Lines.{sign as sign_of, why_line}
use Rattle.plan_cli.proofs.RunLines.{puts_as, puts_number}
use Rattle.plan_cli.proofs.lines.put_why.Goals as goal

pub returns-clause-text : goal.returns-clause-text
unfolding bytes_of why_line
returns-clause-text c =
    puts_append (puts_append (puts_append (puts_append c.put_bytes-a.ensures (puts_number (back c.ranges.variable) c.put_number-b.ensures.text))
    (puts_as (ap sign_of (back c.ranges.kind)) c.put_sign-c.ensures.text)) (puts_number (back c.ranges.value) c.put_number-d.ensures.text)) c.put_bytes.ensures
