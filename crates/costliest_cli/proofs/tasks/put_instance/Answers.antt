-- The count's line, and the tasks' lines after it.
use mathlib.Core.Path.{sym, ap}
use Rattle.integers.specs.Texts.{bytes_of}
use Rattle.text.specs.DecimalText.{natural}
use Rattle.text.proofs.PutBytes.{puts_append}
use Rattle.plan_cli.proofs.RunLines.{puts_as}
use Rattle.costliest_cli.specs.Tasks.{instance_lines}
use Rattle.costliest_cli.proofs.TaskLines.{costliest_length}
use Rattle.costliest_cli.proofs.tasks.put_instance.Goals as goal

pub returns-clause-text : goal.returns-clause-text
unfolding bytes_of instance_lines
returns-clause-text c =
    puts_append (puts_append (puts_as (ap natural (sym (costliest_length c.args.n))) c.put_count-a.ensures.text) c.put_bytes-b.ensures) c.put_tasks.ensures.text
