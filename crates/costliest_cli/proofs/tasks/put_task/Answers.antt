-- Three numbers with what stands between them, put one after the other.
use Rattle.integers.specs.Texts.{bytes_of}
use Rattle.text.specs.DecimalText.{decimal}
use Rattle.text.proofs.PutBytes.{puts_append}
use Rattle.costliest_cli.specs.Tasks.{task_line}
use Rattle.costliest_cli.proofs.tasks.put_task.Goals as goal

pub returns-clause-text : goal.returns-clause-text
unfolding bytes_of task_line decimal
returns-clause-text c =
    puts_append (puts_append (puts_append (puts_append (puts_append c.put_count-a.ensures.text c.put_bytes-b.ensures) c.put_count-c.ensures.text) c.put_bytes-d.ensures)
    c.put_count-e.ensures.text) c.put_bytes.ensures
