use native.Mathlib.Omega.{arith}
use Rattle.plan_cli.proofs.RunLines.{puts_first, puts_all}
use Rattle.costliest_cli.specs.Tasks.{task_line, costliest_task, costliest}
use Rattle.costliest_cli.proofs.TaskLines.{costliest_length, puts_one_more}
use Rattle.costliest_cli.proofs.tasks.put_tasks.Goals as goal

pub loop-k-init : goal.loop-k-init
loop-k-init c = (omega arith, puts_first task_line (costliest_task 0) _ _ (costliest c.args.n))

pub loop-k-preserved : goal.loop-k-preserved
loop-k-preserved c =
    let w = c.put_task-end in
    let l = c.loop-k in (
      omega (arith, w.ensures.within, l.invariant.0),
      puts_one_more _ l.k c.loop-k-test.true l.invariant.1 w.ensures.text,
    )

pub returns-clause-text : goal.returns-clause-text
returns-clause-text c =
    let n = c.args.n in
    puts_all task_line (costliest_task 0) (costliest n) c.loop-k.k (omega (arith, c.loop-k-test.false, costliest_length n)) c.loop-k.invariant.1
