use Rattle.std.proofs.Common.{arith, ◌≡◌, ◌≤◌, ◌<◌, length, get_or}
use Rattle.integers.specs.Limits.{TASKS}
use Rattle.free_starts.proofs.FirstFree.{begins, goes_on, stops, ends}
use Rattle.free_starts.proofs.first_free.Goals.{In-loop-task}
use Rattle.free_starts.proofs.first_free.Goals as goal

-- the next task is one of the few
small : (c : In-loop-task) → let order = c.args.order.now in (get_or order c.loop-task.task-index 0 < length order) × (length order ≤ TASKS)
small c = (c.requires.by_start.task c.loop-task.task-index c.loop-task-test.true, c.requires.few)

pub loop-task-init : goal.loop-task-init
loop-task-init c =
    record { limit = omega (arith, c.requires.moment); passed = begins _ _ c.requires.place c.requires.by_start c.args.t c.args.d }

pub returns-then-free-d : goal.returns-then-free-d
returns-then-free-d c =
    let l = c.loop-task in
    (stops _ _ c.requires.place c.requires.by_start c.args.t c.args.d l.task-index l.free c.loop-task-test.true l.invariant.passed c.if-free-d.true, l.invariant.limit)

pub loop-task-preserved : goal.loop-task-preserved
loop-task-preserved c =
    let l = c.loop-task in
    let q = small (goal.at.loop-task-preserved c).In-loop-task in record {
      limit = omega (arith, l.invariant.limit, c.max-free.ensures, c.requires.ends _ q.0);
      passed = goes_on _ _ c.requires.place c.requires.by_start c.args.t c.args.d l.task-index l.free _ c.loop-task-test.true l.invariant.passed (omega arith) c.max-free.ensures;
    }

pub returns : goal.returns
returns c =
    let l = c.loop-task in
    let e : l.task-index ≡ length c.args.order.now = omega (arith, l.auto.task-index-end, c.loop-task-test.false) in
    (ends _ _ c.requires.place c.requires.by_start c.args.t c.args.d l.free (rw e at l.invariant.passed), l.invariant.limit)
