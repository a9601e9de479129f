use Rattle.std.proofs.Common.{arith, ◌≡◌, ℕ, ◌≤◌, ◌<◌, ℤ, List, length, get_or, take, take_all, length-take-le, to_z, of_z, w32}
use Rattle.integers.specs.Limits.{TASKS}
use Rattle.integers.specs.Texts.{bytes_of}
use Rattle.fixed_schedules.specs.FixedSchedules.{start_at}
use Rattle.fixed_schedules.proofs.ScheduleOrder.{start_word}
use Rattle.text.proofs.PutBytes.{puts_length, puts_append}
use Rattle.pages.specs.Pages.{line_at}
use Rattle.pages.proofs.PageLines.{puts_none, puts_next, each_line}
use Rattle.pages.proofs.RightAligned.{puts_at}
use Rattle.pages.proofs.lines.put_first_lines.Goals.{In-loop-task}
use Rattle.pages.proofs.lines.put_first_lines.Goals as goal

-- the places that count
abbrev front_of : In-loop-task → List ℕ
front_of c = take (length c.args.earliest.now) c.args.order.now

-- the task, and its start as the machine hands it on
abbrev task_of : In-loop-task → ℕ
task_of c = get_or (front_of c) c.loop-task.task-index 0

small : (c : In-loop-task) → let n = length c.args.earliest.now in (task_of c < n) × (n ≤ TASKS)
small c = let p = c.requires.1 in (p.tasks c.loop-task.task-index c.loop-task-test.true, p.sortable.few)

abbrev start_of : In-loop-task → ℤ
start_of c = start_at c.args.earliest.now (task_of c)

start_is : (c : In-loop-task) → to_z w32 (of_z w32 (start_of c)) ≡ start_of c
start_is c = start_word (start_of c) (c.requires.1.sortable.starts (task_of c) (small c).0)

pub loop-task-init : goal.loop-task-init
loop-task-init c = let a = c.args in
    record { wide = omega arith; lines = puts_none (line_at a.durations.now a.earliest.now) (take (length a.earliest.now) a.order.now) _ _ }

pub put_line-at-requires : goal.put_line-at-requires
unfolding bytes_of
put_line-at-requires c =
    let heading = c.put_heading-at.ensures in
    let (task, few) = small (goal.at.put_line-at-requires c).In-loop-task in (
      omega (arith, c.loop-task-test.true, c.loop-task.invariant.wide, c.loop-task.auto.out, heading.end, puts_length heading, c.requires.2, length-take-le _ c.args.order.now c.requires.0),
      omega (arith, task, few),
      rw (start_is (goal.at.put_line-at-requires c).In-loop-task) (c.requires.1.sortable.starts _ task),
      c.requires.1.durations _ task,
    )

pub loop-task-preserved : goal.loop-task-preserved
loop-task-preserved c =
    let l = c.loop-task in
    let es = c.args.earliest.now in
    let ds = c.args.durations.now in
    let k = task_of (goal.at.loop-task-preserved c).In-loop-task in
    let (task, few) = small (goal.at.loop-task-preserved c).In-loop-task in
    let w = puts_at k (get_or ds k 0) (start_is (goal.at.loop-task-preserved c).In-loop-task) c.put_line-at.ensures in record {
      wide = omega (arith, w.end, l.invariant.wide, each_line ds es c.requires.1.sortable c.requires.1.durations k task);
      lines = puts_next (line_at ds es) (front_of (goal.at.loop-task-preserved c).In-loop-task) l.task-index c.loop-task-test.true l.invariant.lines w;
    }

pub returns : goal.returns
returns c =
    let front = take (length c.args.earliest.now) c.args.order.now in
    let all : take c.loop-task.task-index front ≡ front = take_all _ front c.loop-task-test.false in
    puts_append c.put_heading-at.ensures (rw all at c.loop-task.invariant.lines)
