use Rattle.std.proofs.Common.{rules, arith, ◌≡◌, ℕ, ◌<◌, length, get_or, length-append}
use Rattle.std.proofs.lemmas.Slice.Zip.{zip_turn, zip_end}
use Rattle.busiest_stretch.proofs.TriedStretches.{end_fits, end_late, one_more, best_of_all}
use Rattle.busiest_stretch.proofs.covering.Slide.busiest.Goals.{In-Some}
use Rattle.busiest_stretch.proofs.covering.Slide.busiest.Goals as goal

-- the task's number, its start and its duration
abbrev task_of : In-Some → ℕ
task_of c = length c.loop-start.yielded

turn : (c : In-Some) → let s = c.args.self.now in
    (task_of c < length s.starts.now) × (c.in-Some.start.now ≡ get_or s.starts.now (task_of c) 0) × (c.in-Some.duration.now ≡ get_or s.durations.now (task_of c) 0)
turn c =
    let s = c.args.self.now in
    let (here, there, start, duration) = zip_turn s.starts.now s.durations.now c.loop-start.yielded c.into_iter-start-iterator.result c.loop-start.start-iterator c.next.new.self _ (search rules) (search rules) c.loop-start.yielded_by _ c.in-Some.is c.next.ensures.steps in
    (here, start 0, duration 0)

pub overflow_add-back : goal.overflow_add-back
overflow_add-back c =
    let (here, start, duration) = turn (goal.at.overflow_add-back c).In-Some in
    rw (start, duration) (end_fits c.args.self.now.starts.now c.args.self.now.durations.now c.args.self.now.slidable (task_of (goal.at.overflow_add-back c).In-Some) here)

pub loop-start-preserved : goal.loop-start-preserved
loop-start-preserved c =
    let s = c.args.self.now in
    let k = task_of (goal.at.loop-start-preserved c).In-Some in
    let (here, start, duration) = turn (goal.at.loop-start-preserved c).In-Some in
    let late = end_late s.starts.now s.durations.now s.slidable k here in
    rw length-append (one_more _ _ _ _ _ c.loop-start.invariant (rw start at c.better-best.ensures) (omega (arith, start, duration, late)) c.better-best-in-loop-start.ensures)

pub returns : goal.returns
returns c =
    let s = c.args.self.now in
    let e = zip_end s.starts.now s.durations.now c.loop-start.yielded c.into_iter-start-iterator.result c.loop-start.start-iterator c.next.new.self _ (search rules) (search rules) c.loop-start.yielded_by c.in-None.is c.next.ensures.steps in
    let all : length c.loop-start.yielded ≡ length s.starts.now = omega (arith, e, s.slidable.long) in
    best_of_all _ _ _ _ _ _ (rw all at c.loop-start.invariant) c.requires.starts_first c.requires.starts_last
