use Rattle.std.proofs.Common.{rules, arith, ◌≡◌, ◌∙◌, sym, ap, ℕ, ◌<◌, length, get_or, length-append}
use Rattle.std.proofs.lemmas.Slice.Zip.{zip_turn, zip_end}
use Rattle.scheduling.proofs.Sets.{total_none}
use Rattle.records.proofs.OneMore.{total_step}
use Rattle.scheduling.specs.Scheduling.{total}
use Rattle.busiest_stretch.specs.StretchMoments.{tasks_at, common_at}
use Rattle.busiest_stretch.proofs.CoveredTime.{covered_short}
use Rattle.busiest_stretch.proofs.TriedStretches.{end_fits}
use Rattle.busiest_stretch.proofs.covering.Slide.covered.Goals.{In-Some, After-common-sum}
use Rattle.busiest_stretch.proofs.covering.Slide.covered.Goals as goal

-- the task's number, its start and its duration
abbrev task_of : In-Some → ℕ
task_of c = length c.loop-start.yielded

turn : (c : In-Some) → let s = c.args.self.now in
    (task_of c < length s.starts.now) × (c.in-Some.start.now ≡ get_or s.starts.now (task_of c) 0) × (c.in-Some.duration.now ≡ get_or s.durations.now (task_of c) 0)
turn c =
    let s = c.args.self.now in
    let (here, there, start, duration) = zip_turn s.starts.now s.durations.now c.loop-start.yielded c.into_iter-start-iterator.result c.loop-start.start-iterator c.next.new.self _ (search rules) (search rules) c.loop-start.yielded_by _ c.in-Some.is c.next.ensures.steps in
    (here, start 0, duration 0)

-- what it has in common with the stretch
added : (c : After-common-sum) → let s = c.args.self.now in
    c.common-sum.result ≡ common_at (tasks_at s.starts.now s.durations.now) s.«length» c.args.x (task_of (goal.at.After-common-sum c).In-Some)
added c = let (here, start, duration) = turn (goal.at.After-common-sum c).In-Some in c.common-sum.ensures ∙ rw (start, duration)

pub loop-start-init : goal.loop-start-init
loop-start-init c = sym (total_none _)

pub overflow_add-start : goal.overflow_add-start
overflow_add-start c =
    let (here, start, duration) = turn (goal.at.overflow_add-start c).In-Some in
    rw (start, duration) (end_fits c.args.self.now.starts.now c.args.self.now.durations.now c.args.self.now.slidable (task_of (goal.at.overflow_add-start c).In-Some) here)

pub overflow_add-sum : goal.overflow_add-sum
overflow_add-sum c =
    let s = c.args.self.now in
    let k = task_of (goal.at.overflow_add-sum c).In-Some in
    omega (arith, c.loop-start.invariant, added c, covered_short (tasks_at s.starts.now s.durations.now) s.«length» c.args.x k (turn (goal.at.overflow_add-sum c).In-Some).0, s.slidable.sum)

pub loop-start-preserved : goal.loop-start-preserved
loop-start-preserved c =
    let k = task_of (goal.at.loop-start-preserved c).In-Some in
    rw length-append (total_step _ k c.loop-start.invariant (added (goal.at.loop-start-preserved c).After-common-sum))

pub returns : goal.returns
returns c =
    let s = c.args.self.now in
    let e = zip_end s.starts.now s.durations.now c.loop-start.yielded c.into_iter-start-iterator.result c.loop-start.start-iterator c.next.new.self _ (search rules) (search rules) c.loop-start.yielded_by c.in-None.is c.next.ensures.steps in
    let all : length c.loop-start.yielded ≡ length s.starts.now = omega (arith, e, s.slidable.long) in
    c.loop-start.invariant ∙ ap (total (common_at (tasks_at s.starts.now s.durations.now) s.«length» c.args.x)) all
