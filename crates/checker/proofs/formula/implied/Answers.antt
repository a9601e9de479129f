-- With the propagating task cleared the array holds theta, which `gather` and `theta_ect` then speak of.
use mathlib.Core.Path.{◌≡◌, ◌∙◌}
use Prim.Native.Nat.{◌+◌, ◌^◌, ◌<◌, min}
use native.Mathlib.Omega.{arith}
use lib.ListN.{get_or}
use Rattle.scheduling.specs.Scheduling.{natural, Tasks, TaskSet}
use Rattle.checker.specs.Formulas.{◌but◌}
use Rattle.trees.specs.Ects.{moment_of}
use Rattle.checker.specs.BoundArrays.{Bounding, interval_of}
use Rattle.checker.proofs.EarlyAnswers.{joint_fits, room_before, after_where, theta_held}
use Rattle.checker.proofs.formula.implied.Goals.{After-gather, In-Some}
use Rattle.checker.proofs.formula.implied.Goals as goal

pub gather-requires : goal.gather-requires
gather-requires c = let (q, (J, Ω, d)) = c.requires in (J, Ω but c.args.propagating_task, record { held = theta_held c.args.propagating_task d.held; late = d.late })

said : (c : After-gather) {J : Tasks natural} {Ω : TaskSet} → let a = c.args in Bounding J Ω a.n a.theta.now a.durations.now
    → c.gather.result ≡ interval_of J (Ω but a.propagating_task) a.n
said c d = c.gather.ensures _ _ (record { held = theta_held c.args.propagating_task d.held; late = d.late })

-- where theta has a task, both sums fit
sums_fit : (c : In-Some) → let v = c.in-Some.v in let a = c.args in
    let most = min (get_or a.theta.now.est a.propagating_task 0) v.lb_interval + v.p in
    (most < 2 ^ 64) × (most + get_or a.durations.now a.propagating_task 0 < 2 ^ 64)
sums_fit c =
    let (q, (J, Ω, d)) = c.requires in
    joint_fits (theta_held c.args.propagating_task d.held) (said (goal.at.In-Some c).After-gather d) c.in-Some.v c.in-Some.is d.late c.args.propagating_task q

pub overflow_add-min : goal.overflow_add-min
overflow_add-min c = omega (arith, c.from-start.ensures, c.min.ensures, (sums_fit (goal.at.overflow_add-min c).In-Some).0)

pub overflow_add-min-2 : goal.overflow_add-min-2
overflow_add-min-2 c = omega (arith, c.from-start.ensures, c.from-p.ensures, c.min.ensures, (sums_fit (goal.at.overflow_add-min-2 c).In-Some).1)

pub returns-then-min-v : goal.returns-then-min-v
returns-then-min-v c J Ω d =
    room_before (theta_held c.args.propagating_task d.held) (said (goal.at.returns-then-min-v c).After-gather d) c.in-Some.v c.in-Some.is d.late c.args.propagating_task c.requires.0
    (omega (arith, c.from-start.ensures, c.from-p.ensures, c.min.ensures, c.if-min-v.true))

pub theta_ect-ect-requires : goal.theta_ect-ect-requires
theta_ect-ect-requires c = let (q, (J, Ω, d)) = c.requires in (J, Ω but c.args.propagating_task, theta_held c.args.propagating_task d.held)

pub returns : goal.returns
returns c J Ω d =
    let theta = theta_held c.args.propagating_task d.held in
    c.exceeds.ensures ∙ after_where theta (said (goal.at.returns c).After-gather d) c.in-Some.v c.in-Some.is d.late c.args.propagating_task c.requires.0
    (omega (arith, c.from-start.ensures, c.from-p.ensures, c.min.ensures, c.if-min-v.false)) (moment_of c.theta_ect-ect.result) (c.theta_ect-ect.ensures J (Ω but c.args.propagating_task) theta)
