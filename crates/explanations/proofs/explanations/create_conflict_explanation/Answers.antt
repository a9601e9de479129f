-- ω passes lct (`overflow`), so that delta and its two shares are natural numbers; the atoms are those of `conflict`.
use Rattle.std.proofs.Common.{rules, of_calls, arith}
use mathlib.Core.Path.{refl, ap}
use Prim.Native.Nat.{ℕ, ◌≤◌, ◌+◌}
use lib.ListN.{length, get_or}
use Rattle.explanations.specs.Walks.{Known, StopsAt}
use Rattle.explanations.specs.Leaves.{white_of, task_at, tasks_between}
use Rattle.explanations.specs.Explanations.{Overloads, ConflictExplainable}
use Rattle.explanations.proofs.LeafWalk.{all_leaves}
use Rattle.explanations.proofs.StoredReasons.{asks, stops_at, each_there, white_writable, conflict_stored, Overflow, overload_walk, overflow}
use Rattle.explanations.proofs.explanations.create_conflict_explanation.Goals.{Start, After-walk-omega, After-task}
use Rattle.explanations.proofs.explanations.create_conflict_explanation.Goals as goal

-- what is asked, of the leaves
given : (c : Start) → let a = c.args in ConflictExplainable (length a.atoms.now) a.k (tasks_between a.theta 0 a.theta.n) a.theta.est.now a.theta.durations.now a.p_theta a.lct
given c = rw (all_leaves (white_of c.args.theta) (task_at c.args.theta) c.args.theta.n) at c.requires

stops : (c : After-walk-omega) → let t = c.args.theta in StopsAt (white_of t) (task_at t) (Overloads t.est.now c.args.lct) t.durations.now 0 t.n c.walk-omega.result.first.0 c.walk-omega.result.lasts
stops c = stops_at c.walk-omega.ensures (λ k q h. search of_calls) (λ k q h over. (let past : get_or c.args.theta.est.now k 0 + q ≤ c.args.lct = search of_calls in omega arith))

numbers : (c : After-task) → Overflow c.args.lct c.walk-omega.result.lasts (get_or c.args.theta.est.now c.task.result 0)
numbers c = let past = goal.at.After-task c in rw c.task.ensures (overflow (given past.Start) (stops past.After-walk-omega) refl)

known : (c : After-task) → let t = c.args.theta in Known t.est.now t.durations.now c.task.result
known c =
    let past = goal.at.After-task c in
    let t = c.args.theta in
    rw c.task.ensures (each_there (stops past.After-walk-omega) (Known t.est.now t.durations.now) (given past.Start).white.known)

pub offset_bounds-theta-task : goal.offset_bounds-theta-task
offset_bounds-theta-task c = omega (arith, (known c).task)

pub bounds-theta-task : goal.bounds-theta-task
bounds-theta-task c = (known c).start

pub overflow_add-delta : goal.overflow_add-delta
overflow_add-delta c = omega (arith, numbers (goal.at.overflow_add-delta c).After-task)

pub overflow_add-delta-2 : goal.overflow_add-delta-2
overflow_add-delta-2 c = omega (arith, numbers (goal.at.overflow_add-delta-2 c).After-task)

pub overflow_sub-low : goal.overflow_sub-low
overflow_sub-low c = omega (arith, numbers (goal.at.overflow_sub-low c).After-task)

pub overflow_add-high : goal.overflow_add-high
overflow_add-high c = omega (arith, numbers (goal.at.overflow_add-high c).After-task)

pub write_within-requires : goal.write_within-requires
write_within-requires c =
    let past = goal.at.write_within-requires c in
    let given = given past.Start in
    (white_writable (stops past.After-walk-omega) given.white (omega (arith, numbers past.After-task)) given.room, omega (arith, c.walk-omega.ensures.small), c.args.theta.tasks)

pub returns : goal.returns
returns c =
    let past = goal.at.returns c in
    let t = c.args.theta in
    rw (all_leaves (white_of t) (task_at t) t.n)
    (conflict_stored t.est.now (given past.Start).white.total c.args.lct (stops past.After-walk-omega) (ap (λ (k : ℕ). get_or t.est.now k 0) c.task.ensures) c.write_within.ensures)
