-- The first walk gives ω and r, the second ω' inside it; the atoms of ω and then the task's own are those of `propagation`.
use Rattle.std.proofs.Common.{rules, of_calls, arith}
use mathlib.Core.Path.{◌≡◌, refl, ap, ◌∙◌}
use Prim.Native.Nat.{ℕ, ◌+◌, ◌-◌, ◌*◌, ◌≤◌, min}
use lib.ListN.{length, get_or}
use Rattle.explanations.specs.Walks.{Precedes, Known, StopsAt}
use Rattle.explanations.specs.Leaves.{white_of, task_at, tasks_between}
use Rattle.explanations.specs.Explanations.{PropagationExplainable}
use Rattle.explanations.proofs.LeafWalk.{all_leaves}
use Rattle.post_words.proofs.StoredAtoms.{stored_length}
use Rattle.explanations.proofs.StoredReasons.{asks, stops_at, each_there, white_writable, propagation_stored, Reach, post_walk, bound_walk, reach, last_room}
use Rattle.explanations.proofs.explanations.create_propagation_explanation.Goals.{Start, After-walk-omega, After-task, After-min-r, After-write_bounds-at}
use Rattle.explanations.proofs.explanations.create_propagation_explanation.Goals as goal

-- what is asked, of the leaves
given : (c : Start) → let a = c.args in
    PropagationExplainable (length a.atoms.now) a.k (tasks_between a.theta 0 a.theta.n) a.theta.est.now a.theta.durations.now a.p_theta a.lct_j a.propagated_task a.new_bound
given c = rw (all_leaves (white_of c.args.theta) (task_at c.args.theta) c.args.theta.n) at c.requires

stops : (c : After-walk-omega) → let t = c.args.theta in let i = c.args.propagated_task in
    StopsAt (white_of t) (task_at t) (Precedes t.est.now c.args.lct_j (get_or t.est.now i 0) (get_or t.durations.now i 0)) t.durations.now 0 t.n c.walk-omega.result.first.0
    c.walk-omega.result.lasts
stops c =
    let t = c.args.theta in
    let i = c.args.propagated_task in
    stops_at c.walk-omega.ensures (λ k q h. search of_calls)
    (λ k q h over. (let past : min (get_or t.est.now i 0) (get_or t.est.now k 0) + q + get_or t.durations.now i 0 ≤ c.args.lct_j = search of_calls in omega arith))

-- what ω and i pass lct by,
early : (c : After-min-r) → let t = c.args.theta in
    c.min-r.result ≡ min (get_or t.est.now c.args.propagated_task 0) (get_or t.est.now (task_at t c.walk-omega.result.first.0) 0)
early c = let t = c.args.theta in c.min-r.ensures ∙ ap (λ (k : ℕ). min (get_or t.est.now c.args.propagated_task 0) (get_or t.est.now k 0)) c.task.ensures

numbers : (c : After-min-r) → Reach c.args.lct_j c.walk-omega.result.lasts (get_or c.args.theta.durations.now c.args.propagated_task 0) c.min-r.result
numbers c = let past = goal.at.After-min-r c in reach (given past.Start) (stops past.After-walk-omega) (early c)

-- and that there is room for the last atom
room : (c : After-write_bounds-at) → 3 * c.write_bounds-at.result + 3 ≤ length c.write_bounds-at.new.atoms
room c =
    let past = goal.at.After-write_bounds-at c in
    let r = c.min-r.result in
    last_room (given past.Start) (stops past.After-walk-omega) r (r + c.walk-omega.result.lasts + get_or c.args.theta.durations.now c.args.propagated_task 0 - 1) refl
    c.write_bounds-at.ensures

known : (c : After-task) → let t = c.args.theta in Known t.est.now t.durations.now c.task.result
known c =
    let past = goal.at.After-task c in
    let t = c.args.theta in
    rw c.task.ensures (each_there (stops past.After-walk-omega) (Known t.est.now t.durations.now) (given past.Start).white.known)

pub offset_bounds-theta-task : goal.offset_bounds-theta-task
offset_bounds-theta-task c = omega (arith, (known c).task)

pub bounds-theta-task : goal.bounds-theta-task
bounds-theta-task c = (known c).start

pub overflow_add-last : goal.overflow_add-last
overflow_add-last c = omega (arith, numbers (goal.at.overflow_add-last c).After-min-r)

pub overflow_add-last-2 : goal.overflow_add-last-2
overflow_add-last-2 c = omega (arith, numbers (goal.at.overflow_add-last-2 c).After-min-r)

pub write_bounds-at-requires : goal.write_bounds-at-requires
write_bounds-at-requires c =
    let past = goal.at.write_bounds-at-requires c in
    let given = given past.Start in
    let s = stops past.After-walk-omega in
    (bound_walk given s, white_writable s given.white (omega (arith, numbers past.After-min-r)) (omega (arith, given.room)), omega (arith, s.small))

pub write_reason_atom-requires : goal.write_reason_atom-requires
write_reason_atom-requires c = (room (goal.at.write_reason_atom-requires c).After-write_bounds-at, c.requires.known.task)

pub overflow_add-result : goal.overflow_add-result
overflow_add-result c = omega (arith, room (goal.at.overflow_add-result c).After-write_bounds-at, stored_length c.write_bounds-at.ensures)

pub returns : goal.returns
returns c =
    let past = goal.at.returns c in
    let t = c.args.theta in
    rw (all_leaves (white_of t) (task_at t) t.n)
    (propagation_stored t.est.now (given past.Start).white.total c.args.propagated_task c.args.new_bound c.args.lct_j c.min-r.result (stops past.After-walk-omega) (early past.After-min-r)
    c.write_bounds-at.ensures c.write_reason_atom.ensures)
