use mathlib.Core.Path.{◌≡◌, ap, ◌∙◌}
use mathlib.Core.List.{[], ◌∷◌}
use Prim.Native.Nat.{ℕ, ◌+◌, ◌*◌, ◌≤◌, ◌<◌}
use native.Mathlib.Omega.{arith}
use lib.ListN.{length}
use lib.Seq.{length-sets}
use borrow.Author.Rules.{rules}
use Rattle.explanations.specs.Walks.{between}
use Rattle.explanations.specs.Leaves.{white_of, task_at, tasks_between}
use Rattle.explanations.specs.WrittenAtoms.{Ends}
use Rattle.explanations.proofs.LeafWalk.{between_none, between_white, next_same}
use Rattle.explanations.proofs.WrittenAtoms.{Written, lower, written_none, written_more, written_all}
use Rattle.explanations.proofs.walks.write_within.Goals.{After-task-t, After-write_reason_atom, At-loop-x}
use Rattle.explanations.proofs.walks.write_within.Goals as goal

-- what is still to be written: the task of the leaf that the walk has reached, and those after it
here : (c : After-task-t) → let a = c.args in let l = c.loop-x in
    Written a.atoms.now a.k (tasks_between a.theta c.next-x.result.0 a.to) a.theta.durations.now a.low a.high l.atoms
    (c.task-t.result ∷ tasks_between a.theta (l.x.0 + 1) a.to) l.at
here c =
    let a = c.args in
    let l = c.loop-x in
    let small : l.x.0 < a.to = omega arith in
    rw (between_white (white_of a.theta) (task_at a.theta) l.x.0 a.to small (l.invariant.1 small), ← c.task-t.ensures) at l.invariant.2

-- that task can end in time, and there is room for its atoms
task : (c : After-task-t) → Ends c.args.theta.durations.now c.args.high c.task-t.result
task c = (here c).writable.ends 0 (omega arith)

room : (c : After-task-t) → 3 * c.loop-x.at + 6 ≤ length c.loop-x.atoms
room c = omega (arith, (here c).writable.room)

-- the slice's length after the words of its first atom
length_first : (c : After-write_reason_atom) → length c.write_reason_atom.new.atoms ≡ length c.loop-x.atoms
length_first c = let a = c.args in let l = c.loop-x in
    ap length c.write_reason_atom.ensures ∙ length-sets l.atoms (3 * l.at) (lower a.theta.durations.now a.low a.high c.task-t.result)

pub loop-x-init : goal.loop-x-init
loop-x-init c =
    let a = c.args in
    let next = c.next-x.ensures in
    (next.to, next.found, written_none (rw (next_same (white_of a.theta) (task_at a.theta) next) at c.requires.0))

pub write_reason_atom-requires-in-loop-x : goal.write_reason_atom-requires-in-loop-x
write_reason_atom-requires-in-loop-x c =
    let past = goal.at.write_reason_atom-requires-in-loop-x c in
    (omega (arith, length_first past.After-write_reason_atom, room past.After-task-t), (task past.After-task-t).task)

pub loop-x-preserved : goal.loop-x-preserved
loop-x-preserved c =
    let past = goal.at.loop-x-preserved c in
    let a = c.args in
    let next = c.next-x-in-loop-x.ensures in (
      next.to,
      next.found,
      rw (next_same (white_of a.theta) (task_at a.theta) next) at (written_more (here past.After-task-t) c.write_reason_atom.ensures c.write_reason_atom-in-loop-x.ensures),
    )

pub returns : goal.returns
returns c =
    let a = c.args in
    let l = c.loop-x in
    let white = white_of a.theta in
    let tasks = task_at a.theta in
    let all : l.x.0 ≡ a.to = omega (arith, l.invariant.0) in
    let none : between white tasks l.x.0 a.to ≡ [] = ap (λ (x : ℕ). between white tasks x a.to) all ∙ between_none white tasks a.to in
    rw (next_same white tasks c.next-x.ensures) (written_all (rw none at l.invariant.2))

pub write_reason_atom-requires : goal.write_reason_atom-requires
write_reason_atom-requires c =
    let past = goal.at.write_reason_atom-requires c in
    (omega (arith, room past.After-task-t), (task past.After-task-t).task)

pub offset_bounds-theta-t : goal.offset_bounds-theta-t
offset_bounds-theta-t c = omega (arith, task (goal.at.offset_bounds-theta-t c).After-task-t)

pub bounds-theta-t : goal.bounds-theta-t
bounds-theta-t c = (task (goal.at.bounds-theta-t c).After-task-t).duration

pub overflow_sub-high : goal.overflow_sub-high
overflow_sub-high c = (task (goal.at.overflow_sub-high c).After-task-t).short
