-- Where the arms of the test meet, `Tried` holds: a post was made, or nothing was written and the bound is the start. The rest serves both.
use mathlib.Core.Path.{◌≡◌, ap, ◌∙◌}
use mathlib.Core.Logic.{inl, inr}
use Prim.Native.Nat.{ℕ}
use native.Mathlib.Omega.{arith}
use lib.ListN.{length, set}
use borrow.Author.Rules.{rules}
use Rattle.integers.proofs.Ints.{back_of}
use mir.Syntax.{w32}
use Rattle.propagator.specs.Candidates.{Considerable, ResponsibleFor}
use Rattle.propagator.proofs.ConsideredTask.{shown, few_changes, known, post_room, many_atoms, start_inside, may_clear, asked, Tried, tried_sizes, tried_changes, tried_emptied}
use Rattle.propagator.proofs.ConsideredTask.{tried_on}
use Rattle.propagator.proofs.disjunctive_propagator.consider.Goals.{Joined-new_bound-start, then-new_bound-start, else-new_bound-start}
use Rattle.propagator.proofs.disjunctive_propagator.consider.Goals as goal

pub post-w-requires : goal.post-w-requires
post-w-requires c =
    let a = c.requires in (
      shown a.1,
      asked a.1 a.2 c.raised_start-new_bound.result (c.raised_start-new_bound.ensures c.args.tasks.now.size.inner (shown a.1)) (omega arith),
      post_room a.1 a.2,
      many_atoms a.1 a.2,
    )

-- what stands where the arms meet
tried : (c : Joined-new_bound-start) → let a = c.args in
    (x : ℕ) (s : Considerable a.tasks.now a.lct a.nodes.now a.earliest.now a.posts.now a.atoms.now a.written) (r : ResponsibleFor s a.id.0 x)
    → Tried s r c.raised_start-new_bound.result (c.raised_start-new_bound.ensures a.tasks.now.size.inner (shown s)) c.if-new_bound-start.posts c.if-new_bound-start.atoms c.if-new_bound-start.w
tried c x s r = elim c.if-new_bound-start.branch [
  | then-new_bound-start w ↦ inl (w.if-new_bound-start.true, rw (w.posts-is, w.atoms-is, w.w-is) (w.post-w.ensures (shown s)))
  | else-new_bound-start w ↦ inr (w.if-new_bound-start.false, w.posts-is, w.atoms-is, w.w-is)
]

sizes : (c : Joined-new_bound-start) → let a = c.args in (length c.if-new_bound-start.posts ≡ length a.posts.now) × (length c.if-new_bound-start.atoms ≡ length a.atoms.now)
sizes c =
    let a = c.requires in
    tried_sizes a.1 a.2 c.raised_start-new_bound.result (c.raised_start-new_bound.ensures c.args.tasks.now.size.inner (shown a.1)) (tried c a.0 a.1 a.2)

pub offset_bounds-tasks-i-2 : goal.offset_bounds-tasks-i-2
offset_bounds-tasks-i-2 c = let a = c.requires in omega (arith, known a.1 a.2)

pub returns-then-new_bound-tasks : goal.returns-then-new_bound-tasks
returns-then-new_bound-tasks c =
    let past = goal.at.returns-then-new_bound-tasks c in
    λ x s r. tried_emptied s r c.raised_start-new_bound.result (c.raised_start-new_bound.ensures c.args.tasks.now.size.inner (shown s)) (tried past.Joined-new_bound-start x s r) (omega arith)

pub leaf_of-place-requires : goal.leaf_of-place-requires
leaf_of-place-requires c = let a = c.requires in known a.1 a.2

pub remove_from_lambda-requires : goal.remove_from_lambda-requires
remove_from_lambda-requires c = let a = c.requires in may_clear a.1 a.2 c.leaf_of-place.ensures

pub counted-requires : goal.counted-requires
counted-requires c =
    let past = goal.at.counted-requires c in
    let a = c.requires in
    omega (
      arith,
      tried_changes a.1 a.2 c.raised_start-new_bound.result (c.raised_start-new_bound.ensures c.args.tasks.now.size.inner (shown a.1)) (tried past.Joined-new_bound-start a.0 a.1 a.2),
      few_changes a.1,
    )

pub returns : goal.returns
returns c = λ x s r.
    let a = c.args in
    rw c.counted.ensures
    (tried_on s r c.raised_start-new_bound.result (c.raised_start-new_bound.ensures a.tasks.now.size.inner (shown s)) (tried (goal.at.returns c).Joined-new_bound-start x s r) (omega arith)
    (ap (set a.earliest.now a.id.0) (back_of w32 c.start_of.result c.start_of.type_inv ∙ c.start_of.ensures)) c.leaf_of-place.ensures
    c.remove_from_lambda.ensures)

pub offset_bounds-tasks-i : goal.offset_bounds-tasks-i
offset_bounds-tasks-i c = search (rules, known)

pub bounds-tasks-i : goal.bounds-tasks-i
bounds-tasks-i c = search (rules, known)

pub bounds-tasks-i-2 : goal.bounds-tasks-i-2
bounds-tasks-i-2 c = search (rules, known)

pub offset_bounds-earliest-i : goal.offset_bounds-earliest-i
offset_bounds-earliest-i c = let a = c.requires in omega (arith, known a.1 a.2)

pub bounds-earliest-i : goal.bounds-earliest-i
bounds-earliest-i c = search (rules, start_inside)
