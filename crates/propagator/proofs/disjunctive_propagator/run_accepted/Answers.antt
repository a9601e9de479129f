-- The arrays and the tree of all tasks are what edge finding asks for, and what it leaves is the trace.
use mathlib.Core.Path.{◌≡◌, refl}
use Prim.Native.Nat.{◌<◌}
use native.Mathlib.Omega.{arith}
use lib.ListN.{length, get_or}
use borrow.Author.Rules.{rules}
use Rattle.integers.specs.Limits.{TASKS}
use Rattle.trees.proofs.Heights.{few_inner, sized}
use Rattle.propagator.proofs.InitialArrays.{left, key_small, keys_small, first_known, fillable, begun, findable}
use Rattle.propagator.proofs.disjunctive_propagator.run_accepted.Goals.{Start, After-new-tree}
use Rattle.propagator.proofs.disjunctive_propagator.run_accepted.Goals as goal

-- the durations have TASKS places
long : (c : Start) → length c.args.«record».now.durations ≡ TASKS
long c = search rules

-- the first task of the order is one
known : (u : After-new-tree) → get_or u.sort_numbers_down.new.order 0 0 < TASKS
known u = let p = u.requires in first_known p (long (goal.at.After-new-tree u).Start) u.moments_of.ensures u.moments_of-2.ensures u.completions.ensures
    u.sort_with_ranks.ensures.0 u.sort_numbers_down.ensures

pub completions-requires : goal.completions-requires
completions-requires c =
    let p = c.requires in
    (p.lawful.few, key_small p (long (goal.at.completions-requires c).Start) c.moments_of.ensures c.moments_of-2.ensures)

pub sort_numbers_down-requires : goal.sort_numbers_down-requires
sort_numbers_down-requires c =
    let p = c.requires in
    (p.lawful.few, refl, keys_small p (long (goal.at.sort_numbers_down-requires c).Start) c.moments_of.ensures c.moments_of-2.ensures c.completions.ensures)

pub invariant_of-tasks : goal.invariant_of-tasks
invariant_of-tasks c =
    let few = c.requires.lawful.few in record { few_tasks = few; few_nodes = few_inner few (sized c.new-tree.ensures.size refl) }

pub fill-ect-requires : goal.fill-ect-requires
fill-ect-requires c = let p = c.requires in
    fillable p (long (goal.at.fill-ect-requires c).Start) c.moments_of.ensures c.moments_of-2.ensures c.completions.ensures
    c.sort_with_ranks.ensures.0 c.sort_numbers_down.ensures c.new-tree.ensures c.sort_with_ranks.ensures.1

pub join_where_past-past-requires : goal.join_where_past-past-requires
join_where_past-past-requires c = let p = c.requires in
    begun p (long (goal.at.join_where_past-past-requires c).Start) c.moments_of.ensures c.moments_of-2.ensures c.completions.ensures
    c.sort_with_ranks.ensures.0 c.sort_numbers_down.ensures c.new-tree.ensures c.sort_with_ranks.ensures.1
    c.fill-ect.ensures

pub returns : goal.returns
returns c =
    let p = c.requires in
    let long = long (goal.at.returns c).Start in
    left p long refl refl (c.edge_finding.ensures (findable p long c.moments_of.ensures c.moments_of-2.ensures c.completions.ensures
    c.sort_with_ranks.ensures.0 c.sort_numbers_down.ensures c.new-tree.ensures c.sort_with_ranks.ensures.1
    c.fill-ect.ensures c.join_where_past-past.ensures refl refl))

pub offset_bounds-lct-sorted_tasks : goal.offset_bounds-lct-sorted_tasks
offset_bounds-lct-sorted_tasks c = omega (arith, known (goal.at.offset_bounds-lct-sorted_tasks c).After-new-tree)

pub bounds-lct-sorted_tasks : goal.bounds-lct-sorted_tasks
bounds-lct-sorted_tasks c = known (goal.at.bounds-lct-sorted_tasks c).After-new-tree

pub edge_finding-requires : goal.edge_finding-requires
edge_finding-requires c = let p = c.requires in
    findable p (long (goal.at.edge_finding-requires c).Start) c.moments_of.ensures c.moments_of-2.ensures c.completions.ensures
    c.sort_with_ranks.ensures.0 c.sort_numbers_down.ensures c.new-tree.ensures c.sort_with_ranks.ensures.1
    c.fill-ect.ensures c.join_where_past-past.ensures refl refl
