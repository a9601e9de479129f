use mathlib.Core.Path.{◌≡◌, refl, sym, ◌∙◌}
use mathlib.Core.Bool.{Bool, true, false}
use Prim.Native.Nat.{◌+◌, ◌<◌}
use native.Mathlib.Omega.{arith}
use lib.ListN.{get_or}
use borrow.Author.Rules.{rules}
use Rattle.trees.specs.Ects.{exceeds}
use Rattle.propagator.specs.EdgeFinding.{EdgeFindable}
use Rattle.propagator.proofs.LeavingTheta.{one_at_most}
use Rattle.propagator.proofs.OuterLoop.{tested, shown, ect, any, first_level, all_done, over_asked, few_changes, overloads}
use Rattle.propagator.proofs.OuterLoop.{moves, passed_over, goes_on, one_more, one_emptied}
use Rattle.propagator.proofs.disjunctive_propagator.edge_finding.Goals.{After-leave_theta, In-loop-index, Then-overloads, then-needed+in-Ok, else-needed}
use Rattle.propagator.proofs.disjunctive_propagator.edge_finding.Goals as goal

-- inside the loop, a level follows
more : (c : In-loop-index) → c.loop-index.index + 1 < c.args.tasks.now.size.leaves
more c = omega (arith, c.loop-index.invariant.count)

pub loop-index-init : goal.loop-index-init
loop-index-init c = let s = c.requires in
    record {
      findable = s;
      level = λ s. rw c.new-w.ensures (first_level s);
      count = refl;
      small = any s;
      starts_length = refl;
      posts_length = refl;
      atoms_length = refl;
    }

-- the test of the level, by the leaves of whatever it began with
abbrev Test : In-loop-index → Bool → Type 0
Test c u = let a = c.args in let l = c.loop-index in
    (s : EdgeFindable a.tasks.now a.ect a.past a.nodes.now a.earliest.now a.posts.now a.atoms.now)
    → exceeds (ect s (l.invariant.level s) (more c)) (get_or a.tasks.now.lct.now (get_or a.tasks.now.sorted_tasks.now l.index 0) 0) ≡ u

passes : (c : Then-overloads) → Test (goal.at.Then-overloads c).In-loop-index true
passes c s = sym (c.overloads.ensures c.args.tasks.now.size.inner (tested s (c.loop-index.invariant.level s) (more (goal.at.Then-overloads c).In-loop-index))) ∙ c.if-overloads.true

quiet : (c : After-leave_theta) → Test (goal.at.After-leave_theta c).In-loop-index false
quiet c s = sym (c.overloads.ensures c.args.tasks.now.size.inner (tested s (c.loop-index.invariant.level s) (more (goal.at.After-leave_theta c).In-loop-index))) ∙ c.if-overloads.false

pub overloaded-requires : goal.overloaded-requires
overloaded-requires c =
    let past = goal.at.overloaded-requires c in
    let v = c.loop-index.invariant in
    let l = v.level v.findable in
    let over = passes past.Then-overloads v.findable in
    (shown v.findable l (more past.In-loop-index) over, over_asked v.findable l (more past.In-loop-index) over)

pub returns-then-overloads : goal.returns-then-overloads
returns-then-overloads c =
    let past = goal.at.returns-then-overloads c in
    λ s.
    let l = c.loop-index.invariant.level s in
    overloads s l (more past.In-loop-index) (passes past.Then-overloads s) (c.overloaded.ensures (shown s l (more past.In-loop-index) (passes past.Then-overloads s)))

pub leave_theta-requires : goal.leave_theta-requires
leave_theta-requires c =
    let v = c.loop-index.invariant in
    moves v.findable (v.level v.findable) (more (goal.at.leave_theta-requires c).In-loop-index)

pub counted-w-requires : goal.counted-w-requires
counted-w-requires c =
    let v = c.loop-index.invariant in
    omega (arith, few_changes v.findable (v.level v.findable) (more (goal.at.counted-w-requires c).In-loop-index), c.from-turns_known.ensures, one_at_most c.is_turn_known-taken.result)

pub consider_all-requires : goal.consider_all-requires
consider_all-requires c =
    let past = goal.at.consider_all-requires c in
    let v = c.loop-index.invariant in
    goes_on v.findable (v.level v.findable) (more past.In-loop-index) (quiet past.After-leave_theta v.findable) c.loop-index.needed c.is_turn_known-taken.ensures c.leave_theta.ensures c.from-turns_known.ensures
    c.counted-w.ensures c.if-needed.true

pub loop-index-preserved : goal.loop-index-preserved
loop-index-preserved c =
    let past = goal.at.loop-index-preserved c in
    let v = c.loop-index.invariant in
    record {
      findable = v.findable;
      level = λ s. elim c.if-needed.branch [
        | then-needed+in-Ok w ↦ (let g = goes_on s (v.level s) (more past.In-loop-index) (quiet past.After-leave_theta s) c.loop-index.needed c.is_turn_known-taken.ensures c.leave_theta.ensures
            c.from-turns_known.ensures c.counted-w.ensures w.if-needed.true in
            rw (w.nodes-is, w.earliest-is, w.posts-is, w.atoms-is, w.w-is, w.last_ect_bar-is)
            (one_more s (v.level s) (more past.In-loop-index) (quiet past.After-leave_theta s) c.loop-index.needed c.is_turn_known-taken.ensures c.leave_theta.ensures
            c.from-turns_known.ensures c.counted-w.ensures w.if-needed.true w.in-Ok.is (w.consider_all.ensures g) w.ect_bar_moment-last_ect_bar.ensures))
        -- a level without a candidate
        | else-needed w ↦ rw (w.nodes-is, w.earliest-is, w.posts-is, w.atoms-is, w.w-is, w.last_ect_bar-is)
            (passed_over s (v.level s) (more past.In-loop-index) (quiet past.After-leave_theta s) c.loop-index.needed c.is_turn_known-taken.ensures c.leave_theta.ensures
            c.from-turns_known.ensures c.counted-w.ensures w.if-needed.false)
      ];
      count = v.count;
      small = more past.In-loop-index;
      starts_length = search rules;
      posts_length = search rules;
      atoms_length = search rules;
    }

pub returns-in-Err : goal.returns-in-Err
returns-in-Err c =
    let past = goal.at.returns-in-Err c in
    λ s.
    let l = c.loop-index.invariant.level s in
    let g = goes_on s l (more past.In-loop-index) (quiet past.After-leave_theta s) c.loop-index.needed c.is_turn_known-taken.ensures c.leave_theta.ensures c.from-turns_known.ensures c.counted-w.ensures c.if-needed.true in
    one_emptied s l (more past.In-loop-index) (quiet past.After-leave_theta s) c.loop-index.needed c.is_turn_known-taken.ensures c.leave_theta.ensures c.from-turns_known.ensures c.counted-w.ensures c.if-needed.true c.consider_all.new.nodes c.in-Err.is (c.consider_all.ensures g) c.finished.ensures

pub returns : goal.returns
returns c = λ s. all_done s (c.loop-index.invariant.level s) (omega (arith, c.loop-index.invariant.count)) c.finished-2.ensures
