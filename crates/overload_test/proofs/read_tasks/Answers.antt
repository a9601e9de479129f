use mathlib.Core.Path.{◌≡◌, sym, ◌∙◌}
use Prim.Native.Nat.{◌+◌, ◌<◌}
use native.Mathlib.Omega.{arith}
use Rattle.trees.specs.Ects.{moment_of}
use Rattle.overload_test.specs.ReadArrays.{Readable}
use Rattle.overload_test.specs.ReadTasks.{overloads_at}
use Rattle.overload_test.proofs.NextTask.{Shows, shown, none_shown, all_answer, task_known, has_task, was_added, test_is}
use Rattle.overload_test.proofs.Answers.{answer_yes, answer_on, answer_no}
use Rattle.overload_test.proofs.read_tasks.Goals.{After-add, After-exceeds}
use Rattle.overload_test.proofs.read_tasks.Goals as goal

-- the tree when a task is added
added : (c : After-add) → let a = c.args in (f : Readable a.inner a.nodes.now a.mapping.now a.tasks.now a.m.now) → Shows f (c.loop-k.k + 1) c.add.new.nodes
added c f =
    let k = c.loop-k.k in
    let q : k < c.args.m.now.count = omega arith in
    let placed = c.leaf_of-place.ensures in
    let t = c.loop-k.invariant.tree f in
    was_added f k q placed t (c.add.ensures (shown f k t) (has_task f k q placed))

-- the test is the definition's, where the tree has the task
tested : (c : After-exceeds) → let a = c.args in (f : Readable a.inner a.nodes.now a.mapping.now a.tasks.now a.m.now)
    → Shows f (c.loop-k.k + 1) c.add.new.nodes → c.exceeds.result ≡ overloads_at f.J c.loop-k.k
tested c f t =
    let k = c.loop-k.k in
    let q : k < c.args.m.now.count = omega arith in
    c.exceeds.ensures ∙ test_is f k q t (moment_of c.ect.result) (c.ect.ensures c.args.inner (shown f (k + 1) t))

pub loop-k-init : goal.loop-k-init
loop-k-init c = record { readable = c.requires; known = task_known c.requires; tree = λ f. none_shown f; answer = λ f. all_answer f }

pub add-requires : goal.add-requires
add-requires c =
    let v = c.loop-k.invariant in
    (shown v.readable c.loop-k.k (v.tree v.readable), has_task v.readable c.loop-k.k (omega arith) c.leaf_of-place.ensures)

pub returns-then-exceeds : goal.returns-then-exceeds
returns-then-exceeds c = λ f.
    sym (c.loop-k.invariant.answer f ∙ answer_yes f.J c.args.m.now.count c.loop-k.k (omega arith)
    (sym (tested (goal.at.returns-then-exceeds c).After-exceeds f (added (goal.at.returns-then-exceeds c).After-add f)) ∙ c.if-exceeds.true))

pub loop-k-preserved : goal.loop-k-preserved
loop-k-preserved c =
    let k = c.loop-k.k in
    let v = c.loop-k.invariant in
    record {
      readable = v.readable;
      known = v.known;
      tree = added (goal.at.loop-k-preserved c).After-add;
      answer = λ f. v.answer f ∙ answer_on f.J c.args.m.now.count k (omega arith) (sym (tested (goal.at.loop-k-preserved c).After-exceeds f (added (goal.at.loop-k-preserved c).After-add f)) ∙ c.if-exceeds.false);
    }

pub returns : goal.returns
returns c = λ f. sym (c.loop-k.invariant.answer f ∙ answer_no f.J c.args.m.now.count c.loop-k.k (omega arith))
