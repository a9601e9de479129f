use mathlib.Core.Path.{◌≡◌, sym, ap₂, ◌∙◌}
use Prim.Native.Nat.{◌<◌}
use native.Mathlib.Omega.{arith}
use Rattle.integers.specs.FilledLists.{no_tasks}
use Rattle.integers.proofs.FilledLists.{filled_none, filled_store}
use Rattle.trees.specs.Ects.{raised_to}
use Rattle.precedences.specs.PassArrays.{raised_there}
use Rattle.precedences.proofs.pass.raised_starts.Goals as goal

pub loop-i-preserved : goal.loop-i-preserved
loop-i-preserved c = λ J f.
    let l = c.loop-i in
    let q : l.i < c.args.m.now.count = omega arith in
    filled_store _ no_tasks _ _ _ (l.invariant J f) (c.raised.ensures ∙ ap₂ raised_to (f.held.start l.i q) (c.bound_of.ensures J f))

pub returns : goal.returns
returns c = λ J f.
    let l = c.loop-i in
    let e : l.i ≡ c.args.m.now.count = omega arith in
    rw e at (l.invariant J f)

pub loop-i-init : goal.loop-i-init
loop-i-init c = λ J f. sym (filled_none (raised_there J) no_tasks)

pub bound_of-requires : goal.bound_of-requires
bound_of-requires c = (c.requires.0, c.requires.1, omega arith)

pub bounds-m-i : goal.bounds-m-i
bounds-m-i c = omega (arith, c.requires.1.held.few)
