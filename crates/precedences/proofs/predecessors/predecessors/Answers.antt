use mathlib.Core.Path.{◌≡◌, refl, sym}
use native.Mathlib.Omega.{arith}
use Rattle.integers.proofs.FilledLists.{filled_none, filled_store}
use Rattle.precedences.proofs.AcceptedArrays.{end_fits}
use Rattle.precedences.proofs.predecessors.predecessors.Goals as goal

pub overflow_add-end : goal.overflow_add-end
overflow_add-end c = record { fits = end_fits c.requires.1 c.args.i c.requires.2 }

pub loop-j-preserved : goal.loop-j-preserved
loop-j-preserved c =
    let l = c.loop-j in
    (l.invariant.0, filled_store _ _ _ _ _ l.invariant.1 c.precedes.ensures)

pub returns : goal.returns
returns c =
    let l = c.loop-j in
    let e : l.j ≡ c.args.m.now.count = omega arith in
    rw e at l.invariant.1

pub loop-j-init : goal.loop-j-init
loop-j-init c = (refl, sym (filled_none _ _))
