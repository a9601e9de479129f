use mathlib.Core.Path.{◌≡◌, sym, ◌∙◌}
use native.Mathlib.Omega.{arith}
use lib.ListN.{length}
use mir.Syntax.{w32}
use Rattle.integers.proofs.FilledLists.{filled_none, filled_store}
use Rattle.integers.proofs.Ints.{back_of}
use Rattle.precedences.specs.PredecessorArrays.{start_at}
use Rattle.precedences.proofs.pass.store.Goals as goal

pub loop-k-preserved : goal.loop-k-preserved
loop-k-preserved c =
    let l = c.loop-k in
    filled_store (start_at c.args.starts.now) c.args.earliest.now l.earliest l.k _ l.invariant (back_of w32 c.start_of.result c.start_of.type_inv ∙ c.start_of.ensures)

pub returns : goal.returns
returns c =
    let e : c.loop-k.k ≡ length c.args.earliest.now = omega arith in
    rw e at c.loop-k.invariant

pub loop-k-init : goal.loop-k-init
loop-k-init c = sym (filled_none _ _)
