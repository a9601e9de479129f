use mathlib.Core.Path.{ap, ◌∙◌}
use Prim.Native.Nat.{ℕ}
use native.Mathlib.Omega.{arith}
use lib.IntN.{ℤ, pos}
use lib.ListN.{get_or}
use mir.Syntax.{w32}
use Rattle.integers.proofs.Ints.{back_of}
use Rattle.scheduling.specs.Words.{no_atom}
use Rattle.plan_cli.specs.Lines.{why_of}
use Rattle.plan_cli.proofs.RunLines.{puts_first, puts_why_next, puts_why_all}
use borrow.Author.Rules.{rules}
use Rattle.plan_cli.proofs.lines.put_reason.Goals as goal

pub loop-k-init : goal.loop-k-init
loop-k-init c = (omega arith, λ atoms w. puts_first why_of no_atom _ _ atoms)

pub loop-k-preserved : goal.loop-k-preserved
loop-k-preserved c =
    let l = c.loop-k in
    let words = c.args.words.now in
    let word : ℕ → ℤ = λ i. get_or words i (pos 0) in
    let w = c.put_why-end in (
      omega (arith, w.ensures.within, l.invariant.0),
      puts_why_next words l.k (omega (arith, c.loop-k-test.true, c.atoms_in-n.ensures))
          (back_of w32 (word c.variable_at.result) (search rules) ∙ ap word c.variable_at.ensures)
          (back_of w32 (word c.kind_at.result) (search rules) ∙ ap word c.kind_at.ensures)
          (back_of w32 (word c.value_at.result) (search rules) ∙ ap word c.value_at.ensures)
          w.ensures.text l.invariant.1,
    )

pub returns-clause-text : goal.returns-clause-text
returns-clause-text c = puts_why_all c.args.words.now c.loop-k.k (omega (arith, c.loop-k-test.false, c.atoms_in-n.ensures)) c.loop-k.invariant.1
