use mathlib.Core.Path.{ap}
use native.Mathlib.Omega.{arith}
use lib.IntN.{pos}
use lib.ListN.{get_or}
use mir.Syntax.{w32}
use Rattle.integers.proofs.Ints.{back_of}
use Rattle.plan_cli.specs.Lines.{spaced_one}
use Rattle.plan_cli.proofs.RunLines.{puts_as, puts_first, puts_next}
use borrow.Author.Rules.{rules}
use Rattle.plan_cli.proofs.lines.put_starts.Goals as goal

pub loop-start-init : goal.loop-start-init
loop-start-init c = (omega arith, puts_first spaced_one (pos 0) _ _ c.args.starts.now)

pub loop-start-preserved : goal.loop-start-preserved
loop-start-preserved c =
    let w = c.put_spaced-end in
    let l = c.loop-start in
    let xs = c.args.starts.now in (
      omega (arith, w.ensures.within, l.invariant.0),
      puts_next spaced_one (pos 0) xs l.start-index c.loop-start-test.true l.invariant.1
          (puts_as (ap spaced_one (back_of w32 (get_or xs l.start-index (pos 0)) (search rules))) w.ensures.text),
    )
