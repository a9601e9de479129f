use mathlib.Core.Path.{sym}
use Prim.Native.Nat.{ℕ, ◌+◌, ◌*◌}
use lib.IntN.{ℤ, pos}
use mir.Syntax.{w32}
use Rattle.integers.proofs.Ints.{back_of}
use lib.ListN.{get_or, replicate}
use Rattle.integers.specs.Limits.{TASKS}
use Rattle.integers.proofs.FilledLists.{filled_none, filled_store}
use borrow.Author.Rules.{rules}
use Rattle.plan_cli.proofs.input.column_of.Goals as goal

pub loop-i-init : goal.loop-i-init
loop-i-init c = sym (filled_none (λ k. get_or c.args.kept.now (3 * k + c.args.from) (pos 0)) (replicate TASKS (pos 0)))

pub loop-i-preserved : goal.loop-i-preserved
loop-i-preserved c =
    let l = c.loop-i in
    let f : ℕ → ℤ = λ k. get_or c.args.kept.now (3 * k + c.args.from) (pos 0) in
    filled_store f (replicate TASKS (pos 0)) l.out l.i _ l.invariant (back_of w32 (f l.i) (search rules))
