-- Below 2^31 the cast keeps the value.
use native.Mathlib.Omega.{arith}
use mir.Syntax.{w32}
use mir.ValLaws.{to_z_pos}
use Rattle.integers.proofs.numbers.word_of.Goals as goal

pub returns : goal.returns
returns c = to_z_pos w32 c.args.n (omega arith)
