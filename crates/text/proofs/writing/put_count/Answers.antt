-- A count has at most 20 digits.
use native.Mathlib.Omega.{arith}
use Rattle.text.proofs.Decimals.{natural_fits}
use Rattle.text.proofs.writing.put_count.Goals as goal

pub put_digits-requires : goal.put_digits-requires
put_digits-requires c = omega (arith, natural_fits 19 c.args.n (omega arith))

pub returns : goal.returns
returns c = record { text = c.put_digits.ensures; within = omega (arith, c.put_digits.ensures.end, natural_fits 19 c.args.n (omega arith)) }
