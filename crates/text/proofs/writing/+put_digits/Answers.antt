use mathlib.Core.Path.{ap}
use native.Mathlib.Omega.{arith}
use lib.ListN.{length}
use Rattle.text.proofs.Decimals.{natural_small, natural_large, natural_last}
use Rattle.text.proofs.PutBytes.{puts_one, puts_append}
use Rattle.text.proofs.writing.+put_digits.Goals as goal

pub bounds-out-at : goal.bounds-out-at
bounds-out-at t c = omega (arith, ap length (natural_small c.args.n (omega arith)))

pub returns-then-n-lt10 : goal.returns-then-n-lt10
returns-then-n-lt10 t c = rw (natural_small c.args.n (omega arith)) (puts_one _ _ _)

pub put_digits-last-requires : goal.put_digits-last-requires
put_digits-last-requires t c = (omega (arith, c.decreases), omega (arith, c.requires, natural_last c.args.n (omega arith)))

pub bounds-out-last : goal.bounds-out-last
bounds-out-last t c = omega (arith, natural_last c.args.n (omega arith), c.put_digits-last.ensures.end, c.put_digits-last.auto.out, c.requires)

pub overflow_add-result-2 : goal.overflow_add-result-2
overflow_add-result-2 t c = omega (arith, natural_last c.args.n (omega arith), c.put_digits-last.ensures.end, c.requires)

pub returns : goal.returns
returns t c = rw (natural_large c.args.n (omega arith)) (puts_append c.put_digits-last.ensures (puts_one _ _ _))
