-- A number that is not negative keeps its value through the cast.
use mathlib.Core.Path.{sym, subst}
use lib.IntN.{ℤ, nat_abs}
use lib.Signed.{non_neg, yes_non_neg}
use lib.Dec.{T}
use mir.Syntax.{w32}
use mir.Val.{Fits}
use mir.Facts.{Fits-nat_abs}
use Rattle.integers.proofs.Ints.{back, nonneg_cast}
use Rattle.integers.proofs.numbers.nat_of.Goals as goal

pub overflow_cast-result : goal.overflow_cast-result
overflow_cast-result c = subst (λ (z : ℤ). T (non_neg z) × Fits w32 (nat_abs z)) (sym (back c.ranges.x)) (yes_non_neg c.requires, Fits-nat_abs tt c.ranges.x)

pub returns : goal.returns
returns c = nonneg_cast w32 c.ranges.x c.requires
