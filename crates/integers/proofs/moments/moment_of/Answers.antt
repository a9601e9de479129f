-- Widened to 64 bits the sum cannot overflow, and it is the moment, which fits 32 bits again.
use mathlib.Core.Path.{◌≡◌, sym, ap, ◌∙◌, subst}
use lib.IntN.{ℤ, pos, ◌+ℤ◌, nat_abs}
use lib.Signed.{non_neg}
use lib.Dec.{T}
use native.Mathlib.Omega.{arith}
use mir.Syntax.{w32, w64}
use mir.Val.{SFits, Fits, to_z, of_z}
use mir.Facts.{sfits_widen}
use mir.ValLaws.{to_z-of_z}
use Rattle.integers.specs.Moments.{moment, zero_at}
use Rattle.integers.proofs.MomentSums.{moment_below, shifted}
use Rattle.integers.proofs.moments.moment_of.Goals as goal

-- the machine's sum is the moment
sum : (z : ℤ) → SFits w32 z → to_z w64 (of_z w64 (to_z w32 (of_z w32 z))) +ℤ pos 2147483648 ≡ pos (moment zero_at z)
sum z h = ap (λ (x : ℤ). to_z w64 (of_z w64 x) +ℤ pos 2147483648) (to_z-of_z w32 z h) ∙ ap (λ (x : ℤ). x +ℤ pos 2147483648) (to_z-of_z w64 z (sfits_widen tt h)) ∙ shifted h

fits : (z : ℤ) → SFits w32 z → SFits w64 (pos (moment zero_at z))
fits z h = record { sfits = omega (arith, moment_below h) }

whole : (z : ℤ) → SFits w32 z → to_z w64 (of_z w64 (to_z w64 (of_z w64 (to_z w32 (of_z w32 z))) +ℤ pos 2147483648)) ≡ pos (moment zero_at z)
whole z h = ap (λ (x : ℤ). to_z w64 (of_z w64 x)) (sum z h) ∙ to_z-of_z w64 (pos (moment zero_at z)) (fits z h)

pub overflow_cast-result : goal.overflow_cast-result
overflow_cast-result c = subst (SFits w64) (sym (to_z-of_z w32 c.args.x c.ranges.x)) (sfits_widen tt c.ranges.x)

pub overflow_add-result : goal.overflow_add-result
overflow_add-result c = subst (SFits w64) (sym (sum _ c.ranges.x)) (fits _ c.ranges.x)

pub overflow_cast-result-2 : goal.overflow_cast-result-2
overflow_cast-result-2 c = subst (λ (z : ℤ). T (non_neg z) × Fits w32 (nat_abs z)) (sym (whole _ c.ranges.x)) (tt, record { fits = omega (arith, moment_below c.ranges.x) })

pub returns : goal.returns
returns c = ap nat_abs (whole _ c.ranges.x)
