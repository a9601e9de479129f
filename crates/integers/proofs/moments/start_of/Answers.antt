-- In 64 bits the difference is the instant of the moment, and that fits 32 bits.
use mathlib.Core.Path.{◌≡◌, sym, ap, ◌∙◌, subst}
use lib.IntN.{ℤ, pos, ◌-ℤ◌}
use Prim.Native.Nat.{ℕ, ◌<◌, ◌^◌}
use native.Mathlib.Omega.{arith}
use mir.Syntax.{w32, w64}
use mir.Val.{SFits, to_z, of_z}
use mir.Facts.{sfits_widen}
use mir.ValLaws.{to_z-of_z, to_z_pos}
use Rattle.integers.specs.Moments.{instant, zero_at}
use Rattle.integers.proofs.MomentSums.{instant_fits}
use Rattle.integers.proofs.moments.start_of.Goals as goal

diff : (m : ℕ) → m < 2 ^ 32 → to_z w64 m -ℤ pos 2147483648 ≡ instant zero_at m
diff m h = ap (λ (z : ℤ). z -ℤ pos 2147483648) (to_z_pos w64 m (omega arith))

whole : (m : ℕ) → m < 2 ^ 32 → to_z w64 (of_z w64 (to_z w64 m -ℤ pos 2147483648)) ≡ instant zero_at m
whole m h = ap (λ (z : ℤ). to_z w64 (of_z w64 z)) (diff m h) ∙ to_z-of_z w64 (instant zero_at m) (sfits_widen tt (instant_fits m h))

pub overflow_sub-result : goal.overflow_sub-result
overflow_sub-result c = subst (SFits w64) (sym (diff _ c.ranges.m.fits)) (sfits_widen tt (instant_fits _ c.ranges.m.fits))

pub overflow_cast-result-2 : goal.overflow_cast-result-2
overflow_cast-result-2 c = subst (SFits w32) (sym (whole _ c.ranges.m.fits)) (instant_fits _ c.ranges.m.fits)

pub returns : goal.returns
returns c = ap (λ (z : ℤ). to_z w32 (of_z w32 z)) (whole _ c.ranges.m.fits) ∙ to_z-of_z w32 _ (instant_fits _ c.ranges.m.fits)
