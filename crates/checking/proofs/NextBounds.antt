-- A bound at a value moves by one, up or down: what the machine reads is the value beside it, near the limits.
use mathlib.Core.Path.{◌≡◌, sym, subst}
use Prim.Native.Nat.{◌+◌}
use native.Mathlib.Omega.{arith}
use lib.IntN.{ℤ, ◌+ℤ◌}
use mir.Syntax.{w32}
use mir.Val.{SFits, to_z, of_z}
use Rattle.integers.specs.Limits.{VALUE}
use Rattle.integers.specs.WholeNumbers.{Within}
use Rattle.holes.proofs.BoundSteps.{step_fits, step_back, step_within}
use Rattle.integers.proofs.WholeNumbers.{wider}

module _ (value d : ℤ) (fits : SFits w32 value) (near : Within (VALUE + 1) value) (one : Within 1 d) where
  pub beside_fits : SFits w32 (to_z w32 (of_z w32 value) +ℤ d)
  beside_fits = step_fits value d fits (wider (VALUE + 1) (VALUE + 32) value (omega arith) near) one

  pub beside_is : to_z w32 (of_z w32 (to_z w32 (of_z w32 value) +ℤ d)) ≡ value +ℤ d
  beside_is = step_back value d fits (wider (VALUE + 1) (VALUE + 32) value (omega arith) near) one

  pub beside_near : Within (VALUE + 2) (to_z w32 (of_z w32 (to_z w32 (of_z w32 value) +ℤ d)))
  beside_near = subst (Within (VALUE + 2)) (sym beside_is) (step_within (VALUE + 1) value d near one)
