-- A bound that is a hole moves by one, with no overflow near the limits.
use native.Mathlib.Omega.{arith}
use Rattle.integers.proofs.WholeNumbers.{wider, same_eq_z, other_eq_z}
use Rattle.std.proofs.lemmas.Int.{of_z-to_z}
use mathlib.Core.Path.{◌≡◌, sym, ap, ◌∙◌}
use mathlib.Core.Bool.{Bool, true, false, cond}
use Prim.Native.Nat.{ℕ, ◌+◌}
use lib.IntN.{ℤ, pos, negsuc, ◌+ℤ◌}
use mir.Syntax.{w32}
use mir.Val.{Fits, SFits, to_z, of_z}
use Rattle.integers.specs.Limits.{VALUE}
use Rattle.integers.proofs.Ints.{ints, up, dn, sumℤ, up_neg, dn_neg, fits_show, back}
use Rattle.integers.specs.WholeNumbers.{Within, eq_z}

moved_fits : (b o : ℤ) → Within (VALUE + 32) b → Within 1 o → SFits w32 (b +ℤ o)
unfolding up dn
moved_fits b o near small = fits_show w32 (b +ℤ o) (omega (ints, near, small, sumℤ b o)) (omega (ints, near, small, sumℤ b o))

module _ (b o : ℤ) (fits : SFits w32 b) (near : Within (VALUE + 32) b) (small : Within 1 o) where
  pub step_fits : SFits w32 (to_z w32 (of_z w32 b) +ℤ o)
  step_fits = rw (back fits) (moved_fits b o near small)

  pub step_back : to_z w32 (of_z w32 (to_z w32 (of_z w32 b) +ℤ o)) ≡ b +ℤ o
  step_back = rw (back fits) (back (moved_fits b o near small))

pub one_up : Within 1 (pos 1)
unfolding up dn
one_up = record { low = omega ints; high = omega ints }

pub one_down : Within 1 (negsuc 0)
unfolding up dn
one_down = record { low = omega ints; high = omega ints }

pub step_within : (n : ℕ) (v o : ℤ) → Within n v → Within 1 o → Within (n + 1) (v +ℤ o)
unfolding up dn
step_within n v o w s = record {
  low = omega (ints, w, s, sumℤ v o, up_neg (pos n), dn_neg (pos n), up_neg (pos (n + 1)), dn_neg (pos (n + 1)));
  high = omega (ints, w, s, sumℤ v o);
}

-- a bound that stays or moves by one
pub moved_within : (n : ℕ) (t : Bool) (b o : ℤ) → Within 1 o → Within n b → Within (n + 1) (cond t (b +ℤ o) b)
moved_within n true b o s w = step_within n b o w s
moved_within n false b o s w = wider n (n + 1) b (omega arith) w

-- The code compares the bits of the hole h and of the bound: a bound that is the hole moves, and another stays.
module _ (h : ℤ) (b : ℕ) (o : ℤ) (hole : SFits w32 h) (bound : Fits w32 b) where
  pub on_the_hole : of_z w32 h ≡ b → Within (VALUE + 32) (to_z w32 b) → Within 1 o → to_z w32 (of_z w32 (to_z w32 b +ℤ o)) ≡ cond (eq_z h (to_z w32 b)) (to_z w32 b +ℤ o) (to_z w32 b)
  on_the_hole e near small = rw (same_eq_z (sym (back hole) ∙ ap (to_z w32) e)) (back (moved_fits (to_z w32 b) o near small))

  pub off_the_hole : (of_z w32 h ≡ b → ⊥) → to_z w32 b ≡ cond (eq_z h (to_z w32 b)) (to_z w32 b +ℤ o) (to_z w32 b)
  off_the_hole n = rw (other_eq_z {a = h} {b = to_z w32 b} (λ e. n (ap (of_z w32) e ∙ of_z-to_z w32 b bound.fits)))
