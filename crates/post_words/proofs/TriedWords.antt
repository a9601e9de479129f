-- What `usize::try_from` answers of a word: the natural number that the word is, where it is one.
use Rattle.std.proofs.Common.{◌≡◌, ℕ, Option, Some, None, Result, Ok, Err, SFits, arith, subst}
use Rattle.std.specs.Prelude.{ℤ, pos, negsuc, nat_abs, ◌≤ℤ◌, OkIff}
use Rattle.std.specs.Int.{FitsUnsignedBits}
use Rattle.std.specs.Result.{result_ok}
use mir.Syntax.{w32}
use mir.Val.{to_z, of_z}
use Rattle.integers.proofs.Ints.{ints, up, dn, back}

-- a natural number of 32 bits fits
fits_nat : (x : ℤ) → SFits w32 x → pos 0 ≤ℤ x → FitsUnsignedBits 64 x
unfolding up dn
fits_nat (pos n) f h = omega (arith, f.sfits)
fits_nat (negsuc n) f h = absurd (omega ints)

fits_only : (x : ℤ) → FitsUnsignedBits 64 x → pos 0 ≤ℤ x
unfolding up dn
fits_only (pos n) f = omega ints
fits_only (negsuc n) f = absurd f

module _ {E : Type 0} (x : ℤ) (r : Result ℕ E) (fits : SFits w32 x) (is : OkIff r (FitsUnsignedBits 64 (to_z w32 (of_z w32 x))) (nat_abs (to_z w32 (of_z w32 x)))) where
  here : OkIff r (FitsUnsignedBits 64 x) (nat_abs x)
  here = subst (λ (y : ℤ). OkIff r (FitsUnsignedBits 64 y) (nat_abs y)) (back fits) is

  pub natural : (n : ℕ) → Some n ≡ result_ok r → (pos 0 ≤ℤ x) × (n ≡ nat_abs x)
  natural n e = each r here e
    where
      each : (r : Result ℕ E) → OkIff r (FitsUnsignedBits 64 x) (nat_abs x) → Some n ≡ result_ok r → (pos 0 ≤ℤ x) × (n ≡ nat_abs x)
      each (Ok m) p e = (fits_only x p.0, cc)
      each (Err w) p e = cc

  pub negative : ◌≡◌ {A = Option ℕ} None (result_ok r) → pos 0 ≤ℤ x → ⊥
  negative e h = each r here e
    where
      each : (r : Result ℕ E) → OkIff r (FitsUnsignedBits 64 x) (nat_abs x) → ◌≡◌ {A = Option ℕ} None (result_ok r) → ⊥
      each (Ok m) p e = cc
      each (Err w) p e = p (fits_nat x fits h)
