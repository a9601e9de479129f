-- Order, sums and differences of whole numbers at or after −o are those of their moments.
use mathlib.Core.Path.{◌≡◌, ap, ◌∙◌}
use Prim.Native.Nat.{ℕ, zero, suc, ◌+◌, ◌≤◌, ◌<◌, ◌^◌, max}
use native.Mathlib.Omega.{arith}
use lib.IntN.{ℤ, pos, negsuc, ◌+ℤ◌}
use lib.Signed.{mag, ◌≤ℤ◌, ◌<ℤ◌}
use mir.Syntax.{w32}
use mir.Val.{SFits, to_z, of_z}
use Rattle.integers.specs.Moments.{moment, Above, instant, zero_at}
use Rattle.integers.proofs.Bools.{below_suc}
use Rattle.integers.proofs.Ints.{up, dn, ints, back, sumℤ, sub_law, up_neg, dn_neg, fits_up, fits_dn, fits_show}

-- A whole number and its moment, as one entry of omega's list: `omega (ints, at_moment o z h)`.
pub record AtMoment (o : ℕ) (z : ℤ) : Type 0 where
  pub from : dn z ≤ o + up z
  pub shift : moment o z + dn z ≡ o + up z

above_read : (o : ℕ) (z : ℤ) → Above o z → dn z ≤ o + up z
unfolding up dn
above_read o z h = omega (ints, h, up_neg (pos o), dn_neg (pos o))

pub at_moment : (o : ℕ) (z : ℤ) → Above o z → AtMoment o z
unfolding up dn
at_moment o (pos n) h = record { from = omega arith; shift = omega arith }
at_moment o (negsuc n) h = let q = above_read o (negsuc n) h in record { from = q; shift = omega arith }

pub above_show : (o : ℕ) (z : ℤ) → dn z ≤ o + up z → Above o z
unfolding up dn
above_show o z h = omega (ints, up_neg (pos o), dn_neg (pos o))

pub zero_above : (o : ℕ) → Above o (pos 0)
unfolding up dn
zero_above o = above_show o (pos 0) (omega arith)

module _ (o : ℕ) where
  pub above_up : (a b : ℤ) → a ≤ℤ b → Above o a → Above o b
  above_up a b h p = above_show o b (omega (ints, at_moment o a p))

  pub mono : (a b : ℤ) → a ≤ℤ b → moment o a ≤ moment o b
  unfolding up dn
  mono (pos a) (pos b) h = omega ints
  mono (pos a) (negsuc b) h = absurd (omega ints)
  mono (negsuc a) (pos b) h = omega arith
  mono (negsuc a) (negsuc b) h = omega ints

  pub reflect : (a b : ℤ) → Above o a → Above o b → moment o a ≤ moment o b → a ≤ℤ b
  reflect a b p q h = omega (ints, at_moment o a p, at_moment o b q)

  pub mono< : (a b : ℤ) → Above o a → Above o b → a <ℤ b → moment o a < moment o b
  mono< a b p q h = omega (ints, at_moment o a p, at_moment o b q)

  pub reflect< : (a b : ℤ) → Above o a → Above o b → moment o a < moment o b → a <ℤ b
  reflect< a b p q h = omega (ints, at_moment o a p, at_moment o b q)

  pub same : (a b : ℤ) → Above o a → Above o b → moment o a ≡ moment o b → a ≡ b
  same a b p q h = omega (ints, at_moment o a p, at_moment o b q)

  pub plus_above : (z : ℤ) (d : ℕ) → Above o z → Above o (z +ℤ pos d)
  unfolding up dn
  plus_above z d p = above_show o (z +ℤ pos d) (omega (ints, at_moment o z p, sumℤ z (pos d)))

  pub plus : (z : ℤ) (d : ℕ) → Above o z → moment o (z +ℤ pos d) ≡ moment o z + d
  unfolding up dn
  plus z d p = omega (ints, at_moment o z p, at_moment o (z +ℤ pos d) (plus_above z d p), sumℤ z (pos d))

  -- the whole number at a moment has that moment
  pub instant_above : (m : ℕ) → Above o (instant o m)
  instant_above m = above_show o (instant o m) (omega (arith, sub_law m o))

  pub moment_instant : (m : ℕ) → moment o (instant o m) ≡ m
  moment_instant m = omega (arith, sub_law m o, at_moment o (instant o m) (instant_above m))

  pub instant_moment : (z : ℤ) → Above o z → instant o (moment o z) ≡ z
  instant_moment z p = same (instant o (moment o z)) z (instant_above (moment o z)) p (moment_instant (moment o z))

-- some moment of 0 is far enough back for finitely many whole numbers
pub own_above : (o : ℕ) (z : ℤ) → suc (mag z) ≤ o → Above o z
unfolding up dn
own_above o (pos m) q = above_show o (pos m) (omega arith)
own_above o (negsuc m) q = above_show o (negsuc m) (omega arith)

pub more_above : (o p : ℕ) → o ≤ p → (z : ℤ) → Above o z → Above p z
more_above o p q z h = above_show p z (omega (arith, at_moment o z h))

pub deep : (f : ℕ → ℤ) (n : ℕ) → (o : ℕ) × ((k : ℕ) → k < n → Above o (f k))
deep f zero = (0, λ k q. absurd (omega arith))
deep f (suc n) =
    let (o, h) = deep f n in
    let p : ℕ = max o (suc (mag (f n))) in
    (p, below_suc (λ k. Above p (f k)) n (λ k q. more_above o p (omega arith) (f k) (h k q)) (own_above p (f n) (omega arith)))

-- An i32 and its moment, as one entry of omega's list: `omega (ints, i32 h)`.
pub record I32 (z : ℤ) : Type 0 where
  pub below : up z < 2 ^ 31
  pub above : dn z ≤ 2 ^ 31
  pub shift : moment zero_at z + dn z ≡ 2 ^ 31 + up z

pub i32_above : {z : ℤ} → SFits w32 z → Above zero_at z
i32_above {z} h = above_show zero_at z (omega (arith, fits_dn h))

pub i32 : {z : ℤ} → SFits w32 z → I32 z
i32 {z} h = record { below = fits_up h; above = fits_dn h; shift = omega (arith, at_moment zero_at z (i32_above h)) }

-- one that a call reads from bits
pub moment_word : (z : ℤ) {m : ℕ} → SFits w32 z → m ≡ moment zero_at (to_z w32 (of_z w32 z)) → m ≡ moment zero_at z
moment_word z f e = e ∙ ap (moment zero_at) (back f)

pub moment_below : {z : ℤ} → SFits w32 z → moment zero_at z < 2 ^ 32
moment_below h = omega (ints, i32 h)

-- the machine's sum, and its difference
pub shifted : {z : ℤ} → SFits w32 z → z +ℤ pos 2147483648 ≡ pos (moment zero_at z)
unfolding up dn
shifted {z} h = omega (ints, i32 h, sumℤ z (pos 2147483648))

pub instant_fits : (m : ℕ) → m < 2 ^ 32 → SFits w32 (instant zero_at m)
instant_fits m h = fits_show w32 (instant zero_at m) (omega (arith, sub_law m zero_at)) (omega (arith, sub_law m zero_at))
