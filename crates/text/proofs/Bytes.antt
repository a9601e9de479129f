-- A byte's tests, and what a digit makes of a word.
use mathlib.Core.Path.{◌≡◌, ap, ◌∙◌}
use mathlib.Core.Bool.{Bool, true, false}
use mathlib.Core.Option.{none, some}
use Prim.Native.Nat.{ℕ, ◌+◌, ◌-◌, ◌*◌, ◌≤◌, ◌<◌, min}
use native.Mathlib.Omega.{arith}
use lib.IntN.{pos, neg_ℤ}
use borrow.Author.Tests.{le-leb, lt-leb, leb-true}
use Rattle.integers.specs.Limits.{TASKS}
use Rattle.integers.specs.Moments.{instant, zero_at}
use Rattle.integers.proofs.Ints.{ints, up, dn, sub_law, up_neg, dn_neg}
use Rattle.integers.proofs.Bools.{and_true, and_yes}
use Rattle.text.specs.Numbers.{digit, ranged}
use Rattle.text.specs.Scanner.{BEYOND, digit_after}
use Rattle.text.specs.declared.reading.Word.TheVariants.{Digits, Wrong}

pub digit_low : (b : ℕ) → b < TASKS → digit b ≡ false
unfolding digit
digit_low b h = rw (lt-leb 48 b h)

pub digit_high : (b : ℕ) → 57 < b → digit b ≡ false
unfolding digit
digit_high b h = let t = le-leb 48 b (omega arith) in rw (t, lt-leb b 57 h)

pub digit_yes : (b : ℕ) → 48 ≤ b → b ≤ 57 → digit b ≡ true
unfolding digit
digit_yes b h k = and_yes _ _ (le-leb 48 b h) (le-leb b 57 k)

pub digit_range : (b : ℕ) → digit b ≡ true → (48 ≤ b) × (b ≤ 57)
unfolding digit
digit_range b h = let r = and_true _ _ h in (leb-true 48 b r.0, leb-true b 57 r.1)

module _ (negative : Bool) (n b : ℕ) where
  pub after_digit : digit b ≡ true → digit_after negative n b ≡ Digits negative (min (n * 10 + (b - 48)) BEYOND)
  unfolding digit_after
  after_digit h = rw (h, digit_after)

  pub after_other : digit b ≡ false → digit_after negative n b ≡ Wrong
  unfolding digit_after
  after_other h = rw (h, digit_after)

  -- a tenth of the bound decides whether the new magnitude passes it
  pub after_small : 48 ≤ b → b ≤ 57 → n ≤ 214748364 → digit_after negative n b ≡ Digits negative (n * 10 + (b - 48))
  after_small low high h = after_digit (digit_yes b low high) ∙ ap (Digits negative) (omega arith)

  pub after_large : 48 ≤ b → b ≤ 57 → 214748364 < n → digit_after negative n b ≡ Digits negative BEYOND
  after_large low high h = after_digit (digit_yes b low high) ∙ ap (Digits negative) (omega arith)

-- a sign and a magnitude
module _ (n : ℕ) where
  pub negative_fits : n ≤ 2147483648 → ranged true n ≡ some (neg_ℤ (pos n))
  unfolding ranged
  negative_fits h = rw (le-leb n 2147483648 h, ranged)

  pub negative_over : 2147483648 < n → ranged true n ≡ none
  unfolding ranged
  negative_over h = rw (lt-leb n 2147483648 h, ranged)

  pub positive_fits : n ≤ 2147483647 → ranged false n ≡ some (pos n)
  unfolding ranged
  positive_fits h = rw (le-leb n 2147483647 h, ranged)

  pub positive_over : 2147483647 < n → ranged false n ≡ none
  unfolding ranged
  positive_over h = rw (lt-leb n 2147483647 h, ranged)

-- the same from moments
pub instant_below : (n : ℕ) → n ≤ zero_at → instant zero_at (zero_at - n) ≡ neg_ℤ (pos n)
unfolding up dn
instant_below n h = omega (ints, sub_law (zero_at - n) zero_at, up_neg (pos n), dn_neg (pos n))

pub instant_above : (n : ℕ) → instant zero_at (zero_at + n) ≡ pos n
unfolding up dn
instant_above n = omega (ints, sub_law (zero_at + n) zero_at)
