-- The digits of a number read as that number.
use mathlib.Core.Path.{◌≡◌, refl, ap, ◌∙◌}
use mathlib.Core.Bool.{Bool, true, false}
use mathlib.Core.List.{List, [], ◌∷◌, ◌++◌}
use mathlib.Core.Option.{some}
use Prim.Native.Nat.{ℕ, zero, suc, ◌+◌, ◌-◌, ◌*◌, ◌/◌, ◌%◌, ◌≤◌, ◌<◌}
use native.Mathlib.Omega.{arith}
use native.Mathlib.Decide.{dec_lt}
use lib.IntN.{ℤ, pos, negsuc}
use lib.Signed.{◌≤ℤ◌}
use lib.ListN.{length, length-append}
use borrow.Author.Tests.{ne_eqb}
use Rattle.integers.proofs.Ints.{ints, up, dn}
use Rattle.integers.proofs.Bools.{and_yes, and_true}
use Rattle.text.specs.DecimalText.{figures, natural, decimal}
use Rattle.text.proofs.Decimals.{figures_small, figures_large}
use Rattle.text.specs.Numbers.{digit, digits, value, ranged, unsigned, number_of}
use Rattle.text.proofs.Bytes.{digit_yes, digit_range, negative_fits, positive_fits}

digits_append : (xs ys : List ℕ) → digits xs ≡ true → digits ys ≡ true → digits (xs ++ ys) ≡ true
unfolding digits
digits_append [] ys h k = k
digits_append (x ∷ xs) ys h k = let r = and_true (digit x) (digits xs) h in and_yes (digit x) (digits (xs ++ ys)) r.0 (digits_append xs ys r.1 k)

digits_one : (n : ℕ) → n < 10 → digits ((48 + n) ∷ []) ≡ true
unfolding digits
digits_one n h = and_yes (digit (48 + n)) true (digit_yes (48 + n) (omega arith) (omega arith)) refl

value_snoc : (m : ℕ) (xs : List ℕ) (b : ℕ) → value m (xs ++ b ∷ []) ≡ value m xs * 10 + (b - 48)
unfolding value
value_snoc m [] b = refl
value_snoc m (x ∷ xs) b = value_snoc (m * 10 + (x - 48)) xs b

-- The digits of n are digits, and they have the value n.
pub record Reads (n : ℕ) (bs : List ℕ) : Type 0 where
  pub some_digit : 0 < length bs
  pub only_digits : digits bs ≡ true
  pub value_is : value 0 bs ≡ n

one_reads : (n : ℕ) → n < 10 → Reads n ((48 + n) ∷ [])
unfolding value
one_reads n h = record { some_digit = omega arith; only_digits = digits_one n h; value_is = omega arith }

more_reads : (n : ℕ) (bs : List ℕ) → Reads (n / 10) bs → Reads n (bs ++ (48 + n % 10) ∷ [])
more_reads n bs r = record {
  some_digit = omega (arith, length-append bs ((48 + n % 10) ∷ []));
  only_digits = digits_append bs ((48 + n % 10) ∷ []) r.only_digits (digits_one (n % 10) (omega arith));
  value_is = let e = value_snoc 0 bs (48 + n % 10) in let v = r.value_is in omega arith;
}

figures_read : (k n : ℕ) → n ≤ k → Reads n (figures k n)
figures_read zero n h = rw (figures_small zero n (omega arith)) (one_reads n (omega arith))
figures_read (suc k) n h = elim (dec_lt n 10) [
  | yes q ↦ rw (figures_small (suc k) n q) (one_reads n q)
  | no q ↦ rw (figures_large k n (omega arith)) (more_reads n (figures k (n / 10)) (figures_read k (n / 10) (omega arith)))
]

pub natural_reads : (n : ℕ) → Reads n (natural n)
unfolding natural
natural_reads n = figures_read n n (omega arith)

unsigned_reads : (negative : Bool) (n : ℕ) (bs : List ℕ) → Reads n bs → unsigned negative bs ≡ ranged negative n
unfolding unsigned
unsigned_reads negative n [] r = absurd (omega (arith, r.some_digit))
unsigned_reads negative n (b ∷ bs) r = rw (r.only_digits, unsigned) (ap (ranged negative) r.value_is)

-- a digit is no minus sign
positive_reads : (n : ℕ) (bs : List ℕ) → Reads n bs → number_of bs ≡ ranged false n
unfolding number_of digits
positive_reads n [] r = absurd (omega (arith, r.some_digit))
positive_reads n (b ∷ bs) r =
    let d = digit_range b (and_true (digit b) (digits bs) r.only_digits).0 in
    rw (ne_eqb b 45 (λ e. omega arith), number_of) (unsigned_reads false n (b ∷ bs) r)

-- What is written reads as the number that was written.
pub round_trip : (z : ℤ) → negsuc 2147483647 ≤ℤ z → z ≤ℤ pos 2147483647 → number_of (decimal z) ≡ some z
unfolding decimal number_of up dn
round_trip (pos n) low high = positive_reads n (natural n) (natural_reads n) ∙ positive_fits n (omega ints)
round_trip (negsuc n) low high = unsigned_reads true (suc n) (natural (suc n)) (natural_reads (suc n)) ∙ negative_fits (suc n) (omega ints)
