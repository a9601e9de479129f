-- The digits of a number: one by one, and how many; and a whole number's text from its magnitude.
use mathlib.Core.Path.{◌≡◌, refl, sym, ap, ◌∙◌}
use mathlib.Core.List.{List, [], ◌∷◌, ◌++◌}
use Prim.Native.Nat.{ℕ, zero, suc, ◌+◌, ◌/◌, ◌%◌, ◌^◌, ◌≤◌, ◌<◌}
use native.Mathlib.Omega.{arith}
use native.Mathlib.Decide.{dec_lt}
use native.Mathlib.Nat.{pow-suc}
use lib.IntN.{ℤ, pos, negsuc, nat_abs}
use lib.Signed.{lt_z}
use Rattle.integers.proofs.Ints.{ints, up, dn}
use mathlib.Core.Bool.{true, false}
use lib.ListN.{length, length-append}
use borrow.Author.Tests.{lt-ltb, le-ltb}
use Rattle.text.specs.DecimalText.{figures, natural, decimal}

-- ---- the digits one by one, and how many
pub figures_small : (k n : ℕ) → n < 10 → figures k n ≡ (48 + n) ∷ []
unfolding figures
figures_small zero n h = refl
figures_small (suc k) n h = rw (lt-ltb n 10 h, figures)

pub figures_large : (k n : ℕ) → 10 ≤ n → figures (suc k) n ≡ figures k (n / 10) ++ (48 + n % 10) ∷ []
unfolding figures
figures_large k n h = rw (le-ltb n 10 h, figures)

-- more room changes nothing
figures_same : (k j n : ℕ) → n ≤ k → n ≤ j → figures k n ≡ figures j n
figures_same zero j n h i = figures_small zero n (omega arith) ∙ sym (figures_small j n (omega arith))
figures_same (suc k) zero n h i = figures_small (suc k) n (omega arith) ∙ sym (figures_small zero n (omega arith))
figures_same (suc k) (suc j) n h i = elim (dec_lt n 10) [
  | yes q ↦ figures_small (suc k) n q ∙ sym (figures_small (suc j) n q)
  | no q ↦ figures_large k n (omega arith) ∙ ap (λ (l : List ℕ). l ++ (48 + n % 10) ∷ []) (figures_same k j (n / 10) (omega arith) (omega arith)) ∙ sym (figures_large j n (omega arith))
]

pub natural_small : (n : ℕ) → n < 10 → natural n ≡ (48 + n) ∷ []
unfolding natural
natural_small n h = figures_small n n h

pub natural_large : (n : ℕ) → 10 ≤ n → natural n ≡ natural (n / 10) ++ (48 + n % 10) ∷ []
unfolding natural
natural_large zero h = absurd (omega arith)
natural_large (suc k) h = figures_large k (suc k) h ∙ ap (λ (l : List ℕ). l ++ (48 + suc k % 10) ∷ []) (figures_same k (suc k / 10) (suc k / 10) (omega arith) (omega arith))

pub natural_last : (n : ℕ) → 10 ≤ n → length (natural n) ≡ length (natural (n / 10)) + 1
natural_last n h = ap length (natural_large n h) ∙ length-append (natural (n / 10)) ((48 + n % 10) ∷ [])

-- k + 1 digits hold the numbers below ten to the power k + 1
pub natural_fits : (k n : ℕ) → n < 10 ^ suc k → length (natural n) ≤ suc k
natural_fits zero n h = let e = ap length (natural_small n (omega arith)) in omega arith
natural_fits (suc k) n h = elim (dec_lt n 10) [
  | yes q ↦ (let e = ap length (natural_small n q) in omega arith)
  | no q ↦ (let e = pow-suc 10 (suc k) in let r = natural_fits k (n / 10) (omega arith) in omega (arith, natural_last n (omega arith)))
]

-- ---- a whole number's text from its magnitude
pub decimal_natural : (z : ℤ) → lt_z z (pos 0) ≡ false → decimal z ≡ natural (nat_abs z)
unfolding decimal
decimal_natural (pos n) h = refl
decimal_natural (negsuc n) h = cc

pub decimal_negative : (z : ℤ) → lt_z z (pos 0) ≡ true → decimal z ≡ 45 ∷ natural (nat_abs z)
unfolding decimal up dn
decimal_negative (pos n) h = absurd (omega ints)
decimal_negative (negsuc n) h = refl
