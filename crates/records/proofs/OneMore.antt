-- A loop that tests or sums all numbers below a bound with no branch: one number more, and the end.
use mathlib.Core.Path.{◌≡◌, refl, sym, ap, ap₂, ◌∙◌}
use mathlib.Core.Bool.{Bool, ◌&&◌}
use Prim.Native.Nat.{ℕ, ◌+◌, ◌≤◌}
use lib.IntN.{ℤ}
use lib.Signed.{le_z}
use mir.Syntax.{w32}
use mir.Val.{SFits, to_z, of_z}
use native.Mathlib.Omega.{arith}
use native.Mathlib.Numerals.{add-one}
use Rattle.integers.proofs.Ints.{back}
use Rattle.integers.specs.Tests.{all_below}
use Rattle.scheduling.specs.Scheduling.{total}
use Rattle.scheduling.proofs.Sets.{total_more}

pub one_more : (pass : ℕ → Bool) (n : ℕ) {a b r : Bool} → a ≡ all_below pass n → b ≡ pass n → r ≡ a && b
    → r ≡ all_below pass (n + 1)
unfolding all_below
one_more pass n p q z = z ∙ rw (p, q, add-one n) refl

-- the same for a loop that sums
module _ (f : ℕ → ℕ) (i : ℕ) {s : ℕ} (e : s ≡ total f i) where
  pub total_step : {x : ℕ} → x ≡ f i → s + x ≡ total f (i + 1)
  total_step h = ap₂ ◌+◌ e h ∙ sym (total_more f i)

  pub total_end : (n : ℕ) → i ≤ n → n ≤ i → s ≡ total f n
  total_end n p q = let z : i ≡ n = omega arith in e ∙ ap (total f) z

-- the tests of numbers that the calls read from bits
pub within_words : (low high z : ℤ) {r : Bool} → SFits w32 z
    → r ≡ le_z low (to_z w32 (of_z w32 z)) && le_z (to_z w32 (of_z w32 z)) high → r ≡ le_z low z && le_z z high
within_words low high z f e = e ∙ ap (λ (x : ℤ). le_z low x && le_z x high) (back f)

pub at_most_words : (a b : ℤ) {r : Bool} → SFits w32 a → SFits w32 b
    → r ≡ le_z (to_z w32 (of_z w32 a)) (to_z w32 (of_z w32 b)) → r ≡ le_z a b
at_most_words a b f g e = e ∙ ap₂ le_z (back f) (back g)
