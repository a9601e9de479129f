-- The largest of a start and its bounds, and the smallest of a latest start and its bounds: the limits that each keeps.
use mathlib.Core.Path.{◌≡◌, refl}
use mathlib.Core.Logic.{◌⊎◌, inl, ⊎_elim}
use lib.IntN.{ℤ}
use lib.Signed.{lt_z, ◌≤ℤ◌, ◌<ℤ◌}
use Rattle.integers.proofs.Bools.{bool}
use Rattle.integers.proofs.Ints.{ints, ≤ℤ-cases}
use Rattle.scheduling.specs.Scheduling.{whole, Largest, Least}

-- what does not pass a limit is within it
pub not_past : {a b : ℤ} → (b <ℤ a → ⊥) → a ≤ℤ b
not_past {a} {b} n = ⊎_elim (λ y. y) (λ y. absurd (n y)) (≤ℤ-cases a b)

module _ {P : ℤ → Type 0} {old v : ℤ} where
  -- it is not below the old value, and not above what neither the old value nor a bound passes
  pub between : Largest whole (λ w. (old ≡ w) ⊎ P w) v → {top : ℤ} → ((b : ℤ) → P b → b ≤ℤ top) → old ≤ℤ top → (old ≤ℤ v) × (v ≤ℤ top)
  between l below fits = (l.bounds old (inl refl), ⊎_elim (λ e. omega ints) (λ p. below v p) l.holds)

  -- it reaches no further than s, if the old value does not and, where a bound raises it, some value at or above all bounds does not
  pub reached : Largest whole (λ w. (old ≡ w) ⊎ P w) v → {s : ℤ} → old ≤ℤ s → (old <ℤ v → (b : ℤ) × (b ≤ℤ s) × ((w : ℤ) → P w → w ≤ℤ b)) → v ≤ℤ s
  reached l from by = ⊎_elim (λ e. omega ints) (λ p. ⊎_elim (λ y. let (b, below, all) = by (omega ints) in omega (ints, all v p)) (λ n. omega ints) (bool (lt_z old v))) l.holds

  pub between_least : Least whole (λ w. (old ≡ w) ⊎ P w) v → {low : ℤ} → ((b : ℤ) → P b → low ≤ℤ b) → low ≤ℤ old → (low ≤ℤ v) × (v ≤ℤ old)
  between_least l above fits = (⊎_elim (λ e. omega ints) (λ p. above v p) l.holds, l.bounds old (inl refl))

  pub reached_least : Least whole (λ w. (old ≡ w) ⊎ P w) v → {s : ℤ} → s ≤ℤ old → (v <ℤ old → (b : ℤ) × (s ≤ℤ b) × ((w : ℤ) → P w → b ≤ℤ w)) → s ≤ℤ v
  reached_least l to by = ⊎_elim (λ e. omega ints) (λ p. ⊎_elim (λ y. let (b, above, all) = by (omega ints) in omega (ints, all v p)) (λ n. omega ints) (bool (lt_z v old))) l.holds
