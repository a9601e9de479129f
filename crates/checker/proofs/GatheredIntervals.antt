-- What the source's loop over the tasks gathers: whether there is a task, the least earliest start and the greatest latest completion.
use mathlib.Core.Path.{◌≡◌, refl, ap}
use mathlib.Core.Bool.{Bool, true, ◌||◌}
use mathlib.Core.Logic.{inl, inr}
use Prim.Native.Nat.{ℕ, zero, suc, ◌≤◌, ◌<◌}
use native.Mathlib.Omega.{arith}
use Rattle.integers.proofs.Bools.{clash, or_true, or_right, below_suc}
use Rattle.scheduling.specs.Scheduling.{natural, Tasks, TaskSet, NonEmpty, Est, Lct, completion}
use Rattle.chosen_sets.proofs.RunningValues.{running_least, running_largest}
use Rattle.checker.specs.Formulas.{any, lowest, highest}

module _ (J : Tasks natural) where
  abbrev n : ℕ
  n = J.count

  module _ (Ω : TaskSet) where
    abbrev some_of : ℕ → Bool
    some_of = any Ω

    any_found : (m : ℕ) → some_of m ≡ true → (k : ℕ) × (k < m) × (Ω k ≡ true)
    unfolding any
    any_found zero y = clash y refl
    any_found (suc m) y = elim (or_true (some_of m) (Ω m) y) [ inl z ↦ (let (k, q, w) = any_found m z in (k, omega arith, w)) | inr z ↦ (m, omega arith, z) ]

    any_shown : (m k : ℕ) → k < m → Ω k ≡ true → some_of m ≡ true
    unfolding any
    any_shown zero k q y = absurd (omega arith)
    any_shown (suc m) k q y = below_suc (λ k. Ω k ≡ true → some_of m || Ω m ≡ true) m (λ k r z. ap (λ (b : Bool). b || Ω m) (any_shown m k r z)) (λ z. or_right (some_of m) (Ω m) z) k q y

    pub any_yes : NonEmpty J Ω → some_of n ≡ true
    any_yes (k, h) = any_shown n k h.small h.mem

    pub any_some : some_of n ≡ true → NonEmpty J Ω
    any_some y = let (k, q, w) = any_found n y in (k, record { small = q; mem = w })

    -- no earliest start is above the first value of the loop
    pub lowest_is : ((k : ℕ) → k < n → J.earliest k ≤ 4294967295) → NonEmpty J Ω → Est J Ω (lowest J Ω n)
    unfolding lowest
    lowest_is fits ne = running_least J Ω J.earliest (lowest J Ω) ne (λ k. refl) fits

    pub highest_is : NonEmpty J Ω → Lct J Ω (highest J Ω n)
    unfolding highest
    highest_is ne = running_largest J Ω (completion J) (highest J Ω) ne (λ k. refl) (λ k q. omega arith)
