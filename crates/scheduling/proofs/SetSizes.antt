-- How many tasks a set has, and how that changes with one task more or less. The number is p of the set where each task lasts one unit.
use mathlib.Core.Path.{◌≡◌, refl}
use mathlib.Core.Bool.{true, false}
use Prim.Native.Nat.{ℕ, suc, ◌≤◌, ◌<◌}
use native.Mathlib.Omega.{arith}
use Rattle.scheduling.specs.Scheduling.{natural, Tasks, TaskSet, ◌with◌, In, Outside, processing}
use Rattle.scheduling.proofs.Sets.{total_ones, ◌less◌}
use Rattle.scheduling.proofs.Processing.{processing_mono, processing_all, processing_same, processing_less, processing_empty, processing_with}

module _ (J : Tasks natural) where
  abbrev units : Tasks natural
  units = record { count = J.count; earliest = J.earliest; latest = J.latest; duration = λ _. 1 }

  pub card : TaskSet → ℕ
  card Λ = processing units Λ

  pub card_less : (Λ : TaskSet) (i : ℕ) → In J Λ i → card Λ ≡ suc (card (Λ less i))
  unfolding card
  card_less Λ i h = omega (arith, processing_less units Λ i (record { small = h.small; mem = h.mem }))

  pub card_zero : (Λ : TaskSet) → card Λ ≤ 0 → (k : ℕ) → In J Λ k → ⊥
  card_zero Λ z k h = omega (arith, card_less Λ k h)

  pub card_same : (Λ Λ' : TaskSet) → ((k : ℕ) → k < J.count → Λ k ≡ Λ' k) → card Λ ≡ card Λ'
  unfolding card
  card_same Λ Λ' z = processing_same units Λ Λ' z

  pub card_most : (Λ : TaskSet) → card Λ ≤ J.count
  unfolding card
  card_most Λ = omega (arith, processing_mono units Λ (λ _. true) (λ k h. refl), processing_all units, total_ones J.count)

  pub card_none : card (λ _. false) ≡ 0
  unfolding card
  card_none = processing_empty units (λ _. false) (λ k q. refl)

  pub card_with : (Ω : TaskSet) (i : ℕ) → Outside J Ω i → card (Ω with i) ≡ suc (card Ω)
  unfolding card
  card_with Ω i h = omega (arith, processing_with units Ω i (record { small = h.small; mem = h.mem }))
