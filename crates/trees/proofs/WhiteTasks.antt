-- The tasks of the white leaves, as a list.
use mathlib.Core.Path.{◌≡◌, refl, sym, ap, ap₂, ◌∙◌}
use mathlib.Core.Bool.{Bool, true, false}
use mathlib.Core.Logic.{◌⊎◌, inl, inr}
use mathlib.Core.List.{List, [], ◌∷◌}
use Prim.Native.Nat.{ℕ, zero, suc, ◌+◌, ◌≤◌, ◌<◌}
use native.Mathlib.Omega.{arith}
use native.Mathlib.Decide.{ℕ_discrete}
use Rattle.integers.specs.Orders.{has}
use Rattle.integers.proofs.Bools.{bool, clash}
use Rattle.integers.proofs.Permutations.{has_here, has_later, has_nil, has_cases}
use Rattle.scheduling.specs.Scheduling.{natural, Tasks}
use Rattle.trees.specs.Leaves.{Leaf, white_at, task_place, theta}
use Rattle.trees.specs.Searches.{theta_of}

module _ (white : ℕ → Bool) (task : ℕ → ℕ) where
  pub theta_none : (a : ℕ) → theta_of white task a 0 ≡ []
  unfolding theta_of
  theta_none a = refl

  pub theta_white : (a d : ℕ) → white a ≡ true → theta_of white task a (suc d) ≡ task a ∷ theta_of white task (suc a) d
  unfolding theta_of
  theta_white a d y = rw (y, theta_of)

  pub theta_skip : (a d : ℕ) → white a ≡ false → theta_of white task a (suc d) ≡ theta_of white task (suc a) d
  unfolding theta_of
  theta_skip a d y = rw (y, theta_of)

-- leaves that agree, and their tasks
pub theta_same : (white white' : ℕ → Bool) (task task' : ℕ → ℕ) (a d : ℕ) → ((k : ℕ) → a ≤ k → k < a + d → (white k ≡ white' k) × (task k ≡ task' k))
    → theta_of white task a d ≡ theta_of white' task' a d
theta_same white white' task task' a zero same = theta_none white task a ∙ sym (theta_none white' task' a)
theta_same white white' task task' a (suc d) same =
    let ih = theta_same white white' task task' (suc a) d (λ k lo hi. same k (omega arith) (omega arith)) in
    let (w, t) = same a (omega arith) (omega arith) in
    elim (bool (white a)) [
      | inl y ↦ theta_white white task a d y ∙ ap₂ (λ (x : ℕ) (r : List ℕ). x ∷ r) t ih ∙ sym (theta_white white' task' a d (sym w ∙ y))
      | inr y ↦ theta_skip white task a d y ∙ ih ∙ sym (theta_skip white' task' a d (sym w ∙ y))
    ]

-- what stands in the list ------------------------------------------------------------------------------------------------------

module _ (white : ℕ → Bool) (task : ℕ → ℕ) where
  -- the task of a white leaf
  pub theta_in : (a d j k : ℕ) → a ≤ j → j < a + d → white j ≡ true → task j ≡ k → has (theta_of white task a d) k ≡ true
  theta_in a zero j k lo hi y z = absurd (omega arith)
  theta_in a (suc d) j k lo hi y z = elim (ℕ_discrete a j) [
    | yes e ↦ rw (theta_white white task a d (ap white e ∙ y), ap task e ∙ z) (has_here k (theta_of white task (suc a) d))
    | no e ↦ (let ih = theta_in (suc a) d j k (omega arith) (omega arith) y z in
        elim (bool (white a)) [ inl v ↦ rw (theta_white white task a d v) (has_later (task a) k (theta_of white task (suc a) d) ih) | inr v ↦ rw (theta_skip white task a d v) ih ])
  ]

  -- and no other
  abbrev pub Leafs : ℕ → ℕ → ℕ → Type 0
  Leafs a d k = (j : ℕ) × (a ≤ j) × (j < a + d) × (white j ≡ true) × (task j ≡ k)

  pub theta_from : (a d k : ℕ) → has (theta_of white task a d) k ≡ true → Leafs a d k
  theta_from a zero k h = clash (rw (theta_none white task a) at h) (has_nil k)
  theta_from a (suc d) k h = by (bool (white a)) (theta_from (suc a) d k)
    where
      later : Leafs (suc a) d k → Leafs a (suc d) k
      later (j, lo, hi, y, z) = (j, omega arith, omega arith, y, z)

      by : (white a ≡ true) ⊎ (white a ≡ false) → (has (theta_of white task (suc a) d) k ≡ true → Leafs (suc a) d k) → Leafs a (suc d) k
      by (inl v) ih = elim (has_cases (task a) k (theta_of white task (suc a) d) (rw (theta_white white task a d v) at h))
          [ inl z ↦ (a, omega arith, omega arith, v, z) | inr q ↦ later (ih q) ]
      by (inr v) ih = later (ih (rw (theta_skip white task a d v) at h))

-- Theta is the list over all leaves
pub theta_is : (J : Tasks natural) (est_order : List ℕ) (ls : List Leaf) → theta J est_order ls ≡ theta_of (white_at ls) (task_place J est_order) 0 J.count
unfolding theta
theta_is J est_order ls = refl
