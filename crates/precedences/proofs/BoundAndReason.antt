-- The bound and its reason, over the same ranges: one is answered exactly where the other has atoms, and the reason explains the bound.
use mathlib.Core.Path.{◌≡◌, refl}
use mathlib.Core.Logic.{◌⊎◌, inl, inr, ◌↔◌}
use mathlib.Core.List.{List, [], ◌∷◌}
use mathlib.Core.Option.{some}
use Prim.Native.Nat.{ℕ, ◌≤◌}
use native.Mathlib.Omega.{arith}
use lib.IntN.{ℤ}
use Rattle.integers.specs.declared.refused.Refusal.{Refusal}
use Rattle.integers.specs.Answers.{answered}
use Rattle.integers.proofs.Answers.{count_at, same_kind, same_count}
use Rattle.scheduling.specs.Scheduling.{whole, Tasks, Contradicts}
use Rattle.std.specs.Prelude.{Option, Some, None, Result, Ok, Err}
use Rattle.precedences.specs.ReasonNumbers.{numbers_of_reason, numbers_of_bound}
use Rattle.precedences.specs.Bounds.{Raises, BoundAnswered}
use Rattle.precedences.specs.Reasons.{at_least, reason_of, Explained}

-- an accepted call answers a bound, or nothing raises the task
one_of : (J : Tasks whole) (i : ℕ) (x : Result (Option ℤ) Refusal) → BoundAnswered J i x → ((b : ℤ) × (numbers_of_bound x ≡ answered 0 (b ∷ []))) ⊎ (Raises J i → ⊥)
one_of J i (Ok (Some b)) t = inl (b, refl)
one_of J i (Ok None) t = inr (t.none.0 refl)
one_of J i (Err number) t = inr (λ w. (let z = same_kind ((t.raised w.0).1 w.1) in omega (arith, z)))

module _ (J : Tasks whole) (i : ℕ) (x : Result (Option ℤ) Refusal) (t : BoundAnswered J i x) {ws ws' : List ℤ} (r : Result ℕ Refusal) (e : Explained J i ws r ws') where
  -- a bound exactly where the reason has atoms
  pub bound_with_atoms : ((b : ℤ) × (numbers_of_bound x ≡ answered 0 (b ∷ []))) ↔ (1 ≤ count_at (numbers_of_reason r) 0)
  bound_with_atoms = (
    λ w. (let z = same_count (e.written (w.0, (t.raised w.0).0 w.1)).0 0 in omega (arith, z)),
    λ h. elim (one_of J i x t) [ inl w ↦ w | inr no_raise ↦ (let z = same_count (e.nothing no_raise).0 0 in absurd (omega (arith, z, h))) ],
  )

  -- no starts meet the reason and the opposite of the bound, whatever their ranges
  pub bound_explained : (b : ℤ) → numbers_of_bound x ≡ answered 0 (b ∷ []) → (s : ℕ → ℤ) → Contradicts J (reason_of J i) (some (at_least i b)) s → ⊥
  bound_explained b z = e.sound b ((t.raised b).0 z).is_bound
