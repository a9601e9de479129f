-- An accepted pass by precedences is Done, or it is Emptied with a task.
use mathlib.Core.Path.{◌≡◌, refl, ap}
use mathlib.Core.List.{List, [], ◌∷◌}
use mathlib.Core.Logic.{◌⊎◌, inl, inr, ⊎_elim}
use Prim.Native.Nat.{ℕ, zero, suc, ◌<◌}
use native.Mathlib.Omega.{arith}
use lib.IntN.{ℤ, pos}
use lib.Signed.{◌≤ℤ◌}
use Rattle.integers.specs.Answers.{Answer, answered}
use Rattle.integers.proofs.Ints.{≤ℤ-cases}
use Rattle.scheduling.specs.Scheduling.{whole, Tasks}
use Rattle.precedences.specs.Predecessors.{PrecedenceBound}
use Rattle.precedences.specs.declared.answers.Precedences.{Precedences}
use Rattle.precedences.specs.declared.answers.Precedences.TheVariants.{Done, Emptied, Refused}
use Rattle.precedences.specs.Numbers.{numbers_of_precedences}
use Rattle.precedences.specs.Precedences.{FirstEmptied, LeftPrecedences}

module _ (J : Tasks whole) where
  -- where no task is the lowest whose bound passes, none has such a bound
  none_passes : ((i : ℕ) → FirstEmptied J i → ⊥) → (n k : ℕ) → k < n → k < J.count → (b : ℤ) → PrecedenceBound J k b → b ≤ℤ J.latest k
  none_passes not zero k q small b p = absurd (omega arith)
  none_passes not (suc n) k q small b p =
      ⊎_elim (λ y. y) (λ y. absurd (not k (record { small = small; bound = b; is_bound = p; passes = y; lowest = λ i r. none_passes not n i (omega arith) (omega arith) }))) (≤ℤ-cases b (J.latest k))

  pub pass_ends : (r : Precedences) {es es' : List ℤ} → LeftPrecedences J es r es' → (numbers_of_precedences r ≡ answered 0 []) ⊎ ((i : ℕ) × (numbers_of_precedences r ≡ answered 1 (pos i ∷ [])))
  pass_ends Done a = inl refl
  pass_ends (Emptied i) a = inr (i, refl)
  pass_ends (Refused n) a =
      let not_emptied : (i : ℕ) → FirstEmptied J i → ⊥ = λ i f. (let z : ◌≡◌ {A = ℕ} 3 1 = ap (λ (x : Answer). x.kind) ((a.emptied i).1 f) in omega arith) in
      let z : ◌≡◌ {A = ℕ} 3 0 = ap (λ (x : Answer). x.kind) (a.done.1 (λ k q. none_passes not_emptied (suc k) k (omega arith) q)) in
      absurd (omega arith)
