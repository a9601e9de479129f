-- The sole ground for 22: a state that no call made, whatever is asked of it.
use mathlib.Core.Path.{◌≡◌, refl, sym, ap, ◌∙◌}
use mathlib.Core.Bool.{Bool, true, false, cond}
use mathlib.Core.Logic.{inl, inr, ◌↔◌}
use Prim.Native.Nat.{ℕ}
use native.Mathlib.Omega.{arith}
use lib.IntN.{ℤ}
use Rattle.integers.specs.Answers.{Answer, refused_by}
use Rattle.integers.proofs.Bools.{bool, clash}
use Rattle.checking.proofs.Choices.{choice}
use Rattle.checking.specs.Atoms.{atom_from, right_variable, right_atom}
use Rattle.checking.specs.declared.variable_state.VariableState.{VariableState}
use Rattle.checking.specs.Answers.{application_numbers, numbers_of_truth, numbers_of_bound}
use Rattle.checking.specs.Promises.{lacks_room}
use Rattle.checking.specs.States.{AcceptedState, Sized, accepted, applied_to, truth_of, bound_of, lower_of, upper_of}
use Rattle.checking.proofs.AcceptedStates.{state_accepted, proper_state}
use Rattle.checking.proofs.Promises.{apply_means, truth_means, lower_means, upper_means}

module _ (s : VariableState) (sized : Sized s) where
  proper : accepted s.domains ≡ true → AcceptedState s
  proper y = proper_state s.domains sized.size sized.places y

  -- the number of a call that tries 22 first
  first : (n : ℕ) → (n ≡ 22 → ⊥) → (a : Answer) → a.number ≡ cond (accepted s.domains) n 22 → (accepted s.domains ≡ false → a ≡ refused_by 22) → a ≡ refused_by 22 ↔ (AcceptedState s → ⊥)
  first n d a e f = elim (bool (accepted s.domains)) [
    | inl y ↦ (λ z. absurd (d (sym (rw y at e) ∙ ap (λ (b : Answer). b.number) z)), λ no. absurd (no (proper y)))
    | inr y ↦ (λ z ok. clash (state_accepted s.domains ok) y, λ no. f y)
  ]

  two : (p : Bool) → ◌≡◌ {A = ℕ} (cond p 0 6) 22 → ⊥
  two p = choice (λ (n : ℕ). n ≡ 22 → ⊥) p (λ _ e. omega arith) (λ _ e. omega arith)

  three : (p q : Bool) → ◌≡◌ {A = ℕ} (cond p (cond q 21 0) 6) 22 → ⊥
  three p q = choice (λ (n : ℕ). n ≡ 22 → ⊥) p (λ _. choice (λ (n : ℕ). n ≡ 22 → ⊥) q (λ _ e. omega arith) (λ _ e. omega arith)) (λ _ e. omega arith)

  module _ (x k v : ℤ) where
    pub apply_22 : application_numbers (applied_to s x k v).answer ≡ refused_by 22 ↔ (AcceptedState s → ⊥)
    unfolding applied_to
    apply_22 = first (cond (right_atom x k v) (cond (lacks_room s (atom_from x k v)) 21 0) 6) (three (right_atom x k v) (lacks_room s (atom_from x k v))) (application_numbers (applied_to s x k v).answer)
        (apply_means s x k v proper).number (λ n. rw n refl)

    pub truth_22 : numbers_of_truth (truth_of s x k v) ≡ refused_by 22 ↔ (AcceptedState s → ⊥)
    unfolding truth_of
    truth_22 = first (cond (right_atom x k v) 0 6) (two (right_atom x k v)) (numbers_of_truth (truth_of s x k v)) (truth_means s x k v proper).number (λ n. rw n refl)

  module _ (x : ℤ) where
    pub lower_22 : numbers_of_bound (bound_of lower_of s x) ≡ refused_by 22 ↔ (AcceptedState s → ⊥)
    unfolding bound_of
    lower_22 = first (cond (right_variable x) 0 6) (two (right_variable x)) (numbers_of_bound (bound_of lower_of s x)) (lower_means s x proper).number (λ n. rw n refl)

    pub upper_22 : numbers_of_bound (bound_of upper_of s x) ≡ refused_by 22 ↔ (AcceptedState s → ⊥)
    unfolding bound_of
    upper_22 = first (cond (right_variable x) 0 6) (two (right_variable x)) (numbers_of_bound (bound_of upper_of s x)) (upper_means s x proper).number (λ n. rw n refl)
