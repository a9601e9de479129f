-- The answer is yes at the first place where the tasks read overload, and no where there is none; over whole numbers it says whether any set overloads.
use mathlib.Core.Path.{◌≡◌, refl, sym, ap, ◌∙◌}
use mathlib.Core.Bool.{Bool, true, false}
use mathlib.Core.Logic.{◌⊎◌, inl, inr, ◌↔◌}
use mathlib.Core.List.{List, [], ◌∷◌}
use Prim.Native.Nat.{ℕ, zero, suc, ◌+◌, ◌-◌, ◌≤◌, ◌<◌}
use native.Mathlib.Omega.{arith}
use native.Mathlib.Numerals.{add-one}
use native.Mathlib.Decide.{ℕ_discrete}
use lib.IntN.{ℤ, pos}
use lib.ListN.{length}
use Rattle.integers.specs.declared.refused.Refusal.{Refusal}
use Rattle.integers.specs.Answers.{answered, refused_by}
use Rattle.integers.specs.Limits.{TASKS}
use Rattle.integers.specs.Moments.{zero_at}
use Rattle.integers.proofs.Answers.{same_kind, same_count}
use Rattle.integers.proofs.Bools.{bool, clash}
use Rattle.scheduling.specs.Scheduling.{natural, Tasks, Proper, TaskSet, Overloads}
use Rattle.scheduling.proofs.Clocks.{overload→, overload←}
use Rattle.records.specs.declared.record.DisjunctivePropagator.{DisjunctivePropagator}
use Rattle.records.specs.Records.{tasks_in, moments_in}
use Rattle.records.specs.Refusals.{AcceptedInput, input_number}
use Rattle.records.proofs.AcceptedTasks.{count, proper_whole, above, proper}
use Rattle.records.proofs.RefusedRuns.{accepted_input}
use Rattle.std.specs.Prelude.{Option, Some, None, Result, Ok}
use Rattle.overload_test.specs.ReadTasks.{overloads_at, answer_from, answer_of}
use Rattle.overload_test.specs.Numbers.{numbers_of_overload}
use Rattle.overload_test.specs.Tested.{OverloadTested}
use Rattle.overload_test.proofs.ReadTasks.{shown, met}

module _ (J : Tasks natural) where
  -- the answer, step by step
  ends_no : (k : ℕ) → answer_from J k 0 ≡ None
  unfolding answer_from
  ends_no k = refl

  stops : (k d : ℕ) → overloads_at J k ≡ true → answer_from J k (suc d) ≡ Some (suc k)
  unfolding answer_from
  stops k d y = rw (y, answer_from) refl

  goes_on : (k d : ℕ) → overloads_at J k ≡ false → answer_from J k (suc d) ≡ answer_from J (suc k) d
  unfolding answer_from
  goes_on k d y = rw (y, answer_from) refl

  -- its steps, where n tasks are read in all
  module _ (n : ℕ) (k : ℕ) (q : k < n) where
    left : n - k ≡ suc (n - (k + 1))
    left = omega arith

    pub answer_yes : overloads_at J k ≡ true → answer_from J k (n - k) ≡ Some (k + 1)
    answer_yes y = ap (answer_from J k) left ∙ stops k (n - (k + 1)) y ∙ ap Some (sym (add-one k))

    pub answer_on : overloads_at J k ≡ false → answer_from J k (n - k) ≡ answer_from J (k + 1) (n - (k + 1))
    answer_on y = ap (answer_from J k) left ∙ goes_on k (n - (k + 1)) y ∙ ap (λ (m : ℕ). answer_from J m (n - (k + 1))) (sym (add-one k))

  pub answer_no : (n k : ℕ) → n ≤ k → answer_from J k (n - k) ≡ None
  answer_no n k q = let z : n - k ≡ 0 = omega arith in ap (answer_from J k) z ∙ ends_no k

  -- yes at the first place of the d from k on that overloads, or no where none of them does
  pub record Stopped (k d : ℕ) : Type 0 where
    pub at : ℕ
    pub is : answer_from J k d ≡ Some (suc at)
    pub from : k ≤ at
    pub small : at < k + d
    pub over : overloads_at J at ≡ true
    pub before : (j : ℕ) → k ≤ j → j < at → overloads_at J j ≡ false

  pub record Passed (k d : ℕ) : Type 0 where
    pub is : answer_from J k d ≡ None
    pub none : (j : ℕ) → k ≤ j → j < k + d → overloads_at J j ≡ false

  pub stopped_or_passed : (k d : ℕ) → Stopped k d ⊎ Passed k d
  stopped_or_passed k zero = inr (record { is = ends_no k; none = λ j p q. absurd (omega arith) })
  stopped_or_passed k (suc d) = by (bool (overloads_at J k)) (stopped_or_passed (suc k) d)
    where
      more : {end : ℕ} → overloads_at J k ≡ false → ((j : ℕ) → suc k ≤ j → j < end → overloads_at J j ≡ false) → (j : ℕ) → k ≤ j → j < end → overloads_at J j ≡ false
      more y rest j p q = elim (ℕ_discrete k j) [ yes z ↦ ap (overloads_at J) (sym z) ∙ y | no z ↦ rest j (omega arith) q ]

      by : (overloads_at J k ≡ true) ⊎ (overloads_at J k ≡ false) → Stopped (suc k) d ⊎ Passed (suc k) d → Stopped k (suc d) ⊎ Passed k (suc d)
      by (inl y) t = inl (record { at = k; is = stops k d y; from = omega arith; small = omega arith; over = y; before = λ j p q. absurd (omega arith) })
      by (inr y) (inl s) =
          inl (record { at = s.at; is = goes_on k d y ∙ s.is; from = omega (arith, s.from); small = omega (arith, s.small); over = s.over; before = more y s.before })
      by (inr y) (inr p) = inr (record { is = goes_on k d y ∙ p.is; none = more y (λ j a b. p.none j a (omega arith)) })

  -- yes with some number of tasks exactly where a set overloads, and no exactly where none does
  pub record Says (r : Result (Option ℕ) Refusal) : Type 0 where
    pub yes : ((k : ℕ) × (numbers_of_overload r ≡ answered 0 (pos k ∷ []))) ↔ ((Ω : TaskSet) × Overloads J Ω)
    pub no : (numbers_of_overload r ≡ answered 1 []) ↔ ((Ω : TaskSet) → Overloads J Ω → ⊥)
    pub many : (k : ℕ) → numbers_of_overload r ≡ answered 0 (pos k ∷ []) → (1 ≤ k) × (k ≤ J.count)

  pub says : Proper J → (r : Result (Option ℕ) Refusal) → r ≡ Ok (answer_of J) → Says r
  says ok r z = by (stopped_or_passed 0 J.count)
    where
      by : Stopped 0 J.count ⊎ Passed 0 J.count → Says r
      by (inl s) =
          let found = shown J ok s.at (omega (arith, s.small)) s.over in
          let is : numbers_of_overload r ≡ answered 0 (pos (suc s.at) ∷ []) = ap numbers_of_overload (z ∙ ap Ok s.is) in
          record {
            yes = (λ w. found, λ w. (suc s.at, is));
            no = (λ e. absurd (omega (arith, same_kind (sym is ∙ e))), λ f. absurd (f found.0 found.1));
            many = λ k e. (let m : suc s.at ≡ k = same_count (sym is ∙ e) 0 in (omega arith, omega (arith, s.small)));
          }
      by (inr p) =
          let is : numbers_of_overload r ≡ answered 1 [] = ap numbers_of_overload (z ∙ ap Ok p.is) in
          let none : (Ω : TaskSet) → Overloads J Ω → ⊥ = λ Ω o. (let w = met J ok Ω o in clash w.2 (p.none w.0 (omega arith) (omega (arith, w.1)))) in
          record {
            yes = (λ w. absurd (omega (arith, same_kind (sym is ∙ w.1))), λ w. absurd (none w.0 w.1));
            no = (λ e. none, λ f. is);
            many = λ k e. absurd (omega (arith, same_kind (sym is ∙ e)));
          }

-- the contract, of a record and ranges that are accepted, and of others
pub tested : (before : DisjunctivePropagator) (es ls : List ℤ) (bars : Bool) (r : Result (Option ℕ) Refusal) → AcceptedInput before es ls → bars ≡ true → length before.durations ≡ TASKS
    → r ≡ Ok (answer_of (moments_in before es ls)) → OverloadTested before es ls bars r
tested before es ls bars r a fit long z =
    let Z = tasks_in before es ls in
    let low = above before es ls a long in
    let fine = proper_whole before es ls a long in
    let s = says (moments_in before es ls) (proper before es ls a long) r z in
    record {
      refused = λ h. absurd (h ((accepted_input before es ls bars).1 (a, fit)));
      answer = λ _. z;
      yes = λ _. (λ w. (let o = s.yes.0 w in (o.0, overload← zero_at Z fine low o.0 o.1)), λ w. s.yes.1 (w.0, overload→ zero_at Z fine low w.0 w.1));
      no = λ _. (λ e Ω o. s.no.0 e Ω (overload→ zero_at Z fine low Ω o), λ f. s.no.1 (λ Ω o. f Ω (overload← zero_at Z fine low Ω o)));
      many = λ k e. (let m = s.many k e in (m.0, omega (arith, m.1, count before es ls a long)));
    }

pub is_refused : (before : DisjunctivePropagator) (es ls : List ℤ) (bars : Bool) (r : Result (Option ℕ) Refusal) → (input_number before es ls bars ≡ 0 → ⊥)
    → numbers_of_overload r ≡ refused_by (input_number before es ls bars) → OverloadTested before es ls bars r
is_refused before es ls bars r h z = record {
  refused = λ _. z;
  answer = λ e. absurd (h e);
  yes = λ e. absurd (h e);
  no = λ e. absurd (h e);
  many = λ k e. absurd (omega (arith, same_kind (sym z ∙ e)));
}
