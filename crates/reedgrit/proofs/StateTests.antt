-- A query of a state: 7 and 6 are tried over the premises and the query's own words, before 21 and before a contradiction.
use mathlib.Core.Path.{◌≡◌, refl, sym, ap, ◌∙◌}
use mathlib.Core.Bool.{Bool, true, false}
use mathlib.Core.List.{List, [], ◌∷◌}
use mathlib.Core.Logic.{inl, inr}
use Prim.Native.Nat.{ℕ, suc, ◌+◌, ◌*◌, ◌≤◌, ◌<◌}
use native.Mathlib.Omega.{arith}
use lib.Dec.{leb}
use lib.IntN.{ℤ}
use lib.ListN.{length}
use borrow.Author.Tests.{leb-true, leb-false, le-leb, lt-leb}
use Rattle.integers.specs.declared.refused.Refusal.{Refusal}
use Rattle.integers.specs.declared.refused.Refusal.TheVariants.{Atoms, Premises}
use Rattle.integers.specs.Refused.{number_of}
use Rattle.integers.specs.Answers.{Answer, refused_by}
use Rattle.integers.specs.Limits.{PREMISES}
use Rattle.integers.specs.Tests.{Test, test, refusal}
use Rattle.integers.proofs.Bools.{bool, clash, and_yes}
use Rattle.integers.proofs.Tests.{accepts, refuses}
use Rattle.checking.specs.Atoms.{right_words}
use Rattle.checking.proofs.Atoms.{right_lists_are}
use Rattle.checking.proofs.RightWords.{lists_are}
use Rattle.checking.specs.declared.variable_state.VariableState.{VariableState}
use Rattle.checking.specs.declared.variable_state.Application.{Application}
use Rattle.checking.specs.declared.variable_state.Application.TheVariants.{Consistent, Contradiction, Refused}
use Rattle.checking.specs.declared.variable_state.Applied.{Applied}
use Rattle.checking.specs.Answers.{application_numbers}
use Rattle.checking.specs.States.{prepared}
use Rattle.checking.proofs.StateNumbers.{applications_apart}
use Rattle.checking.proofs.RefusedAtoms.{prepared_7, prepared_6}
use Rattle.answers.specs.SourceAnswers.{state_answer, queried_at}
use Rattle.reedgrit.specs.States.{right_words_of, state_tests, queried_after, queried}

-- what is said of a list that leads to a state is said of every list, by its answer
pub consistent : (w : Application) → queried_at w (state_answer (application_numbers Consistent)) ≡ state_answer (application_numbers w)
consistent Consistent = refl
consistent (Contradiction x) = refl
consistent (Refused n) = refl

module _ (premises : List ℤ) (own : Bool) where
  abbrev t7 : Test
  t7 = test 7 (leb (length premises) (3 * PREMISES + 2))

  abbrev t6 : Test
  t6 = test 6 (right_words_of premises own)

  -- the number of the first test that is not passed
  pub too_many : 3 * PREMISES + 2 < length premises → refusal (state_tests premises own) ≡ 7
  too_many h = refuses [] t7 (t6 ∷ []) tt (lt-leb (length premises) (3 * PREMISES + 2) h)

  malformed : length premises ≤ 3 * PREMISES + 2 → right_words_of premises own ≡ false → refusal (state_tests premises own) ≡ 6
  malformed h y = refuses (t7 ∷ []) t6 [] (le-leb (length premises) (3 * PREMISES + 2) h, tt) y

  passed : length premises ≤ 3 * PREMISES + 2 → right_words_of premises own ≡ true → refusal (state_tests premises own) ≡ 0
  passed h y = accepts (state_tests premises own) (le-leb (length premises) (3 * PREMISES + 2) h, (y, tt))

-- words of a query that are not accepted
own_words : (premises : List ℤ) (own : Bool) → own ≡ false → right_words_of premises own ≡ false
own_words premises own e = elim (bool (right_words premises)) [ inl y ↦ rw (y, e) | inr y ↦ rw y ]

pub malformed_own : (premises : List ℤ) → length premises ≤ 3 * PREMISES + 2 → refusal (state_tests premises false) ≡ 6
malformed_own premises h = malformed premises false h (own_words premises false refl)

module _ (premises : List ℤ) (own : Bool) (query : VariableState → Answer) where
  after : (n : ℕ) → refusal (state_tests premises own) ≡ n → queried premises own query ≡ queried_after n (prepared premises []) query
  after n e = ap (λ (m : ℕ). queried_after m (prepared premises []) query) e

  -- its own words are not accepted: 7 or 6, whatever the premises lead to
  pub unfit : own ≡ false → (n : ℕ) → n ≡ refusal (state_tests premises false) → state_answer (refused_by n) ≡ queried premises own query
  unfit e n z = elim (bool (leb (length premises) (3 * PREMISES + 2))) [
    | inl y ↦ (let h = leb-true (length premises) (3 * PREMISES + 2) y in by 5 (malformed_own premises h))
    | inr y ↦ (let h = leb-false (length premises) (3 * PREMISES + 2) y in by 6 (too_many premises false (omega arith)))
  ]
    where
      by : (m : ℕ) → refusal (state_tests premises false) ≡ suc m → state_answer (refused_by n) ≡ queried premises own query
      by m q = ap (λ (k : ℕ). state_answer (refused_by k)) (z ∙ q) ∙ sym (after (suc m) (ap (λ (b : Bool). refusal (state_tests premises b)) e ∙ q))

  -- they are accepted: the tests are those of the premises
  module _ (e : own ≡ true) where
    is_refused : (m : ℕ) (why : Refusal) → number_of why ≡ suc m → application_numbers (prepared premises []).answer ≡ refused_by (suc m) → refusal (state_tests premises own) ≡ suc m
        → queried_at (prepared premises []).answer (state_answer (query (prepared premises []).state)) ≡ queried premises own query
    is_refused m why e p q =
        ap (λ (w : Application). queried_at w (state_answer (query (prepared premises []).state))) (applications_apart (prepared premises []).answer (Refused why) (p ∙ ap refused_by (sym e)))
        ∙ ap (λ (k : ℕ). state_answer (refused_by k)) e ∙ sym (after (suc m) q)

    fits : queried_at (prepared premises []).answer (state_answer (query (prepared premises []).state)) ≡ queried premises own query
    fits = elim (bool (leb (length premises) (3 * PREMISES + 2))) [
      | inl y ↦ (let h = leb-true (length premises) (3 * PREMISES + 2) y in elim (bool (right_words premises)) [
        | inl z ↦ sym (after 0 (passed premises own h (and_yes (right_words premises) own z e)))
        | inr z ↦ is_refused 5 Atoms refl ((prepared_6 premises []).1 (h, λ f. clash (right_lists_are premises [] ((lists_are premises []).1 f)).0 z)) (malformed premises own h (rw z))
      ])
      | inr y ↦ (let h = leb-false (length premises) (3 * PREMISES + 2) y in is_refused 6 Premises refl ((prepared_7 premises []).1 (omega arith)) (too_many premises own (omega arith)))
    ]

    pub fit : (r : Applied) → r ≡ prepared premises [] → queried_at r.answer (state_answer (query r.state)) ≡ queried premises own query
    fit r same = ap (λ (w : Applied). queried_at w.answer (state_answer (query w.state))) same ∙ fits
