-- A struct gives its answer back, so different answers are different structs.
use Rattle.answers.specs.declared.source_calls.CheckAnswer.{CheckAnswer}
use Rattle.answers.specs.declared.source_calls.StateAnswer.{StateAnswer}
use mathlib.Core.Path.{◌≡◌, refl, sym, ap, ◌∙◌}
use Prim.Native.Nat.{ℕ, zero, suc, ◌*◌, ◌/◌}
use native.Mathlib.Omega.{arith}
use lib.IntN.{ℤ, pos, negsuc}
use Rattle.integers.proofs.Answers.{told_apart}
use Rattle.checking.specs.declared.int_ext.IntExt.{IntExt}
use Rattle.checking.specs.declared.int_ext.IntExt.TheVariants.{Int, NegativeInf, PositiveInf}
use Rattle.checking.specs.declared.variable_state.Application.{Application}
use Rattle.checking.specs.declared.variable_state.Application.TheVariants as application
use Rattle.std.specs.Prelude.{Result, Ok, Err}
use mathlib.Core.Bool.{Bool, true, false}
use Rattle.integers.specs.declared.refused.Refusal.{Refusal}
use Rattle.integers.specs.Refused.{number_of}
use Rattle.integers.specs.Reasons.{reason_of}
use Rattle.integers.proofs.RefusalNumbers.{reason_is}
use Rattle.checking.specs.Answers.{application_numbers, numbers_of_truth, numbers_of_bound}
use Rattle.checker.specs.declared.checker.Verdict.{Verdict}
use Rattle.checker.specs.declared.checker.Verdict.TheVariants as verdict
use Rattle.checker.specs.Verdicts.{numbers_of_verdict}
use Rattle.runs.specs.declared.outcome.Outcome.{Outcome}
use Rattle.runs.specs.declared.outcome.Outcome.TheVariants as outcome
use Rattle.runs.specs.Outcomes.{outcome_numbers}
use Rattle.answers.specs.declared.source_calls.RunAnswer.{RunAnswer}
use Rattle.answers.specs.SourceAnswers.{nat_at, answer_of_run, answer_of_check, state_answer}
use Rattle.post_words.specs.Posts.{words_of}

-- a refusal is read back from its number
pub err_back : {A : Type 0} (why : Refusal) → ◌≡◌ {A = Result A Refusal} (Err (reason_of (number_of why))) (Err why)
err_back {A} why = let refused : Refusal → Result A Refusal = λ w. Err w in ap refused (reason_is why)

-- Runs -------------------------------------------------------------------------------------------------------------------------

-- the count of the atoms is read back from that of their words
pub atoms_back : (n : ℕ) → 3 * n / 3 ≡ n
atoms_back n = omega arith

-- an outcome is read back from its numbers, an overload's in words
abbrev pub outcome_from : ℕ → ℕ → ℕ → ℕ → ℕ → Outcome
outcome_from zero number posts first count = outcome.Done posts
outcome_from (suc zero) number posts first count = outcome.Overload posts (first / 3) (count / 3)
outcome_from (suc (suc zero)) number posts first count = outcome.Emptied posts
outcome_from (suc (suc (suc k))) number posts first count = outcome.Refused (reason_of number)

pub outcome_back : (o : Outcome) → outcome_from (outcome_numbers o).kind (outcome_numbers o).number (nat_at 0 (outcome_numbers o)) (words_of (nat_at 1 (outcome_numbers o)))
    (words_of (nat_at 2 (outcome_numbers o)))
    ≡ o
outcome_back (outcome.Done posts) = refl
outcome_back (outcome.Overload posts first count) = λ i. outcome.Overload posts (atoms_back first i) (atoms_back count i)
outcome_back (outcome.Emptied posts) = refl
outcome_back (outcome.Refused why) = ap outcome.Refused (reason_is why)

pub runs_apart : (o o' : Outcome) (c c' : ℕ) → answer_of_run (outcome_numbers o) c ≡ answer_of_run (outcome_numbers o') c' → (o ≡ o') × (c ≡ c')
runs_apart o o' c c' e = (
  sym (outcome_back o) ∙ ap (λ (a : RunAnswer). outcome_from a.kind a.number a.posts a.first a.count) e ∙ outcome_back o',
  ap (λ (a : RunAnswer). a.changes) e,
)

-- Checks -----------------------------------------------------------------------------------------------------------------------

abbrev verdict_from : CheckAnswer → Verdict
verdict_from a = elim a.kind [
  | zero ↦ verdict.Passed
  | suc zero ↦ verdict.NotPassed
  | suc (suc zero) ↦ verdict.Contradiction a.variable
  | suc (suc (suc k)) ↦ verdict.Refused (reason_of a.number)
]

pub checks_apart : (r r' : Verdict) → answer_of_check (numbers_of_verdict r) ≡ answer_of_check (numbers_of_verdict r') → r ≡ r'
checks_apart = told_apart (λ r. answer_of_check (numbers_of_verdict r))
    verdict_from (λ r. elim r as (λ k. verdict_from (answer_of_check (numbers_of_verdict k)) ≡ k) [ verdict.Passed ↦ refl | verdict.NotPassed ↦ refl | verdict.Contradiction x ↦ refl | verdict.Refused why ↦ ap verdict.Refused (reason_is why) ])

-- Queries of a state ---------------------------------------------------------------------------------------------------------

-- is_true, and what comes of premises that lead to no state
abbrev truth_from : StateAnswer → Result Bool Refusal
truth_from a = elim a.kind [ zero ↦ Ok true | suc zero ↦ Ok false | suc (suc k) ↦ Err (reason_of a.number) ]

pub state_truths_apart : (r r' : Result Bool Refusal) → state_answer (numbers_of_truth r) ≡ state_answer (numbers_of_truth r') → r ≡ r'
state_truths_apart = told_apart (λ r. state_answer (numbers_of_truth r))
    truth_from (λ r. elim r as (λ k. truth_from (state_answer (numbers_of_truth k)) ≡ k) [ Ok true ↦ refl | Ok false ↦ refl | Err why ↦ err_back why ])

abbrev application_from : StateAnswer → Application
application_from a = elim a.kind [
  | zero ↦ application.Consistent
  | suc zero ↦ application.Consistent
  | suc (suc zero) ↦ application.Contradiction a.variable
  | suc (suc (suc k)) ↦ application.Refused (reason_of a.number)
]

pub state_applications_apart : (r r' : Application) → state_answer (application_numbers r) ≡ state_answer (application_numbers r') → r ≡ r'
state_applications_apart = told_apart (λ r. state_answer (application_numbers r))
    application_from (λ r. elim r as (λ k. application_from (state_answer (application_numbers k)) ≡ k) [ application.Consistent ↦ refl | application.Contradiction x ↦ refl | application.Refused why ↦ ap application.Refused (reason_is why) ])

-- a bound: an infinity's sign, or 0 and the whole number
abbrev ext_from : ℤ → ℤ → IntExt
ext_from (pos zero) z = Int z
ext_from (pos (suc n)) z = PositiveInf
ext_from (negsuc n) z = NegativeInf

abbrev state_bound_from : StateAnswer → Result IntExt Refusal
state_bound_from a = elim a.kind [ zero ↦ Ok (ext_from a.infinity a.value) | suc k ↦ Err (reason_of a.number) ]

pub state_bounds_apart : (r r' : Result IntExt Refusal) → state_answer (numbers_of_bound r) ≡ state_answer (numbers_of_bound r') → r ≡ r'
state_bounds_apart = told_apart (λ r. state_answer (numbers_of_bound r))
    state_bound_from (λ r. elim r as (λ k. state_bound_from (state_answer (numbers_of_bound k)) ≡ k) [ Ok (Int z) ↦ refl | Ok NegativeInf ↦ refl | Ok PositiveInf ↦ refl | Err why ↦ err_back why ])
