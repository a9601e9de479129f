-- The check: its answer for every input.
use Rattle.std.specs.Prelude.{Bool, cond, ◌&&◌, List, [], ◌∷◌, ℕ, zero, suc, ltb, ℤ, pos, length}
use Rattle.std.proofs.Math.Option.{Option, some, none}
use Rattle.integers.specs.declared.refused.Refusal.TheVariants as refusal
use Rattle.integers.specs.Tests.{refusal}
use Rattle.scheduling.specs.Scheduling.{whole, Tasks, Atom}
use Rattle.scheduling.specs.Words.{atom_words}
use Rattle.checking.specs.Atoms.{consequent_of}
use Rattle.checking.specs.declared.variable_state.VariableState.{VariableState}
use Rattle.checking.specs.declared.variable_state.Application.TheVariants as application
use Rattle.checking.specs.declared.variable_state.Applied.{Applied}
use Rattle.checking.specs.Bounds.{lower_in, upper_in}
use Rattle.checking.specs.States.{prepared}
use Rattle.integers.specs.Reasons.{reason_of}
use Rattle.records.specs.Records.{duration_at, creation_tests}
use Rattle.checker.specs.Formulas.{bounded, overloaded, implied}
use Rattle.checker.specs.declared.checker.Verdict.{Verdict}
use Rattle.checker.specs.declared.checker.Verdict.TheVariants.{Passed, NotPassed, Contradiction, Refused}

-- what the formula says
abbrev pub verdict : Bool → Verdict
verdict holds = cond holds Passed NotPassed

-- the bounds of each task's start are judged: 8 where the consequent's variable is no task's, or lacks a finite bound
abbrev pub judged_by : List ℤ → (ℕ → Option ℤ) → (ℕ → Option ℤ) → Option Atom → Verdict
judged_by ds lower upper none = verdict (overloaded (length ds) (duration_at ds) lower upper)
judged_by ds lower upper (some a) =
    cond (ltb a.variable (length ds) && bounded (length ds) (duration_at ds) lower upper a.variable)
    (verdict (implied (length ds) (duration_at ds) lower upper a.variable))
    (Refused refusal.Consequent)

-- those that the state of the premises and the negated consequent answers: `induced_lower_bound` and `induced_upper_bound`
abbrev pub judged : List ℤ → VariableState → Option Atom → Verdict
judged ds s = judged_by ds (lower_in s) (upper_in s)

module _ (judge : VariableState → Option Atom → Verdict) where
  abbrev pub concluded : Applied → Option Atom → Verdict
  concluded r consequent = elim r.answer [
    | application.Consistent ↦ judge r.state consequent
    | application.Contradiction x ↦ Contradiction x
    | application.Refused why ↦ Refused why
  ]

  -- 1, 2, 5 come first
  abbrev pub check_after : ℕ → List ℤ → List ℤ → Verdict
  check_after zero premises consequent = concluded (prepared premises consequent) (consequent_of consequent)
  check_after (suc n) premises consequent = Refused (reason_of (suc n))

-- the answer: 1, 2, 5, 7, 6; then 21 or a contradiction, atom by atom; then 8; then the formula
unfoldable pub check_of : List ℤ → List ℤ → List ℤ → Verdict
check_of ds premises consequent = check_after (judged ds) (refusal (creation_tests ds)) premises consequent

-- the words of a consequent: one atom's, or none
abbrev pub consequent_words : Option Atom → List ℤ
consequent_words none = []
consequent_words (some a) = atom_words (a ∷ [])

-- the tasks of a check: their durations count, their ranges play no part
abbrev pub tasks_with : List ℤ → Tasks whole
tasks_with ds = record { count = length ds; earliest = λ k. pos 0; latest = λ k. pos 0; duration = duration_at ds }
