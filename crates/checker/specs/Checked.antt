-- The contracts of the two checks, by the numbers of their answers: what each answers, when it passes, and what Passed means.
use Rattle.std.specs.Prelude.{◌≡◌, List, [], ◌↔◌, ℕ, ◌<◌, ℤ}
use Rattle.integers.specs.Answers.{answered}
use Rattle.scheduling.specs.Scheduling.{PassesFormula, Contradicts}
use Rattle.scheduling.specs.MirroredTime.{mirror_atoms}
use Rattle.checking.specs.Atoms.{atoms_of, consequent_of}
use Rattle.records.specs.Records.{duration_at}
use Rattle.checker.specs.declared.checker.Verdict.{Verdict}
use Rattle.checker.specs.Verdicts.{numbers_of_verdict}
use Rattle.checker.specs.Unjudged.{Unjudged}
use Rattle.checker.specs.Checks.{check_of, tasks_with}
use Rattle.checker.specs.MirroredChecks.{mirror_if_any, check_mirrored_of}

-- The check, by the numbers of its answer: where it is refused or finds a contradiction, whose kinds are 3 and 2. Else it is Passed, kind 0, exactly where
-- the premises and the consequent meet the formula; and then no starts contradict it.
pub record Checked (ds premises consequent : List ℤ) (r : Verdict) : Type 0 where
  pub answer : numbers_of_verdict r ≡ numbers_of_verdict (check_of ds premises consequent)
  pub unjudged : Unjudged ds premises consequent (numbers_of_verdict r)
  pub exactly : (numbers_of_verdict r).kind < 2 → (numbers_of_verdict r).kind ≡ 0 ↔ PassesFormula (tasks_with ds) (atoms_of premises) (consequent_of consequent)
  pub sound : numbers_of_verdict r ≡ answered 0 [] → (s : ℕ → ℤ) → Contradicts (tasks_with ds) (atoms_of premises) (consequent_of consequent) s → ⊥

-- The mirrored check's answer, by its numbers: as the check, with the formula in mirrored time.
pub record CheckedMirrored (ds premises consequent : List ℤ) (r : Verdict) : Type 0 where
  pub answer : numbers_of_verdict r ≡ numbers_of_verdict (check_mirrored_of ds premises consequent)
  pub unjudged : Unjudged ds premises consequent (numbers_of_verdict r)
  pub exactly : (numbers_of_verdict r).kind < 2
      → (numbers_of_verdict r).kind ≡ 0 ↔ PassesFormula (tasks_with ds) (mirror_atoms (duration_at ds) (atoms_of premises))
      (mirror_if_any (duration_at ds) (consequent_of consequent))
  pub sound : numbers_of_verdict r ≡ answered 0 [] → (s : ℕ → ℤ) → Contradicts (tasks_with ds) (atoms_of premises) (consequent_of consequent) s → ⊥
