-- The answer of a check, test by test.
use mathlib.Core.Path.{◌≡◌, refl, sym, ap, ◌∙◌}
use mathlib.Core.List.{List}
use Prim.Native.Nat.{ℕ, zero, suc}
use lib.IntN.{ℤ}
use lib.ListN.{length}
use Rattle.integers.specs.Tests.{refusal}
use Rattle.integers.specs.Refused.{number_of}
use Rattle.integers.proofs.RefusalNumbers.{never_zero, reason_is}
use Rattle.integers.specs.declared.refused.Refusal.{Refusal}
use Rattle.integers.specs.Reasons.{reason_of}
use Rattle.checking.specs.Atoms.{consequent_of}
use Rattle.checking.proofs.Atoms.{right_lists_are}
use Rattle.checking.specs.declared.variable_state.Application.{Application}
use Rattle.checking.specs.declared.variable_state.Application.TheVariants as application
use Rattle.checking.specs.declared.variable_state.Applied.{Applied}
use Rattle.checking.specs.States.{prepared}
use Rattle.checking.proofs.PreparedStates.{prepared_right}
use Rattle.records.specs.Records.{creation_tests, lengths_of}
use Rattle.checker.specs.BoundArrays.{mirrored_bounds}
use Rattle.checker.specs.declared.checker.Verdict.{Verdict}
use Rattle.checker.specs.declared.checker.Verdict.TheVariants.{Contradiction, Refused}
use Rattle.checker.specs.Checks.{concluded, check_after}
use Rattle.checker.specs.declared.checker.Direction.{Direction}
use Rattle.checker.specs.declared.checker.Direction.TheVariants.{Forward, Mirrored}
use Rattle.checker.specs.MirroredChecks.{lower_as, upper_as, judged_as, check_towards}
use Rattle.checking.specs.TaskBounds.{bounds_among}
use Rattle.checking.specs.declared.start_bounds.Bounds.{Bounds}
use Rattle.checker.specs.CheckArrays.{Judgeable, Consequent}
use Rattle.checker.proofs.Verdicts.{judgeable, mirrored_judgeable}

module _ (ds ps cs : List ℤ) where
  -- the premises and the negated consequent, applied
  abbrev applied : Applied
  applied = prepared ps cs

  module _ (direction : Direction) where
    -- what comes after 1, 2 and 5
    pub after : (n : ℕ) → refusal (creation_tests ds) ≡ n → check_towards direction ds ps cs ≡ check_after (judged_as direction ds) n ps cs
    after n e = ap (λ (m : ℕ). check_after (judged_as direction ds) m ps cs) e

    -- 1, 2 or 5
    pub is_refused : (why : Refusal) → number_of why ≡ refusal (creation_tests ds) → Refused why ≡ check_towards direction ds ps cs
    is_refused why e = by (number_of why) refl
      where
        by : (n : ℕ) → number_of why ≡ n → Refused why ≡ check_towards direction ds ps cs
        by zero z = absurd (never_zero why z)
        by (suc n) z = ap Refused (sym (reason_is why) ∙ ap reason_of z) ∙ sym (after (suc n) (sym e ∙ z))

    -- 7, 6, 21 and contradictions
    module _ (accepted : 0 ≡ refusal (creation_tests ds)) where
      concludes : (x : Application) → applied.answer ≡ x → check_towards direction ds ps cs ≡ concluded (judged_as direction ds) (record { answer = x; state = applied.state }) (consequent_of cs)
      concludes x e = after 0 (sym accepted) ∙ ap (λ (y : Application). concluded (judged_as direction ds) (record { answer = y; state = applied.state }) (consequent_of cs)) e

      module _ {w : Application} (is : w ≡ applied.answer) where
        pub contradicted : (x : ℕ) → w ≡ application.Contradiction x → Contradiction x ≡ check_towards direction ds ps cs
        contradicted x e = sym (concludes (application.Contradiction x) (sym is ∙ e))

        pub refused_atoms : (n : Refusal) → w ≡ application.Refused n → Refused n ≡ check_towards direction ds ps cs
        refused_atoms n e = sym (concludes (application.Refused n) (sym is ∙ e))

      pub concluded_by : applied.answer ≡ application.Consistent → (r : Verdict) → r ≡ judged_as direction ds applied.state (consequent_of cs) → r ≡ check_towards direction ds ps cs
      concluded_by e r j = j ∙ sym (concludes application.Consistent e)

  -- 8 and the formula
  module _ (ok : refusal (creation_tests ds) ≡ 0) (e : applied.answer ≡ application.Consistent) where
    pub can_judge : (b : Bounds) (lengths : List ℕ) → b ≡ bounds_among applied.state (length ds) → lengths ≡ lengths_of ds
        → Judgeable ds (lower_as Forward ds applied.state) (upper_as Forward ds applied.state) (length ds) b lengths
    can_judge b lengths y z = rw (y, z) (judgeable ds ps cs ok e)

    pub can_judge_mirrored : (b b' : Bounds) (lengths : List ℕ) → b ≡ bounds_among applied.state (length ds) → b' ≡ mirrored_bounds b lengths (length ds) → lengths ≡ lengths_of ds
        → Judgeable ds (lower_as Mirrored ds applied.state) (upper_as Mirrored ds applied.state) (length ds) b' lengths
    can_judge_mirrored b b' lengths y x z = rw (x, y, z) (mirrored_judgeable ds ps cs ok e)

    pub consequent_right : Consequent cs
    consequent_right = let (p, short, right) = right_lists_are ps cs (prepared_right ps cs e) in record { short = short; right = right }
