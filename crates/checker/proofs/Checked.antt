-- The checks' definitions keep the promises.
use mathlib.Core.Path.{◌≡◌, refl, sym, subst}
use mathlib.Core.List.{List}
use lib.IntN.{ℤ}
use Rattle.checker.specs.declared.checker.Verdict.{Verdict}
use Rattle.checker.specs.declared.checker.Verdict.TheVariants.{Passed}
use Rattle.checker.specs.Checks.{check_of}
use Rattle.checker.specs.declared.checker.Direction.TheVariants.{Forward, Mirrored}
use Rattle.checker.specs.MirroredChecks.{check_towards, check_mirrored_of}
use Rattle.checker.specs.Checked.{Checked, CheckedMirrored}
use Rattle.checker.proofs.VerdictNumbers.{verdicts_apart}
use Rattle.checker.proofs.Soundness.{check_sound, mirrored_sound, exactly_passed}
use Rattle.checker.proofs.Unjudged.{unjudged}

module _ (ds ps cs : List ℤ) where
  pub checked : (r : Verdict) → r ≡ check_towards Forward ds ps cs → Checked ds ps cs r
  unfolding check_of
  checked r e = subst (Checked ds ps cs) (sym e) (record {
    answer = refl;
    unjudged = unjudged Forward ds ps cs;
    exactly = exactly_passed Forward ds ps cs;
    sound = λ p. check_sound ds ps cs (verdicts_apart (check_towards Forward ds ps cs) Passed p);
  })

  pub checked_mirrored : (r : Verdict) → r ≡ check_towards Mirrored ds ps cs → CheckedMirrored ds ps cs r
  unfolding check_mirrored_of
  checked_mirrored r e = subst (CheckedMirrored ds ps cs) (sym e) (record {
    answer = refl;
    unjudged = unjudged Mirrored ds ps cs;
    exactly = exactly_passed Mirrored ds ps cs;
    sound = λ p. mirrored_sound ds ps cs (verdicts_apart (check_towards Mirrored ds ps cs) Passed p);
  })
