-- The numbers tell verdicts apart: each verdict is read back from its own.
use mathlib.Core.Path.{◌≡◌, refl, ap}
use Prim.Native.Nat.{ℕ, zero, suc}
use lib.IntN.{pos, nat_abs}
use lib.ListN.{get_or}
use Rattle.integers.specs.Answers.{Answer}
use Rattle.integers.proofs.Answers.{told_apart}
use Rattle.integers.specs.Reasons.{reason_of}
use Rattle.integers.proofs.RefusalNumbers.{reason_is}
use Rattle.checker.specs.declared.checker.Verdict.{Verdict}
use Rattle.checker.specs.declared.checker.Verdict.TheVariants.{Passed, NotPassed, Contradiction, Refused}
use Rattle.checker.specs.Verdicts.{numbers_of_verdict}

-- what a caller makes of the numbers
abbrev verdict_at : ℕ → Answer → Verdict
verdict_at zero a = Passed
verdict_at (suc zero) a = NotPassed
verdict_at (suc (suc zero)) a = Contradiction (nat_abs (get_or a.values 0 (pos 0)))
verdict_at (suc (suc (suc k))) a = Refused (reason_of a.number)

pub verdicts_apart : (r r' : Verdict) → numbers_of_verdict r ≡ numbers_of_verdict r' → r ≡ r'
verdicts_apart = told_apart numbers_of_verdict (λ a. verdict_at a.kind a) (λ r. elim r as (λ k. verdict_at (numbers_of_verdict k).kind (numbers_of_verdict k) ≡ k) [ Passed ↦ refl | NotPassed ↦ refl | Contradiction x ↦ refl | Refused why ↦ ap Refused (reason_is why) ])
