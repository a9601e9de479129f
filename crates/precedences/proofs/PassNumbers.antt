-- The numbers tell the pass's answers apart.
use mathlib.Core.Path.{◌≡◌, refl, ap}
use Prim.Native.Nat.{ℕ, zero, suc}
use Rattle.integers.specs.Answers.{Answer}
use Rattle.integers.proofs.Answers.{count_at, told_apart}
use Rattle.integers.specs.Reasons.{reason_of}
use Rattle.integers.proofs.RefusalNumbers.{reason_is}
use Rattle.precedences.specs.declared.answers.Precedences.{Precedences}
use Rattle.precedences.specs.declared.answers.Precedences.TheVariants as pass
use Rattle.precedences.specs.Numbers.{numbers_of_precedences}

abbrev pass_of : ℕ → Answer → Precedences
pass_of zero a = pass.Done
pass_of (suc zero) a = pass.Emptied (count_at a 0)
pass_of (suc (suc k)) a = pass.Refused (reason_of a.number)

read_pass : (x : Precedences) → pass_of (numbers_of_precedences x).kind (numbers_of_precedences x) ≡ x
read_pass pass.Done = refl
read_pass (pass.Emptied i) = refl
read_pass (pass.Refused why) = ap pass.Refused (reason_is why)

pub passes_apart : (x y : Precedences) → numbers_of_precedences x ≡ numbers_of_precedences y → x ≡ y
passes_apart = told_apart numbers_of_precedences (λ a. pass_of a.kind a) read_pass
