-- Different answers have different numbers.
use mathlib.Core.Path.{◌≡◌, refl, ap}
use Prim.Native.Nat.{ℕ, zero, suc}
use Rattle.integers.specs.declared.refused.Refusal.{Refusal}
use Rattle.integers.specs.Answers.{Answer}
use Rattle.integers.proofs.Answers.{count_at, told_apart}
use Rattle.std.specs.Prelude.{Option, Some, None, Result, Ok, Err}
use Rattle.integers.specs.Reasons.{reason_of}
use Rattle.integers.proofs.RefusalNumbers.{reason_is}
use Rattle.overload_test.specs.Numbers.{numbers_of_overload}

abbrev overload_of : ℕ → Answer → Result (Option ℕ) Refusal
overload_of zero a = Ok (Some (count_at a 0))
overload_of (suc zero) a = Ok None
overload_of (suc (suc k)) a = Err (reason_of a.number)

read : (x : Result (Option ℕ) Refusal) → overload_of (numbers_of_overload x).kind (numbers_of_overload x) ≡ x
read (Ok (Some k)) = refl
read (Ok None) = refl
read (Err why) = ap Err (reason_is why)

pub overloads_apart : (x y : Result (Option ℕ) Refusal) → numbers_of_overload x ≡ numbers_of_overload y → x ≡ y
overloads_apart = told_apart numbers_of_overload (λ a. overload_of a.kind a) read
