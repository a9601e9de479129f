-- The numbers tell answers apart: each answer is read back from its own.
use mathlib.Core.Path.{◌≡◌, refl, ap}
use mathlib.Core.List.{[], ◌∷◌}
use Prim.Native.Nat.{ℕ, zero, suc}
use native.Mathlib.Omega.{arith}
use lib.IntN.{ℤ, pos, negsuc, nat_abs}
use Rattle.integers.specs.Answers.{Answer, answered, refused_by}
use Rattle.integers.specs.declared.refused.Refusal.{Refusal}
use Rattle.integers.specs.Refused.{number_of}
use Rattle.integers.specs.Reasons.{reason_of}
use Rattle.integers.proofs.RefusalNumbers.{reason_is}
use Rattle.integers.proofs.Answers.{value_at, told_apart}
use Rattle.checking.specs.declared.int_ext.IntExt.{IntExt}
use Rattle.checking.specs.declared.int_ext.IntExt.TheVariants.{Int, NegativeInf, PositiveInf}
use Rattle.checking.specs.declared.variable_state.Application.{Application}
use Rattle.checking.specs.declared.variable_state.Application.TheVariants as application
use Rattle.checking.specs.declared.variable_state.Applied.{Applied}
use Rattle.checking.specs.Answers.{application_numbers, AppliedAs, numbers_of_ext}

-- answers of different kinds differ
pub other_kind {ℓ} : {X : Type ℓ} (a b : Answer) → a ≡ b → (a.kind ≡ b.kind → ⊥) → X
other_kind a b e n = absurd (n (ap (λ (r : Answer). r.kind) e))

-- what a caller makes of the numbers of applying, and of a bound's
abbrev application_at : ℕ → Answer → Application
application_at zero a = application.Consistent
application_at (suc zero) a = application.Consistent
application_at (suc (suc zero)) a = application.Contradiction (nat_abs (value_at a 0))
application_at (suc (suc (suc k))) a = application.Refused (reason_of a.number)

pub applications_apart : (r r' : Application) → application_numbers r ≡ application_numbers r' → r ≡ r'
applications_apart = told_apart application_numbers (λ a. application_at a.kind a)
    (λ r. elim r as (λ k. application_at (application_numbers k).kind (application_numbers k) ≡ k) [
      | application.Consistent ↦ refl
      | application.Contradiction x ↦ refl
      | application.Refused why ↦ ap application.Refused (reason_is why)
    ])

-- an answer that a number refuses names a reason of that number
pub refused_as : (r : Application) (n : ℕ) → application_numbers r ≡ refused_by n → (why : Refusal) × (r ≡ application.Refused why) × (number_of why ≡ n)
refused_as application.Consistent n e = other_kind (answered 0 []) (refused_by n) e (omega arith)
refused_as (application.Contradiction x) n e = other_kind (answered 2 (pos x ∷ [])) (refused_by n) e (omega arith)
refused_as (application.Refused why) n e = (why, refl, ap (λ (a : Answer). a.number) e)

pub applied_apart : {r r' : Applied} → AppliedAs r' r → r ≡ r'
applied_apart {r} {r'} e = λ i. record { answer = applications_apart r.answer r'.answer e.answer i; state = e.state i }

pub ext_number : (b : IntExt) → (numbers_of_ext b).number ≡ 0
ext_number (Int z) = refl
ext_number NegativeInf = refl
ext_number PositiveInf = refl

abbrev ext_at : ℤ → ℤ → IntExt
ext_at (pos zero) z = Int z
ext_at (pos (suc n)) z = PositiveInf
ext_at (negsuc n) z = NegativeInf

pub exts_apart : (b b' : IntExt) → numbers_of_ext b ≡ numbers_of_ext b' → b ≡ b'
exts_apart = told_apart numbers_of_ext (λ a. ext_at (value_at a 0) (value_at a 1))
    (λ b. elim b as (λ k. ext_at (value_at (numbers_of_ext k) 0) (value_at (numbers_of_ext k) 1) ≡ k) [ Int z ↦ refl | NegativeInf ↦ refl | PositiveInf ↦ refl ])
