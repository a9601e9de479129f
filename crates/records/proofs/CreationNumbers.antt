-- The numbers tell creation's answers apart.
use mathlib.Core.Path.{◌≡◌, refl, ap}
use mathlib.Core.List.{List}
use Prim.Native.Nat.{ℕ, zero, suc}
use lib.IntN.{ℤ}
use Rattle.std.specs.Prelude.{Result, Ok, Err}
use Rattle.integers.specs.Answers.{Answer}
use Rattle.integers.specs.declared.refused.Refusal.{Refusal}
use Rattle.integers.proofs.Answers.{told_apart}
use Rattle.records.specs.declared.record.Created.{Created}
use Rattle.integers.specs.Reasons.{reason_of}
use Rattle.records.specs.Records.{creation_numbers, created, Creates}
use Rattle.integers.proofs.RefusalNumbers.{reason_is}

abbrev creation_of : ℕ → Answer → Result Unit Refusal
creation_of zero a = Ok tt
creation_of (suc k) a = Err (reason_of a.number)

read : (x : Result Unit Refusal) → creation_of (creation_numbers x).kind (creation_numbers x) ≡ x
read (Ok tt) = refl
read (Err why) = ap (λ (w : Refusal). Err w) (reason_is why)

pub creations_apart : (x y : Result Unit Refusal) → creation_numbers x ≡ creation_numbers y → x ≡ y
creations_apart = told_apart creation_numbers (λ a. creation_of a.kind a) read

-- what creation answers is what is defined
pub created_as : {ds : List ℤ} {r : Created} → Creates ds r → r ≡ created ds
created_as {ds} {r} e = λ i. record { answer = creations_apart r.answer (created ds).answer e.answer i; «record» = e.made i }
