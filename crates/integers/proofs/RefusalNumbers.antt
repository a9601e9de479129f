-- A reason is never number 0, which is that of a call that nothing refused.
use Rattle.std.proofs.Common.{◌≡◌, ℕ, arith, refl}
use Rattle.integers.specs.declared.refused.Refusal.{Refusal}
use Rattle.integers.specs.declared.refused.Refusal.TheVariants as refusal
use Rattle.integers.specs.Refused.{number_of}
use Rattle.integers.specs.Reasons.{reason_of}

pub never_zero : (why : Refusal) → number_of why ≡ 0 → ⊥
never_zero refusal.TaskCount e = omega arith
never_zero refusal.Duration e = omega arith
never_zero refusal.Start e = omega arith
never_zero refusal.Crossed e = omega arith
never_zero refusal.DurationSum e = omega arith
never_zero refusal.Atoms e = omega arith
never_zero refusal.Premises e = omega arith
never_zero refusal.Consequent e = omega arith
never_zero refusal.Room e = omega arith
never_zero refusal.RangeCount e = omega arith
never_zero refusal.Post e = omega arith
never_zero refusal.Removed e = omega arith
never_zero refusal.Bars e = omega arith
never_zero refusal.Schedule e = omega arith
never_zero refusal.PageRoom e = omega arith
never_zero refusal.ReasonRoom e = omega arith
never_zero refusal.Task e = omega arith
never_zero refusal.Question e = omega arith
never_zero refusal.Due e = omega arith
never_zero refusal.Record e = omega arith
never_zero refusal.Holes e = omega arith
never_zero refusal.State e = omega arith
never_zero refusal.Length e = omega arith

-- so a number that a reason has refuses
pub refusing : {n : ℕ} (why : Refusal) → number_of why ≡ n → n ≡ 0 → ⊥
refusing why is z = never_zero why (rw is z)

-- a reason is the one that its number stands for
pub reason_is : (why : Refusal) → reason_of (number_of why) ≡ why
reason_is refusal.TaskCount = refl
reason_is refusal.Duration = refl
reason_is refusal.Start = refl
reason_is refusal.Crossed = refl
reason_is refusal.DurationSum = refl
reason_is refusal.Atoms = refl
reason_is refusal.Premises = refl
reason_is refusal.Consequent = refl
reason_is refusal.Room = refl
reason_is refusal.RangeCount = refl
reason_is refusal.Post = refl
reason_is refusal.Removed = refl
reason_is refusal.Bars = refl
reason_is refusal.Schedule = refl
reason_is refusal.PageRoom = refl
reason_is refusal.ReasonRoom = refl
reason_is refusal.Task = refl
reason_is refusal.Question = refl
reason_is refusal.Due = refl
reason_is refusal.Record = refl
reason_is refusal.Holes = refl
reason_is refusal.State = refl
reason_is refusal.Length = refl
