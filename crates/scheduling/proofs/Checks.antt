-- A check that passes is sound over all whole-number starts: only the ranges of the tasks that it looks at count.
use mathlib.Core.Path.{refl}
use mathlib.Core.Bool.{cond}
use mathlib.Core.Logic.{inl, inr}
use Prim.Native.Nat.{ℕ, ◌≤◌, ◌<◌}
use lib.IntN.{ℤ}
use lib.Signed.{◌≤ℤ◌, ≤ℤ_refl}
use Rattle.scheduling.specs.Scheduling.{whole, Tasks, Proper, TaskSet, ◌with◌, In, Overloads, NoOverlap, Schedule, RuleFormula}
use Rattle.scheduling.proofs.Agreement.{Agree, overloads→, formula→}
use Rattle.scheduling.proofs.Sets.{with_new, with_old}
use Rattle.integers.proofs.Bools.{bool}
use Rattle.scheduling.proofs.Schedules.{overload_sound, formula_sound}
use Rattle.integers.proofs.Ints.{ints}

-- The tasks of X in the ranges of B, every other one at s.
module _ (B : Tasks whole) (X : TaskSet) (s : ℕ → ℤ) where
  from_X : ℕ → ℤ
  from_X k = cond (X k) (B.earliest k) (s k)

  to_X : ℕ → ℤ
  to_X k = cond (X k) (B.latest k) (s k)

  abbrev on : Tasks whole
  on = record { count = B.count; earliest = from_X; latest = to_X; duration = B.duration }

  agree : Agree B on X
  unfolding from_X to_X
  agree = record { count = refl; duration = λ k. refl; earliest = λ k h. rw h.mem; latest = λ k h. rw h.mem }

-- Whole-number starts at which no two tasks overlap.
module _ (B : Tasks whole) (lasts : (k : ℕ) → k < B.count → 1 ≤ B.duration k) (s : ℕ → ℤ)
    (apart : NoOverlap B s) where
  module _ (X : TaskSet) (from : (k : ℕ) → In B X k → B.earliest k ≤ℤ s k) (to : (k : ℕ) → In B X k → s k ≤ℤ B.latest k) where
    abbrev K : Tasks whole
    K = on B X s

    schedule : Schedule K s
    unfolding from_X to_X
    schedule = record {
      from = λ k q. elim (bool (X k)) [ inl y ↦ rw y (from k (record { small = q; mem = y })) | inr y ↦ rw y (≤ℤ_refl (s k)) ];
      to = λ k q. elim (bool (X k)) [ inl y ↦ rw y (to k (record { small = q; mem = y })) | inr y ↦ rw y (≤ℤ_refl (s k)) ];
      apart = apart;
    }

    ok : Proper K
    ok = record { ranges = λ k q. omega (ints, schedule.from k q, schedule.to k q); lasts = lasts }

  pub check_sound : (Ω : TaskSet) (i : ℕ) → RuleFormula B Ω i → ((k : ℕ) → In B (Ω with i) k → B.earliest k ≤ℤ s k) → ((k : ℕ) → In B (Ω with i) k → s k ≤ℤ B.latest k) → ⊥
  check_sound Ω i c from to = let X = Ω with i in formula_sound (K X from to) (ok X from to) s (schedule X from to) Ω i
      (formula→ B (K X from to) X (agree B X s) Ω i (λ k h. with_old Ω i k h.mem) (with_new Ω i) c)

  pub overload_check : (Ω : TaskSet) → Overloads B Ω → ((k : ℕ) → In B Ω k → B.earliest k ≤ℤ s k) → ((k : ℕ) → In B Ω k → s k ≤ℤ B.latest k) → ⊥
  overload_check Ω c from to = overload_sound (K Ω from to) (ok Ω from to) s (schedule Ω from to) Ω (overloads→ B (K Ω from to) Ω (agree B Ω s) Ω (λ k h. h.mem) c)
