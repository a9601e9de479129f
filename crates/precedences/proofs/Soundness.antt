-- Why a bound holds: no task that comes before i can come after it, so all of them end by i's start. This asks nothing of other ranges.
use mathlib.Core.Path.{◌≡◌}
use mathlib.Core.Bool.{true, not}
use mathlib.Core.Logic.{inl, inr}
use Prim.Native.Nat.{ℕ, ◌<◌, max}
use native.Mathlib.Omega.{arith}
use lib.Dec.{eqb}
use lib.IntN.{ℤ, pos, ◌+ℤ◌}
use lib.Signed.{lt_z, ◌≤ℤ◌, ≤ℤ_refl}
use borrow.Author.Tests.{eqb-false, not-true}
use Rattle.integers.specs.Moments.{moment, Above}
use Rattle.integers.proofs.Bools.{and_true}
use Rattle.integers.proofs.Ints.{ints, sumℤ}
use Rattle.integers.proofs.MomentSums.{mono, reflect, plus, deep, more_above}
use Rattle.scheduling.specs.Scheduling.{whole, Tasks, Proper, In, NoOverlap, Schedule}
use Rattle.scheduling.specs.Moments.{moments}
use Rattle.scheduling.proofs.Clocks.{part_above, ect→, schedule→}
use Rattle.scheduling.proofs.Windows.{ends_by}
use Rattle.precedences.specs.Predecessors.{predecessors, AllBefore, PrecedenceBound}

-- a task with latest start l cannot start after task i, which starts at e or later and lasts d, where l is below e + d
not_after : (e l si sk : ℤ) (d : ℕ) → lt_z l (e +ℤ pos d) ≡ true → e ≤ℤ si → sk ≤ℤ l → (si +ℤ pos d) ≤ℤ sk → ⊥
not_after e l si sk d y h k after = omega (ints, sumℤ e (pos d), sumℤ si (pos d))

-- Take starts at which no two tasks overlap, P's no later than their latest, and i's no earlier than its earliest. Then all of P ends by the start of i.
pub all_before : (J : Tasks whole) (s : ℕ → ℤ) → NoOverlap J s → (i : ℕ) → i < J.count → J.earliest i ≤ℤ s i → ((k : ℕ) → In J (predecessors J i) k → s k ≤ℤ J.latest k) → AllBefore J i s
all_before J s apart i q from to k h =
    let m = and_true (not (eqb k i)) (lt_z (J.latest k) (J.earliest i +ℤ pos (J.duration i))) h.mem in
    elim (apart k i h.small q (eqb-false k i (not-true (eqb k i) m.0)))
    [ inl y ↦ y | inr y ↦ absurd (not_after (J.earliest i) (J.latest k) (s i) (s k) (J.duration i) m.1 from (to k h) y) ]

-- Take whole-number starts at which no two tasks overlap, and at which P's and i's are in their ranges. All of P come before i, so i's start is no less than ect(P).
module _ (J : Tasks whole) (ok : Proper J) (s : ℕ → ℤ) (apart : NoOverlap J s) where
  pub bound_holds : (i : ℕ) → i < J.count → J.earliest i ≤ℤ s i → ((k : ℕ) → In J (predecessors J i) k → (J.earliest k ≤ℤ s k) × (s k ≤ℤ J.latest k))
      → (b : ℤ) → PrecedenceBound J i b → b ≤ℤ s i
  bound_holds i q from ranges b e =
      reflect o b (s i) (part_above o J ok low (predecessors J i) b e.holds) (starts i q)
      (ends_by (moments o J) ok.lasts (λ k. moment o (s k)) (schedule→ o at_starts fixed starts s here).apart (predecessors J i) (moment o (s i)) (moment o b)
      (λ k h. mono o (J.earliest k) (s k) (ranges k (up h)).0)
      (λ k h. omega (arith, plus o (s k) (J.duration k) (starts k h.small), mono o (s k +ℤ pos (J.duration k)) (s i) (all_before J s apart i q from (λ k m. (ranges k m).1) k (up h))))
      (ect→ o J ok low (predecessors J i) b e).holds)
    where
      -- a moment of 0 before all starts and all earliest starts
      o : ℕ
      o = max (deep s J.count).0 (deep J.earliest J.count).0

      starts : (k : ℕ) → k < J.count → Above o (s k)
      starts k q = more_above (deep s J.count).0 o (omega arith) (s k) ((deep s J.count).1 k q)

      low : (k : ℕ) → k < J.count → Above o (J.earliest k)
      low k q = more_above (deep J.earliest J.count).0 o (omega arith) (J.earliest k) ((deep J.earliest J.count).1 k q)

      -- the tasks at these starts alone
      at_starts : Tasks whole
      at_starts = record { count = J.count; earliest = s; latest = s; duration = J.duration }

      fixed : Proper at_starts
      fixed = record { ranges = λ k q. ≤ℤ_refl (s k); lasts = ok.lasts }

      here : Schedule at_starts s
      here = record { from = λ k q. ≤ℤ_refl (s k); to = λ k q. ≤ℤ_refl (s k); apart = apart }

      up : {k : ℕ} → In (moments o J) (predecessors J i) k → In J (predecessors J i) k
      up h = record { small = h.small; mem = h.mem }

-- Both hold in every schedule.
pub before_sound : (J : Tasks whole) (s : ℕ → ℤ) → Schedule J s → (i : ℕ) → i < J.count → AllBefore J i s
before_sound J s h i q = all_before J s h.apart i q (h.from i q) (λ k m. h.to k m.small)

pub bound_sound : (J : Tasks whole) → Proper J → (s : ℕ → ℤ) → Schedule J s → (i : ℕ) → i < J.count → (b : ℤ) → PrecedenceBound J i b → b ≤ℤ s i
bound_sound J ok s h i q = bound_holds J ok s h.apart i q (h.from i q) (λ k m. (h.from k m.small, h.to k m.small))
