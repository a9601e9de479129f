-- Tasks that do not overlap and lie in a window of time last no longer together than the window.
use mathlib.Core.Path.{◌≡◌, refl}
use mathlib.Core.Logic.{inl, inr}
use Prim.Native.Nat.{ℕ, zero, suc, ◌+◌, ◌≤◌, ◌<◌}
use native.Mathlib.Omega.{arith}
use Rattle.scheduling.specs.Scheduling.{natural, Tasks, TaskSet, In, processing, EstPlusP, NoOverlap}
use Rattle.scheduling.proofs.Sets.{Top, top, ◌less◌, less_in}
use Rattle.scheduling.proofs.Processing.{processing_less, processing_empty}

module _ (J : Tasks natural) where
  module _ (lasts : (k : ℕ) → k < J.count → 1 ≤ J.duration k) (s : ℕ → ℕ) (apart : NoOverlap J s) where
    -- what does not end after task k of greatest start, ends before k starts
    before_top : (S : TaskSet) (t : Top S s J.count) (j : ℕ) → In J (S less t.at) j → s j + J.duration j ≤ s t.at
    before_top S t j h =
        let (y, ne) = less_in S t.at j h.mem in
        elim (apart j t.at h.small t.small ne)
        [ inl q ↦ q | inr q ↦ absurd (omega (arith, lasts t.at t.small, t.top j h.small y)) ]

    -- Tasks that start at or after a and end by b, without overlapping, last at most b − a together.
    pub window : (S : TaskSet) (a b : ℕ) → a ≤ b → ((k : ℕ) → In J S k → a ≤ s k) → ((k : ℕ) → In J S k → s k + J.duration k ≤ b) → a + processing J S ≤ b
    window S a b ab lo hi = go (processing J S) S b (omega arith) ab lo hi
      where
        go : (fuel : ℕ) (S : TaskSet) (b : ℕ) → processing J S ≤ fuel → a ≤ b → ((k : ℕ) → In J S k → a ≤ s k) → ((k : ℕ) → In J S k → s k + J.duration k ≤ b) → a + processing J S ≤ b
        go zero S b f ab lo hi = omega arith
        go (suc m) S b f ab lo hi = elim (top S s J.count) [
          | inl none ↦ omega (arith, processing_empty J S none)
          | inr t ↦ (
              let k : ℕ = t.at in
              let km : In J S k = record { small = t.small; mem = t.mem } in
              let d : processing J S ≡ processing J (S less k) + J.duration k = processing_less J S k km in
              let one : 1 ≤ J.duration k = lasts k t.small in
              let ih : a + processing J (S less k) ≤ s k
              = go m (S less k) (s k) (omega arith) (lo k km)
              (λ j h. lo j (record { small = h.small; mem = (less_in S k j h.mem).0 })) (before_top S t) in
              omega (arith, hi k km))
        ]

    -- of a set whose tasks start in their ranges and end by b, ect is at most b
    pub ends_by : (Ω : TaskSet) (b v : ℕ) → ((k : ℕ) → In J Ω k → J.earliest k ≤ s k) → ((k : ℕ) → In J Ω k → s k + J.duration k ≤ b) → EstPlusP J Ω v → v ≤ b
    ends_by Ω b v low hi f =
        let (k, km, ek) = f.est.holds in
        let up : (j : ℕ) → In J f.part j → s j + J.duration j ≤ b
        = λ j h. hi j (record { small = h.small; mem = f.within j h }) in
        let lo : (j : ℕ) → In J f.part j → f.start ≤ s j
        = λ j h. omega (arith, f.est.bounds (J.earliest j) (j, h, refl), low j (record { small = h.small; mem = f.within j h })) in
        omega (arith, window f.part f.start b (omega (arith, lo k km, up k km)) lo up)
