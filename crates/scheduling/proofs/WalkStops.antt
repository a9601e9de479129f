-- A reason's two walks over Θ, in the order of earliest starts, stop inside it: where i is posted some suffix passes lct, and the suffix
-- whose est + p is ect(Θ) stands at or after the first that does.
use mathlib.Core.Path.{◌≡◌, refl, ap}
use mathlib.Core.Bool.{true}
use mathlib.Core.Logic.{◌⊎◌, inl, inr}
use Prim.Native.Nat.{ℕ, ◌+◌, ◌≤◌, ◌<◌, min}
use native.Mathlib.Omega.{arith}
use native.Mathlib.Decide.{dec_le}
use Rattle.scheduling.specs.Scheduling.{natural, Tasks, TaskSet, ◌with◌, In, NonEmpty, Subset, processing, EstPlusP, Ect}
use Rattle.scheduling.specs.Moments.{ByEarliest}
use Rattle.scheduling.proofs.Sets.{Empty, top, ◌less◌, less_in, with_in}
use Rattle.scheduling.proofs.Processing.{processing_less, processing_mono, processing_empty}
use Rattle.scheduling.proofs.Suffixes.{suffix, onward_in, onward_out, suffix_end, after, cover, attaining}

module _ (J : Tasks natural) (T rank : ℕ → ℕ) (rk : ByEarliest J T rank) (Θ : TaskSet) where
  module _ (i c : ℕ) where
    -- what the walk compares with lct
    abbrev pub reach : ℕ → ℕ
    reach m = min (J.earliest i) (J.earliest m) + (processing J (suffix J T rank rk Θ m) + J.duration i)

    -- where i is posted, some suffix of Θ passes lct
    pub passing : (b v : ℕ) (f : EstPlusP J (Θ with i) v) → f.part i ≡ true → i < J.count → c < v → Ect J Θ b → J.earliest i < b → (m : ℕ) × In J Θ m × (c < reach m)
    passing b v f self small over e up = by (any (f.part less i))
      where
        any : (S : TaskSet) → (NonEmpty J S) ⊎ (Empty S J.count)
        any S = elim (top S (λ _. 0) J.count) [ inl none ↦ inr none | inr t ↦ inl (t.at, record { small = t.small; mem = t.mem }) ]

        im : In J f.part i
        im = record { small = small; mem = self }

        start_i : f.start ≤ J.earliest i
        start_i = f.est.bounds (J.earliest i) (i, im, refl)

        sub : Subset J (f.part less i) Θ
        sub k h = let l = less_in f.part i k h.mem in elim (with_in Θ i k (f.within k (record { small = h.small; mem = l.0 }))) [ inl z ↦ absurd (l.1 z) | inr y ↦ y ]

        by : (NonEmpty J (f.part less i)) ⊎ (Empty (f.part less i) J.count) → (m : ℕ) × In J Θ m × (c < reach m)
        by (inl ne) =
            let (m, mm, d) = cover J T rank rk Θ (f.part less i) ne sub in (
              m,
              record { small = mm.small; mem = sub m mm },
              omega (arith, d, f.sum, start_i, processing_less J f.part i im, f.est.bounds (J.earliest m) (m, record { small = mm.small; mem = (less_in f.part i m mm.mem).0 }, refl)),
            )
        by (inr none) =
            let (m, mm, d) = attaining J T rank rk Θ b e in
            (m, mm, omega (arith, d, f.sum, start_i, processing_less J f.part i im, processing_empty J (f.part less i) none))

    -- and the suffix of Θ whose est + p is ect(Θ) stands at or after the first that passes
    pub after_first : (b m j : ℕ) → Ect J Θ b → In J Θ m → In J Θ j → c < reach m → (rank j < rank m → reach j ≤ c) → J.earliest j + processing J (suffix J T rank rk Θ j) ≡ b → rank m ≤ rank j
    after_first b m j e mm jm over first att = elim (dec_le (rank m) (rank j)) [
      | yes q ↦ q
      | no q ↦ absurd (omega (
        arith,
        first (omega arith),
        after J T rank rk Θ (rank j) m mm.small (omega arith),
        ap J.earliest (rk.there j jm.small),
        e.bounds (J.earliest m + processing J (suffix J T rank rk Θ m)) (suffix_end J T rank rk Θ m mm),
        processing_mono J (suffix J T rank rk Θ m) (suffix J T rank rk Θ j)
            (λ k h. let u = onward_in J T rank rk Θ (rank m) k h.mem in onward_out J T rank rk Θ (rank j) k (omega (arith, u.0)) u.1),
      ))
    ]
