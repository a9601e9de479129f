-- The recurrence of the ect, place by place, with 0 for none as the tree's words have it: its value is the ect of the set.
-- Assumes an order of the tasks by earliest start.
use mathlib.Core.Path.{◌≡◌, refl, sym, ap, ◌∙◌}
use mathlib.Core.Bool.{true, false, cond, ◌&&◌}
use mathlib.Core.Logic.{◌⊎◌, inl, inr}
use Prim.Native.Nat.{ℕ, zero, suc, ◌+◌, ◌≤◌, ◌<◌, max}
use native.Mathlib.Omega.{arith}
use native.Mathlib.Decide.{dec_le, ℕ_discrete}
use borrow.Author.Tests.{ltb-true, lt-ltb}
use lib.Dec.{ltb}
use Rattle.integers.proofs.Bools.{bool, clash, and_true}
use Rattle.scheduling.specs.Scheduling.{natural, Tasks, Proper, TaskSet, ◌with◌, In, NonEmpty, Subset, processing, EstPlusP, Ect}
use Rattle.scheduling.specs.Moments.{ByEarliest}
use Rattle.scheduling.proofs.Sets.{◌less◌, less_in, less_out, with_in, with_new, with_old}
use Rattle.scheduling.proofs.LargerSets.{part_mono}
use Rattle.scheduling.proofs.Processing.{processing_less, processing_empty, processing_mono, processing_with}

module _ (J : Tasks natural) (T rank : ℕ → ℕ) where
  unfoldable pub scan : TaskSet → ℕ → ℕ
  scan Ω zero = 0
  scan Ω (suc j) = cond (Ω (T j)) (max (scan Ω j) (J.earliest (T j)) + J.duration (T j)) (scan Ω j)

  -- those of a set among the first j
  abbrev pub upto : TaskSet → ℕ → TaskSet
  upto S j k = ltb (rank k) j && S k

  module _ (ok : Proper J) (rk : ByEarliest J T rank) (Ω : TaskSet) where
    pub and_in : (S : TaskSet) (j k : ℕ) → upto S j k ≡ true → (rank k < j) × (S k ≡ true)
    and_in S j k h = let (y, q) = and_true (ltb (rank k) j) (S k) h in (ltb-true _ _ y, q)

    pub and_out : (S : TaskSet) (j k : ℕ) → rank k < j → S k ≡ true → upto S j k ≡ true
    and_out S j k h q = rw (lt-ltb _ _ h) q

    -- the task of rank j is the only one between
    is_next : (j k : ℕ) → k < J.count → rank k < suc j → (k ≡ T j → ⊥) → rank k < j
    is_next j k q r ne = elim (ℕ_discrete (rank k) j) [ yes z ↦ absurd (ne (sym (rk.there k q) ∙ ap T z)) | no z ↦ omega arith ]

    pub not_next : (j k : ℕ) → j < J.count → rank k < j → k ≡ T j → ⊥
    not_next j k q r z = omega (arith, rk.back j q, ap rank z)

    pub grow_in : (S : TaskSet) (j : ℕ) → j < J.count → S (T j) ≡ true → processing J (upto S (suc j)) ≡ processing J (upto S j) + J.duration (T j)
    grow_in S j q y =
        let there : In J (upto S (suc j)) (T j) = record { small = rk.task j q; mem = and_out S (suc j) (T j) (omega (arith, rk.back j q)) y } in
        let a : processing J (upto S (suc j) less T j) ≤ processing J (upto S j)
        = processing_mono J (upto S (suc j) less T j) (upto S j) (λ k h.
        let l = less_in (upto S (suc j)) (T j) k h.mem in
        let u = and_in S (suc j) k l.0 in
        and_out S j k (is_next j k h.small u.0 l.1) u.1) in
        let b : processing J (upto S j) ≤ processing J (upto S (suc j) less T j)
        = processing_mono J (upto S j) (upto S (suc j) less T j) (λ k h.
        let u = and_in S j k h.mem in
        less_out (upto S (suc j)) (T j) k (and_out S (suc j) k (omega (arith, u.0)) u.1) (not_next j k q u.0)) in
        omega (arith, processing_less J (upto S (suc j)) (T j) there)

    pub grow_out : (S : TaskSet) (j : ℕ) → j < J.count → S (T j) ≡ false → processing J (upto S (suc j)) ≤ processing J (upto S j)
    grow_out S j q y = processing_mono J (upto S (suc j)) (upto S j) (λ k h.
        let u = and_in S (suc j) k h.mem in
        and_out S j k (is_next j k h.small u.0 (λ z. clash u.1 (rw (← z) at y))) u.1)

    pub scan_in : (j : ℕ) → Ω (T j) ≡ true → scan Ω (suc j) ≡ max (scan Ω j) (J.earliest (T j)) + J.duration (T j)
    unfolding scan
    scan_in j y = rw y

    pub scan_out : (j : ℕ) → Ω (T j) ≡ false → scan Ω (suc j) ≡ scan Ω j
    unfolding scan
    scan_out j y = rw y

    most : (S : TaskSet) (m : ℕ) → Subset J S Ω → ((k : ℕ) → In J S k → m ≤ J.earliest k) → (j : ℕ) → j ≤ J.count → m + processing J (upto S j) ≤ max m (scan Ω j)
    most S m sub low zero q = omega (arith, processing_empty J (upto S 0) (λ k r. elim (bool (upto S 0 k)) [ inl y ↦ absurd (omega (arith, (and_in S 0 k y).0)) | inr y ↦ y ]))
    most S m sub low (suc j) q = step (most S m sub low j (omega arith)) (bool (S (T j))) (bool (Ω (T j)))
      where
        step : m + processing J (upto S j) ≤ max m (scan Ω j) → (S (T j) ≡ true) ⊎ (S (T j) ≡ false) → (Ω (T j) ≡ true) ⊎ (Ω (T j) ≡ false) → m + processing J (upto S (suc j)) ≤ max m (scan Ω (suc j))
        step ih (inl y) (inl z) = omega (arith, grow_in S j q y, scan_in j z, low (T j) (record { small = rk.task j q; mem = y }))
        step ih (inl y) (inr z) = clash (sub (T j) (record { small = rk.task j q; mem = y })) z
        step ih (inr y) (inl z) = omega (arith, grow_out S j q y, scan_in j z)
        step ih (inr y) (inr z) = omega (arith, grow_out S j q y, scan_out j z)

    pub scan_zero : scan Ω 0 ≡ 0
    unfolding scan
    scan_zero = refl

    pub widen : (j v : ℕ) → EstPlusP J (upto Ω j) v → EstPlusP J (upto Ω (suc j)) v
    widen j v = part_mono J (upto Ω j) (upto Ω (suc j)) v (λ k h. let u = and_in Ω j k h.mem in and_out Ω (suc j) k (omega (arith, u.0)) u.1)

    -- the task of rank j alone
    pub alone : (j : ℕ) → j < J.count → Ω (T j) ≡ true → EstPlusP J (upto Ω (suc j)) (J.earliest (T j) + J.duration (T j))
    alone j q y = record {
      part = none with T j;
      start = J.earliest (T j);
      within = λ k h. rw (is k h) (and_out Ω (suc j) (T j) (omega (arith, rk.back j q)) y);
      est = record { holds = (T j, record { small = rk.task j q; mem = with_new none (T j) }, refl); bounds = λ w h. omega (arith, h.2, ap J.earliest (is h.0 h.1)) };
      sum = omega (arith, processing_with J none (T j) (record { small = rk.task j q; mem = refl }), processing_empty J none (λ _ _. refl));
    }
      where
        none : TaskSet
        none = λ _. false

        is : (k : ℕ) → In J (none with T j) k → k ≡ T j
        is k h = elim (with_in none (T j) k h.mem) [ inl z ↦ z | inr z ↦ clash z refl ]

    -- and after the part before it
    pub joined : (j v : ℕ) → j < J.count → Ω (T j) ≡ true → EstPlusP J (upto Ω j) v → EstPlusP J (upto Ω (suc j)) (v + J.duration (T j))
    joined j v q y f = record {
      part = f.part with T j;
      start = f.start;
      within = within;
      est = record {
        holds = (f.est.holds.0, record { small = f.est.holds.1.small; mem = with_old f.part (T j) f.est.holds.0 f.est.holds.1.mem }, f.est.holds.2);
        bounds = bounds;
      };
      sum = omega (arith, f.sum, processing_with J f.part (T j) (record { small = rk.task j q; mem = out }));
    }
      where
        old : (k : ℕ) → In J f.part k → (rank k < j) × (Ω k ≡ true)
        old k h = and_in Ω j k (f.within k h)

        within : Subset J (f.part with T j) (upto Ω (suc j))
        within k h = elim (with_in f.part (T j) k h.mem) [
          | inl z ↦ rw z (and_out Ω (suc j) (T j) (omega (arith, rk.back j q)) y)
          | inr z ↦ (let u = old k (record { small = h.small; mem = z }) in and_out Ω (suc j) k (omega (arith, u.0)) u.1)
        ]

        out : f.part (T j) ≡ false
        out = elim (bool (f.part (T j))) [ inl z ↦ absurd (not_next j (T j) q (old (T j) (record { small = rk.task j q; mem = z })).0 refl) | inr z ↦ z ]

        before : f.start ≤ J.earliest (T j)
        before =
            let (k, h, e) = f.est.holds in
            omega (arith, ap J.earliest (rk.there k h.small), rk.sorted (rank k) j (omega (arith, (old k h).0)) q)

        bounds : (w : ℕ) → (k : ℕ) × In J (f.part with T j) k × (J.earliest k ≡ w) → f.start ≤ w
        bounds w h = elim (with_in f.part (T j) h.0 h.1.mem) [
          | inl z ↦ omega (arith, h.2, ap J.earliest z, before)
          | inr z ↦ f.est.bounds w (h.0, record { small = h.1.small; mem = z }, h.2)
        ]

    pub widen_part : (j v : ℕ) (f : EstPlusP J (upto Ω j) v) (i : ℕ) → f.part i ≡ true → (widen j v f).part i ≡ true
    unfolding widen part_mono
    widen_part j v f i h = h

    pub alone_part : (j : ℕ) (q : j < J.count) (y : Ω (T j) ≡ true) → (alone j q y).part (T j) ≡ true
    unfolding alone
    alone_part j q y = with_new (λ _. false) (T j)

    pub joined_new : (j v : ℕ) (q : j < J.count) (y : Ω (T j) ≡ true) (f : EstPlusP J (upto Ω j) v) → (joined j v q y f).part (T j) ≡ true
    unfolding joined
    joined_new j v q y f = with_new f.part (T j)

    pub joined_old : (j v : ℕ) (q : j < J.count) (y : Ω (T j) ≡ true) (f : EstPlusP J (upto Ω j) v) (i : ℕ) → f.part i ≡ true → (joined j v q y f).part i ≡ true
    unfolding joined
    joined_old j v q y f i h = with_old f.part (T j) i h

    -- the value is that of a part
    abbrev pub Reached : ℕ → Type 0
    Reached j = ((scan Ω j ≡ 0) × ((k : ℕ) → In J Ω k → j ≤ rank k)) ⊎ EstPlusP J (upto Ω j) (scan Ω j)

    pub attained : (j : ℕ) → j ≤ J.count → Reached j
    attained zero q = inl (scan_zero, λ k h. omega arith)
    attained (suc j) q = step (attained j (omega arith)) (bool (Ω (T j)))
      where
        fit : (v : ℕ) → v ≡ scan Ω (suc j) → EstPlusP J (upto Ω (suc j)) v → Reached (suc j)
        fit v e f = inr (rw e at f)

        step : Reached j → (Ω (T j) ≡ true) ⊎ (Ω (T j) ≡ false) → Reached (suc j)
        step (inl e) (inl y) = fit (J.earliest (T j) + J.duration (T j)) (omega (arith, scan_in j y, e.0)) (alone j q y)
        step (inl e) (inr z) = inl (
          scan_out j z ∙ e.0,
          λ k h.
              elim (dec_le (suc j) (rank k)) [ yes r ↦ r | no r ↦ absurd (omega (arith, e.1 k h, is_next j k h.small (omega arith) (λ w. clash h.mem (rw (← w) at z)))) ],
        )
        step (inr f) (inl y) = elim (dec_le (J.earliest (T j)) (scan Ω j)) [
          | yes r ↦ fit (scan Ω j + J.duration (T j)) (omega (arith, scan_in j y)) (joined j (scan Ω j) q y f)
          | no r ↦ fit (J.earliest (T j) + J.duration (T j)) (omega (arith, scan_in j y)) (alone j q y)
        ]
        step (inr f) (inr z) = fit (scan Ω j) (sym (scan_out j z)) (widen j (scan Ω j) f)

    pub scan_is : NonEmpty J Ω → Ect J Ω (scan Ω J.count)
    scan_is (k, km) = record { holds = holds (attained J.count (omega arith)); bounds = bounds }
      where
        holds : Reached J.count → EstPlusP J Ω (scan Ω J.count)
        holds (inl e) = absurd (omega (arith, e.1 k km, rk.placed k km.small))
        holds (inr f) = record { part = f.part; start = f.start; est = f.est; sum = f.sum; within = λ j h. (and_in Ω J.count j (f.within j h)).1 }

        bounds : (w : ℕ) → EstPlusP J Ω w → w ≤ scan Ω J.count
        bounds w f =
            let (i, im, e) = f.est.holds in
            let all : processing J f.part ≤ processing J (upto f.part J.count)
            = processing_mono J f.part (upto f.part J.count) (λ j h. and_out f.part J.count j (rk.placed j h.small) h.mem) in
            omega (
              arith,
              f.sum,
              processing_less J f.part i im,
              ok.lasts i im.small,
              most f.part f.start f.within (λ j h. f.est.bounds (J.earliest j) (j, h, refl)) J.count (omega arith),
            )
