-- Each definition means the same over whole numbers and over their moments.
use mathlib.Core.Path.{◌≡◌, refl, sym, ◌∙◌}
use mathlib.Core.Logic.{◌⊎◌, inl, inr, ◌↔◌}
use Prim.Native.Nat.{ℕ, ◌+◌, ◌≤◌, ◌<◌}
use native.Mathlib.Omega.{arith}
use lib.IntN.{ℤ, pos, ◌+ℤ◌}
use lib.Signed.{◌≤ℤ◌, ◌<ℤ◌}
use Rattle.integers.specs.Moments.{moment, Above, instant}
use Rattle.integers.proofs.MomentSums.{mono, reflect, mono<, reflect<, above_up, plus, plus_above, same, instant_above, moment_instant}
use Rattle.scheduling.specs.Scheduling.{whole, natural, Tasks, Proper, TaskSet, In, Est, Lct, EstPlusP, Ect, Overloads, EdgeFindingBound, Schedule, Done, Conflict, RuleFormula}
use Rattle.scheduling.specs.Moments.{moments}
use Rattle.scheduling.proofs.Correspondence.{Correspondence, turned, Alike, alike_turned, known, est_carried, lct_carried, part_carried, ect_carried}
use Rattle.scheduling.proofs.Correspondence.{overloads_carried, formula_carried, all, of, edge_carried, conflict_carried, done_carried}

module _ (o : ℕ) where
  -- a whole number and its moment
  pub record HasMoment (z : ℤ) (m : ℕ) : Type 0 where
    pub above : Above o z
    pub is : moment o z ≡ m

  pub moments_upto : {a b : ℤ} {x y : ℕ} → HasMoment a x → HasMoment b y → (a ≤ℤ b) ↔ (x ≤ y)
  moments_upto {a} {b} h k = (λ q. omega (arith, h.is, k.is, mono o a b q), λ q. reflect o a b h.above k.above (omega (arith, h.is, k.is, q)))

  pub moments_before : {a b : ℤ} {x y : ℕ} → HasMoment a x → HasMoment b y → (a <ℤ b) ↔ (x < y)
  moments_before {a} {b} h k = (λ q. omega (arith, h.is, k.is, mono< o a b h.above k.above q), λ q. reflect< o a b h.above k.above (omega (arith, h.is, k.is, q)))

  pub moments_later : {a : ℤ} {x : ℕ} (d : ℕ) → HasMoment a x → HasMoment (a +ℤ pos d) (x + d)
  moments_later {a} d h = record { above = plus_above o a d h.above; is = omega (arith, plus o a d h.above, h.is) }

  -- whole numbers correspond to their moments
  abbrev pub by_moments : Correspondence whole natural
  by_moments = record {
    is = HasMoment;
    upto = moments_upto;
    before = moments_before;
    later = moments_later;
    one = λ h k. sym h.is ∙ k.is;
    one_back = λ {a} {b} h k. same o a b h.above k.above (h.is ∙ sym k.is);
  }

  own : (z : ℤ) → Above o z → HasMoment z (moment o z)
  own z above = record { above = above; is = refl }

  at_instant : (m : ℕ) → HasMoment (instant o m) m
  at_instant m = record { above = instant_above o m; is = moment_instant o m }

  -- tasks at the instants of their moments
  module _ (M : Tasks natural) where
    abbrev pub instants : Tasks whole
    instants = record { count = M.count; earliest = λ k. instant o (M.earliest k); latest = λ k. instant o (M.latest k); duration = M.duration }

    told : (Ω : TaskSet) → Alike (turned by_moments) M instants Ω Ω
    told Ω = record { count = refl; duration = λ k. refl; same = λ k q. refl; earliest = λ k h. at_instant (M.earliest k); latest = λ k h. at_instant (M.latest k) }

    pub checks_down : (Ω : TaskSet) (i : ℕ) → RuleFormula M Ω i → RuleFormula instants Ω i
    checks_down Ω i = formula_carried (told Ω) i (at_instant (M.earliest i)) (at_instant (M.latest i))

    pub overloads_down : (Ω : TaskSet) → Overloads M Ω → Overloads instants Ω
    overloads_down Ω = overloads_carried (told Ω)

  module _ (J : Tasks whole) (ok : Proper J) (low : (k : ℕ) → k < J.count → Above o (J.earliest k)) where
    abbrev N : Tasks natural
    N = moments o J

    pub sound : Proper N
    sound = record { ranges = λ k q. mono o (J.earliest k) (J.latest k) (ok.ranges k q); lasts = ok.lasts }

    high : (k : ℕ) → k < J.count → Above o (J.latest k)
    high k q = above_up o (J.earliest k) (J.latest k) (ok.ranges k q) (low k q)

    alike : Alike by_moments J N all all
    alike = record { count = refl; duration = λ k. refl; same = λ k q. refl; earliest = λ k h. own (J.earliest k) (low k h.small); latest = λ k h. own (J.latest k) (high k h.small) }

    there : (Ω : TaskSet) → Alike by_moments J N Ω Ω
    there = of alike

    here : (Ω : TaskSet) → Alike (turned by_moments) N J Ω Ω
    here Ω = alike_turned (there Ω)

    -- a value of the natural clock that is a moment of the whole one
    pub record Is (P : ℤ → Type 0) (m : ℕ) : Type 0 where
      pub at : ℤ
      pub above : Above o at
      pub is : moment o at ≡ m
      pub holds : P at

    pub est_instant : (Ω : TaskSet) (m : ℕ) → Est N Ω m → Est J Ω (instant o m)
    est_instant Ω m = known (turned by_moments) (est_carried (here Ω)) m (instant o m) (at_instant m)

    pub lct_instant : (Ω : TaskSet) (m : ℕ) → Lct N Ω m → Lct J Ω (instant o m)
    lct_instant Ω m = known (turned by_moments) (lct_carried (here Ω)) m (instant o m) (at_instant m)

    pub part_above : (Ω : TaskSet) (v : ℤ) → EstPlusP J Ω v → Above o v
    part_above Ω v f = (part_carried (there Ω) v f).is.above

    pub ect→ : (Ω : TaskSet) (v : ℤ) → Ect J Ω v → Ect N Ω (moment o v)
    ect→ Ω v e = known by_moments (ect_carried (there Ω)) v (moment o v) (own v (part_above Ω v e.holds)) e

    pub ect← : (Ω : TaskSet) (m : ℕ) → Ect N Ω m → Is (Ect J Ω) m
    ect← Ω m e = let c = ect_carried (here Ω) m e in record { at = c.at; above = c.is.above; is = c.is.is; holds = c.holds }

    pub edge_above : (i : ℕ) (b : ℤ) → EdgeFindingBound J i b → Above o b
    edge_above i b r = part_above r.set b r.ect.holds

    pub edge→ : (i : ℕ) (b : ℤ) → EdgeFindingBound J i b → EdgeFindingBound N i (moment o b)
    edge→ i b r = known by_moments (edge_carried alike i) b (moment o b) (own b (edge_above i b r)) r

    pub edge_instant : (i m : ℕ) → EdgeFindingBound N i m → EdgeFindingBound J i (instant o m)
    edge_instant i m = known (turned by_moments) (edge_carried (here all) i) m (instant o m) (at_instant m)

    pub overload→ : (Ω : TaskSet) → Overloads J Ω → Overloads N Ω
    overload→ Ω = overloads_carried (there Ω)

    pub overload← : (Ω : TaskSet) → Overloads N Ω → Overloads J Ω
    overload← Ω = overloads_carried (here Ω)

    pub schedule→ : (s : ℕ → ℤ) → Schedule J s → Schedule N (λ k. moment o (s k))
    schedule→ s h = record { from = λ k q. mono o (J.earliest k) (s k) (h.from k q); to = λ k q. mono o (s k) (J.latest k) (h.to k q); apart = apart }
      where
        up : (k : ℕ) → k < J.count → Above o (s k)
        up k q = above_up o (J.earliest k) (s k) (h.from k q) (low k q)

        apart : (j k : ℕ) → j < J.count → k < J.count → (j ≡ k → ⊥) → (moment o (s j) + J.duration j ≤ moment o (s k)) ⊎ (moment o (s k) + J.duration k ≤ moment o (s j))
        apart j k p q ne = elim (h.apart j k p q ne) [
          | inl y ↦ inl (omega (arith, plus o (s j) (J.duration j) (up j p), mono o (s j +ℤ pos (J.duration j)) (s k) y))
          | inr y ↦ inr (omega (arith, plus o (s k) (J.duration k) (up k q), mono o (s k +ℤ pos (J.duration k)) (s j) y))
        ]

    pub done← : (now : ℕ → ℤ) (m : ℕ) (task : ℕ → ℕ) (bound : ℕ → ℤ) → ((k : ℕ) → k < J.count → Above o (now k)) → ((j : ℕ) → j < m → Above o (bound j))
        → Done N (λ k. moment o (now k)) m task (λ j. moment o (bound j)) → Done J now m task bound
    done← now m task bound an ab = done_carried (here all) (λ k. moment o (now k)) now m task (λ j. moment o (bound j)) bound
        (λ k q. own (now k) (an k q)) (λ j q. own (bound j) (ab j q))

    pub conflict← : Conflict N → Conflict J
    conflict← = conflict_carried (here all)

    -- The checker's formula, there and back.
    pub checks→ : (Ω : TaskSet) (i : ℕ) → RuleFormula J Ω i → RuleFormula N Ω i
    checks→ Ω i c = let h : In J all i = record { small = c.outside.small; mem = refl } in formula_carried (there Ω) i (alike.earliest i h) (alike.latest i h) c

    pub checks← : (Ω : TaskSet) (i : ℕ) → RuleFormula N Ω i → RuleFormula J Ω i
    checks← Ω i c = let h : In J all i = record { small = c.outside.small; mem = refl } in formula_carried (here Ω) i (alike.earliest i h) (alike.latest i h) c
