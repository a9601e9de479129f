-- The textbook's recurrence gives the ect of a set, and none exactly where the set has no task.
use mathlib.Core.Path.{◌≡◌, refl, sym, ap, subst, ◌∙◌}
use mathlib.Core.Bool.{true, false, cond}
use mathlib.Core.List.{List, [], ◌∷◌}
use mathlib.Core.Logic.{◌⊎◌, inl, inr, ◌↔◌}
use mathlib.Core.Option.{Option, some, none}
use Prim.Native.Nat.{ℕ, zero, suc, ◌+◌, ◌≤◌, ◌<◌, max}
use native.Mathlib.Omega.{arith}
use native.Mathlib.Nat.{le_antisymm}
use lib.Dec.{leb}
use lib.ListN.{length, get_or, drop}
use lib.Seq.{drop-cons, drop-length}
use borrow.Author.Tests.{leb-true}
use Rattle.integers.specs.Orders.{index, numbers, Ordered}
use Rattle.integers.proofs.Bools.{bool, clash}
use Rattle.integers.proofs.Permutations.{numbers_length, numbers_permute}
use Rattle.integers.proofs.StableSort.{sort_length, sort_ordered, key_whole, key_chain}
use Rattle.scheduling.specs.Scheduling.{natural, Tasks, Proper, TaskSet, NonEmpty, EstPlusP, Ect}
use Rattle.scheduling.specs.Moments.{ByEarliest}
use Rattle.scheduling.specs.Ects.{by_earliest, completes, ect_after, ect_of}
use Rattle.scheduling.proofs.Processing.{processing_less}
use Rattle.scheduling.proofs.Scan.{scan, scan_zero, scan_in, scan_out, scan_is, and_in, Reached, attained}
use Rattle.scheduling.proofs.Sets.{Empty, top}

module _ (J : Tasks natural) where
  abbrev n : ℕ
  n = J.count

  abbrev T : ℕ → ℕ
  T j = get_or (by_earliest J) j 0

  abbrev rank : ℕ → ℕ
  rank k = index (by_earliest J) k

  pub by_earliest_is : ByEarliest J (λ j. get_or (by_earliest J) j 0) (λ k. index (by_earliest J) k)
  by_earliest_is =
      let r : Ordered n T rank (λ j k. leb (J.earliest j) (J.earliest k) ≡ true)
      = sort_ordered (λ j k. leb (J.earliest j) (J.earliest k)) (key_whole J.earliest) (key_chain J.earliest) n (numbers 0 n) (numbers_permute n) in
      record { task = r.task; placed = r.placed; there = r.there; back = r.back; sorted = λ s t q h. leb-true _ _ (r.sorted s t q h) }

  pub order_size : length (by_earliest J) ≡ J.count
  order_size = sort_length (λ j k. leb (J.earliest j) (J.earliest k)) (numbers 0 n) ∙ numbers_length 0 n

  module _ (Ω : TaskSet) where
    -- after the tasks of a list: none, or one and then the others
    pub after_none : (o : Option ℕ) → ect_after J Ω o [] ≡ o
    unfolding ect_after
    after_none o = refl

    pub after_more : (o : Option ℕ) (k : ℕ) (ks : List ℕ) → ect_after J Ω o (k ∷ ks) ≡ ect_after J Ω (cond (Ω k) (some (completes J o k)) o) ks
    unfolding ect_after
    after_more o k ks = refl

  module _ (ok : Proper J) (Ω : TaskSet) where
    abbrev at : ℕ → ℕ
    at j = scan J T rank Ω j

    -- an answer and the value of the scan, in which 0 stands for none
    abbrev Is : Option ℕ → ℕ → Type 0
    Is o v = ((o ≡ none) × (v ≡ 0)) ⊎ ((o ≡ some v) × (1 ≤ v))

    -- one task more
    step : (j : ℕ) → j < n → (o : Option ℕ) → Is o (at j) → Is (cond (Ω (T j)) (some (completes J o (T j))) o) (at (suc j))
    step j q o is = by (bool (Ω (T j))) o is
      where
        by : (Ω (T j) ≡ true) ⊎ (Ω (T j) ≡ false) → (o : Option ℕ) → Is o (at j) → Is (cond (Ω (T j)) (some (completes J o (T j))) o) (at (suc j))
        by (inl y) o (inl (e, z)) =
            let w : J.earliest (T j) + J.duration (T j) ≡ at (suc j) = omega (arith, z, scan_in J T rank ok by_earliest_is Ω j y) in
            rw (y, e) (inr (ap some w, omega (arith, w, ok.lasts (T j) (by_earliest_is.task j q))))
        by (inl y) o (inr (e, z)) =
            let w : max (J.earliest (T j)) (at j) + J.duration (T j) ≡ at (suc j) = omega (arith, scan_in J T rank ok by_earliest_is Ω j y) in
            rw (y, e) (inr (ap some w, omega (arith, w, ok.lasts (T j) (by_earliest_is.task j q))))
        by (inr y) o is = rw y (subst (Is o) (sym (scan_out J T rank ok by_earliest_is Ω j y)) is)

    -- all that follow
    through : (d j : ℕ) → j + d ≡ n → (o : Option ℕ) → Is o (at j) → Is (ect_after J Ω o (drop j (by_earliest J))) (at n)
    unfolding ect_after
    through zero j e o is =
        let z : j ≡ length (by_earliest J) = omega (arith, order_size) in
        let end : drop j (by_earliest J) ≡ [] = ap (λ (m : ℕ). drop m (by_earliest J)) z ∙ drop-length (by_earliest J) in
        rw end (subst (λ (m : ℕ). Is o (at m)) (let w : j ≡ n = omega arith in w) is)
    through (suc d) j e o is = rw (drop-cons (by_earliest J) j 0 (omega (arith, order_size))) (through d (suc j) (omega arith) _ (step j (omega arith) o is))

    scanned : Is (ect_of J Ω) (at n)
    scanned = through n 0 (omega arith) none (inl (refl, scan_zero J T rank ok by_earliest_is Ω))

    pub ect_none : Empty Ω J.count → ect_of J Ω ≡ none
    ect_none nil = elim scanned [ inl w ↦ w.0 | inr w ↦ absurd (by (attained J T rank ok by_earliest_is Ω n (omega arith)) w.1) ]
      where
        by : Reached J T rank ok by_earliest_is Ω n → 1 ≤ at n → ⊥
        by (inl z) p = omega (arith, z.0)
        by (inr f) p = let (i, im, _) = f.est.holds in clash (and_in J T rank ok by_earliest_is Ω Ω n i (f.within i im)).1 (nil i im.small)

    pub ect_some : NonEmpty J Ω → (v : ℕ) × (ect_of J Ω ≡ some v) × Ect J Ω v
    ect_some m = elim scanned [ inl w ↦ absurd (by (scan_is J T rank ok by_earliest_is Ω m).holds w.1) | inr w ↦ (at n, w.0, scan_is J T rank ok by_earliest_is Ω m) ]
      where
        by : EstPlusP J Ω (at n) → at n ≡ 0 → ⊥
        by f z = let (i, im, _) = f.est.holds in omega (arith, f.sum, processing_less J f.part i im, ok.lasts i im.small)

    pub ect_is : (v : ℕ) → (ect_of J Ω ≡ some v) ↔ Ect J Ω v
    ect_is v = (to, from)
      where
        to : ect_of J Ω ≡ some v → Ect J Ω v
        to z = elim (top Ω (λ k. 0) n) [
          | inl nil ↦ (let e : none ≡ some v = sym (ect_none nil) ∙ z in absurd (let w : ◌≡◌ {A = ℕ} 0 1 = cc in omega arith))
          | inr t ↦ (let (w, e, r) = ect_some (t.at, record { small = t.small; mem = t.mem }) in same w (sym e ∙ z) r)
        ]
          where
            same : (w : ℕ) → some w ≡ some v → Ect J Ω w → Ect J Ω v
            same w e r = subst (Ect J Ω) (let i : w ≡ v = cc in i) r

        from : Ect J Ω v → ect_of J Ω ≡ some v
        from h =
            let (k, m, _) = h.holds.est.holds in
            let (w, e, r) = ect_some (k, record { small = m.small; mem = h.holds.within k m }) in
            e ∙ ap some (le_antisymm (h.bounds w r.holds) (r.bounds v h.holds))
