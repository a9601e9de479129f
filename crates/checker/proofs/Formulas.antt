-- The formula that the source computes holds exactly where the checker's formula over the premises does.
use mathlib.Core.Path.{◌≡◌, refl, sym, subst, ◌∙◌}
use mathlib.Core.Bool.{Bool, true, false, ◌&&◌, ◌||◌}
use mathlib.Core.List.{List}
use mathlib.Core.Logic.{◌⊎◌, inl, inr}
use mathlib.Core.Option.{Option, some, none}
use Prim.Native.Nat.{ℕ, ◌+◌, ◌≤◌, ◌<◌, min}
use native.Mathlib.Omega.{arith}
use native.Mathlib.Decide.{ℕ_discrete}
use lib.Dec.{ltb}
use lib.IntN.{ℤ, negsuc}
use lib.Signed.{◌≤ℤ◌, ≤ℤ_refl}
use borrow.Author.Tests.{ltb-true, lt-ltb, ne_eqb, eq-eqb}
use Rattle.integers.specs.Moments.{moment, Above, zero_at}
use Rattle.integers.proofs.Bools.{bool, clash, and_true, and_yes}
use Rattle.integers.proofs.Ints.{up, dn, ints}
use Rattle.integers.proofs.MomentSums.{above_show}
use Rattle.scheduling.specs.Scheduling.{whole, natural, Tasks, Proper, TaskSet, ◌with◌, Largest, Least, In, NonEmpty, processing, Overloads, Atom, Admits, given, Bounded, RuleFormula}
use Rattle.scheduling.specs.Scheduling.{PassesWith, PassesAlone}
use Rattle.scheduling.specs.Ects.{ect_of}
use Rattle.scheduling.proofs.Ects.{ect_is}
use Rattle.scheduling.proofs.Agreement.{Agree, overloads→, formula→, set_overloads, set_formula}
use Rattle.scheduling.proofs.Clocks.{sound, overload→, overload←, checks→, checks←}
use Rattle.trees.specs.Ects.{exceeds}
use Rattle.trees.proofs.Ects.{exceeds_yes, some_exceeds}
use Rattle.scheduling.proofs.Sets.{with_new, with_old}
use Rattle.chosen_sets.proofs.RunningValues.{one_least, one_largest}
use Rattle.checker.specs.Formulas.{bounded, theta, ranges, tasks, any, lowest, highest, overloaded, implied}
use Rattle.checker.proofs.GatheredIntervals.{any_yes, any_some, lowest_is, highest_is}

-- The bounds of each task are the least and the greatest value that the atoms admit, in the range of an i32; none where there is none.
pub record Reads (n : ℕ) (atoms : List Atom) (lower upper : ℕ → Option ℤ) : Type 0 where
  pub least : (k : ℕ) → k < n → (u : ℤ) → lower k ≡ some u → Least whole (Admits atoms k) u
  pub no_least : (k : ℕ) → k < n → lower k ≡ none → (u : ℤ) → Least whole (Admits atoms k) u → ⊥
  pub greatest : (k : ℕ) → k < n → (v : ℤ) → upper k ≡ some v → Largest whole (Admits atoms k) v
  pub no_greatest : (k : ℕ) → k < n → upper k ≡ none → (v : ℤ) → Largest whole (Admits atoms k) v → ⊥
  pub above : (k : ℕ) → k < n → (u : ℤ) → lower k ≡ some u → Above zero_at u
  pub fits : (k : ℕ) → k < n → (u : ℤ) → lower k ≡ some u → moment zero_at u ≤ 4294967295

-- a test that cannot fail holds
pub not_no : (b : Bool) → (b ≡ false → ⊥) → b ≡ true
not_no true n = refl
not_no false n = absurd (n refl)

opt : (o : Option ℤ) → ((z : ℤ) × (o ≡ some z)) ⊎ (o ≡ none)
opt none = inr refl
opt (some z) = inl (z, refl)

least_same : (P : ℤ → Type 0) (u v : ℤ) → Least whole P u → Least whole P v → u ≡ v
least_same P u v a b = let p : u ≤ℤ v = a.bounds v b.holds in let q : v ≤ℤ u = b.bounds u a.holds in omega ints

largest_same : (P : ℤ → Type 0) (u v : ℤ) → Largest whole P u → Largest whole P v → u ≡ v
largest_same P u v a b = let p : v ≤ℤ u = a.bounds v b.holds in let q : u ≤ℤ v = b.bounds u a.holds in omega ints

module _ (J : Tasks whole) (lasts : (k : ℕ) → k < J.count → 1 ≤ J.duration k) (atoms : List Atom) (lower upper : ℕ → Option ℤ) (r : Reads J.count atoms lower upper) where
  abbrev n : ℕ
  n = J.count

  abbrev X : TaskSet
  X = bounded n J.duration lower upper

  abbrev R : Tasks whole
  R = ranges n J.duration lower upper

  abbrev N : Tasks natural
  N = tasks n J.duration lower upper

  -- a task with two bounds
  record Two (k : ℕ) : Type 0 where
    low : ℤ
    high : ℤ
    lower_is : lower k ≡ some low
    upper_is : upper k ≡ some high
    early : R.earliest k ≡ low
    late : R.latest k ≡ high

  two : (k : ℕ) → X k ≡ true → Two k
  two k y = by (opt (lower k)) (opt (upper k))
    where
      by : ((z : ℤ) × (lower k ≡ some z)) ⊎ (lower k ≡ none) → ((z : ℤ) × (upper k ≡ some z)) ⊎ (upper k ≡ none) → Two k
      by (inl (u, p)) (inl (v, q)) = record { low = u; high = v; lower_is = p; upper_is = q; early = rw (p, q); late = rw (p, q) }
      by (inl (u, p)) (inr q) = clash y (rw (p, q))
      by (inr p) q = clash y (rw p)

  -- and one that lacks a bound
  lacks : (k : ℕ) → X k ≡ false → (lower k ≡ none) ⊎ (upper k ≡ none)
  lacks k y = by (opt (lower k)) (opt (upper k))
    where
      by : ((z : ℤ) × (lower k ≡ some z)) ⊎ (lower k ≡ none) → ((z : ℤ) × (upper k ≡ some z)) ⊎ (upper k ≡ none) → (lower k ≡ none) ⊎ (upper k ≡ none)
      by (inl (u, p)) (inl (v, q)) = clash (rw (p, q)) y
      by (inl (u, p)) (inr q) = inr q
      by (inr p) q = inl p

  pub least_of : (k : ℕ) → In J X k → Least whole (Admits atoms k) (R.earliest k)
  least_of k h = let t = two k h.mem in subst (Least whole (Admits atoms k)) (sym t.early) (r.least k h.small t.low t.lower_is)

  pub greatest_of : (k : ℕ) → In J X k → Largest whole (Admits atoms k) (R.latest k)
  greatest_of k h = let t = two k h.mem in subst (Largest whole (Admits atoms k)) (sym t.late) (r.greatest k h.small t.high t.upper_is)

  pub none_of : (k : ℕ) → k < n → X k ≡ false → (u v : ℤ) → Least whole (Admits atoms k) u → Largest whole (Admits atoms k) v → ⊥
  none_of k q y u v a b = elim (lacks k y) [ inl z ↦ r.no_least k q z u a | inr z ↦ r.no_greatest k q z v b ]

  all_bounded : (Ω : TaskSet) → ((k : ℕ) → k < n → Ω k ≡ X k) → Bounded J atoms Ω R
  all_bounded Ω same = record {
    same_count = refl;
    same_duration = λ k. refl;
    least = λ k h. least_of k (record { small = h.small; mem = sym (same k h.small) ∙ h.mem });
    greatest = λ k h. greatest_of k (record { small = h.small; mem = sym (same k h.small) ∙ h.mem });
    only = λ k q y. none_of k q (sym (same k q) ∙ y);
  }

  -- the set and the ranges are determined
  pub determined : (Ω : TaskSet) (B : Tasks whole) → Bounded J atoms Ω B → (k : ℕ) → k < n → Ω k ≡ X k
  determined Ω B b k q = elim (bool (Ω k)) [
    | inl y ↦ (let h : In J Ω k = record { small = q; mem = y } in y ∙ sym (not_no (X k) (λ z. none_of k q z (B.earliest k) (B.latest k) (b.least k h) (b.greatest k h))))
    | inr y ↦ elim (bool (X k)) [ inl z ↦ (let h : In J X k = record { small = q; mem = z } in absurd (b.only k q y _ _ (least_of k h) (greatest_of k h))) | inr z ↦ y ∙ sym z ]
  ]

  agrees : (Ω : TaskSet) (B : Tasks whole) → Bounded J atoms Ω B → Agree B R Ω
  agrees Ω B b = record {
    count = b.same_count;
    duration = b.same_duration;
    earliest = λ k h. least_same (Admits atoms k) (B.earliest k) (R.earliest k) (b.least k (at k h)) (least_of k (known_too k h));
    latest = λ k h. largest_same (Admits atoms k) (B.latest k) (R.latest k) (b.greatest k (at k h)) (greatest_of k (known_too k h));
  }
    where
      at : (k : ℕ) → In B Ω k → In J Ω k
      at k h = record { small = subst (λ (m : ℕ). k < m) b.same_count h.small; mem = h.mem }

      known_too : (k : ℕ) → In B Ω k → In J X k
      known_too k h = record { small = (at k h).small; mem = sym (determined Ω B b k (at k h).small) ∙ h.mem }

  -- numbers of an i32
  least_above : Above zero_at (negsuc 2147483647)
  unfolding up dn
  least_above = above_show zero_at (negsuc 2147483647) (omega arith)

  low_R : (k : ℕ) → k < n → Above zero_at (R.earliest k)
  low_R k q = elim (bool (X k)) [ inl y ↦ (let t = two k y in subst (Above zero_at) (sym t.early) (r.above k q t.low t.lower_is)) | inr y ↦ rw y least_above ]

  fits_N : (k : ℕ) → k < n → N.earliest k ≤ 4294967295
  fits_N k q = elim (bool (X k))
      [ inl y ↦ (let t = two k y in subst (λ (z : ℤ). moment zero_at z ≤ 4294967295) (sym t.early) (r.fits k q t.low t.lower_is)) | inr y ↦ rw y (omega arith) ]

  proper : Proper R
  proper = record {
    lasts = lasts;
    ranges = λ k q. elim (bool (X k))
        [ inl y ↦ (let h : In J X k = record { small = q; mem = y } in (greatest_of k h).bounds (R.earliest k) (least_of k h).holds) | inr y ↦ rw y (≤ℤ_refl (negsuc 2147483647)) ];
  }

  pub moments_proper : Proper N
  moments_proper = sound zero_at R proper low_R

  -- without a consequent -------------------------------------------------------------------------------------------------------
  abbrev low : TaskSet → ℕ
  low Ω = lowest N Ω n

  abbrev high : TaskSet → ℕ
  high Ω = highest N Ω n

  abbrev some_in : TaskSet → Bool
  some_in Ω = any Ω n

  pub overloaded_sound : overloaded n J.duration lower upper ≡ true → PassesAlone J atoms
  unfolding overloaded
  overloaded_sound y =
      let (a, b) = and_true (some_in X) (ltb (high X) (low X + processing N X)) y in
      let ne : NonEmpty N X = any_some N X a in
      let v : Overloads N X = record { start = low X; end = high X; est = lowest_is N X fits_N ne; lct = highest_is N X ne; over = ltb-true (high X) (low X + processing N X) b } in
      record { set = X; ranges = R; bounded = all_bounded X (λ k q. refl); formula = overload← zero_at R proper low_R X v }

  pub overloaded_complete : PassesAlone J atoms → overloaded n J.duration lower upper ≡ true
  unfolding overloaded
  overloaded_complete p =
      let on_R : Overloads R p.set = overloads→ p.ranges R p.set (agrees p.set p.ranges p.bounded) p.set (λ k h. h.mem) p.formula in
      let v : Overloads N X = overload→ zero_at R proper low_R X (set_overloads R p.set X (determined p.set p.ranges p.bounded) on_R) in
      let ne : NonEmpty N X = (v.est.holds.0, v.est.holds.1) in
      let s : v.start ≡ low X = one_least v.est (lowest_is N X fits_N ne) in
      let e : v.end ≡ high X = one_largest v.lct (highest_is N X ne) in
      and_yes (some_in X) (ltb (high X) (low X + processing N X)) (any_yes N X ne) (lt-ltb (high X) (low X + processing N X) (omega (arith, v.over)))

  -- with a consequent on task i, which has two bounds --------------------------------------------------------------------------
  module _ (i : ℕ) (small : i < n) where
    abbrev Ω : TaskSet
    Ω = theta n J.duration lower upper i

    self_out : Ω i ≡ false
    self_out = rw (eq-eqb i i refl)

    -- theta with i is all
    with_all : X i ≡ true → (k : ℕ) → k < n → (Ω with i) k ≡ X k
    with_all y k q = elim (ℕ_discrete k i) [ yes z ↦ rw (z, eq-eqb i i refl) (sym y) | no z ↦ rw (ne_eqb k i z) ]

    -- and a set outside of which i is, with i all, is theta
    is_theta : (S : TaskSet) → S i ≡ false → ((k : ℕ) → k < n → (S with i) k ≡ X k) → (k : ℕ) → k < n → S k ≡ Ω k
    is_theta S out same k q = elim (ℕ_discrete k i)
        [ yes z ↦ rw z (out ∙ sym self_out) | no z ↦ rw (ne_eqb k i z) (subst (λ (b : Bool). b || S k ≡ X k) (ne_eqb k i z) (same k q)) ]

    abbrev reach : ℕ
    reach = min (N.earliest i) (low Ω) + processing N Ω + J.duration i

    module _ (premises : List Atom) (a : Atom) (on_i : a.variable ≡ i) (is_given : given premises (some a) ≡ atoms) where
      pub implied_sound : X i ≡ true → implied n J.duration lower upper i ≡ true → PassesWith J premises a
      unfolding implied
      implied_sound yi y =
          let (b, c) = and_true (some_in Ω) (ltb (high Ω) reach && exceeds (ect_of N Ω) (N.latest i)) y in
          let (d, e) = and_true (ltb (high Ω) reach) (exceeds (ect_of N Ω) (N.latest i)) c in
          let ne : NonEmpty N Ω = any_some N Ω b in
          let (v, is, past) = exceeds_yes (ect_of N Ω) (N.latest i) e in
          let over : high Ω < reach = ltb-true (high Ω) reach d in
          let f : RuleFormula N Ω i = record {
            outside = record { small = small; mem = self_out };
            start = low Ω;
            end = high Ω;
            joint = v;
            est = lowest_is N Ω fits_N ne;
            lct = highest_is N Ω ne;
            ect = (ect_is N moments_proper Ω v).0 is;
            over_i = omega arith;
            over_Ω = omega arith;
            passes = past;
          } in
          record {
            set = Ω;
            ranges = R;
            bounded = subst (λ (l : List Atom). Bounded J l (Ω with a.variable) R) (sym is_given)
                (subst (λ (j : ℕ). Bounded J atoms (Ω with j) R) (sym on_i) (all_bounded (Ω with i) (with_all yi)));
            formula = subst (λ (j : ℕ). RuleFormula R Ω j) (sym on_i) (checks← zero_at R proper low_R Ω i f);
          }

      pub implied_complete : PassesWith J premises a → implied n J.duration lower upper i ≡ true
      unfolding implied
      implied_complete p =
          let b : Bounded J atoms (p.set with i) p.ranges =
          subst (λ (j : ℕ). Bounded J atoms (p.set with j) p.ranges) on_i (subst (λ (l : List Atom). Bounded J l (p.set with a.variable) p.ranges) is_given p.bounded) in
          let g : RuleFormula p.ranges p.set i = subst (λ (j : ℕ). RuleFormula p.ranges p.set j) on_i p.formula in
          let on_R : RuleFormula R p.set i = formula→ p.ranges R (p.set with i) (agrees (p.set with i) p.ranges b) p.set i (λ k h. with_old p.set i k h.mem)
          (with_new p.set i) g in
          let f : RuleFormula N Ω i = checks→ zero_at R proper low_R Ω i (set_formula R p.set Ω (is_theta p.set g.outside.mem (determined (p.set with i) p.ranges b)) i on_R) in
          let ne : NonEmpty N Ω = (f.est.holds.0, f.est.holds.1) in
          let s : f.start ≡ low Ω = one_least f.est (lowest_is N Ω fits_N ne) in
          let e : f.end ≡ high Ω = one_largest f.lct (highest_is N Ω ne) in
          and_yes (some_in Ω) (ltb (high Ω) reach && exceeds (ect_of N Ω) (N.latest i)) (any_yes N Ω ne)
          (and_yes (ltb (high Ω) reach) (exceeds (ect_of N Ω) (N.latest i)) (lt-ltb (high Ω) reach (omega (arith, f.over_i, f.over_Ω)))
          (some_exceeds (ect_of N Ω) f.joint (N.latest i) ((ect_is N moments_proper Ω f.joint).1 f.ect) f.passes))
