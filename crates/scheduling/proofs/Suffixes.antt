-- The ect of a set is est + p of a suffix of it in the order of earliest starts.
use mathlib.Core.Path.{◌≡◌, refl, sym, ap, subst, ◌∙◌}
use mathlib.Core.Bool.{Bool, true, false, ◌&&◌}
use mathlib.Core.Logic.{inl, inr}
use Prim.Native.Nat.{ℕ, suc, ◌+◌, ◌≤◌, ◌<◌}
use native.Mathlib.Omega.{arith}
use native.Mathlib.Decide.{ℕ_discrete}
use lib.Dec.{leb}
use borrow.Author.Tests.{leb-true, le-leb, lt-leb, eq-eqb, ne_eqb}
use Rattle.integers.proofs.Bools.{bool, clash, and_true, leb_step}
use Rattle.scheduling.specs.Scheduling.{natural, Tasks, TaskSet, In, NonEmpty, Subset, Est, processing, EstPlusP, Ect}
use Rattle.scheduling.specs.Moments.{ByEarliest}
use Rattle.scheduling.proofs.Processing.{processing_mono, processing_same, processing_less}
use Rattle.scheduling.proofs.Sets.{◌less◌}
use Rattle.scheduling.proofs.Exists.{least_at}

module _ (J : Tasks natural) (T rank : ℕ → ℕ) (rk : ByEarliest J T rank) (Θ : TaskSet) where
  -- the tasks of Θ from place a on
  abbrev pub onward : ℕ → TaskSet
  onward a k = leb a (rank k) && Θ k

  pub onward_in : (a k : ℕ) → onward a k ≡ true → (a ≤ rank k) × (Θ k ≡ true)
  onward_in a k h = let (y, q) = and_true (leb a (rank k)) (Θ k) h in (leb-true a (rank k) y, q)

  pub onward_out : (a k : ℕ) → a ≤ rank k → Θ k ≡ true → onward a k ≡ true
  onward_out a k h q = rw (le-leb _ _ h) q

  pub onward_not : (a k : ℕ) → Θ k ≡ false → onward a k ≡ false
  onward_not a k h = elim (bool (onward a k)) [ inl y ↦ clash (onward_in a k y).1 h | inr y ↦ y ]

  pub onward_early : (a k : ℕ) → rank k < a → onward a k ≡ false
  onward_early a k h = rw (lt-leb a (rank k) h)

  -- its first task is that of place a, and the other tasks stay one place on
  pub onward_first : (a : ℕ) → a < J.count → Θ (T a) ≡ true → In J (onward a) (T a)
  onward_first a q y = record { small = rk.task a q; mem = onward_out a (T a) (omega (arith, rk.back a q)) y }

  pub onward_stays : (a k : ℕ) → k < J.count → (k ≡ T a → ⊥) → onward a k ≡ onward (suc a) k
  onward_stays a k q ne = ap (λ (b : Bool). b && Θ k) (leb_step a (rank k) (λ z. ne (sym (rk.there k q) ∙ ap T z)))

  pub sum_skip : (a : ℕ) → a < J.count → Θ (T a) ≡ false → processing J (onward a) ≡ processing J (onward (suc a))
  sum_skip a q y = processing_same J (onward a) (onward (suc a)) (λ k r. elim (ℕ_discrete k (T a)) [
    | yes z ↦ onward_not a k (ap Θ z ∙ y) ∙ sym (onward_not (suc a) k (ap Θ z ∙ y))
    | no z ↦ onward_stays a k r z
  ])

  pub sum_less : (a : ℕ) → a < J.count → Θ (T a) ≡ true → processing J (onward a) ≡ processing J (onward (suc a)) + J.duration (T a)
  sum_less a q y = omega (
    arith,
    processing_less J (onward a) (T a) (onward_first a q y),
    processing_same J (onward a less T a) (onward (suc a)) (λ k r. elim (ℕ_discrete k (T a)) [
      | yes z ↦ rw (z, eq-eqb (T a) (T a) refl) (sym (onward_early (suc a) (T a) (omega (arith, rk.back a q))))
      | no z ↦ rw (ne_eqb k (T a) z) (onward_stays a k r z)
    ]),
  )

  -- the order goes by earliest start
  pub after : (a k : ℕ) → k < J.count → a ≤ rank k → J.earliest (T a) ≤ J.earliest k
  after a k q h = omega (arith, ap J.earliest (rk.there k q), rk.sorted a (rank k) h (rk.placed k q))

  pub onward_est : (a : ℕ) → a < J.count → Θ (T a) ≡ true → Est J (onward a) (J.earliest (T a))
  onward_est a q y = record { holds = (T a, onward_first a q y, refl); bounds = λ w (k, km, z). omega (arith, z, after a k km.small (onward_in a k km.mem).0) }

  -- the tasks of Θ from task m on
  abbrev pub suffix : ℕ → TaskSet
  suffix m = onward (rank m)

  suffix_est : (m : ℕ) → In J Θ m → Est J (suffix m) (J.earliest m)
  suffix_est m h = let z = rk.there m h.small in subst (λ (k : ℕ). Est J (suffix m) (J.earliest k)) z (onward_est (rank m) (rk.placed m h.small) (ap Θ z ∙ h.mem))

  -- est + p of a suffix
  pub suffix_end : (m : ℕ) → In J Θ m → EstPlusP J Θ (J.earliest m + processing J (suffix m))
  suffix_end m h = record { part = suffix m; within = λ k g. (onward_in (rank m) k g.mem).1; start = J.earliest m; est = suffix_est m h; sum = refl }

  -- a part of Θ lies in a suffix that starts no earlier
  pub cover : (S : TaskSet) → NonEmpty J S → Subset J S Θ → (m : ℕ) × In J S m × (processing J S ≤ processing J (suffix m))
  cover S ne sub =
      let (m, mm, mt) = least_at J S rank ne in
      (m, mm, processing_mono J S (suffix m) (λ k h. onward_out (rank m) k (mt k h) (sub k h)))

  -- Some suffix attains ect(Θ).
  pub attaining : (b : ℕ) → Ect J Θ b → (m : ℕ) × In J Θ m × (J.earliest m + processing J (suffix m) ≡ b)
  attaining b e =
      let f : EstPlusP J Θ b = e.holds in
      let (m, mm, d) = cover f.part (f.est.holds.0, f.est.holds.1) f.within in
      let mt : In J Θ m = record { small = mm.small; mem = f.within m mm } in
      (m, mt, omega (arith, d, f.sum, f.est.bounds (J.earliest m) (m, mm, refl), e.bounds (J.earliest m + processing J (suffix m)) (suffix_end m mt)))
