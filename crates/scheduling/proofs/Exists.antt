-- Every non-empty set has an est, an lct and an ect.
use mathlib.Core.Path.{◌≡◌, refl}
use mathlib.Core.Bool.{true, ◌&&◌}
use mathlib.Core.Logic.{inl, inr}
use Prim.Native.Nat.{ℕ, ◌+◌, ◌-◌, ◌≤◌}
use native.Mathlib.Omega.{arith}
use lib.Dec.{leb}
use borrow.Author.Tests.{leb-true, le-leb}
use Rattle.scheduling.specs.Scheduling.{natural, Tasks, TaskSet, In, NonEmpty, completion, Est, Lct, processing, Ect}
use Rattle.integers.proofs.Bools.{clash, and_true}
use Rattle.scheduling.proofs.Sets.{top}
use Rattle.scheduling.proofs.Processing.{processing_mono}

module _ (J : Tasks natural) where
  -- a member at which f is largest, and one at which it is least
  pub largest_at : (Ω : TaskSet) (f : ℕ → ℕ) → NonEmpty J Ω → (k : ℕ) × In J Ω k × ((j : ℕ) → In J Ω j → f j ≤ f k)
  largest_at Ω f (i, im) = elim (top Ω f J.count) [
    | inl none ↦ clash im.mem (none i im.small)
    | inr t ↦ (t.at, record { small = t.small; mem = t.mem }, λ j h. t.top j h.small h.mem)
  ]

  pub least_at : (Ω : TaskSet) (f : ℕ → ℕ) → NonEmpty J Ω → (k : ℕ) × In J Ω k × ((j : ℕ) → In J Ω j → f k ≤ f j)
  least_at Ω f ne =
      let (m, mm, mt) = largest_at Ω f ne in
      let (k, km, kt) = largest_at Ω (λ k. f m - f k) ne in
      (k, km, λ j h. omega (arith, kt j h, mt j h, mt k km))

  pub est_some : (Ω : TaskSet) → NonEmpty J Ω → (v : ℕ) × Est J Ω v
  est_some Ω ne =
      let (k, km, kt) = least_at Ω J.earliest ne in
      (J.earliest k, record { holds = (k, km, refl); bounds = λ w h. omega (arith, h.2, kt h.0 h.1) })

  pub lct_some : (Ω : TaskSet) → NonEmpty J Ω → (v : ℕ) × Lct J Ω v
  lct_some Ω ne =
      let (k, km, kt) = largest_at Ω (completion J) ne in
      (completion J k, record { holds = (k, km, refl); bounds = λ w h. omega (arith, h.2, kt h.0 h.1) })

  -- those of a set that start at x or later
  abbrev pub since : TaskSet → ℕ → TaskSet
  since Ω x k = leb x (J.earliest k) && Ω k

  since_in : (Ω : TaskSet) (x k : ℕ) → since Ω x k ≡ true → (x ≤ J.earliest k) × (Ω k ≡ true)
  since_in Ω x k h = let (y, q) = and_true (leb x (J.earliest k)) (Ω k) h in (leb-true _ _ y, q)

  since_out : (Ω : TaskSet) (x k : ℕ) → x ≤ J.earliest k → Ω k ≡ true → since Ω x k ≡ true
  since_out Ω x k h q = rw (le-leb _ _ h) q

  pub ect_some : (Ω : TaskSet) → NonEmpty J Ω → (v : ℕ) × Ect J Ω v
  ect_some Ω ne =
      let key : ℕ → ℕ = λ k. J.earliest k + processing J (since Ω (J.earliest k)) in
      let (k, km, kt) = largest_at Ω key ne in (
        key k,
        record {
          holds = record {
            part = since Ω (J.earliest k);
            within = λ j h. (since_in Ω (J.earliest k) j h.mem).1;
            start = J.earliest k;
            est = record {
              holds = (k, record { small = km.small; mem = since_out Ω (J.earliest k) k (omega arith) km.mem }, refl);
              bounds = λ w h. omega (arith, h.2, (since_in Ω (J.earliest k) h.0 h.1.mem).0);
            };
            sum = refl;
          };
          bounds = λ w f. let (i, im, e) = f.est.holds in
              omega (
                arith,
                f.sum,
                e,
                kt i (record { small = im.small; mem = f.within i im }),
                processing_mono J f.part (since Ω (J.earliest i)) (λ j h. since_out Ω (J.earliest i) j (omega (arith, e, f.est.bounds (J.earliest j) (j, h, refl))) (f.within j h)),
              );
        },
      )
