-- The join rule: where all of A starts before all of B, ect(A ∪ B) is the larger of ect(B) and ect(A) + p(B).
use mathlib.Core.Path.{◌≡◌, refl, sym, subst, ◌∙◌}
use mathlib.Core.Bool.{true, false, ◌||◌, ◌&&◌}
use mathlib.Core.Logic.{inl, inr}
use Prim.Native.Nat.{ℕ, zero, suc, ◌+◌, ◌≤◌, ◌<◌, max}
use native.Mathlib.Omega.{arith}
use native.Mathlib.Decide.{dec_le}
use Rattle.integers.proofs.Bools.{bool, clash, and_true, and_yes, or_true, or_right}
use Rattle.scheduling.specs.Scheduling.{natural, Tasks, TaskSet, total, In, Subset, processing, EstPlusP, Ect}
use Rattle.scheduling.proofs.Sets.{Empty, top, total_ext}
use Rattle.scheduling.proofs.Processing.{term, term_true, term_false, processing_mono}
use Rattle.scheduling.proofs.LargerSets.{part_mono}

infixl 15 ◌∪◌
abbrev pub ◌∪◌ : TaskSet → TaskSet → TaskSet
◌∪◌ A B k = A k || B k

infixl 16 ◌∩◌
abbrev pub ◌∩◌ : TaskSet → TaskSet → TaskSet
◌∩◌ A B k = A k && B k

union_left : (A B : TaskSet) (k : ℕ) → A k ≡ true → (A ∪ B) k ≡ true
union_left A B k h = rw h

pub total_sum : (f g : ℕ → ℕ) (n : ℕ) → total f n + total g n ≡ total (λ k. f k + g k) n
unfolding total
total_sum f g zero = refl
total_sum f g (suc n) = omega (arith, total_sum f g n)

module _ (J : Tasks natural) where
  -- p of two sets with no task in common
  pub processing_union : (A B : TaskSet) → ((k : ℕ) → In J A k → B k ≡ false) → processing J (A ∪ B) ≡ processing J A + processing J B
  unfolding processing term
  processing_union A B apart = total_ext (term J (A ∪ B)) (λ k. term J A k + term J B k) J.count each ∙ sym (total_sum (term J A) (term J B) J.count)
    where
      each : (k : ℕ) → k < J.count → term J (A ∪ B) k ≡ term J A k + term J B k
      each k q = elim (bool (A k)) [
        | inl a ↦ omega (arith, term_true J A k a, term_true J (A ∪ B) k (union_left A B k a), term_false J B k (apart k (record { small = q; mem = a })))
        | inr a ↦ elim (bool (B k)) [
          | inl b ↦ omega (arith, term_false J A k a, term_true J B k b, term_true J (A ∪ B) k (or_right (A k) (B k) b))
          | inr b ↦ omega (arith, term_false J A k a, term_false J B k b, term_false J (A ∪ B) k (rw (a, b)))
        ]
      ]

  module _ (A B : TaskSet) (before : (j k : ℕ) → In J A j → In J B k → J.earliest j ≤ J.earliest k) (apart : (k : ℕ) → In J A k → B k ≡ false) where
    -- a part of A, and all of B after it
    followed : (u : ℕ) → EstPlusP J A u → EstPlusP J (A ∪ B) (u + processing J B)
    followed u f = record {
      part = f.part ∪ B;
      start = f.start;
      within = within;
      est = record { holds = (f.est.holds.0, in_both f.est.holds.1, f.est.holds.2); bounds = bounds };
      sum = omega (arith, f.sum, processing_union f.part B (λ j h. apart j (in_A j h)));
    }
      where
        in_A : (j : ℕ) → In J f.part j → In J A j
        in_A j h = record { small = h.small; mem = f.within j h }

        in_both : {j : ℕ} → In J f.part j → In J (f.part ∪ B) j
        in_both {j} h = record { small = h.small; mem = union_left f.part B j h.mem }

        within : Subset J (f.part ∪ B) (A ∪ B)
        within j h = elim (or_true (f.part j) (B j) h.mem)
            [ inl y ↦ union_left A B j (f.within j (record { small = h.small; mem = y })) | inr y ↦ or_right (A j) (B j) y ]

        bounds : (w : ℕ) → (j : ℕ) × In J (f.part ∪ B) j × (J.earliest j ≡ w) → f.start ≤ w
        bounds w h = elim (or_true (f.part h.0) (B h.0) h.1.mem) [
          | inl y ↦ f.est.bounds w (h.0, record { small = h.1.small; mem = y }, h.2)
          | inr y ↦ (let (k, km, e) = f.est.holds in omega (arith, h.2, before k h.0 (in_A k km) (record { small = h.1.small; mem = y })))
        ]

    -- a part with a task of A starts with one, so that it ends by ect(A) + p(B)
    cut : (u w : ℕ) → Ect J A u → (f : EstPlusP J (A ∪ B) w) (k : ℕ) → In J (f.part ∩ A) k → w ≤ u + processing J B
    cut u w a f k km =
        omega (
          arith,
          f.sum,
          processing_mono J f.part ((f.part ∩ A) ∪ B) cover,
          processing_union (f.part ∩ A) B (λ j h. apart j (record { small = h.small; mem = (both h).1 })),
          a.bounds (f.start + processing J (f.part ∩ A)) own,
        )
      where
        both : {j : ℕ} → In J (f.part ∩ A) j → (f.part j ≡ true) × (A j ≡ true)
        both {j} h = and_true (f.part j) (A j) h.mem

        cover : Subset J f.part ((f.part ∩ A) ∪ B)
        cover j h = elim (or_true (A j) (B j) (f.within j h))
            [ inl y ↦ union_left (f.part ∩ A) B j (and_yes (f.part j) (A j) h.mem y) | inr y ↦ or_right ((f.part ∩ A) j) (B j) y ]

        first : (j : ℕ) × In J (f.part ∩ A) j × (J.earliest j ≡ f.start)
        first =
            let (j, jm, e) = f.est.holds in
            elim (or_true (A j) (B j) (f.within j jm)) [
              | inl y ↦ (j, record { small = jm.small; mem = and_yes (f.part j) (A j) jm.mem y }, e)
              | inr y ↦ (
                k,
                km,
                omega (
                  arith,
                  e,
                  before k j (record { small = km.small; mem = (both km).1 }) (record { small = jm.small; mem = y }),
                  f.est.bounds (J.earliest k) (k, record { small = km.small; mem = (both km).0 }, refl),
                ),
              )
            ]

        own : EstPlusP J A (f.start + processing J (f.part ∩ A))
        own = record {
          part = f.part ∩ A;
          start = f.start;
          within = λ j h. (both h).1;
          sum = refl;
          est = record { holds = first; bounds = λ v h. f.est.bounds v (h.0, record { small = h.1.small; mem = (both h.1).0 }, h.2) };
        }

    pub ect_join : (u v : ℕ) → Ect J A u → Ect J B v → Ect J (A ∪ B) (max v (u + processing J B))
    ect_join u v a b = record { holds = holds; bounds = bounds }
      where
        holds : EstPlusP J (A ∪ B) (max v (u + processing J B))
        holds = elim (dec_le (u + processing J B) v) [
          | yes q ↦ (let z : v ≡ max v (u + processing J B) = omega arith in
              subst (EstPlusP J (A ∪ B)) z (part_mono J B (A ∪ B) v (λ k h. or_right (A k) (B k) h.mem) b.holds))
          | no q ↦ (let z : u + processing J B ≡ max v (u + processing J B) = omega arith in
              subst (EstPlusP J (A ∪ B)) z (followed u a.holds))
        ]

        bounds : (w : ℕ) → EstPlusP J (A ∪ B) w → w ≤ max v (u + processing J B)
        bounds w f = elim (top (f.part ∩ A) (λ _. 0) J.count) [
          | inr t ↦ omega (arith, cut u w a f t.at (record { small = t.small; mem = t.mem }))
          | inl none ↦ omega (arith, b.bounds w (record { part = f.part; start = f.start; est = f.est; sum = f.sum; within = only none }))
        ]
          where
            only : Empty (f.part ∩ A) J.count → Subset J f.part B
            only none j h = elim (or_true (A j) (B j) (f.within j h))
                [ inl y ↦ clash (and_yes (f.part j) (A j) h.mem y) (none j h.small) | inr y ↦ y ]
