-- The root's values over the leaves in the order of earliest starts: ect of the white set, and the largest ect with at most one gray task.
use mathlib.Core.Path.{◌≡◌, sym, ap, ◌∙◌}
use mathlib.Core.Bool.{Bool, true, false, ◌&&◌}
use mathlib.Core.Logic.{◌⊎◌, inl, inr}
use Prim.Native.Nat.{ℕ, zero, suc, ◌+◌, ◌≤◌, ◌<◌, max}
use native.Mathlib.Omega.{arith}
use native.Mathlib.Nat.{zero-add}
use lib.Dec.{ltb}
use borrow.Author.Tests.{ne_eqb, lt-ltb}
use native.Mathlib.Decide.{dec_le, ℕ_discrete}
use Rattle.integers.proofs.Bools.{bool, clash}
use Rattle.scheduling.specs.Scheduling.{natural, Tasks, Proper, TaskSet, ◌with◌, In}
use Rattle.scheduling.proofs.Sets.{with_new, with_old}
use Rattle.scheduling.proofs.Scan.{scan, scan_in, scan_out, scan_zero}
use Rattle.scheduling.specs.Moments.{ByEarliest}
use Rattle.scheduling.proofs.LeafRanges as leaf_range

module _ (J : Tasks natural) (ok : Proper J) (T rank : ℕ → ℕ) (rk : ByEarliest J T rank) (Ω Λ : TaskSet) where
  -- the leaves past the last task are empty
  abbrev pub w : ℕ → Bool
  w j = ltb j J.count && Ω (T j)

  abbrev pub g : ℕ → Bool
  g j = ltb j J.count && Λ (T j)

  pub held : (S : TaskSet) (j : ℕ) {b : Bool} → j < J.count → S (T j) ≡ b → ltb j J.count && S (T j) ≡ b
  held S j q h = rw (lt-ltb j J.count q) h

  abbrev pub e : ℕ → ℕ
  e j = J.earliest (T j)

  abbrev pub p : ℕ → ℕ
  p j = J.duration (T j)

  abbrev pub E : ℕ → ℕ
  E d = leaf_range.ect w g e p 0 d

  abbrev pub EB : ℕ → ℕ
  EB d = leaf_range.ect_bar_of w g e p 0 d

  pub ect_scan : (d : ℕ) → d ≤ J.count → E d ≡ scan J T rank Ω d
  ect_scan zero q = (leaf_range.blank w g e p 0).t ∙ sym (scan_zero J T rank ok rk Ω)
  ect_scan (suc d) q = step (ect_scan d (omega arith)) (bool (Ω (T d))) (bool (Λ (T d)))
    where
      step : E d ≡ scan J T rank Ω d → (Ω (T d) ≡ true) ⊎ (Ω (T d) ≡ false) → (Λ (T d) ≡ true) ⊎ (Λ (T d) ≡ false) → E (suc d) ≡ scan J T rank Ω (suc d)
      step ih (inl y) v = omega (arith, (leaf_range.white w g e p 0 d d (zero-add d) (held Ω d q y)).t, scan_in J T rank ok rk Ω d y)
      step ih (inr y) (inl v) = omega (arith, (leaf_range.gray w g e p 0 d d (zero-add d) (held Ω d q y) (held Λ d q v)).t, scan_out J T rank ok rk Ω d y)
      step ih (inr y) (inr v) = omega (arith, (leaf_range.no_leaf w g e p 0 d d (zero-add d) (held Ω d q y) (held Λ d q v)).t, scan_out J T rank ok rk Ω d y)

  with_other : (i d : ℕ) → (T d ≡ i → ⊥) → (Ω with i) (T d) ≡ Ω (T d)
  with_other i d ne = rw (ne_eqb (T d) i ne)

  scan_with : (i d : ℕ) → (T d ≡ i → ⊥) → scan J T rank (Ω with i) d ≡ scan J T rank Ω d → scan J T rank (Ω with i) (suc d) ≡ scan J T rank Ω (suc d)
  scan_with i d ne ih = elim (bool (Ω (T d))) [
    | inl y ↦ omega (arith, scan_in J T rank ok rk Ω d y, scan_in J T rank ok rk (Ω with i) d (with_other i d ne ∙ y))
    | inr y ↦ omega (arith, scan_out J T rank ok rk Ω d y, scan_out J T rank ok rk (Ω with i) d (with_other i d ne ∙ y))
  ]

  -- before its own leaf, i makes no difference
  pub before : (i d : ℕ) → i < J.count → d ≤ rank i → scan J T rank (Ω with i) d ≡ scan J T rank Ω d
  before i zero q h = scan_zero J T rank ok rk (Ω with i) ∙ sym (scan_zero J T rank ok rk Ω)
  before i (suc d) q h = scan_with i d (λ z. omega (arith, ap rank z, rk.back d (omega (arith, rk.placed i q)))) (before i d q (omega arith))

  pub most : (i : ℕ) → In J Λ i → (d : ℕ) → d ≤ J.count → scan J T rank (Ω with i) d ≤ EB d
  most i h zero q = omega (arith, scan_zero J T rank ok rk (Ω with i))
  most i h (suc d) q = step (most i h d (omega arith)) (bool (Ω (T d))) (bool (Λ (T d)))
    where
      step : scan J T rank (Ω with i) d ≤ EB d → (Ω (T d) ≡ true) ⊎ (Ω (T d) ≡ false) → (Λ (T d) ≡ true) ⊎ (Λ (T d) ≡ false) → scan J T rank (Ω with i) (suc d) ≤ EB (suc d)
      step ih (inl y) v = omega (arith, (leaf_range.white w g e p 0 d d (zero-add d) (held Ω d q y)).tb, scan_in J T rank ok rk (Ω with i) d (with_old Ω i (T d) y))
      step ih (inr y) (inl v) = elim (ℕ_discrete (T d) i) [
        | yes z ↦ omega (
          arith,
          (leaf_range.gray w g e p 0 d d (zero-add d) (held Ω d q y) (held Λ d q v)).tb,
          scan_in J T rank ok rk (Ω with i) d (rw z (with_new Ω i)),
          ect_scan d (omega arith),
          before i d h.small (omega (arith, ap rank z, rk.back d q)),
        )
        | no z ↦ omega (arith, (leaf_range.gray w g e p 0 d d (zero-add d) (held Ω d q y) (held Λ d q v)).tb, scan_out J T rank ok rk (Ω with i) d (with_other i d z ∙ y))
      ]
      step ih (inr y) (inr v) = omega (
        arith,
        (leaf_range.no_leaf w g e p 0 d d (zero-add d) (held Ω d q y) (held Λ d q v)).tb,
        scan_out J T rank ok rk (Ω with i) d (with_other i d (λ z. clash h.mem (rw z at v)) ∙ y),
      )

  -- the value is that of the white set, or of it with one gray task
  pub record One (d : ℕ) : Type 0 where
    pub at : ℕ
    pub mem : In J Λ at
    pub out : Ω at ≡ false
    pub seen : rank at < d
    pub is : EB d ≡ scan J T rank (Ω with at) d

  pub reached : (d : ℕ) → d ≤ J.count → (EB d ≡ scan J T rank Ω d) ⊎ One d
  reached zero q = inl ((leaf_range.blank w g e p 0).tb ∙ sym (scan_zero J T rank ok rk Ω))
  reached (suc d) q = step (reached d (omega arith)) (bool (Ω (T d))) (bool (Λ (T d)))
    where
      -- the task found before stays
      keep : (o : One d) → T d ≡ o.at → ⊥
      keep o z = omega (arith, o.seen, ap rank z, rk.back d q)

      stay : (o : One d) → EB (suc d) ≡ scan J T rank (Ω with o.at) (suc d) → One (suc d)
      stay o h = record { at = o.at; mem = o.mem; out = o.out; seen = omega (arith, o.seen); is = h }

      -- the task of this leaf
      new : Ω (T d) ≡ false → Λ (T d) ≡ true → EB (suc d) ≡ max (scan J T rank Ω d) (e d) + p d → One (suc d)
      new y v h = record {
        at = T d;
        mem = record { small = rk.task d q; mem = v };
        out = y;
        seen = omega (arith, rk.back d q);
        is = omega (arith, h, scan_in J T rank ok rk (Ω with T d) d (with_new Ω (T d)), before (T d) d (rk.task d q) (omega (arith, rk.back d q)));
      }

      step : (EB d ≡ scan J T rank Ω d) ⊎ One d → (Ω (T d) ≡ true) ⊎ (Ω (T d) ≡ false) → (Λ (T d) ≡ true) ⊎ (Λ (T d) ≡ false) → (EB (suc d) ≡ scan J T rank Ω (suc d)) ⊎ One (suc d)
      step (inl h) (inl y) v = inl (omega (arith, (leaf_range.white w g e p 0 d d (zero-add d) (held Ω d q y)).tb, scan_in J T rank ok rk Ω d y))
      step (inr o) (inl y) v = inr (stay o (omega (arith, o.is, (leaf_range.white w g e p 0 d d (zero-add d) (held Ω d q y)).tb, scan_in J T rank ok rk (Ω with o.at) d (with_old Ω o.at (T d) y))))
      step h (inr y) (inl v) = elim (dec_le (max (E d) (e d) + p d) (EB d)) [
        | yes c ↦ elim h [
          | inl k ↦ inl (omega (arith, (leaf_range.gray w g e p 0 d d (zero-add d) (held Ω d q y) (held Λ d q v)).tb, scan_out J T rank ok rk Ω d y))
          | inr o ↦ inr (stay o (omega (
            arith,
            o.is,
            (leaf_range.gray w g e p 0 d d (zero-add d) (held Ω d q y) (held Λ d q v)).tb,
            scan_out J T rank ok rk (Ω with o.at) d (with_other o.at d (keep o) ∙ y),
          )))
        ]
        | no c ↦ inr (new y v (omega (arith, (leaf_range.gray w g e p 0 d d (zero-add d) (held Ω d q y) (held Λ d q v)).tb, ect_scan d (omega arith))))
      ]
      step (inl h) (inr y) (inr v) = inl (omega (arith, (leaf_range.no_leaf w g e p 0 d d (zero-add d) (held Ω d q y) (held Λ d q v)).tb, scan_out J T rank ok rk Ω d y))
      step (inr o) (inr y) (inr v) = inr (stay o
          (omega (arith, o.is, (leaf_range.no_leaf w g e p 0 d d (zero-add d) (held Ω d q y) (held Λ d q v)).tb, scan_out J T rank ok rk (Ω with o.at) d (with_other o.at d (keep o) ∙ y))))
