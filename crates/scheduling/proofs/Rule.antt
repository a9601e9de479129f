-- The edge-finding rule and the checker's formula are sound, and an overload leaves no schedule, over natural numbers.
use mathlib.Core.Path.{◌≡◌, refl, ap}
use mathlib.Core.Logic.{inl, inr}
use Prim.Native.Nat.{ℕ, ◌+◌, ◌≤◌, ◌<◌, min}
use native.Mathlib.Omega.{arith}
use native.Mathlib.Decide.{dec_le}
use Rattle.integers.proofs.Bools.{clash}
use Rattle.scheduling.specs.Scheduling.{natural, Tasks, Proper, TaskSet, ◌with◌, In, Outside, completion, Lct, processing, EstPlusP, Overloads, EdgeFindingBound, Schedule}
use Rattle.scheduling.specs.Scheduling.{RuleFormula}
use Rattle.scheduling.proofs.Sets.{with_in, with_new, with_old}
use Rattle.scheduling.proofs.Processing.{processing_with}
use Rattle.scheduling.proofs.Windows.{ends_by}

module _ (J : Tasks natural) (ok : Proper J) (s : ℕ → ℕ) (sch : Schedule J s) where
  -- what a part of tasks that end by b comes to
  by_end : (Ω : TaskSet) (b v : ℕ) → ((k : ℕ) → In J Ω k → s k + J.duration k ≤ b) → EstPlusP J Ω v → v ≤ b
  by_end Ω b v = ends_by J ok.lasts s sch.apart Ω b v (λ k h. sch.from k h.small)

  by_lct : (Ω : TaskSet) (end : ℕ) → Lct J Ω end → (k : ℕ) → In J Ω k → s k + J.duration k ≤ end
  by_lct Ω end l k h = omega (arith, sch.to k h.small, l.bounds (completion J k) (k, h, refl))

  -- The rule: where a part of Ω with i does not fit before lct(Ω), i starts after all of Ω.
  rule : (Ω : TaskSet) (i end v b : ℕ) → Outside J Ω i → Lct J Ω end → EstPlusP J (Ω with i) v → end < v → EstPlusP J Ω b → b ≤ s i
  rule Ω i end v b out lct fv over fb = by_end Ω (s i) b after fb
    where
      -- if i ends before some task of the set starts, all of the set with i ends by `end`
      early : (k : ℕ) → In J Ω k → s i + J.duration i ≤ s k → ⊥
      early k h q = omega (
        arith,
        by_end (Ω with i) end v (λ j m. elim (with_in Ω i j m.mem)
            [ inl z ↦ rw z (omega (arith, by_lct Ω end lct k h)) | inr y ↦ by_lct Ω end lct j (record { small = m.small; mem = y }) ]) fv,
      )

      after : (k : ℕ) → In J Ω k → s k + J.duration k ≤ s i
      after k h = elim (sch.apart k i h.small out.small (λ z. clash h.mem (rw (← z) at out.mem)))
          [ inl q ↦ q | inr q ↦ absurd (early k h q) ]

  -- The rule is sound.
  pub rule_sound : (i b : ℕ) → EdgeFindingBound J i b → b ≤ s i
  rule_sound i b r = rule r.set i r.end r.joint b r.outside r.lct r.ect_with.holds (omega (arith, r.passes)) r.ect.holds

  -- An overloaded set leaves no schedule.
  pub overload_sound : (Ω : TaskSet) → Overloads J Ω → ⊥
  overload_sound Ω o =
      omega (arith, by_end Ω o.end (o.start + processing J Ω) (by_lct Ω o.end o.lct) (record { part = Ω; within = λ k h. h.mem; start = o.start; est = o.est; sum = refl }), o.over)

  -- Where the checker's formula holds there is no schedule.
  pub check_sound : (Ω : TaskSet) (i : ℕ) → RuleFormula J Ω i → ⊥
  check_sound Ω i c =
      omega (
        arith,
        c.passes,
        sch.to i c.outside.small,
        rule Ω i c.end (min (J.earliest i) c.start + processing J (Ω with i)) c.joint c.outside c.lct fill
            (omega (arith, c.over_i, c.over_Ω, processing_with J Ω i c.outside)) c.ect.holds,
      )
    where
      self : In J (Ω with i) i
      self = record { small = c.outside.small; mem = with_new Ω i }

      least : (w : ℕ) → (k : ℕ) × In J (Ω with i) k × (J.earliest k ≡ w) → min (J.earliest i) c.start ≤ w
      least w h = elim (with_in Ω i h.0 h.1.mem)
          [ inl z ↦ omega (arith, h.2, ap J.earliest z) | inr y ↦ omega (arith, c.est.bounds w (h.0, record { small = h.1.small; mem = y }, h.2)) ]

      who : (k : ℕ) × In J (Ω with i) k × (J.earliest k ≡ min (J.earliest i) c.start)
      who = elim (dec_le (J.earliest i) c.start) [
        | yes q ↦ (i, self, omega arith)
        | no q ↦ (c.est.holds.0, record { small = c.est.holds.1.small; mem = with_old Ω i c.est.holds.0 c.est.holds.1.mem }, omega (arith, c.est.holds.2))
      ]

      fill : EstPlusP J (Ω with i) (min (J.earliest i) c.start + processing J (Ω with i))
      fill = record { part = Ω with i; within = λ k h. h.mem; start = min (J.earliest i) c.start; est = record { holds = who; bounds = least }; sum = refl }
