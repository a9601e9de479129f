-- The loop over the tasks, task by task.
use mathlib.Core.Path.{◌≡◌, refl, sym, ap, ◌∙◌}
use mathlib.Core.Bool.{Bool, true, false, cond, ◌||◌}
use mathlib.Core.List.{List}
use Prim.Native.Nat.{ℕ, zero, suc, ◌+◌, ◌^◌, ◌≤◌, ◌<◌, min, max}
use native.Mathlib.Numerals.{add-one}
use native.Mathlib.Omega.{arith}
use lib.ListN.{get_or}
use Rattle.integers.proofs.Bools.{clash, cond_most}
use Rattle.scheduling.specs.Scheduling.{natural, Tasks, TaskSet, total, completion}
use Rattle.scheduling.proofs.Sets.{total_none, total_suc, total_part, total_mono}
use Rattle.checker.specs.declared.intervals.Interval.{Interval}
use Rattle.checker.specs.Formulas.{any, lowest, highest}
use Rattle.chosen_sets.specs.TaskArrays.{HeldSet, Late}
use Rattle.std.specs.Prelude.{Option, Some, None}
use Rattle.checker.specs.BoundArrays.{interval, joined, interval_of}

-- one task more, where it is chosen
abbrev pub with_task : Option Interval → Interval → Option Interval
with_task None t = Some t
with_task (Some v) t = Some (joined v t)

abbrev pub one_more : Option Interval → Bool → Interval → Option Interval
one_more v chosen t = cond chosen (with_task v t) v

module _ (J : Tasks natural) (Ω : TaskSet) where
  abbrev chosen_total : ℕ → ℕ
  chosen_total = total (λ k. cond (Ω k) (J.duration k) 0)

  -- where no task is chosen yet
  none_yet : (k : ℕ) → any Ω k ≡ false → (lowest J Ω k ≡ 4294967295) × (highest J Ω k ≡ 0) × (chosen_total k ≡ 0)
  unfolding any lowest highest
  none_yet zero e = (refl, refl, total_none (λ k. cond (Ω k) (J.duration k) 0))
  none_yet (suc k) e = by (Ω k) (any Ω k) refl e (none_yet k)
    where
      by : (b a : Bool) → Ω k ≡ b → (a || b) ≡ false → (a ≡ false → (lowest J Ω k ≡ 4294967295) × (highest J Ω k ≡ 0) × (chosen_total k ≡ 0))
          → (cond b (min (lowest J Ω k) (J.earliest k)) (lowest J Ω k) ≡ 4294967295) × (cond b (max (highest J Ω k) (completion J k)) (highest J Ω k) ≡ 0) × (chosen_total (suc k) ≡ 0)
      by true true p e n = clash refl e
      by true false p e n = clash refl e
      by false true p e n = clash refl e
      by false false p e n = let (l, h, t) = n refl in (l, h, total_suc (λ k. cond (Ω k) (J.duration k) 0) k ∙ rw p (omega (arith, t)))

  pub none_gathered : ◌≡◌ {A = Option Interval} None (interval_of J Ω 0)
  unfolding any
  none_gathered = refl

  pub one_gathered : (k : ℕ) → J.earliest k ≤ 4294967295 → one_more (interval_of J Ω k) (Ω k) (interval (J.earliest k) (completion J k) (J.duration k)) ≡ interval_of J Ω (suc k)
  unfolding any lowest highest
  one_gathered k fits =
      by (Ω k) (any Ω k) (lowest J Ω k) (highest J Ω k) (chosen_total k) (none_yet k)
      ∙ ap (λ (t : ℕ). cond (any Ω (suc k)) (Some (interval (lowest J Ω (suc k)) (highest J Ω (suc k)) t)) None) (sym (total_suc (λ k. cond (Ω k) (J.duration k) 0) k))
    where
      by : (b a : Bool) (l h t : ℕ) → (a ≡ false → (l ≡ 4294967295) × (h ≡ 0) × (t ≡ 0))
          → one_more (cond a (Some (interval l h t)) None) b (interval (J.earliest k) (completion J k) (J.duration k))
          ≡ cond (a || b) (Some (interval (cond b (min l (J.earliest k)) l) (cond b (max h (completion J k)) h) (t + cond b (J.duration k) 0))) None
      by true true l h t n = refl
      by true false l h t n =
          let (p, q, r) = n refl in
          let x : J.earliest k ≡ min l (J.earliest k) = omega arith in
          let y : completion J k ≡ max h (completion J k) = omega arith in
          let z : J.duration k ≡ t + J.duration k = omega arith in
          λ i. Some (interval (x i) (y i) (z i))
      by false true l h t n = ap (λ (s : ℕ). Some (interval l h s)) (omega arith)
      by false false l h t n = refl

module _ {J : Tasks natural} {Ω : TaskSet} {n : ℕ} {chosen : List Bool} {est durations lst : List ℕ} (h : HeldSet J Ω n chosen est durations) (l : Late J n lst) (i : ℕ) (q : i < n) where
  -- no number of task i, nor a sum of them, leaves 32 bits
  pub ends_fit : (get_or est i 0 + get_or durations i 0 < 4294967296) × (get_or lst i 0 + get_or durations i 0 < 4294967296)
  ends_fit =
      let most = total_part J.duration n i q in
      (omega (arith, h.start i q, h.early i q, h.lasts i q, h.sum, most), omega (arith, l.at i q, l.fits i q, h.lasts i q, h.sum, most))

  pub sum_fits : total (λ k. cond (Ω k) (J.duration k) 0) i + get_or durations i 0 < 2 ^ 64
  sum_fits = omega (arith, h.lasts i q, h.sum, total_part J.duration n i q, total_mono (λ k. cond (Ω k) (J.duration k) 0) J.duration i (λ k r. cond_most (Ω k) (J.duration k)))

  pub next_gathered : (v : Option Interval) → v ≡ interval_of J Ω i
      → one_more v (get_or chosen i false) (interval (get_or est i 0) (get_or lst i 0 + get_or durations i 0) (get_or durations i 0)) ≡ interval_of J Ω (i + 1)
  next_gathered v z =
      rw (z, h.member i q, h.start i q, l.at i q, h.lasts i q, add-one i) (one_gathered J Ω i (omega (arith, h.early i q)))
