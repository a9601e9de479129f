-- The span of a set has its est, its lct and its p.
use mathlib.Core.Path.{◌≡◌, refl, sym, ◌∙◌}
use mathlib.Core.Bool.{Bool, true, false, cond}
use Prim.Native.Nat.{ℕ, zero, suc, ◌+◌, ◌≤◌, ◌<◌, min, max}
use native.Mathlib.Omega.{arith}
use native.Mathlib.Numerals.{add-one}
use Rattle.integers.specs.Limits.{U32MAX}
use Rattle.scheduling.specs.Scheduling.{natural, Tasks, TaskSet, total, NonEmpty, completion, Est, Lct, processing, Overloads}
use Rattle.scheduling.proofs.Processing.{processing_is}
use Rattle.scheduling.proofs.Sets.{total_none, total_suc}
use Rattle.chosen_sets.proofs.RunningValues.{running_least, running_largest, one_least, one_largest}
use Rattle.conflicts.specs.declared.spans.Span.{Span}
use Rattle.conflicts.specs.Spans.{with_task, span_below, span_of}

-- one task more, field by field
with_fields : (b : Bool) (e l p : ℕ) (s : Span) → ((with_task b e l p s).est ≡ cond b (min s.est e) s.est) × ((with_task b e l p s).lct ≡ cond b (max s.lct l) s.lct)
    × ((with_task b e l p s).p ≡ s.p + cond b p 0)
with_fields true e l p s = (refl, refl, refl)
with_fields false e l p s = (refl, refl, omega arith)

module _ (J : Tasks natural) (Ω : TaskSet) where
  -- the loop's first and next turn
  pub span_none : span_below J Ω 0 ≡ record { est = U32MAX; lct = 0; p = 0 }
  unfolding span_below
  span_none = refl

  pub span_more : (k : ℕ) → span_below J Ω (k + 1) ≡ with_task (Ω k) (J.earliest k) (completion J k) (J.duration k) (span_below J Ω k)
  unfolding span_below
  span_more k = rw add-one

  abbrev term : ℕ → ℕ
  term k = cond (Ω k) (J.duration k) 0

  -- what a part of the tasks lasts
  pub span_sum : (k : ℕ) → (span_below J Ω k).p ≡ total (λ j. cond (Ω j) (J.duration j) 0) k
  unfolding span_below
  span_sum zero = sym (total_none term)
  span_sum (suc k) = omega (arith, span_sum k, (with_fields (Ω k) (J.earliest k) (completion J k) (J.duration k) (span_below J Ω k)).2, total_suc term k)

  pub span_p : (span_of J Ω).p ≡ processing J Ω
  span_p = span_sum J.count ∙ sym (processing_is J Ω)

  pub span_est : NonEmpty J Ω → ((k : ℕ) → k < J.count → J.earliest k ≤ U32MAX) → Est J Ω (span_of J Ω).est
  unfolding span_below
  span_est ne = running_least J Ω J.earliest (λ k. (span_below J Ω k).est) ne (λ k. (with_fields (Ω k) (J.earliest k) (completion J k) (J.duration k) (span_below J Ω k)).0)

  pub span_lct : NonEmpty J Ω → Lct J Ω (span_of J Ω).lct
  unfolding span_below
  span_lct ne = running_largest J Ω (completion J) (λ k. (span_below J Ω k).lct) ne (λ k. (with_fields (Ω k) (J.earliest k) (completion J k) (J.duration k) (span_below J Ω k)).1)
      (λ k q. omega arith)

  -- the span of a set that has tasks fits, and of one that overloads est + p is past lct
  module _ (fits : (k : ℕ) → k < J.count → J.earliest k ≤ U32MAX) where
    pub est_is : (v : ℕ) → Est J Ω v → (span_of J Ω).est ≡ v
    est_is v e = one_least (span_est (e.holds.0, e.holds.1) fits) e

    pub lct_is : (v : ℕ) → Lct J Ω v → (span_of J Ω).lct ≡ v
    lct_is v e = one_largest (span_lct (e.holds.0, e.holds.1)) e

    pub span_over : Overloads J Ω → (span_of J Ω).lct < (span_of J Ω).est + (span_of J Ω).p
    span_over o = omega (arith, o.over, est_is o.start o.est, lct_is o.end o.lct, span_p)
