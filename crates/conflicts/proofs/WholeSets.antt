-- From moments to whole numbers: a set's flags with its est and its p, and by how much est + p is past lct.
use mathlib.Core.Path.{◌≡◌, sym, ◌∙◌}
use Prim.Native.Nat.{ℕ, ◌+◌, ◌≤◌, ◌<◌}
use native.Mathlib.Omega.{arith}
use lib.IntN.{ℤ, pos, ◌+ℤ◌}
use Rattle.integers.specs.Limits.{TASKS, U32MAX}
use Rattle.integers.specs.Moments.{moment, Above, instant, zero_at}
use Rattle.integers.proofs.MomentSums.{same, plus, plus_above, instant_above, moment_instant}
use Rattle.scheduling.specs.Scheduling.{whole, natural, Tasks, Proper, TaskSet, NonEmpty, Lct, Overloads}
use Rattle.scheduling.specs.Moments.{moments}
use Rattle.scheduling.proofs.Agreement.{set_processing, set_est, set_lct, set_overloads}
use Rattle.scheduling.proofs.Clocks.{est_instant, lct_instant, overload←}
use Rattle.scheduling.proofs.Processing.{processing_moments}
use Rattle.conflicts.specs.declared.spans.Span.{Span}
use Rattle.conflicts.specs.Answers.{flagged, flags_of}
use Rattle.conflicts.specs.Spans.{past_by, span_of, work_of}
use Rattle.conflicts.specs.ConflictOf.{overload_by}
use Rattle.conflicts.specs.Conflicts.{WorkRight, OverloadRight}
use Rattle.conflicts.proofs.Flags.{flag_at, flag_small}
use Rattle.conflicts.proofs.SpanValues.{span_p, span_est, span_lct, span_over}

-- est + p of a span is the whole number at that moment
pub sum_at : (s : Span) (z : ℤ) → Above zero_at z → s.est + s.p ≡ moment zero_at z → instant zero_at s.est +ℤ pos s.p ≡ z
sum_at s z a q =
    let e : Above zero_at (instant zero_at s.est) = instant_above zero_at s.est in
    same zero_at _ z (plus_above zero_at (instant zero_at s.est) s.p e) a (omega (arith, q, plus zero_at (instant zero_at s.est) s.p e, moment_instant zero_at s.est))

-- and so much past a moment that is before it
pub sum_past : (s : Span) (l : ℕ) → l < s.est + s.p → instant zero_at s.est +ℤ pos s.p ≡ instant zero_at l +ℤ pos (past_by s l)
sum_past s l q = sum_at s (instant zero_at l +ℤ pos (past_by s l)) (plus_above zero_at (instant zero_at l) (past_by s l) (instant_above zero_at l))
    (omega (arith, plus zero_at (instant zero_at l) (past_by s l) (instant_above zero_at l), moment_instant zero_at l))

module _ (Z : Tasks whole) (ok : Proper Z) (low : (k : ℕ) → k < Z.count → Above zero_at (Z.earliest k)) (few : Z.count ≤ TASKS)
    (fits : (k : ℕ) → k < Z.count → moment zero_at (Z.earliest k) ≤ U32MAX) where
  abbrev J : Tasks natural
  J = moments zero_at Z

  -- the set that has the flags of Ω
  abbrev F : TaskSet → TaskSet
  F Ω = flagged (flags_of Z.count Ω)

  pub same_flags : (Ω : TaskSet) (k : ℕ) → k < Z.count → F Ω k ≡ Ω k
  same_flags Ω k q = flag_at Z.count few Ω k q

  pub work_right : (Ω : TaskSet) → NonEmpty J Ω → WorkRight Z (work_of J Ω)
  work_right Ω ne = record {
    small = flag_small Z.count few Ω;
    est = set_est Z Ω (F Ω) (λ k q. sym (same_flags Ω k q)) (instant zero_at (span_of J Ω).est) (est_instant zero_at Z ok low Ω (span_of J Ω).est (span_est J Ω ne fits));
    p = set_processing Z (F Ω) Ω (same_flags Ω) ∙ processing_moments zero_at Z Ω ∙ sym (span_p J Ω);
  }

  -- the lct of a set that agrees with Ω
  pub lct_right : (Ω Ω' : TaskSet) → ((k : ℕ) → k < Z.count → Ω k ≡ Ω' k) → NonEmpty J Ω → Lct Z Ω' (instant zero_at (span_of J Ω).lct)
  lct_right Ω Ω' agree ne = set_lct Z Ω Ω' agree (instant zero_at (span_of J Ω).lct) (lct_instant zero_at Z ok low Ω (span_of J Ω).lct (span_lct J Ω ne))

  pub overload_right : (Ω : TaskSet) → Overloads J Ω → OverloadRight Z (overload_by J Ω)
  overload_right Ω o =
      let ne : NonEmpty J Ω = (o.est.holds.0, o.est.holds.1) in
      let past = span_over J Ω fits o in
      record {
        set = work_right Ω ne;
        lct = lct_right Ω (F Ω) (λ k q. sym (same_flags Ω k q)) ne;
        exceeds = record { sum = sum_past (span_of J Ω) (span_of J Ω).lct past; some = omega (arith, past) };
        overloads = set_overloads Z Ω (F Ω) (λ k q. sym (same_flags Ω k q)) (overload← zero_at Z ok low Ω o);
      }
