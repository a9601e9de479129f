-- The sets that a post's reason names show over whole numbers that its task is late.
use mathlib.Core.Path.{◌≡◌, refl, sym, ap, subst, ◌∙◌}
use mathlib.Core.Bool.{Bool, ◌&&◌, not}
use Prim.Native.Nat.{ℕ, ◌+◌, ◌≤◌, ◌<◌}
use native.Mathlib.Omega.{arith}
use lib.Dec.{eqb}
use lib.IntN.{pos, ◌+ℤ◌}
use lib.Signed.{◌<ℤ◌}
use Rattle.integers.specs.Limits.{TASKS, U32MAX}
use Rattle.integers.specs.Moments.{moment, Above, instant, zero_at}
use Rattle.integers.proofs.MomentSums.{same}
use Rattle.scheduling.specs.Scheduling.{whole, natural, Tasks, Proper, TaskSet, Ect, EdgeFindingBound}
use Rattle.scheduling.specs.Moments.{moments}
use Rattle.scheduling.proofs.Agreement.{set_ect}
use Rattle.scheduling.proofs.Clocks.{ect←, edge_above, Is}
use Rattle.runs.specs.Traces.{Post}
use Rattle.runs.specs.ReasonSets.{named}
use Rattle.runs.specs.Runs.{earliest_order}
use Rattle.runs.proofs.ReasonSets.{SetsRight}
use Rattle.conflicts.specs.Answers.{flagged, flags_of}
use Rattle.conflicts.specs.Suffixes.{suffix_up_to}
use Rattle.conflicts.specs.Spans.{span_of}
use Rattle.conflicts.specs.ConflictOf.{others, late_in}
use Rattle.conflicts.specs.Conflicts.{LateRight}
use Rattle.conflicts.proofs.LastPosts.{past_others, others_some}
use Rattle.conflicts.proofs.SpanValues.{span_p, est_is}
use Rattle.conflicts.proofs.SuffixSteps.{Suffix, suffix}
use Rattle.conflicts.proofs.WholeSets.{same_flags, sum_at, sum_past, work_right, lct_right}

module _ (Z : Tasks whole) (ok : Proper Z) (low : (k : ℕ) → k < Z.count → Above zero_at (Z.earliest k)) (few : Z.count ≤ TASKS)
    (fits : (k : ℕ) → k < Z.count → moment zero_at (Z.earliest k) ≤ U32MAX) (p : Post) (s : SetsRight zero_at (moments zero_at Z) (earliest_order (moments zero_at Z)) p)
    (edge : EdgeFindingBound Z p.task p.bound) (passes : Z.latest p.task <ℤ p.bound) where
  abbrev J : Tasks natural
  J = moments zero_at Z

  abbrev i : ℕ
  i = p.task

  abbrev S : TaskSet
  S = named p.reason

  abbrev ω : TaskSet
  ω = others S i

  abbrev b : ℕ
  b = moment zero_at p.bound

  -- those of the others that give the bound
  abbrev T : TaskSet
  T = suffix_up_to J ω b

  before : Suffix J ω b
  before = suffix J ω b s.place s.inside s.member s.reaches

  -- the flags of the others
  agree : (k : ℕ) → k < Z.count → ω k ≡ others (flagged (flags_of Z.count S)) i k
  agree k q = ap (λ (y : Bool). not (eqb k i) && y) (sym (same_flags Z ok low few fits S k q))

  bound_above : Above zero_at p.bound
  bound_above = edge_above zero_at Z ok low i p.bound edge

  past : (span_of J ω).lct < (span_of J S).est + (span_of J S).p
  past = past_others J (earliest_order J) fits p s

  reaches : instant zero_at (span_of J T).est +ℤ pos (span_of J T).p ≡ p.bound
  reaches = sum_at (span_of J T) p.bound bound_above (omega (arith, est_is J T fits (J.earliest before.first) before.est, span_p J T, before.sum))

  ect : Ect Z ω p.bound
  ect = let e : Is zero_at Z ok low (Ect Z ω) b = ect← zero_at Z ok low ω b s.ect in subst (Ect Z ω) (same zero_at e.at p.bound e.above bound_above e.is) e.holds

  pub late_right : LateRight Z (late_in J p.task (Z.latest p.task) p.bound (named p.reason)) p.task (Z.latest p.task) p.bound
  late_right = record {
    task = record { small = s.task.small; mem = same_flags Z ok low few fits S i s.task.small ∙ s.task.mem };
    latest = refl;
    passes = passes;
    set = work_right Z ok low few fits S (i, s.task);
    lct = lct_right Z ok low few fits ω (others (flagged (flags_of Z.count S)) i) agree (others_some J (earliest_order J) fits p s);
    exceeds = record { sum = sum_past (span_of J S) (span_of J ω).lct past; some = omega (arith, past) };
    before = work_right Z ok low few fits T (before.first, before.member);
    within = λ k h. sym (agree k h.small) ∙ before.within k (sym (same_flags Z ok low few fits T k h.small) ∙ h.mem);
    reaches = reaches;
    ect = set_ect Z ω (others (flagged (flags_of Z.count S)) i) agree p.bound ect;
    edge = edge;
  }
