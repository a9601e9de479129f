-- The trace of an accepted run is right, and every reason of it passes the check.
use mathlib.Core.Path.{◌≡◌, sym, subst}
use mathlib.Core.List.{List, [], ◌∷◌}
use mathlib.Core.Option.{Option, some, none}
use Prim.Native.Nat.{ℕ, ◌+◌, ◌-◌, ◌*◌, ◌≤◌, ◌<◌}
use native.Mathlib.Omega.{arith}
use lib.IntN.{ℤ, pos, negsuc, ◌+ℤ◌}
use lib.ListN.{length, get_or, take}
use lib.Signed.{◌≤ℤ◌, ◌<ℤ◌, ≤ℤ_refl}
use Rattle.integers.specs.Limits.{TASKS, START, DURATIONS, VALUE}
use Rattle.integers.specs.Moments.{Above, zero_at}
use Rattle.integers.specs.Tests.{refusal}
use Rattle.integers.proofs.Ints.{ints, up, dn, sumℤ, sub_law}
use Rattle.integers.proofs.MomentSums.{plus_above}
use Rattle.scheduling.specs.Scheduling.{whole, natural, Tasks, tasks_of, Atom, Meets, Every, HoldsAtEntry, given, negation, PassesFormula}
use Rattle.scheduling.specs.Moments.{moments}
use Rattle.scheduling.specs.Words.{atom_words}
use Rattle.scheduling.proofs.Every.{every_append, every_map}
use Rattle.runs.specs.Traces.{Post, overload}
use Rattle.runs.specs.Demand.{consequent_of, post, PostRight, Right}
use Rattle.runs.proofs.Demand as demand
use Rattle.runs.proofs.AtomShapes.{Shaped, post_shaped, overload_shaped}
use Rattle.integers.specs.WholeNumbers.{Within}
use Rattle.records.specs.declared.record.DisjunctivePropagator.{DisjunctivePropagator}
use Rattle.records.specs.Records.{creation_tests, tasks_in}
use Rattle.records.specs.Refusals.{AcceptedRun}
use Rattle.records.proofs.Creation.{natural_count, natural_duration, natural_accepted}
use Rattle.checker.specs.declared.checker.Verdict.TheVariants.{Passed}
use Rattle.checker.specs.Checks.{check_of, tasks_with, consequent_words}
use Rattle.checker.proofs.Reasons.{Bound, BoundIfAny, reason_check, passes_alike, meets_admits}
use Rattle.propagator.specs.Ran.{trace_of}
use Rattle.propagator.proofs.AcceptedInput.{narrow}
use Rattle.promises.specs.Promise.{check_durations}

-- an atom near the starts of at most TASKS tasks is within the limits of a check
shaped_bound : (N : Tasks natural) → N.count ≤ TASKS → (a : Atom) → Shaped zero_at N (zero_at - START) (zero_at + START) DURATIONS a → Bound a
unfolding up dn
shaped_bound N few a s = record {
  known = omega (arith, s.task);
  kind = s.kind;
  value = subst (Within VALUE) (sym s.value) (record { low = omega (ints, sub_law s.at zero_at, s.from); high = omega (ints, sub_law s.at zero_at, s.to) });
}

-- a start below a bound meets what a check adds for it
below_bound : (u b : ℤ) → u <ℤ b → u ≤ℤ (b +ℤ negsuc 0)
unfolding up dn
below_bound u b h = omega (ints, sumℤ b (negsuc 0))

module _ (before : DisjunctivePropagator) (es ls : List ℤ) (posts atoms : ℕ) (a : AcceptedRun before es ls posts atoms) where
  abbrev l : List ℕ
  l = take before.count before.durations

  abbrev J : Tasks whole
  J = tasks_in before es ls

  accepted : demand.AcceptedTasks START l es ls
  accepted = narrow before es ls posts atoms a

  -- The trace is right.
  pub right : Right J (trace_of before es ls)
  right = demand.demand_3 START (omega arith) l es ls accepted

  -- their moments; none ends before −START, nor starts after START
  abbrev N : Tasks natural
  N = moments zero_at (tasks_of l es ls)

  ending : (k : ℕ) → k < length l → Above START (get_or es k (pos 0) +ℤ pos (get_or l k 0))
  ending k q = plus_above START (get_or es k (pos 0)) (get_or l k 0) (accepted.from k q)

  lawful : refusal (creation_tests (check_durations before)) ≡ 0
  lawful = natural_accepted l accepted.some accepted.few accepted.lasts accepted.sum

  -- at the earliest starts a reason that holds at entry is met
  met : (reason : List Atom) → HoldsAtEntry J reason → Every (Meets J.earliest) reason
  met reason h = h J.earliest (λ k q. (≤ℤ_refl (J.earliest k), accepted.ranges k q))

  checked : (reason : List Atom) (c : Option Atom) → length reason ≤ 2 * length l → Every (Shaped zero_at N (zero_at - START) (zero_at + START) DURATIONS) reason → BoundIfAny c
      → Every (Meets J.earliest) (given reason c) → PassesFormula J reason c → check_of (check_durations before) (atom_words reason) (consequent_words c) ≡ Passed
  checked reason c few s b m p =
      reason_check (check_durations before) reason c lawful (omega (arith, few, accepted.few)) (every_map (shaped_bound N accepted.few) reason s) b
      (λ x q. (J.earliest x, meets_admits J.earliest (given reason c) m x))
      (passes_alike J (tasks_with (check_durations before)) (sym (natural_count l)) (λ k. sym (natural_duration l k)) reason c p)

  -- A post's reason passes with the post as its consequent,
  pub post_passes : (j : ℕ) → j < length (trace_of before es ls).posts
      → check_of (check_durations before) (atom_words (post (trace_of before es ls) j).reason) (atom_words (consequent_of (post (trace_of before es ls) j) ∷ [])) ≡ Passed
  post_passes j q =
      let p : Post = post (trace_of before es ls) j in
      let r : PostRight J p = right.posts j q in
      let s = post_shaped START START (omega arith) (omega arith) l es ls accepted ending accepted.to j q in
      checked p.reason (some (consequent_of p)) s.few s.because (shaped_bound N accepted.few (consequent_of p) s.says)
      (every_append (Meets J.earliest) p.reason (negation (consequent_of p) ∷ []) (met p.reason r.reason_holds) (below_bound (J.earliest p.task) p.bound r.raises, tt))
      r.reason_passes

  -- an overload's with none.
  pub overload_passes : (reason : List Atom) → (trace_of before es ls).end ≡ overload reason → check_of (check_durations before) (atom_words reason) [] ≡ Passed
  overload_passes reason e =
      let r = right.overloads reason e in
      let s = overload_shaped START START (omega arith) (omega arith) l es ls accepted ending accepted.to reason e in
      checked reason none s.few s.because tt (met reason r.reason_holds) r.reason_passes
