-- The trace of an accepted mirrored pass is right, and every reason of it passes the mirrored check.
use mathlib.Core.Path.{◌≡◌, sym, subst, fun_ext, ◌∙◌}
use mathlib.Core.List.{List, [], ◌∷◌}
use mathlib.Core.Option.{Option, some, none}
use Prim.Native.Nat.{ℕ, zero, suc, ◌*◌, ◌≤◌, ◌<◌}
use native.Mathlib.Omega.{arith}
use lib.IntN.{ℤ, pos, ◌+ℤ◌}
use lib.ListN.{length, take, length-map}
use lib.Signed.{◌≤ℤ◌, ◌<ℤ◌, ≤ℤ_refl}
use Rattle.integers.specs.Limits.{TASKS, START, MIRRORED}
use Rattle.integers.specs.Tests.{refusal}
use Rattle.integers.proofs.Ints.{ints, up, dn, sumℤ}
use Rattle.integers.proofs.MomentSums.{at_moment}
use Rattle.scheduling.specs.Scheduling.{whole, Tasks, Atom, Meets, Every, HoldsAtEntry, given, negation, PassesFormula}
use Rattle.scheduling.specs.MirroredTime.{mirror, mirror_kind, mirror_atom, mirror_atoms}
use Rattle.scheduling.specs.Words.{atom_words}
use Rattle.scheduling.proofs.Every.{every_append}
use Rattle.runs.specs.Traces.{Post, Trace, overload}
use Rattle.runs.specs.Demand.{consequent_of, post}
use Rattle.runs.specs.Mirrored.{duration_in, mirror_post, mirrored_run, mirrored_consequent, MirroredPostRight, MirroredRight}
use Rattle.runs.specs.MirroredWords.{Near}
use Rattle.runs.proofs.Demand as demand
use Rattle.runs.proofs.Mirrored as laws
use Rattle.records.specs.declared.record.DisjunctivePropagator.{DisjunctivePropagator}
use Rattle.records.specs.Records.{duration_at, creation_tests, tasks_in}
use Rattle.records.specs.Refusals.{AcceptedRun}
use Rattle.records.proofs.Creation.{natural_count, natural_duration, natural_accepted}
use Rattle.checker.specs.declared.checker.Verdict.TheVariants.{Passed}
use Rattle.checker.specs.Checks.{consequent_words, tasks_with}
use Rattle.checker.specs.MirroredChecks.{mirror_if_any, check_mirrored_of}
use Rattle.checker.proofs.Reasons.{Bound, BoundIfAny, mirrored_reason_check, passes_alike, meets_admits}
use Rattle.propagator.proofs.AcceptedInput.{count, narrow}
use Rattle.mirrored.specs.RanMirrored.{mirrored_of}
use Rattle.promises.specs.Promise.{check_durations}

-- an atom of the run in mirrored time, mirrored back, is within the limits of a check
mirrored_bound : (ds : List ℕ) → length ds ≤ TASKS → (a : Atom) → Near ds a → Bound (mirror_atom (duration_in ds) a)
unfolding up dn
mirrored_bound ds few a r = record {
  known = omega (arith, r.task);
  kind = kind a.kind r.kind;
  value = let t = laws.near_mirrored ds a r in let z = (mirror_atom (duration_in ds) a).value in record { low = omega (ints, at_moment MIRRORED z t.0); high = omega (ints, t.1) };
}
  where
    kind : (k : ℕ) → k < 2 → mirror_kind k < 2
    kind zero h = omega arith
    kind (suc zero) h = omega arith
    kind (suc (suc k)) h = absurd (omega arith)

all_bound : (ds : List ℕ) → length ds ≤ TASKS → (xs : List Atom) → Every (Near ds) xs → Every Bound (mirror_atoms (duration_in ds) xs)
all_bound ds few [] h = tt
all_bound ds few (a ∷ rest) h = (mirrored_bound ds few a h.0, all_bound ds few rest h.1)

-- a start above a bound meets what a check adds for it
above_bound : (u b : ℤ) → b <ℤ u → (b +ℤ pos 1) ≤ℤ u
unfolding up dn
above_bound u b h = omega (ints, sumℤ b (pos 1))

module _ (before : DisjunctivePropagator) (es ls : List ℤ) (posts atoms : ℕ) (a : AcceptedRun before es ls posts atoms) where
  abbrev ds : List ℕ
  ds = take before.count before.durations

  abbrev J : Tasks whole
  J = tasks_in before es ls

  abbrev run : Trace
  run = mirrored_run ds es ls

  accepted : demand.AcceptedTasks START ds es ls
  accepted = narrow before es ls posts atoms a

  es_long : length es ≡ length ds
  es_long = a.counts.earliest ∙ sym (count before a.lawful)

  ls_long : length ls ≡ length ds
  ls_long = a.counts.latest ∙ sym (count before a.lawful)

  -- The trace is right.
  pub right : MirroredRight J (mirrored_of before es ls)
  right = laws.mirrored_right ds es ls accepted es_long ls_long

  lawful : refusal (creation_tests (check_durations before)) ≡ 0
  lawful = natural_accepted ds accepted.some accepted.few accepted.lasts accepted.sum

  -- at the latest starts a reason that holds at entry is met
  met : (reason : List Atom) → HoldsAtEntry J reason → Every (Meets J.latest) reason
  met reason h = h J.latest (λ k q. (accepted.ranges k q, ≤ℤ_refl (J.latest k)))

  -- the check's durations are the record's
  same : J.duration ≡ duration_at (check_durations before)
  same = fun_ext (λ k. sym (natural_duration ds k))

  -- a reason of atoms r of the run, mirrored back
  checked : (r : List Atom) (c : Option Atom) → Every (Near ds) r → length r ≤ 2 * length ds → BoundIfAny c → let reason = mirror_atoms (duration_in ds) r in
      Every (Meets J.latest) (given reason c) → PassesFormula (mirror J) (mirror_atoms J.duration reason) (mirror_if_any J.duration c)
      → check_mirrored_of (check_durations before) (atom_words reason) (consequent_words c) ≡ Passed
  checked r c near few b m p =
      let reason = mirror_atoms (duration_in ds) r in
      mirrored_reason_check (check_durations before) reason c lawful (omega (arith, length-map r (mirror_atom (duration_in ds)), few, accepted.few)) (all_bound ds accepted.few r near) b
      (λ x q. (J.latest x, meets_admits J.latest (given reason c) m x))
      (subst (λ (d : ℕ → ℕ). PassesFormula (tasks_with (check_durations before)) (mirror_atoms d reason) (mirror_if_any d c)) same
      (passes_alike (mirror J) (tasks_with (check_durations before)) (sym (natural_count ds)) (λ k. sym (natural_duration ds k)) (mirror_atoms J.duration reason) (mirror_if_any J.duration c) p))

  -- A post's reason passes with the post as its consequent,
  pub post_passes : (j : ℕ) → j < length (mirrored_of before es ls).posts
      → check_mirrored_of (check_durations before) (atom_words (post (mirrored_of before es ls) j).reason) (atom_words (mirrored_consequent (post (mirrored_of before es ls) j) ∷ [])) ≡ Passed
  post_passes j q =
      let small : j < length run.posts = omega (arith, laws.posts_same ds run) in
      let p : Post = mirror_post ds (post run j) in
      let r : MirroredPostRight J p = subst (MirroredPostRight J) (laws.post_at ds run j small) (right.posts j q) in
      let s = laws.reason_near ds es ls accepted es_long ls_long j small in
      subst (λ (p : Post). check_mirrored_of (check_durations before) (atom_words p.reason) (atom_words (mirrored_consequent p ∷ [])) ≡ Passed) (sym (laws.post_at ds run j small))
      (checked (post run j).reason (some (mirrored_consequent p)) s.0 s.1
      (mirrored_bound ds accepted.few (consequent_of (post run j)) (laws.post_near ds es ls accepted es_long ls_long j small))
      (every_append (Meets J.latest) p.reason (negation (mirrored_consequent p) ∷ []) (met p.reason r.reason_holds) (above_bound (J.latest p.task) p.bound r.lowers, tt))
      r.reason_passes)

  -- an overload's with none.
  pub overload_passes : (reason : List Atom) → (mirrored_of before es ls).end ≡ overload reason → check_mirrored_of (check_durations before) (atom_words reason) [] ≡ Passed
  overload_passes reason e =
      let r = right.overloads reason e in
      let (x, z, y) = laws.end_overload ds run.end reason e in
      let s = laws.overload_near ds es ls accepted es_long ls_long x z in
      let there = subst (λ (l : List Atom). HoldsAtEntry J l) (sym y) r.reason_holds in
      subst (λ (l : List Atom). check_mirrored_of (check_durations before) (atom_words l) [] ≡ Passed) y
      (checked x none s.0 s.1 tt (met (mirror_atoms (duration_in ds) x) there) (subst (λ (l : List Atom). PassesFormula (mirror J) (mirror_atoms J.duration l) none) (sym y) r.reason_passes))
