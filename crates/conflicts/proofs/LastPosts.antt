-- The run on an accepted input where no set overloads: what its last post's sets are, and how the words give that post back.
use mathlib.Core.Path.{◌≡◌, refl, sym, ap, subst, ◌∙◌}
use mathlib.Core.List.{List}
use Prim.Native.Nat.{ℕ, ◌+◌, ◌*◌, ◌-◌, ◌≤◌, ◌<◌}
use native.Mathlib.Nat.{mul-le-mul}
use native.Mathlib.Omega.{arith}
use lib.IntN.{ℤ, pos}
use lib.ListN.{length, get_or, take}
use Rattle.integers.specs.Limits.{TASKS, U32MAX, MIRRORED}
use Rattle.integers.specs.Moments.{zero_at}
use Rattle.scheduling.specs.Scheduling.{natural, Tasks, TaskSet, NonEmpty, Overloads, Atom}
use Rattle.scheduling.proofs.Clocks.{overload←}
use Rattle.scheduling.proofs.Sets.{less_in}
use Rattle.runs.specs.declared.outcome.Outcome.{Outcome}
use Rattle.runs.specs.declared.outcome.Outcome.TheVariants.{Emptied}
use Rattle.runs.specs.Traces.{Post, End, done, overload, emptied, Trace}
use Rattle.runs.specs.Demand.{Right, post}
use Rattle.runs.specs.Outcomes.{outcome_numbers, value_of}
use Rattle.runs.specs.ReasonSets.{named}
use Rattle.runs.specs.Runs.{earliest_order}
use Rattle.runs.proofs.Demand.{demand_3}
use Rattle.runs.proofs.InnerLoop.{propagate_is}
use Rattle.runs.proofs.PostReaders.{four_inside}
use Rattle.runs.proofs.ReasonSets.{SetsRight, all_sets, overload_set}
use Rattle.runs.proofs.TraceNumbers.{posts_made, kind_emptied}
use Rattle.records.specs.declared.record.DisjunctivePropagator.{DisjunctivePropagator}
use Rattle.records.specs.Records.{tasks_in, moments_in}
use Rattle.records.specs.Refusals.{AcceptedInput}
use Rattle.records.proofs.AcceptedTasks.{count, proper_whole, above, proper}
use Rattle.propagator.specs.Ran.{Runnable, RunLeft, trace_of}
use Rattle.propagator.proofs.AcceptedInput.{runnable, accepted}
use Rattle.propagator.proofs.ReadTrace.{Read, handed}
use Rattle.conflicts.specs.declared.answer.Found.TheVariants.{NothingFound}
use Rattle.conflicts.specs.declared.answer.Conflict.{Conflict}
use Rattle.overload_test.specs.declared.task_moments.TaskMoments.{TaskMoments}
use Rattle.conflicts.specs.Answers.{without_conflict}
use Rattle.conflicts.specs.Spans.{span_of}
use Rattle.conflicts.specs.ConflictOf.{others, late_in, last_post, late_by}
use Rattle.overload_test.specs.ReadArrays.{HoldsTasks}
use Rattle.conflicts.specs.HeldTasks.{Lates, LastPosted}
use Rattle.conflicts.proofs.HeldSets.{starts_fit}
use Rattle.conflicts.proofs.SpanValues.{span_p, span_est, span_lct}

-- The sets of a post -----------------------------------------------------------------------------------------------------------

module _ (J : Tasks natural) (est_order : List ℕ) (fits : (k : ℕ) → k < J.count → J.earliest k ≤ U32MAX) (p : Post) (s : SetsRight zero_at J est_order p) where
  abbrev S : TaskSet
  S = named p.reason

  -- the others are some
  pub others_some : NonEmpty J (others (named p.reason) p.task)
  others_some = let k = get_or est_order s.place 0 in (k, record { small = s.small k (less_in S p.task k s.member).0; mem = s.member })

  -- est + p of the set is past their lct
  pub past_others : (span_of J (others (named p.reason) p.task)).lct < (span_of J (named p.reason)).est + (span_of J (named p.reason)).p
  past_others =
      let (k, km, e) = (span_lct J (others S p.task) others_some).holds in
      omega (arith, e, s.ends k km, s.over (span_of J S).est (span_est J S (p.task, s.task) fits), span_p J S)

  pub lates : Lates J (named p.reason) p.task
  lates = record { task = s.task; over = omega (arith, past_others) }

-- The run ----------------------------------------------------------------------------------------------------------------------

module _ (r : DisjunctivePropagator) (es ls : List ℤ) (a : AcceptedInput r es ls) (long : length r.durations ≡ TASKS) where
  abbrev t : Trace
  t = trace_of r es ls

  abbrev J : Tasks natural
  J = moments_in r es ls

  pub can_run : Runnable r es ls 192 13824
  can_run = runnable r es ls 192 13824 (record {
    lawful = a.lawful;
    counts = a.counts;
    starts = a.starts;
    ranges = a.ranges;
    words = record { posts = omega (arith, a.lawful.few); atoms = omega (arith, mul-le-mul {n₁ = r.count} {m₁ = r.count} {n₂ = TASKS} {m₂ = TASKS} a.lawful.few a.lawful.few) };
  })

  pub right : Right (tasks_in r es ls) t
  right = demand_3 MIRRORED (omega arith) (take r.count r.durations) es ls (accepted r es ls 192 13824 can_run)

  pub sets : (j : ℕ) → j < length t.posts → SetsRight zero_at J (earliest_order J) (post t j)
  sets j = subst (λ (t : Trace). j < length t.posts → SetsRight zero_at J (earliest_order J) (post t j)) (sym (propagate_is (take r.count r.durations) es ls))
      (all_sets zero_at J (proper r es ls a long) (omega (arith, count r es ls a long, a.lawful.some)) j)

  -- it does not end by an overload where no set overloads
  pub no_run_overload : ((Ω : TaskSet) → Overloads (tasks_in r es ls) Ω → ⊥) → (reason : List Atom) → t.end ≡ overload reason → ⊥
  no_run_overload none reason e =
      let run_ends = subst (λ (t : Trace). t.end ≡ overload reason) (propagate_is (take r.count r.durations) es ls) e in
      let (Ω, o) = overload_set zero_at J (proper r es ls a long) (omega (arith, count r es ls a long, a.lawful.some)) reason run_ends in
      none Ω (overload← zero_at (tasks_in r es ls) (proper_whole r es ls a long) (above r es ls a long) Ω o)

  pub some_post : t.end ≡ emptied → length t.posts - 1 < length t.posts
  some_post e = omega (arith, right.some_post e)

  -- what the run leaves, on a copy of the starts
  module _ {copy posts atoms es' posts' atoms' : List ℤ} {o : Outcome} {changed : ℕ} (same : copy ≡ es) (on_copy : RunLeft r copy ls posts atoms o changed es' posts' atoms') where
    left : RunLeft r es ls posts atoms o changed es' posts' atoms'
    left = subst (λ (xs : List ℤ). RunLeft r xs ls posts atoms o changed es' posts' atoms') same on_copy

    -- nothing is late where it is not emptied
    pub nothing_late : ((outcome_numbers o).kind ≡ 2 → ⊥) → late_by r es ls t.end ≡ without_conflict NothingFound
    nothing_late other = by t.end (λ z. other ((kind_emptied o t left.answer).1 z))
      where
        by : (e : End) → (e ≡ emptied → ⊥) → late_by r es ls e ≡ without_conflict NothingFound
        by done h = refl
        by (overload reason) h = refl
        by emptied h = absurd (h refl)

    -- and else its last post is
    module _ {m : TaskMoments} (h : HoldsTasks (moments_in r es ls) m) (k : ℕ) (is : o ≡ Emptied k) where
      pub ended : t.end ≡ emptied
      ended = (kind_emptied o t left.answer).0 (ap (λ (x : Outcome). (outcome_numbers x).kind) is)

      pub made : k ≡ length t.posts
      made = ap (λ (x : Outcome). value_of x 0) (sym is) ∙ posts_made o t left.answer

      pub last : Read (last_post r es ls) posts' atoms' k (k - 1)
      last = subst (λ (n : ℕ). Read (post t (length t.posts - 1)) posts' atoms' n (n - 1)) (sym made)
          ((handed t posts atoms left.post_words_are left.atom_words_are).posts (length t.posts - 1) (some_post ended))

      pub shown : SetsRight zero_at J (earliest_order J) (last_post r es ls)
      shown = sets (length t.posts - 1) (some_post ended)

      pub last_room : 4 * k ≤ length posts'
      last_room = omega (arith, made, right.some_post ended, ap length left.post_words_are, four_inside posts t (length t.posts - 1) (some_post ended))

      abbrev pub last_posted : LastPosted m ls posts' atoms' k
      last_posted = record {
        J = moments_in r es ls;
        holds = h;
        last = last_post r es ls;
        some = omega (arith, made, right.some_post ended);
        room = last_room;
        task = last.task;
        bound = last.bound;
        reason = last.reason;
        small = shown.small;
        late = lates J (earliest_order J) (starts_fit h) (last_post r es ls) shown;
        known = a.counts.latest ∙ sym (count r es ls a long) ∙ h.held.count;
      }

      pub is_late : {c : Conflict} → ((g : LastPosted m ls posts' atoms' k) → c ≡ late_in g.J g.last.task (get_or ls g.last.task (pos 0)) g.last.bound (named g.last.reason))
          → c ≡ late_by r es ls t.end
      is_late e = e last_posted ∙ ap (late_by r es ls) (sym ended)
