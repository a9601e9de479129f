-- An accepted mirrored pass keeps its promise, as a run does.
use mathlib.Core.Path.{◌≡◌, refl, sym, ap, subst, ◌∙◌}
use mathlib.Core.List.{List, [], ◌∷◌}
use mathlib.Core.Bool.{true}
use Prim.Native.Nat.{ℕ, ◌<◌}
use native.Mathlib.Omega.{arith}
use lib.IntN.{ℤ, pos}
use lib.ListN.{length, get_or}
use lib.Signed.{◌≤ℤ◌, ◌<ℤ◌}
use Rattle.integers.specs.Answers.{answered}
use Rattle.integers.proofs.Ints.{ints}
use Rattle.scheduling.specs.Scheduling.{whole, Tasks, Schedule, Least}
use Rattle.scheduling.specs.MirroredTime.{MirroredBound, MirroredDone}
use Rattle.scheduling.specs.Words.{atom_words}
use Rattle.runs.specs.Traces.{Trace, done}
use Rattle.runs.specs.Mirrored.{mirrored_consequent, MirroredPostRight, MirroredOverloadRight, MirroredRight}
use Rattle.checker.specs.MirroredChecks.{check_mirrored_of}
use Rattle.checker.specs.Verdicts.{numbers_of_verdict}
use Rattle.post_words.specs.Posts.{task_of, bound_of}
use Rattle.records.specs.declared.record.DisjunctivePropagator.{DisjunctivePropagator}
use Rattle.records.specs.Refusals.{AcceptedRun}
use Rattle.runs.specs.declared.outcome.Outcome.{Outcome}
use Rattle.runs.specs.Outcomes.{outcome_numbers, value_of}
use Rattle.runs.specs.EndNumbers.{trace_numbers}
use Rattle.runs.proofs.TraceNumbers.{not_refused, posts_made, kind_done, kind_emptied}
use Rattle.propagator.proofs.ReadTrace.{Handed}
use Rattle.mirrored.specs.RanMirrored.{mirrored_of}
use Rattle.ranges.specs.declared.range.Range.{Range}
use Rattle.ranges.specs.Bars.{all_bars_are_fit}
use Rattle.ranges.specs.Permitted.{LastPermitted}
use Rattle.ranges.specs.Ranges.{earliests, latests, any_range, with_latests}
use Rattle.ranges.proofs.StoredStarts.{earliests_with_latest, counts_with_latest, places_with_latest}
use Rattle.promises.specs.Promise.{tasks_lent, check_durations, OverloadPromise}
use Rattle.promises.specs.MirroredPromise.{MirroredReason, MirroredPostPromise, MirroredPromise}
use Rattle.promises.proofs.Answers as read
use Rattle.promises.proofs.MirroredReasonsPass as reasons
use Rattle.promises.proofs.Largest.{between_least, reached_least}
use Rattle.promises.proofs.StoredStarts.{proper, latest_stayed, moved_back}

module _ (before : DisjunctivePropagator) (ranges : List Range) (posts' atoms' : List ℤ) (answer : Outcome) {words words' : ℕ}
    (ok : AcceptedRun before (earliests ranges) (latests ranges) words words') (fit : all_bars_are_fit ranges ≡ true)
    (size : length (mirrored_of before (earliests ranges) (latests ranges)).starts ≡ length ranges) (is : outcome_numbers answer ≡ trace_numbers (mirrored_of before (earliests ranges) (latests ranges)))
    (hands_out : Handed (mirrored_of before (earliests ranges) (latests ranges)) posts' atoms') where
  abbrev t : Trace
  t = mirrored_of before (earliests ranges) (latests ranges)

  abbrev ranges' : List Range
  ranges' = with_latests ranges t.starts

  abbrev J : Tasks whole
  J = tasks_lent before ranges

  right : MirroredRight J t
  right = reasons.right before (earliests ranges) (latests ranges) words words' ok

  at : (j : ℕ) → j < value_of answer 0 → read.PostRead t answer is posts' atoms' hands_out j
  at = read.post_read t answer is posts' atoms' hands_out

  -- the posts
  every_post : (j : ℕ) → j < value_of answer 0 → MirroredPostPromise before ranges answer ranges' posts' atoms' j
  every_post j q =
      let p = at j q in
      let (r, passes) = p.said (λ x ws. MirroredPostRight J x × (numbers_of_verdict (check_mirrored_of (check_durations before) ws (atom_words (mirrored_consequent x ∷ []))) ≡ answered 0 []))
      (right.posts j p.below, ap numbers_of_verdict (reasons.post_passes before (earliests ranges) (latests ranges) words words' ok j p.below)) in
      record {
        read = p.read;
        names = p.names;
        small = r.small;
        lowers = r.lowers;
        rule = r.rule;
        holds = r.holds;
        holds_permitted = λ s h. r.holds s h.schedule;
        reason = record { holds = r.reason_holds; formula = r.reason_passes; passes = passes };
      }

  -- an overload
  overloaded : (outcome_numbers answer).kind ≡ 1 → OverloadPromise (MirroredReason before ranges answer ranges' posts' atoms') answer atoms'
  overloaded k =
      let (r, passes) = read.overload_said t answer is posts' atoms' hands_out k (λ x ws. MirroredOverloadRight J x × (numbers_of_verdict (check_mirrored_of (check_durations before) ws []) ≡ answered 0 []))
      (λ x e. (right.overloads x e, ap numbers_of_verdict (reasons.overload_passes before (earliests ranges) (latests ranges) words words' ok x e))) in
      record { inside = read.inside t answer is posts' atoms' hands_out k; reason = record { holds = r.reason_holds; formula = r.reason_passes; passes = passes } }

  -- a pass that is Done: the latest starts that it gives
  finished : t.end ≡ done → MirroredDone J (λ k. get_or t.starts k (pos 0)) (value_of answer 0) (task_of posts') (bound_of posts')
  finished e =
      let d = right.when_done e in
      record {
        no_overload = d.no_overload;
        no_passing = d.no_passing;
        starts = d.starts;
        small = λ j q. (every_post j q).small;
        lowers = λ j q. (every_post j q).lowers;
        at_smallest = λ j q. (at j q).said (λ x ws. Least whole (MirroredBound J x.task) x.bound) (d.at_smallest j (at j q).below);
        every = λ k q h. read.named t answer is posts' atoms' hands_out (d.every k q h);
        once = λ i j p q h. d.once i j (at i p).below (at j q).below (sym (at i p).task_is ∙ h ∙ (at j q).task_is);
      }

  -- and where they are moved to
  last : t.end ≡ done → (k : ℕ) → k < J.count → LastPermitted (get_or ranges k any_range) (get_or t.starts k (pos 0)) (get_or (latests ranges') k (pos 0))
  last e k q = let d = finished e in moved_back before ranges t.starts ok.counts size k q fit refl (between_least (d.starts k q) (d.no_passing k) (proper before ranges ok k q))

  -- a schedule starts no task after the smallest of its bounds, by the posts
  before_bounds : t.end ≡ done → (s : ℕ → ℤ) → Schedule J s → (k : ℕ) → k < J.count → s k ≤ℤ get_or t.starts k (pos 0)
  before_bounds e s h k q =
      let d = finished e in
      reached_least (d.starts k q) (h.to k q) (λ under. let (j, small, is_k) = d.every k q under in (
        bound_of posts' j,
        subst (λ (i : ℕ). s i ≤ℤ bound_of posts' j) is_k ((every_post j small).holds s h),
        λ b r. (d.at_smallest j small).bounds b (subst (λ (i : ℕ). MirroredBound J i b) (sym is_k) r),
      ))

  pub promised : MirroredPromise before ranges answer ranges' posts' atoms'
  promised =
      let d = kind_done answer t is in
      record {
        ends = not_refused answer t is;
        exactly = (λ k. right.exactly.0 (d.0 k), λ n. d.1 (right.exactly.1 n));
        when_done = λ k. record { smallest = λ i. get_or t.starts i (pos 0); done = finished (d.0 k); last = last (d.0 k) };
        otherwise = λ n. right.otherwise (λ e. n (d.1 e));
        otherwise_permitted = λ n s h. right.otherwise (λ e. n (d.1 e)) s h.schedule;
        none_lost = λ s h k q. read.done_or t answer is (λ e. (last e k q).bounds (s k) (h.permitted k q, before_bounds e s h.schedule k q)) (λ n. absurd (right.otherwise n s h.schedule));
        emptied = λ k. omega (arith, posts_made answer t is, right.some_post ((kind_emptied answer t is).0 k));
        below = read.failing t answer is posts' atoms' hands_out (λ i b. b <ℤ J.earliest i) right.below;
        stands = λ j q. (at j q).said (λ x ws. J.earliest x.task ≤ℤ x.bound → LastPermitted (get_or ranges x.task any_range) x.bound (get_or (latests ranges') x.task (pos 0)))
            (λ h. let p = right.posts j (at j q).below in moved_back before ranges t.starts ok.counts size _ p.small fit (right.stands j (at j q).below h) (h, omega (ints, p.lowers)));
        stays = λ k q none. latest_stayed before ranges t.starts ok.counts size k q (right.stays k q (read.unnamed t answer is posts' atoms' hands_out (λ i b. J.earliest i ≤ℤ b) none));
        every_post = every_post;
        overload = overloaded;
        same_earliest = earliests_with_latest ranges t.starts;
        same_counts = counts_with_latest ranges t.starts;
        same_places = places_with_latest ranges t.starts;
      }
