-- An accepted run keeps its promise: what is right of the trace is right of the answer and the words that a caller reads.
use mathlib.Core.Path.{◌≡◌, refl, sym, ap, subst, ◌∙◌}
use mathlib.Core.List.{List, [], ◌∷◌}
use mathlib.Core.Bool.{true}
use Prim.Native.Nat.{ℕ, ◌<◌}
use native.Mathlib.Omega.{arith}
use lib.IntN.{ℤ, pos}
use lib.ListN.{length, get_or}
use lib.Signed.{◌≤ℤ◌, ◌<ℤ◌}
use Rattle.integers.specs.Answers.{answered}
use Rattle.integers.proofs.Ints.{ints}
use Rattle.scheduling.specs.Scheduling.{whole, Tasks, EdgeFindingBound, Schedule, Done, Largest}
use Rattle.scheduling.specs.Words.{atom_words}
use Rattle.runs.specs.Traces.{Trace, done}
use Rattle.runs.specs.Demand.{consequent_of, PostRight, OverloadRight, Right}
use Rattle.checker.specs.Checks.{check_of}
use Rattle.checker.specs.Verdicts.{numbers_of_verdict}
use Rattle.post_words.specs.Posts.{task_of, bound_of}
use Rattle.records.specs.declared.record.DisjunctivePropagator.{DisjunctivePropagator}
use Rattle.records.specs.Refusals.{AcceptedRun}
use Rattle.runs.specs.declared.outcome.Outcome.{Outcome}
use Rattle.runs.specs.Outcomes.{outcome_numbers, value_of}
use Rattle.runs.specs.EndNumbers.{trace_numbers}
use Rattle.runs.proofs.TraceNumbers.{not_refused, posts_made, kind_done, kind_emptied}
use Rattle.propagator.specs.Ran.{trace_of}
use Rattle.propagator.proofs.ReadTrace.{Handed}
use Rattle.ranges.specs.declared.range.Range.{Range}
use Rattle.ranges.specs.Bars.{all_bars_are_fit}
use Rattle.ranges.specs.Permitted.{FirstPermitted}
use Rattle.ranges.specs.Ranges.{earliests, latests, any_range, with_starts}
use Rattle.ranges.proofs.StoredStarts.{latests_with, counts_with, places_with}
use Rattle.promises.specs.Promise.{tasks_lent, check_durations, Reason, PostPromise, OverloadPromise, Promise}
use Rattle.promises.proofs.Answers as read
use Rattle.promises.proofs.ReasonsPass as reasons
use Rattle.promises.proofs.Largest.{between, reached}
use Rattle.promises.proofs.StoredStarts.{proper, stayed, moved_on}

module _ (before : DisjunctivePropagator) (ranges : List Range) (posts' atoms' : List ℤ) (answer : Outcome) {words words' : ℕ}
    (ok : AcceptedRun before (earliests ranges) (latests ranges) words words') (fit : all_bars_are_fit ranges ≡ true)
    (size : length (trace_of before (earliests ranges) (latests ranges)).starts ≡ length ranges) (is : outcome_numbers answer ≡ trace_numbers (trace_of before (earliests ranges) (latests ranges)))
    (hands_out : Handed (trace_of before (earliests ranges) (latests ranges)) posts' atoms') where
  abbrev t : Trace
  t = trace_of before (earliests ranges) (latests ranges)

  abbrev ranges' : List Range
  ranges' = with_starts ranges t.starts

  abbrev J : Tasks whole
  J = tasks_lent before ranges

  right : Right J t
  right = reasons.right before (earliests ranges) (latests ranges) words words' ok

  at : (j : ℕ) → j < value_of answer 0 → read.PostRead t answer is posts' atoms' hands_out j
  at = read.post_read t answer is posts' atoms' hands_out

  -- the posts
  every_post : (j : ℕ) → j < value_of answer 0 → PostPromise before ranges answer ranges' posts' atoms' j
  every_post j q =
      let p = at j q in
      let (r, passes) = p.said (λ x ws. PostRight J x × (numbers_of_verdict (check_of (check_durations before) ws (atom_words (consequent_of x ∷ []))) ≡ answered 0 []))
      (right.posts j p.below, ap numbers_of_verdict (reasons.post_passes before (earliests ranges) (latests ranges) words words' ok j p.below)) in
      record {
        read = p.read;
        names = p.names;
        small = r.small;
        raises = r.raises;
        edge = r.edge;
        holds = r.holds;
        holds_permitted = λ s h. r.holds s h.schedule;
        reason = record { holds = r.reason_holds; formula = r.reason_passes; passes = passes };
      }

  -- an overload
  overloaded : (outcome_numbers answer).kind ≡ 1 → OverloadPromise (Reason before ranges answer ranges' posts' atoms') answer atoms'
  overloaded k =
      let (r, passes) = read.overload_said t answer is posts' atoms' hands_out k (λ x ws. OverloadRight J x × (numbers_of_verdict (check_of (check_durations before) ws []) ≡ answered 0 []))
      (λ x e. (right.overloads x e, ap numbers_of_verdict (reasons.overload_passes before (earliests ranges) (latests ranges) words words' ok x e))) in
      record { inside = read.inside t answer is posts' atoms' hands_out k; reason = record { holds = r.reason_holds; formula = r.reason_passes; passes = passes } }

  -- a run that is Done: the starts that it gives
  finished : t.end ≡ done → Done J (λ k. get_or t.starts k (pos 0)) (value_of answer 0) (task_of posts') (bound_of posts')
  finished e =
      let d = right.when_done e in
      record {
        no_overload = d.no_overload;
        no_passing = d.no_passing;
        starts = d.starts;
        small = λ j q. (every_post j q).small;
        raises = λ j q. (every_post j q).raises;
        at_largest = λ j q. (at j q).said (λ x ws. Largest whole (EdgeFindingBound J x.task) x.bound) (d.at_largest j (at j q).below);
        every = λ k q h. read.named t answer is posts' atoms' hands_out (d.every k q h);
        once = λ i j p q h. d.once i j (at i p).below (at j q).below (sym (at i p).task_is ∙ h ∙ (at j q).task_is);
      }

  -- and where they are moved to
  first : t.end ≡ done → (k : ℕ) → k < J.count → FirstPermitted (get_or ranges k any_range) (get_or t.starts k (pos 0)) (get_or (earliests ranges') k (pos 0))
  first e k q = let d = finished e in moved_on before ranges t.starts ok.counts size k q fit refl (between (d.starts k q) (d.no_passing k) (proper before ranges ok k q))

  -- a schedule starts no task before the largest of its bounds, by the posts
  after_bounds : t.end ≡ done → (s : ℕ → ℤ) → Schedule J s → (k : ℕ) → k < J.count → get_or t.starts k (pos 0) ≤ℤ s k
  after_bounds e s h k q =
      let d = finished e in
      reached (d.starts k q) (h.from k q) (λ above. let (j, small, is_k) = d.every k q above in (
        bound_of posts' j,
        subst (λ (i : ℕ). bound_of posts' j ≤ℤ s i) is_k ((every_post j small).holds s h),
        λ b r. (d.at_largest j small).bounds b (subst (λ (i : ℕ). EdgeFindingBound J i b) (sym is_k) r),
      ))

  pub promised : Promise before ranges answer ranges' posts' atoms'
  promised =
      let d = kind_done answer t is in
      record {
        ends = not_refused answer t is;
        exactly = (λ k. right.exactly.0 (d.0 k), λ n. d.1 (right.exactly.1 n));
        when_done = λ k. record { largest = λ i. get_or t.starts i (pos 0); done = finished (d.0 k); first = first (d.0 k) };
        otherwise = λ n. right.otherwise (λ e. n (d.1 e));
        otherwise_permitted = λ n s h. right.otherwise (λ e. n (d.1 e)) s h.schedule;
        none_lost = λ s h k q. read.done_or t answer is (λ e. (first e k q).bounds (s k) (h.permitted k q, after_bounds e s h.schedule k q)) (λ n. absurd (right.otherwise n s h.schedule));
        emptied = λ k. omega (arith, posts_made answer t is, right.some_post ((kind_emptied answer t is).0 k));
        above = read.failing t answer is posts' atoms' hands_out (λ i b. J.latest i <ℤ b) right.above;
        stands = λ j q. (at j q).said (λ x ws. x.bound ≤ℤ J.latest x.task → FirstPermitted (get_or ranges x.task any_range) x.bound (get_or (earliests ranges') x.task (pos 0)))
            (λ h. let p = right.posts j (at j q).below in moved_on before ranges t.starts ok.counts size _ p.small fit (right.stands j (at j q).below h) (omega (ints, p.raises), h));
        stays = λ k q none. stayed before ranges t.starts ok.counts size k q (right.stays k q (read.unnamed t answer is posts' atoms' hands_out (λ i b. b ≤ℤ J.latest i) none));
        every_post = every_post;
        overload = overloaded;
        same_latest = latests_with ranges t.starts;
        same_counts = counts_with ranges t.starts;
        same_places = places_with ranges t.starts;
      }
