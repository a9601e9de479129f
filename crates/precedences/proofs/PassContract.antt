-- What a pass leaves, refused, emptied or done, is what its contract says.
use mathlib.Core.Path.{◌≡◌, refl, sym, ap, subst, ◌∙◌}
use mathlib.Core.Bool.{Bool}
use mathlib.Core.List.{List}
use mathlib.Core.Logic.{◌⊎◌, inl, inr}
use Prim.Native.Nat.{ℕ, ◌<◌}
use native.Mathlib.Omega.{arith}
use native.Mathlib.Decide.{dec_lt}
use lib.IntN.{ℤ, pos}
use lib.Signed.{◌≤ℤ◌, clash_ℤ, <ℤ-≤ℤ_trans}
use lib.ListN.{length, get_or, length-replicate}
use Rattle.integers.specs.Answers.{refused_by}
use Rattle.integers.specs.FilledLists.{filled, no_tasks}
use Rattle.integers.specs.Limits.{TASKS}
use Rattle.integers.specs.Moments.{instant, zero_at}
use Rattle.integers.proofs.Answers.{same_kind, same_count}
use Rattle.integers.proofs.FilledLists.{filled_at, filled_length}
use Rattle.scheduling.specs.Scheduling.{whole, natural, Tasks, Proper, Largest, Schedule}
use Rattle.records.specs.declared.record.DisjunctivePropagator.{DisjunctivePropagator}
use Rattle.records.specs.Records.{tasks_in, moments_in}
use Rattle.records.specs.Refusals.{AcceptedInput, input_number}
use Rattle.records.proofs.AcceptedTasks.{count, proper_whole, proper, above}
use Rattle.records.proofs.RefusedRuns.{accepted_input}
use Rattle.trees.proofs.Ects.{past_by_bound, within_bound}
use Rattle.std.specs.Prelude.{Some, None}
use Rattle.precedences.specs.declared.range_moments.RangeMoments.{RangeMoments}
use Rattle.precedences.specs.Predecessors.{PrecedenceBound}
use Rattle.precedences.specs.PredecessorArrays.{start_at, bound_at, HoldsRanges}
use Rattle.precedences.proofs.Soundness.{before_sound, bound_sound}
use Rattle.precedences.proofs.MomentBounds.{high, passes, fits}
use Rattle.precedences.specs.declared.answers.Precedences.{Precedences}
use Rattle.precedences.specs.declared.answers.Precedences.TheVariants.{Done, Emptied}
use Rattle.precedences.specs.Numbers.{numbers_of_precedences}
use Rattle.precedences.specs.Precedences.{FirstEmptied, NoneEmptied, LeftPrecedences, RanPrecedences}
use Rattle.precedences.specs.PassArrays.{raised_there, NonePast, FirstPast}
use Rattle.precedences.proofs.RaisedStarts.{raised_is}

module _ (J : Tasks whole) (ok : Proper J) where
  -- no two tasks are the lowest
  not_lower : (i k : ℕ) → FirstEmptied J i → FirstEmptied J k → i < k → ⊥
  not_lower i k a b q = clash_ℤ a.passes (b.lowest i q a.bound a.is_bound)

  one_lowest : (i k : ℕ) → FirstEmptied J i → FirstEmptied J k → i ≡ k
  one_lowest i k a b = elim (dec_lt i k) [
    | yes q ↦ absurd (not_lower i k a b q)
    | no q ↦ elim (dec_lt k i) [ yes p ↦ absurd (not_lower k i b a p) | no p ↦ omega arith ]
  ]

  -- a bound past a latest start leaves no schedule
  none_starts : (i : ℕ) → FirstEmptied J i → (s : ℕ → ℤ) → Schedule J s → ⊥
  none_starts i a s h = clash_ℤ (<ℤ-≤ℤ_trans a.passes (bound_sound J ok s h i a.small a.bound a.is_bound)) (h.to i a.small)

  pub ended_emptied : (es : List ℤ) (i : ℕ) → FirstEmptied J i → LeftPrecedences J es (Emptied i) es
  ended_emptied es i a = record {
    before = before_sound J;
    emptied = λ k. (λ e. subst (FirstEmptied J) (same_count e 0) a, λ b. ap (λ (j : ℕ). numbers_of_precedences (Emptied j)) (one_lowest i k a b));
    done = (λ e. absurd (omega (arith, same_kind e)), λ f. absurd (clash_ℤ a.passes (f i a.small a.bound a.is_bound)));
    kept = λ _. refl;
    size = refl;
    starts = λ e. absurd (omega arith);
    no_schedule = λ _. none_starts i a;
    holds = λ e. absurd (omega arith);
  }

  pub ended_done : (es es' : List ℤ) → NoneEmptied J → length es' ≡ length es
      → ((i : ℕ) → i < J.count → Largest whole (λ v. (J.earliest i ≡ v) ⊎ PrecedenceBound J i v) (get_or es' i (pos 0))) → LeftPrecedences J es Done es'
  ended_done es es' none size starts = record {
    before = before_sound J;
    emptied = λ k. (λ e. absurd (omega (arith, same_kind e)), λ a. absurd (clash_ℤ a.passes (none k a.small a.bound a.is_bound)));
    done = (λ _. none, λ _. refl);
    kept = λ e. absurd (omega arith);
    size = size;
    starts = λ _. starts;
    no_schedule = λ e. absurd (omega arith);
    holds = λ _ s h i q. elim (starts i q).holds [ inl e ↦ subst (λ (v : ℤ). v ≤ℤ s i) e (h.from i q) | inr e ↦ bound_sound J ok s h i q (get_or es' i (pos 0)) e ];
  }

-- An accepted pass: what the arrays hold, and how it ends.
module _ (r : DisjunctivePropagator) (es ls : List ℤ) (a : AcceptedInput r es ls) (long : length r.durations ≡ TASKS) {m : RangeMoments} (f : HoldsRanges (moments_in r es ls) m) where
  abbrev Z : Tasks whole
  Z = tasks_in r es ls

  abbrev M : Tasks natural
  M = moments_in r es ls

  fine : Proper Z
  fine = proper_whole r es ls a long

  small : {k : ℕ} → k < Z.count → k < m.count
  small q = omega (arith, f.held.count)

  known : {k : ℕ} → k < m.count → k < Z.count
  known q = omega (arith, f.held.count)

  module _ {raised : List ℕ} (z : raised ≡ filled (raised_there (moments_in r es ls)) m.count no_tasks) where
    raised_at : (k : ℕ) → k < m.count → get_or raised k 0 ≡ raised_there M k
    raised_at k q = ap (λ (o : List ℕ). get_or o k 0) z ∙ filled_at (raised_there M) m.count no_tasks 0 k q (omega (arith, f.held.few, length-replicate {A = ℕ} TASKS 0))

    latest_at : (k : ℕ) → k < m.count → get_or m.lst k 0 ≡ M.latest k
    latest_at k q = f.late.at k q

    not_past : {n : ℕ} → NonePast raised m.lst n → (k : ℕ) → k < m.count → k < n → (b : ℤ) → PrecedenceBound Z k b → b ≤ℤ Z.latest k
    not_past p k q h = fits Z fine (above r es ls a long) k (known q) (Z.latest k) (high Z fine (above r es ls a long) k (known q))
        (within_bound (M.earliest k) (M.latest k) (bound_at M k) (omega (arith, p k h, raised_at k q, latest_at k q)))

    pub some_past : {i : ℕ} → FirstPast raised m.lst m.count (Some i) → LeftPrecedences (tasks_in r es ls) es (Emptied i) es
    some_past {i} (q, past, none) =
        let w = passes Z fine (above r es ls a long) i (known q) (Z.latest i) (high Z fine (above r es ls a long) i (known q))
        (past_by_bound (M.earliest i) (M.latest i) (bound_at M i) ((proper r es ls a long).ranges i (known q)) (omega (arith, past, raised_at i q, latest_at i q))) in
        ended_emptied Z fine es i (record { small = known q; bound = w.0; is_bound = w.1; passes = w.2; lowest = λ k h. not_past none k (omega arith) h })

    pub none_past : FirstPast raised m.lst m.count None → {es' : List ℤ} → es' ≡ filled (start_at raised) (length es) es → LeftPrecedences (tasks_in r es ls) es Done es'
    none_past none {es'} y = ended_done Z fine es es' (λ k q. not_past none k (small q) (small q)) (ap length y ∙ filled_length (start_at raised) (length es) es) starts
      where
        start_at_is : (k : ℕ) → k < m.count → get_or es' k (pos 0) ≡ instant zero_at (raised_there M k)
        start_at_is k q = ap (λ (o : List ℤ). get_or o k (pos 0)) y
            ∙ filled_at (start_at raised) (length es) es (pos 0) k (omega (arith, a.counts.earliest, f.held.count, count r es ls a long)) (omega (arith, a.counts.earliest, f.held.count, count r es ls a long))
            ∙ ap (instant zero_at) (raised_at k q)

        starts : (k : ℕ) → k < Z.count → Largest whole (λ v. (Z.earliest k ≡ v) ⊎ PrecedenceBound Z k v) (get_or es' k (pos 0))
        starts k q = subst (Largest whole (λ v. (Z.earliest k ≡ v) ⊎ PrecedenceBound Z k v)) (sym (start_at_is k (small q))) (raised_is Z fine (above r es ls a long) k q)

-- The contract, by the number that the tests answer.
module _ (before : DisjunctivePropagator) (es ls : List ℤ) (bars : Bool) {m : ℕ} (e : m ≡ input_number before es ls bars) where
  pub is_refused : (r : Precedences) (es' : List ℤ) → (m ≡ 0 → ⊥) → numbers_of_precedences r ≡ refused_by m → es' ≡ es → RanPrecedences before es ls bars r es'
  is_refused r es' not z y = record { refused = λ _. record { answer = z ∙ ap refused_by e; starts = y }; ran = λ k. absurd (not (e ∙ k)) }

  module _ (z : m ≡ 0) where
    pub input_held : AcceptedInput before es ls
    input_held = ((accepted_input before es ls bars).0 (sym e ∙ z)).0

    pub went : (r : Precedences) (es' : List ℤ) → LeftPrecedences (tasks_in before es ls) es r es' → RanPrecedences before es ls bars r es'
    went r es' p = record { refused = λ h. absurd (h (sym e ∙ z)); ran = λ _. p }
