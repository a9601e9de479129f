-- A run on the costliest tasks of a count n: it ends done, posts nothing, and makes 4n − 3 leaf changes.
use mathlib.Core.Path.{◌≡◌, refl, sym, ap, ◌∙◌}
use mathlib.Core.Bool.{false}
use mathlib.Core.Logic.{inl, inr}
use mathlib.Core.List.{List, [], ◌∷◌}
use Prim.Native.Nat.{ℕ, ◌+◌, ◌-◌, ◌*◌, ◌≤◌, ◌<◌}
use native.Mathlib.Omega.{arith}
use native.Mathlib.Decide.{dec_lt}
use lib.IntN.{ℤ, pos}
use lib.ListN.{length, get_or, length-replicate, get_or-replicate}
use lib.Seq.{ext_get_or}
use Rattle.integers.specs.Moments.{moment, Above, zero_at}
use Rattle.integers.specs.Orders.{index}
use Rattle.integers.proofs.Bools.{bool}
use Rattle.integers.proofs.Ints.{ints, up, dn}
use Rattle.integers.proofs.MomentSums.{same, above_up, zero_above}
use Rattle.scheduling.specs.Scheduling.{natural, Tasks, tasks_of, Proper, TaskSet, ◌with◌, In, Schedule, Conflict, completion}
use Rattle.scheduling.specs.Moments.{moments}
use Rattle.scheduling.proofs.Sets.{with_new}
use Rattle.scheduling.proofs.Processing.{processing_less}
use Rattle.scheduling.proofs.Scan.{scan, scan_is}
use Rattle.scheduling.proofs.Levels.{last_fits}
use Rattle.scheduling.proofs.Rule.{rule_sound, overload_sound}
use Rattle.scheduling.proofs.SetSizes.{card_same, card_none}
use Rattle.scheduling.proofs.Suffixes.{suffix, onward_out, suffix_end}
use Rattle.trees.specs.Leaves.{gray_at}
use Rattle.runs.specs.Traces.{Post, done, Trace}
use Rattle.runs.specs.Runs.{State, run, earliest_order, completion_order, propagate}
use Rattle.runs.specs.Costliest.{costliest_starts, costliest_durations}
use Rattle.runs.proofs.Demand.{by_earliest_is, by_completion_is, is_done}
use Rattle.runs.proofs.InnerLoop.{propagate_is}
use Rattle.runs.proofs.LevelSteps as steps
use Rattle.runs.proofs.StartsLeft.{starts_length}
use Rattle.runs.proofs.TaskLists.{tab_length, tab_at}

no_posts : (ps : List Post) → length ps ≡ 0 → ps ≡ []
no_posts [] z = refl
no_posts (p ∷ ps) z = absurd (omega arith)

module _ (n : ℕ) where
  abbrev es : List ℤ
  es = costliest_starts n

  abbrev ds : List ℕ
  ds = costliest_durations n

  abbrev J : Tasks natural
  J = moments zero_at (tasks_of ds es es)

  abbrev L : ℕ → ℕ
  L t = get_or (completion_order J) t 0

  abbrev T : ℕ → ℕ
  T j = get_or (earliest_order J) j 0

  abbrev rank : ℕ → ℕ
  rank k = index (earliest_order J) k

  abbrev place : ℕ → ℕ
  place k = index (completion_order J) k

  count_is : length ds ≡ n
  count_is = length-replicate n _

  start_at_is : (k : ℕ) → k < n → get_or es k (pos 0) ≡ pos (10 * k)
  start_at_is k q = let e : 0 + k ≡ k = omega arith in tab_at (λ k. pos (10 * k)) 0 n k (pos 0) q ∙ ap (λ (j : ℕ). pos (10 * j)) e

  -- Task k has the single start 10k, and lasts 10,
  starts : (k : ℕ) → k < J.count → J.earliest k ≡ zero_at + 10 * k
  starts k q = ap (moment zero_at) (start_at_is k (omega (arith, count_is)))

  lasts : (k : ℕ) → k < J.count → J.duration k ≡ 10
  lasts k q = get_or-replicate n k _ 0 (omega (arith, count_is))

  above : (k : ℕ) → k < J.count → Above zero_at (get_or es k (pos 0))
  unfolding up dn
  above k q = rw (start_at_is k (omega (arith, count_is))) (above_up zero_at (pos 0) (pos (10 * k)) (omega ints) (zero_above zero_at))

  proper : Proper J
  proper = record { ranges = λ k q. omega arith; lasts = λ k q. omega (arith, lasts k q) }

  -- so the tasks at their starts are a schedule, and nothing is in conflict.
  schedule : Schedule J J.earliest
  schedule = record {
    from = λ k q. omega arith;
    to = λ k q. omega arith;
    apart = λ j k p q ne. elim (dec_lt j k)
        [ yes r ↦ inl (omega (arith, starts j p, starts k q, lasts j p)) | no r ↦ inr (omega (arith, starts j p, starts k q, lasts k q)) ];
  }

  quiet : Conflict J → ⊥
  quiet (inl (Ω, v)) = overload_sound J proper J.earliest schedule Ω v
  quiet (inr (i, b, r, q)) = omega (arith, rule_sound J proper J.earliest schedule i b r, q)

  module _ (one : 1 ≤ n) where
    abbrev tr : Trace
    tr = run zero_at J (earliest_order J) (completion_order J)

    out : steps.OutOk zero_at J proper (earliest_order J) (completion_order J) (by_earliest_is J) (by_completion_is J) (λ _. Unit {0}) (λ _. Unit {0})
        (steps.unasked zero_at J proper (earliest_order J) (completion_order J) (by_earliest_is J) (by_completion_is J)) tr
    out = steps.run_left zero_at J proper (earliest_order J) (completion_order J) (by_earliest_is J) (by_completion_is J) (omega (arith, count_is))

    ended : tr.end ≡ done
    ended = elim (is_done tr.end) [ inl z ↦ z | inr z ↦ absurd (quiet (out.otherwise z)) ]

    -- A post would raise a start above the latest one.
    none : tr.posts ≡ []
    none = no_posts tr.posts (elim (dec_lt 0 (length tr.posts)) [
      | no q ↦ omega arith
      | yes q ↦ (
          let m : out.left.many ≡ length tr.posts = out.left.all (λ z. let y : ◌≡◌ {A = ℕ} 0 1 = cc ended in omega arith) in
          let small = out.left.stand.stand.small 0 (omega arith) in
          absurd (omega (arith, out.left.stand.stand.raises 0 (omega arith), out.left.stand.stand.agrees 0 (omega arith), out.left.stand.to _ small)))
    ])

    unchanged : tr.starts ≡ es
    unchanged = ext_get_or (pos 0) tr.starts es (long ∙ count_is ∙ sym (tab_length (λ k. pos (10 * k)) 0 n)) (λ k q. let r : k < J.count = omega (arith, long) in
        same zero_at (get_or tr.starts k (pos 0)) (get_or es k (pos 0)) (out.above k) (above k r) (omega (arith, out.left.stand.from k r, out.left.stand.to k r)))
      where
        long : length tr.starts ≡ length ds
        long = ap (λ (t : Trace). length t.starts) (sym (propagate_is ds es es)) ∙ starts_length ds es es

    -- A task that is still in Λ at the last level would pass: it ends after the last task of Θ.
    abbrev st : State
    st = (out.final ended).0

    none_gray : (k : ℕ) → k < J.count → gray_at st.leaves (index (earliest_order J) k) ≡ false
    none_gray k q = elim (bool (gray_at st.leaves (index (earliest_order J) k))) [
      | inr y ↦ y
      | inl y ↦ (
          let closed = (out.final ended).1 in
          let t : ℕ = J.count - 1 in
          let small : t < J.count = omega arith in
          let Ω : TaskSet = steps.Th zero_at J proper (earliest_order J) (completion_order J) (by_earliest_is J) (by_completion_is J) t with k in
          let k_in : In J Ω k = record { small = q; mem = with_new (steps.Th zero_at J proper (earliest_order J) (completion_order J) (by_earliest_is J) (by_completion_is J) t) k } in
          let late : place k < t = closed.inv.facts.gray k (record { small = q; mem = y }) in
          let e : k ≡ L t = omega (
            arith,
            starts k q,
            lasts k q,
            starts (L t) ((by_completion_is J).task t small),
            lasts (L t) ((by_completion_is J).task t small),
            (by_completion_is J).sorted (place k) t (omega arith) small,
            ap (completion J) ((by_completion_is J).there k q),
            processing_less J (suffix J T rank (by_earliest_is J) Ω k) k (record { small = q; mem = onward_out J T rank (by_earliest_is J) Ω (rank k) k (omega arith) k_in.mem }),
            (scan_is J T rank proper (by_earliest_is J) Ω (k, k_in)).bounds _ (suffix_end J T rank (by_earliest_is J) Ω k k_in),
            closed.none_passes (last_fits J proper (λ Ω. scan J T rank Ω J.count) (scan_is J T rank proper (by_earliest_is J)) L place (by_completion_is J) t (omega arith))
                k (record { small = q; mem = y }),
          ) in
          absurd (omega (arith, late, (by_completion_is J).back t small, ap place e)))
    ]

    changed : tr.changes ≡ 4 * n - 3
    changed = omega (
      arith,
      count_is,
      ap (λ (t : Trace). t.changes) (out.final ended).2,
      (out.final ended).1.inv.counted,
      card_same J (λ k. gray_at st.leaves (index (earliest_order J) k)) (λ _. false) none_gray,
      card_none J,
    )

    -- The run on them: no post, the starts unchanged, and 4n − 3 leaf changes.
    pub costliest_run : propagate (costliest_durations n) (costliest_starts n) (costliest_starts n) ≡ record { posts = []; end = done; starts = costliest_starts n; changes = 4 * n - 3 }
    costliest_run = propagate_is ds es es ∙ (λ i. record { posts = none i; end = ended i; starts = unchanged i; changes = changed i })
