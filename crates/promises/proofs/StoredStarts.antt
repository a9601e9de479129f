-- Starts that a call gives between the ends of their ranges are stored at the first permitted ones from there on. Latest starts are stored at the last ones up to there.
use mathlib.Core.Path.{◌≡◌, sym, ap, subst, ◌∙◌}
use mathlib.Core.Bool.{true}
use mathlib.Core.List.{List}
use Prim.Native.Nat.{ℕ, ◌<◌}
use native.Mathlib.Omega.{arith}
use lib.IntN.{ℤ, pos}
use lib.ListN.{length, get_or, length-map, length-take, get_or-map}
use lib.Signed.{◌≤ℤ◌}
use Rattle.scheduling.specs.Scheduling.{whole, Tasks}
use Rattle.records.specs.declared.record.DisjunctivePropagator.{DisjunctivePropagator}
use Rattle.records.specs.Refusals.{AcceptedRun, CountsFit}
use Rattle.ranges.specs.declared.range.Range.{Range}
use Rattle.ranges.specs.Bars.{all_bars_are_fit}
use Rattle.ranges.specs.Moves.{start_stored, latest_stored}
use Rattle.ranges.specs.Permitted.{FirstPermitted, LastPermitted}
use Rattle.ranges.specs.Ranges.{earliests, latests, any_range, with_starts, with_latests}
use Rattle.ranges.proofs.BarTests.{all_fit}
use Rattle.ranges.proofs.MovedStarts.{own_start, own_latest, first_permitted, last_permitted}
use Rattle.ranges.proofs.StoredStarts.{start_at_is, latest_at}
use Rattle.promises.specs.Promise.{tasks_lent}

module _ (before : DisjunctivePropagator) (ranges : List Range) where
  abbrev J : Tasks whole
  J = tasks_lent before ranges

  -- a task of the record has a duration in it
  pub few : (k : ℕ) → k < J.count → k < before.count
  few k q = omega (arith, length-take before.count before.durations)

  -- an accepted range has its ends in order
  pub proper : {posts atoms : ℕ} → AcceptedRun before (earliests ranges) (latests ranges) posts atoms → (k : ℕ) → k < J.count → J.earliest k ≤ℤ J.latest k
  proper ok k q = ok.ranges k (omega (arith, few k q, ok.counts.earliest))

  -- the ends of range k are those of task k
  earliest_is : (k : ℕ) → (get_or ranges k any_range).earliest ≡ J.earliest k
  earliest_is k = sym (get_or-map (λ (y : Range). y.earliest) ranges k any_range)

  latest_is : (k : ℕ) → (get_or ranges k any_range).latest ≡ J.latest k
  latest_is k = sym (get_or-map (λ (y : Range). y.latest) ranges k any_range)

  module _ (zs : List ℤ) (counts : CountsFit before.count (earliests ranges) (latests ranges)) (size : length zs ≡ length ranges) (k : ℕ) (q : k < J.count) where
    inside : k < length ranges
    inside = omega (arith, few k q, counts.earliest, length-map ranges (λ (y : Range). y.earliest))

    -- a start that is the old one stays, permitted or not
    pub stayed : get_or zs k (pos 0) ≡ J.earliest k → get_or (earliests (with_starts ranges zs)) k (pos 0) ≡ J.earliest k
    stayed e = start_at_is ranges zs k inside (omega (arith, inside, size)) ∙ ap (start_stored (get_or ranges k any_range)) (e ∙ sym (earliest_is k)) ∙ own_start (get_or ranges k any_range) ∙ earliest_is k

    pub latest_stayed : get_or zs k (pos 0) ≡ J.latest k → get_or (latests (with_latests ranges zs)) k (pos 0) ≡ J.latest k
    latest_stayed e = latest_at ranges zs k inside (omega (arith, inside, size)) ∙ ap (latest_stored (get_or ranges k any_range)) (e ∙ sym (latest_is k)) ∙ own_latest (get_or ranges k any_range)
        ∙ latest_is k

    -- one in its range moves
    module _ (fit : all_bars_are_fit ranges ≡ true) {v : ℤ} (is : get_or zs k (pos 0) ≡ v) (between : (J.earliest k ≤ℤ v) × (v ≤ℤ J.latest k)) where
      from : (get_or ranges k any_range).earliest ≤ℤ v
      from = subst (λ (e : ℤ). e ≤ℤ v) (sym (earliest_is k)) between.0

      to : v ≤ℤ (get_or ranges k any_range).latest
      to = subst (λ (l : ℤ). v ≤ℤ l) (sym (latest_is k)) between.1

      pub moved_on : FirstPermitted (get_or ranges k any_range) v (get_or (earliests (with_starts ranges zs)) k (pos 0))
      moved_on = subst (FirstPermitted (get_or ranges k any_range) v) (sym (start_at_is ranges zs k inside (omega (arith, inside, size)) ∙ ap (start_stored (get_or ranges k any_range)) is))
          (first_permitted (get_or ranges k any_range) (all_fit ranges fit k inside) v from to)

      pub moved_back : LastPermitted (get_or ranges k any_range) v (get_or (latests (with_latests ranges zs)) k (pos 0))
      moved_back = subst (LastPermitted (get_or ranges k any_range) v) (sym (latest_at ranges zs k inside (omega (arith, inside, size)) ∙ ap (latest_stored (get_or ranges k any_range)) is))
          (last_permitted (get_or ranges k any_range) (all_fit ranges fit k inside) v from to)
