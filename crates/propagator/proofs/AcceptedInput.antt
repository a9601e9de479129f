-- What a run that is accepted, or that the core may run, takes for given, as the run's definition has it.
use mathlib.Core.Path.{◌≡◌, ap, ◌∙◌}
use mathlib.Core.List.{List}
use Prim.Native.Nat.{ℕ, ◌≤◌, ◌<◌}
use native.Mathlib.Decide.{dec_le}
use native.Mathlib.Omega.{arith}
use lib.IntN.{ℤ, pos}
use lib.ListN.{length, get_or, take, get_or-eq_default}
use lib.Seq.{get_or-take, length-take-le}
use lib.Signed.{◌≤ℤ◌}
use Rattle.integers.specs.Limits.{START, MIRRORED}
use Rattle.integers.specs.Moments.{Above}
use Rattle.integers.proofs.Ints.{up, dn, ints}
use Rattle.integers.proofs.MomentSums.{more_above}
use Rattle.scheduling.specs.Scheduling.{total}
use Rattle.scheduling.proofs.Sets.{total_ext}
use Rattle.runs.proofs.Demand as demand
use Rattle.records.specs.declared.record.DisjunctivePropagator.{DisjunctivePropagator}
use Rattle.records.specs.Records.{Lawful}
use Rattle.records.specs.Refusals.{CountsFit, RangesFit, AcceptedRun}
use Rattle.propagator.specs.Ran.{Runnable}

-- The durations of a lawful record: none is 0, so there are as many as its count says.
module _ (r : DisjunctivePropagator) (lawful : Lawful r) where
  all_there : r.count ≤ length r.durations
  all_there = elim (dec_le r.count (length r.durations)) [
    | yes q ↦ q
    | no q ↦ absurd (omega (arith, lawful.lasts (length r.durations) (omega arith), get_or-eq_default r.durations 0 {n = length r.durations} (omega arith)))
  ]

  pub count : length (take r.count r.durations) ≡ r.count
  count = length-take-le r.count r.durations all_there

  pub lasts_at_is : (k : ℕ) → k < r.count → get_or (take r.count r.durations) k 0 ≡ get_or r.durations k 0
  lasts_at_is k q = get_or-take r.count r.durations k 0 q

  pub sum_is : total (λ k. get_or (take r.count r.durations) k 0) (length (take r.count r.durations)) ≡ total (λ k. get_or r.durations k 0) r.count
  sum_is = ap (total (λ k. get_or (take r.count r.durations) k 0)) count ∙ total_ext (λ k. get_or (take r.count r.durations) k 0) (λ k. get_or r.durations k 0) r.count lasts_at_is

-- The tasks of a run whose starts lie no further out than `far`,
accepted_to : (far : ℕ) (r : DisjunctivePropagator) (es ls : List ℤ) → Lawful r → CountsFit r.count es ls → ((k : ℕ) → k < r.count → Above far (get_or es k (pos 0)))
    → ((k : ℕ) → k < r.count → get_or ls k (pos 0) ≤ℤ pos far) → RangesFit es ls → demand.AcceptedTasks far (take r.count r.durations) es ls
accepted_to far r es ls lawful counts from to ranges =
    let c = count r lawful in
    record {
      some = omega (arith, c, lawful.some);
      few = omega (arith, c, lawful.few);
      lasts = λ k q. omega (arith, lasts_at_is r lawful k (omega (arith, c)), lawful.lasts k (omega (arith, c)));
      sum = omega (arith, sum_is r lawful, lawful.sum);
      from = λ k q. from k (omega (arith, c));
      to = λ k q. to k (omega (arith, c));
      ranges = λ k q. ranges k (omega (arith, c, counts.earliest));
    }

-- those of one that the core runs,
pub accepted : (r : DisjunctivePropagator) (es ls : List ℤ) (post_count count_of_atoms : ℕ) → Runnable r es ls post_count count_of_atoms
    → demand.AcceptedTasks MIRRORED (take r.count r.durations) es ls
accepted r es ls post_count count_of_atoms a = accepted_to MIRRORED r es ls a.lawful a.counts a.from a.to a.ranges

pub wider : (z : ℤ) → z ≤ℤ pos START → z ≤ℤ pos MIRRORED
unfolding up dn
wider z h = omega ints

-- and those of an accepted run, which takes more for given than the core does.
module _ (r : DisjunctivePropagator) (es ls : List ℤ) (post_count count_of_atoms : ℕ) (a : AcceptedRun r es ls post_count count_of_atoms) where
  pub runnable : Runnable r es ls post_count count_of_atoms
  runnable = record {
    lawful = a.lawful;
    counts = a.counts;
    from = λ k q. more_above START MIRRORED (omega arith) (get_or es k (pos 0)) (a.starts.earliest k (omega (arith, a.counts.earliest))).low;
    to = λ k q. wider (get_or ls k (pos 0)) (a.starts.latest k (omega (arith, a.counts.latest))).high;
    ranges = a.ranges;
    words = a.words;
  }

  pub narrow : demand.AcceptedTasks START (take r.count r.durations) es ls
  narrow = accepted_to START r es ls a.lawful a.counts (λ k q. (a.starts.earliest k (omega (arith, a.counts.earliest))).low)
      (λ k q. (a.starts.latest k (omega (arith, a.counts.latest))).high) a.ranges
