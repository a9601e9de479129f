-- What refuses a fixed schedule: what holds where nothing does, the sole ground for each number, and the same where other tests follow.
use mathlib.Core.Path.{◌≡◌, refl, sym, ◌∙◌}
use mathlib.Core.Bool.{Bool, true, false, ◌&&◌}
use mathlib.Core.Logic.{◌↔◌}
use mathlib.Core.List.{List, [], ◌∷◌, ◌++◌}
use Prim.Native.Nat.{ℕ, ◌-◌, ◌≤◌, ◌<◌}
use native.Mathlib.Omega.{arith}
use lib.IntN.{ℤ, pos}
use lib.ListN.{length, get_or, take}
use Rattle.std.specs.Prelude.{Ok, Err}
use Rattle.integers.specs.declared.refused.Refusal.{Refusal}
use Rattle.integers.specs.declared.refused.Refusal.TheVariants.{Schedule}
use Rattle.integers.specs.Refused.{number_of}
use Rattle.integers.specs.Limits.{TASKS}
use Rattle.integers.specs.Tests.{Test, test, all_below, refusal, AllPassed}
use Rattle.integers.proofs.Bools.{and_yes, and_left, and_right}
use Rattle.integers.proofs.RefusalNumbers.{never_zero}
use Rattle.integers.proofs.Tests.{all_at, all_show, unused, accepts, accepted, first_refuses}
use Rattle.integers.proofs.WholeNumbers.{eq_z_same, same_eq_z}
use Rattle.records.proofs.TestsInOrder.{as_facts, as_tests}
use Rattle.records.specs.declared.record.DisjunctivePropagator.{DisjunctivePropagator}
use Rattle.records.specs.Records.{Lawful}
use Rattle.records.specs.Refusals.{range_tests, range_number, CountsFit, StartsFit, RangesFit, AcceptedInput}
use Rattle.records.proofs.LastTests.{tests_first, last_refuses, last_passes}
use Rattle.records.proofs.RefusedRuns.{passed_ranges, accepted_ranges, range_20, range_10, range_3, range_4, range_holds, range_many}
use Rattle.fixed_schedules.specs.FixedSchedules.{one_start_at, all_apart, fixed_tests, fixed_number, order_of, Fixed, AcceptedFixed}
use Rattle.fixed_schedules.specs.Neighbours.{Sortable, Traversable, neighbours_are_apart, Tested}
use Rattle.fixed_schedules.proofs.Neighbours.{apart_is, neighbours_are}
use Rattle.fixed_schedules.proofs.AcceptedSchedules.{sortable, lasting, traversable}
use Rattle.fixed_schedules.proofs.ScheduleOrder.{front_within}

-- the test of 14 as a fact
module _ (r : DisjunctivePropagator) (es ls : List ℤ) (c : length es ≡ r.count) where
  one_is : all_below (one_start_at es ls) r.count ≡ true ↔ ((k : ℕ) → k < r.count → get_or es k (pos 0) ≡ get_or ls k (pos 0))
  one_is = (λ h k q. eq_z_same _ _ (all_at _ r.count h k q), λ f. all_show _ r.count (λ k q. same_eq_z (f k q)))

  pub fixed_is : all_below (one_start_at es ls) (length es) && all_apart r.durations es (length es) ≡ true ↔ Fixed r es ls
  fixed_is = let apart = apart_is r.durations es r.count in rw c (λ h. search (as_facts, one_is.0, apart.0), λ f. search (as_tests, one_is.1, apart.1))

module _ (r : DisjunctivePropagator) (es ls : List ℤ) where
  abbrev t14 : Test
  t14 = test 14 (all_below (one_start_at es ls) (length es) && all_apart r.durations es (length es))

  -- all tests are passed
  pub passed_fixed : AllPassed (fixed_tests r es ls) ↔ AcceptedFixed r es ls
  passed_fixed = (facts, tests)
    where
      facts : AllPassed (fixed_tests r es ls) → AcceptedFixed r es ls
      facts h = let f = (passed_ranges r es ls).0 (search) in search (fixed_is r es ls f.counts.earliest).0

      tests : AcceptedFixed r es ls → AllPassed (fixed_tests r es ls)
      tests f = let h = (passed_ranges r es ls).1 (search) in search (fixed_is r es ls f.counts.earliest).1

  -- nothing refuses the schedule
  pub accepted_fixed : fixed_number r es ls ≡ 0 ↔ AcceptedFixed r es ls
  accepted_fixed = (λ h. passed_fixed.0 (accepted (fixed_tests r es ls) refl h), λ f. accepts (fixed_tests r es ls) (passed_fixed.1 f))

-- The record and its ranges go before; then neighbours in the order of starts decide for all pairs.
module _ (r : DisjunctivePropagator) (es ls : List ℤ) where
  pub ranges_refuse : (why : Refusal) → number_of why ≡ range_number r es ls → Tested es (fixed_number r es ls) (Err why)
  ranges_refuse why e = record { number = tests_first (range_tests r es ls) e (t14 r es ls ∷ []) (never_zero why); order = tt }

  module _ (e : 0 ≡ range_number r es ls) where
    held : AcceptedInput r es ls
    held = (accepted_ranges r es ls).0 (sym e)

    pub same_counts : length es ≡ length ls
    same_counts = omega (arith, held.counts.earliest, held.counts.latest)

    pub sorts : Sortable es
    sorts = sortable r es ls held

    by_14 : (t14 r es ls).passed ≡ false → Tested es (fixed_number r es ls) (Err Schedule)
    by_14 q = record { number = last_refuses (range_tests r es ls) e refl refl 14 _ q; order = tt }

    module _ {one : Bool} (o : one ≡ all_below (one_start_at es ls) (length es)) where
      pub more_starts : one ≡ false → Tested es (fixed_number r es ls) (Err Schedule)
      more_starts h = by_14 (and_left _ (all_apart r.durations es (length es)) (sym o ∙ h))

      module _ (order : List ℕ) (sorted : take (length es) order ≡ order_of es) where
        pub traverses : (length es ≤ length order) × Traversable (take (length es) order) es r.durations
        traverses = (front_within es order sorted, traversable r es ls held sorted)

        module _ {apart : Bool} (n : apart ≡ all_below (neighbours_are_apart order es r.durations) (length es - 1)) where
          pairs : apart ≡ all_apart r.durations es (length es)
          pairs = n ∙ neighbours_are r.durations es order sorted (lasting r es ls held)

          pub overlapping : apart ≡ false → Tested es (fixed_number r es ls) (Err Schedule)
          overlapping h = by_14 (and_right (all_below (one_start_at es ls) (length es)) _ (sym pairs ∙ h))

          pub none_wrong : one ≡ true → apart ≡ true → Tested es (fixed_number r es ls) (Ok order)
          none_wrong h q = record {
            number = last_passes (range_tests r es ls) e refl refl 14 _ (and_yes _ _ (sym o ∙ h) (sym pairs ∙ q));
            order = sorted;
          }

-- The sole ground for each number of a schedule that no later test has: all tests before it pass, and its own fails.
pub record SoleGrounds (r : DisjunctivePropagator) (es ls : List ℤ) (number : ℕ) : Type 0 where
  pub refused_20 : number ≡ 20 ↔ (Lawful r → ⊥)
  pub refused_10 : number ≡ 10 ↔ (Lawful r × (CountsFit r.count es ls → ⊥))
  pub refused_3 : number ≡ 3 ↔ (Lawful r × (CountsFit r.count es ls × (StartsFit es ls → ⊥)))
  pub refused_4 : number ≡ 4 ↔ (Lawful r × (CountsFit r.count es ls × (StartsFit es ls × (RangesFit es ls → ⊥))))
  pub refused_14 : number ≡ 14 ↔ (Lawful r × (CountsFit r.count es ls × (StartsFit es ls × (RangesFit es ls × (Fixed r es ls → ⊥)))))

-- Other tests follow: what is wrong with the schedule goes before them. Where the schedule passes and one test follows, that one decides.
module _ (r : DisjunctivePropagator) (es ls : List ℤ) (after : List Test) where
  pub schedule_first : (why : Refusal) → Tested es (fixed_number r es ls) (Err why) → number_of why ≡ refusal (fixed_tests r es ls ++ after)
  schedule_first why s = tests_first (fixed_tests r es ls) s.number after (never_zero why)

  pub schedule_refuses : (why : Refusal) → Tested es (fixed_number r es ls) (Err why) → Tested es (refusal (fixed_tests r es ls ++ after)) (Err why)
  schedule_refuses why s = record { number = schedule_first why s; order = tt }

  pub fixed_grounds : unused after 20 ≡ true → unused after 10 ≡ true → unused after 3 ≡ true → unused after 4 ≡ true → unused after 14 ≡ true
      → SoleGrounds r es ls (refusal (fixed_tests r es ls ++ after))
  fixed_grounds u20 u10 u3 u4 u14 = record {
    refused_20 = range_20 r es ls (t14 r es ls ∷ after) u20;
    refused_10 = range_10 r es ls (t14 r es ls ∷ after) u10;
    refused_3 = range_3 r es ls (t14 r es ls ∷ after) u3;
    refused_4 = range_4 r es ls (t14 r es ls ∷ after) u4;
    refused_14 = range_holds r es ls (t14 r es ls ∷ after) refl (λ n. first_refuses (t14 r es ls) after (fixed_is r es ls n.earliest) u14);
  }

module _ (r : DisjunctivePropagator) (es ls : List ℤ) {order : List ℕ} (s : Tested es (fixed_number r es ls) (Ok order)) (n : ℕ) (p : Bool) where
  pub number_refuses : p ≡ false → n ≡ refusal (fixed_tests r es ls ++ (test n p ∷ []))
  number_refuses h = last_refuses (fixed_tests r es ls) s.number refl refl n p h

  pub number_passes : p ≡ true → 0 ≡ refusal (fixed_tests r es ls ++ (test n p ∷ []))
  number_passes h = last_passes (fixed_tests r es ls) s.number refl refl n p h

  pub refused_after : (why : Refusal) → p ≡ false → number_of why ≡ n → Tested es (refusal (fixed_tests r es ls ++ (test n p ∷ []))) (Err why)
  refused_after why h e = record { number = e ∙ number_refuses h; order = tt }

  pub passed_after : p ≡ true → Tested es (refusal (fixed_tests r es ls ++ (test n p ∷ []))) (Ok order)
  passed_after h = record { number = number_passes h; order = s.order }

-- more ranges than any record has tasks are refused by the number that refuses none, whatever tests follow
pub fixed_many : (r : DisjunctivePropagator) (es ls : List ℤ) (after after' : List Test) → TASKS < length es
    → (refusal (fixed_tests r [] [] ++ after) ≡ refusal (fixed_tests r es ls ++ after')) × (refusal (fixed_tests r es ls ++ after') ≡ 0 → ⊥)
fixed_many r es ls after after' many = range_many r es ls (t14 r [] [] ∷ after) (t14 r es ls ∷ after') many
