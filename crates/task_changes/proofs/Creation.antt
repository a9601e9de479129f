-- Adding meets 1, 2 and 5 as creation does. For a lawful record, the number is that of creation with its durations and the new one.
use mathlib.Core.Path.{◌≡◌, refl, sym, ap, ◌∙◌}
use mathlib.Core.Bool.{true}
use mathlib.Core.Logic.{inl, inr}
use mathlib.Core.List.{List, [], ◌∷◌, ◌++◌, map}
use Prim.Native.Nat.{ℕ, ◌+◌, ◌<◌}
use native.Mathlib.Omega.{arith}
use native.Mathlib.Decide.{dec_lt}
use lib.IntN.{ℤ, pos}
use lib.Signed.{le_z}
use lib.ListN.{length, get_or, length-map, length-append, get_or-map, get_or-append}
use lib.Seq.{get_or_at}
use borrow.Author.Tests.{le-leb}
use Rattle.integers.specs.Limits.{TASKS}
use Rattle.integers.specs.Tests.{test, all_below, refusal}
use Rattle.integers.proofs.Bools.{bool}
use Rattle.integers.proofs.Tests.{refusal_next, all_show, all_broken}
use Rattle.scheduling.specs.Scheduling.{total}
use Rattle.records.specs.declared.record.DisjunctivePropagator.{DisjunctivePropagator}
use Rattle.records.specs.Records.{Lawful, lawful_record, duration_for, duration_at, positive_at, creation_tests}
use Rattle.records.proofs.Lawful.{lawful_is}
use Rattle.task_changes.specs.Lists.{sum_of}
use Rattle.task_changes.specs.Changes.{durations_of, add_number}
use Rattle.task_changes.proofs.Sums.{sum_more, sum_given}
use Rattle.task_changes.proofs.ChangedRecords.{own_holds, lasts}

-- durations of a record, and one of a caller's after them
given_more : (l : List ℕ) (d : ℤ) → map duration_for (map pos l ++ (d ∷ [])) ≡ l ++ (duration_for d ∷ [])
given_more [] d = refl
given_more (x ∷ xs) d = ap (λ (m : List ℕ). x ∷ m) (given_more xs d)

module _ (r : DisjunctivePropagator) (l : Lawful r) (long : length r.durations ≡ TASKS) (d : ℤ) where
  abbrev ds : List ℕ
  ds = durations_of r

  -- the durations that creation would be given
  abbrev all : List ℤ
  all = map pos (durations_of r) ++ (d ∷ [])

  size : length all ≡ r.count + 1
  size = omega (arith, length-append (map pos ds) (d ∷ []), length-map ds pos, (own_holds r l long).count)

  last : (k : ℕ) → k ≡ r.count → get_or all k (pos 0) ≡ d
  last k e = get_or_at (map pos ds) d [] (pos 0) k (length-map ds pos ∙ sym (own_holds r l long).count ∙ sym e)

  before : (k : ℕ) → k < r.count → positive_at all k ≡ true
  before k q =
      ap (le_z (pos 1)) (get_or-append (map pos ds) (d ∷ []) (pos 0) k (omega (arith, length-map ds pos, (own_holds r l long).count)) ∙ get_or-map pos ds k 0)
      ∙ le-leb 1 (get_or ds k 0) (lasts r l long k (omega (arith, (own_holds r l long).count)))

  one_more : all_below (positive_at all) (length all) ≡ le_z (pos 1) d
  one_more = elim (bool (le_z (pos 1) d)) [
    | inl y ↦ all_show (positive_at all) (length all) (λ k q. elim (dec_lt k r.count) [ yes s ↦ before k s | no s ↦ ap (le_z (pos 1)) (last k (omega (arith, size))) ∙ y ]) ∙ sym y
    | inr y ↦ all_broken (positive_at all) (length all) r.count (omega (arith, size)) (ap (le_z (pos 1)) (last r.count refl) ∙ y) ∙ sym y
  ]

  sum_same : total (duration_at all) (length all) ≡ r.total + duration_for d
  sum_same = sum_given all ∙ ap sum_of (given_more ds d) ∙ sum_more ds (duration_for d) ∙ ap (λ (s : ℕ). s + duration_for d) (sym (own_holds r l long).sum)

  pub as_creation : add_number r d ≡ refusal (creation_tests (map pos (durations_of r) ++ (d ∷ [])))
  as_creation =
      refusal_next (test 20 (lawful_record r)) _ ((lawful_is r).1 l) ∙ sym (rw (one_more, sum_same, size) refl)
