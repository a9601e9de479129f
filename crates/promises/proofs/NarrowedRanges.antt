-- A plan stays one where ranges change their ends alone, and none past a start of the plan.
use mathlib.Core.Path.{◌≡◌, sym, ap, ap₂, subst, ◌∙◌}
use mathlib.Core.List.{List, map}
use Prim.Native.Nat.{ℕ, ◌<◌}
use lib.IntN.{ℤ}
use lib.ListN.{get_or, take, get_or-map}
use lib.Signed.{◌≤ℤ◌}
use Rattle.integers.specs.WholeNumbers.{has}
use Rattle.records.specs.declared.record.DisjunctivePropagator.{DisjunctivePropagator}
use Rattle.ranges.specs.declared.range.Range.{Range}
use Rattle.ranges.specs.Bars.{bars_of}
use Rattle.ranges.specs.Ranges.{counts, places, any_range}
use Rattle.promises.specs.Promise.{tasks_lent}
use Rattle.promises.specs.Planner.{Plan}

module _ (ranges ranges' : List Range) (same_counts : counts ranges' ≡ counts ranges) (same_places : places ranges' ≡ places ranges) where
  -- a field of range k
  field : {X : Type 0} (f : Range → X) (ys : List Range) (k : ℕ) → f (get_or ys k any_range) ≡ get_or (map f ys) k (f any_range)
  field f ys k = sym (get_or-map f ys k any_range)

  same_bars : (k : ℕ) → bars_of (get_or ranges' k any_range) ≡ bars_of (get_or ranges k any_range)
  same_bars k = ap₂ (λ (n : ℕ) (l : List ℤ). take n l)
      (field (λ y. y.count) ranges' k ∙ ap (λ (l : List ℕ). get_or l k 0) same_counts ∙ sym (field (λ y. y.count) ranges k))
      (field (λ y. y.barred) ranges' k ∙ ap (λ (l : List (List ℤ)). get_or l k any_range.barred) same_places ∙ sym (field (λ y. y.barred) ranges k))

  pub still_plan : (tasks : DisjunctivePropagator) (s : ℕ → ℤ) → Plan tasks ranges s
      → ((k : ℕ) → k < (tasks_lent tasks ranges).count → (tasks_lent tasks ranges').earliest k ≤ℤ s k) → ((k : ℕ) → k < (tasks_lent tasks ranges).count → s k ≤ℤ (tasks_lent tasks ranges').latest k)
      → Plan tasks ranges' s
  still_plan tasks s p from to = record {
    schedule = record { from = from; to = to; apart = p.schedule.apart };
    permitted = λ k q. record {
      from = subst (λ (e : ℤ). e ≤ℤ s k) (sym (field (λ y. y.earliest) ranges' k)) (from k q);
      to = subst (λ (l : ℤ). s k ≤ℤ l) (sym (field (λ y. y.latest) ranges' k)) (to k q);
      free = λ h. (p.permitted k q).free (sym (ap (λ (l : List ℤ). has l (s k)) (same_bars k)) ∙ h);
    };
  }
