-- The definitions at small inputs.
use Rattle.std.specs.Prelude.{◌≡◌, refl, [], ◌∷◌, pos, negsuc}
use Rattle.integers.specs.FilledLists.{filled}
use Rattle.integers.specs.Orders.{insert, sort, numbers}
use Rattle.integers.specs.Tests.{all_below, refusal}
use Rattle.scheduling.specs.Scheduling.{total}
use Rattle.records.specs.declared.record.DisjunctivePropagator.{DisjunctivePropagator}
use Rattle.records.specs.Records.{unused_at, lawful_record, new_record}
use Rattle.fixed_schedules.specs.FixedSchedules.{order_of, fixed_number}

-- task 0 starts at 3 and lasts 4. Task 1 starts at −12 and lasts 15: it is the first, and ends where task 0 starts
two : DisjunctivePropagator
two = new_record (pos 4 ∷ pos 15 ∷ [])

two_by_start : order_of (pos 3 ∷ negsuc 11 ∷ []) ≡ 1 ∷ 0 ∷ []
unfolding sort insert numbers
two_by_start = refl

touching : fixed_number two (pos 3 ∷ negsuc 11 ∷ []) (pos 3 ∷ negsuc 11 ∷ []) ≡ 0
unfolding two refusal lawful_record all_below unused_at filled total
touching = refl

-- one unit less between the starts is an overlap, and a range of two starts is refused too
overlap : fixed_number two (pos 2 ∷ negsuc 11 ∷ []) (pos 2 ∷ negsuc 11 ∷ []) ≡ 14
unfolding two refusal lawful_record all_below unused_at filled total
overlap = refl

two_starts : fixed_number two (pos 3 ∷ negsuc 11 ∷ []) (pos 4 ∷ negsuc 11 ∷ []) ≡ 14
unfolding two refusal lawful_record all_below unused_at filled total
two_starts = refl

-- 4 is tried before 14
empty_range : fixed_number two (pos 2 ∷ negsuc 11 ∷ []) (pos 1 ∷ negsuc 11 ∷ []) ≡ 4
unfolding two refusal lawful_record all_below unused_at filled total
empty_range = refl
