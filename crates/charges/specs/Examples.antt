-- The tariff's printed examples, and the call's number at small inputs.
use Rattle.std.specs.Prelude.{◌≡◌, refl, [], ◌∷◌, ◌+◌, pos, negsuc, neg_ℤ}
use Rattle.integers.specs.FilledLists.{filled}
use Rattle.integers.specs.Limits.{DUE}
use Rattle.integers.specs.Tests.{all_below, refusal}
use Rattle.scheduling.specs.Scheduling.{total}
use Rattle.records.specs.declared.record.DisjunctivePropagator.{DisjunctivePropagator}
use Rattle.records.specs.Records.{unused_at, lawful_record, new_record}
use Rattle.charges.specs.Tariff.{rate, cost_of_minutes, late_minutes}
use Rattle.charges.specs.Charges.{charge_at, charges_number}

-- a task that ends on time costs nothing
no_minute : cost_of_minutes 0 ≡ 0
unfolding total rate
no_minute = refl

one_minute : cost_of_minutes 1 ≡ 25
unfolding total rate
one_minute = refl

an_hour : cost_of_minutes 60 ≡ 25
unfolding total rate
an_hour = refl

an_hour_and_a_minute : cost_of_minutes 61 ≡ 50
unfolding total rate
an_hour_and_a_minute = refl

a_day : cost_of_minutes 1440 ≡ 600
unfolding total rate
a_day = refl

a_day_and_a_minute : cost_of_minutes 1441 ≡ 640
unfolding total rate
a_day_and_a_minute = refl

-- the last hour that costs anything
hours_58 : cost_of_minutes 3480 ≡ 1960
unfolding total rate
hours_58 = refl

hours_59 : cost_of_minutes 3540 ≡ 2000
unfolding total rate
hours_59 = refl

hours_59_and_a_minute : cost_of_minutes 3541 ≡ 2000
unfolding total rate
hours_59_and_a_minute = refl

ten_weeks : cost_of_minutes 100800 ≡ 2000
unfolding total rate
ten_weeks = refl

-- a task that ends at −3, one minute late, then on time, then early
late_by_one : late_minutes (negsuc 2) (negsuc 3) ≡ 1
late_by_one = refl

on_time : late_minutes (negsuc 2) (negsuc 2) ≡ 0
on_time = refl

early : late_minutes (negsuc 2) (pos 5) ≡ 0
early = refl

-- task 0 lasts 4 from 3 on and is due at −54: 61 minutes late. Task 1 lasts 15 from −12 on and is due at 3: on time
two : DisjunctivePropagator
two = new_record (pos 4 ∷ pos 15 ∷ [])

first_charge : charge_at (4 ∷ 15 ∷ []) (pos 3 ∷ negsuc 11 ∷ []) (negsuc 53 ∷ pos 3 ∷ []) 0 ≡ 50
unfolding total rate
first_charge = refl

second_charge : charge_at (4 ∷ 15 ∷ []) (pos 3 ∷ negsuc 11 ∷ []) (negsuc 53 ∷ pos 3 ∷ []) 1 ≡ 0
unfolding total rate
second_charge = refl

-- due moments at the limits are in range; past them, or of another count, they are not
at_the_limits : charges_number two (pos 3 ∷ negsuc 11 ∷ []) (pos 3 ∷ negsuc 11 ∷ []) (neg_ℤ (pos DUE) ∷ pos DUE ∷ []) ≡ 0
unfolding two refusal lawful_record all_below unused_at filled total
at_the_limits = refl

out_of_range : charges_number two (pos 3 ∷ negsuc 11 ∷ []) (pos 3 ∷ negsuc 11 ∷ []) (neg_ℤ (pos (DUE + 1)) ∷ pos 3 ∷ []) ≡ 19
unfolding two refusal lawful_record all_below unused_at filled total
out_of_range = refl

one_due : charges_number two (pos 3 ∷ negsuc 11 ∷ []) (pos 3 ∷ negsuc 11 ∷ []) (pos 3 ∷ []) ≡ 19
unfolding two refusal lawful_record all_below unused_at filled total
one_due = refl

-- 14 is tried before 19
overlap : charges_number two (pos 2 ∷ negsuc 11 ∷ []) (pos 2 ∷ negsuc 11 ∷ []) [] ≡ 14
unfolding two refusal lawful_record all_below unused_at filled total
overlap = refl
