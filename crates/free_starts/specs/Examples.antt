-- The definitions at small inputs.
use Rattle.std.specs.Prelude.{◌≡◌, refl, List, [], ◌∷◌, ℕ, zero, suc, ◌+◌, ◌<◌, ℤ, pos, negsuc, neg_ℤ, ◌+ℤ◌, ◌≤ℤ◌}
use Rattle.std.proofs.Common.{inl, inr, ⊎_elim, arith}
use Rattle.integers.specs.FilledLists.{filled}
use Rattle.integers.specs.Limits.{START, DURATIONS, MOMENT, LENGTH}
use Rattle.integers.specs.Tests.{all_below, refusal}
use Rattle.integers.proofs.Ints.{ints, up, dn, sumℤ}
use Rattle.scheduling.specs.Scheduling.{total}
use Rattle.records.specs.declared.record.DisjunctivePropagator.{DisjunctivePropagator}
use Rattle.records.specs.Records.{unused_at, lawful_record, new_record}
use Rattle.fixed_schedules.specs.FixedSchedules.{tasks_on}
use Rattle.free_starts.specs.FreeStarts.{LATEST, Free, EarliestFree, free_number}

-- task 0 starts at 3 and lasts 4, task 1 starts at −12 and lasts 15: they touch at 3
two : DisjunctivePropagator
two = new_record (pos 4 ∷ pos 15 ∷ [])

starts : List ℤ
starts = pos 3 ∷ negsuc 11 ∷ []

-- 8 units from −20 on end where task 1 starts: that is free
before_both : Free (tasks_on two starts starts) 8 (negsuc 19)
unfolding two starts filled
before_both zero q = inl (record { le = tt })
before_both (suc zero) q = inl (record { le = tt })
before_both (suc (suc k)) q = absurd (omega arith)

-- 9 units are not
too_long : Free (tasks_on two starts starts) 9 (negsuc 19) → ⊥
unfolding two starts filled
too_long f = elim (f 1 (omega arith)) [ inl h ↦ h.le | inr h ↦ h.le ]

-- nor is anything between the two, where they touch
touching : Free (tasks_on two starts starts) 1 (pos 3) → ⊥
unfolding two starts filled
touching f = elim (f 0 (omega arith)) [ inl h ↦ h.le | inr h ↦ h.le ]

-- 7, where task 0 ends, is free for any duration
after_both : (d : ℕ) → Free (tasks_on two starts starts) d (pos 7)
unfolding two starts filled
after_both d zero q = inr (record { le = tt })
after_both d (suc zero) q = inr (record { le = tt })
after_both d (suc (suc k)) q = absurd (omega arith)

-- one task with the latest start and the longest duration. From its start on, or a later moment, the first free start is the latest possible
one : DisjunctivePropagator
one = new_record (pos DURATIONS ∷ [])

reaches : EarliestFree (tasks_on one (pos START ∷ []) (pos START ∷ [])) (pos MOMENT) 1 (pos LATEST)
unfolding one filled up dn
reaches = record {
  from = omega ints;
  free = λ k q. inr (one_end k q);
  none_before = λ u h l f. ⊎_elim (λ w. omega (ints, h, l, w, sumℤ u (pos 1))) (λ w. omega (ints, h, l, w)) (f 0 (omega arith));
}
  where
    one_end : (k : ℕ) → k < 1
        → ((tasks_on one (pos START ∷ []) (pos START ∷ [])).earliest k
        +ℤ pos ((tasks_on one (pos START ∷ []) (pos START ∷ [])).duration k)) ≤ℤ pos LATEST
    one_end zero q = record { le = tt }
    one_end (suc k) q = absurd (omega arith)

asked : free_number one (pos START ∷ []) (pos START ∷ []) (pos MOMENT) (pos 1) ≡ 0
unfolding one refusal lawful_record all_below unused_at filled total
asked = refl

-- the limits of 18, which is tried after 14
longest : free_number two starts starts (neg_ℤ (pos MOMENT)) (pos LENGTH) ≡ 0
unfolding two starts refusal lawful_record all_below unused_at filled total
longest = refl

too_early : free_number two starts starts (neg_ℤ (pos (MOMENT + 1))) (pos 1) ≡ 18
unfolding two starts refusal lawful_record all_below unused_at filled total
too_early = refl

no_time : free_number two starts starts (pos 0) (pos 0) ≡ 18
unfolding two starts refusal lawful_record all_below unused_at filled total
no_time = refl

overlap : free_number two (pos 2 ∷ negsuc 11 ∷ []) (pos 2 ∷ negsuc 11 ∷ []) (pos 0) (pos 0) ≡ 14
unfolding two refusal lawful_record all_below unused_at filled total
overlap = refl
