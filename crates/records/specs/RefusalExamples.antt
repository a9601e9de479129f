-- The definitions at small inputs.
use Rattle.std.specs.Prelude.{◌≡◌, refl, true, false, [], ◌∷◌, ◌+◌, pos, negsuc, neg_ℤ}
use Rattle.integers.specs.FilledLists.{filled}
use Rattle.integers.specs.Limits.{START}
use Rattle.integers.specs.Tests.{all_below, refusal}
use Rattle.scheduling.specs.Scheduling.{total}
use Rattle.records.specs.declared.record.DisjunctivePropagator.{DisjunctivePropagator}
use Rattle.records.specs.Records.{unused_at, lawful_record, new_record, zero_record}
use Rattle.records.specs.Refusals.{run_number}

-- A run: a record of zeros is refused before the count of the starts is looked at.
two : DisjunctivePropagator
two = new_record (pos 4 ∷ pos 5 ∷ [])

record_first : run_number zero_record (pos 0 ∷ []) [] false 0 0 ≡ 20
unfolding refusal lawful_record all_below
record_first = refl

counts_next : run_number two (pos (START + 1) ∷ pos 0 ∷ []) (pos 0 ∷ []) false 0 0 ≡ 10
unfolding two refusal lawful_record all_below unused_at filled total
counts_next = refl

starts_next : run_number two (pos 1 ∷ pos 0 ∷ []) (pos 0 ∷ pos (START + 1) ∷ []) false 0 0 ≡ 3
unfolding two refusal lawful_record all_below unused_at filled total
starts_next = refl

ranges_next : run_number two (pos 1 ∷ pos 0 ∷ []) (pos 0 ∷ pos START ∷ []) false 0 0 ≡ 4
unfolding two refusal lawful_record all_below unused_at filled total
ranges_next = refl

bars_next : run_number two (negsuc 4 ∷ pos 0 ∷ []) (pos 0 ∷ pos START ∷ []) false 0 0 ≡ 13
unfolding two refusal lawful_record all_below unused_at filled total
bars_next = refl

-- two tasks ask for 8 post words and 24 atom words: one less of either is too little
posts_short : run_number two (negsuc 4 ∷ pos 0 ∷ []) (pos 0 ∷ pos START ∷ []) true 7 24 ≡ 9
unfolding two refusal lawful_record all_below unused_at filled total
posts_short = refl

words_last : run_number two (negsuc 4 ∷ pos 0 ∷ []) (pos 0 ∷ pos START ∷ []) true 8 23 ≡ 9
unfolding two refusal lawful_record all_below unused_at filled total
words_last = refl

accepted : run_number two (negsuc 4 ∷ pos 0 ∷ []) (pos 0 ∷ pos START ∷ []) true 8 24 ≡ 0
unfolding two refusal lawful_record all_below unused_at filled total
accepted = refl

-- The limits of starts are starts, below and above; a range may hold one start, and no fewer.
at_the_limits : run_number two (neg_ℤ (pos START) ∷ pos START ∷ []) (neg_ℤ (pos START) ∷ pos START ∷ []) true 8 24 ≡ 0
unfolding two refusal lawful_record all_below unused_at filled total
at_the_limits = refl

below_the_limits : run_number two (neg_ℤ (pos (START + 1)) ∷ pos 0 ∷ []) (pos 0 ∷ pos 0 ∷ []) true 8 24 ≡ 3
unfolding two refusal lawful_record all_below unused_at filled total
below_the_limits = refl

-- a range more than tasks, or a range less
one_range_more : run_number two (pos 0 ∷ pos 0 ∷ pos 0 ∷ []) (pos 0 ∷ pos 0 ∷ pos 0 ∷ []) true 8 24 ≡ 10
unfolding two refusal lawful_record all_below unused_at filled total
one_range_more = refl

one_range_less : run_number two (pos 0 ∷ []) (pos 0 ∷ []) true 8 24 ≡ 10
unfolding two refusal lawful_record all_below unused_at filled total
one_range_less = refl
