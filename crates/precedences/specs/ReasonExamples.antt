-- The definitions at small tasks.
use Rattle.std.specs.Prelude.{◌≡◌, refl, Bool, true, false, [], ◌∷◌, ℕ, pos}
use Rattle.integers.specs.FilledLists.{filled}
use Rattle.integers.specs.Tests.{all_below, refusal}
use Rattle.scheduling.specs.Scheduling.{total, tasks_of}
use Rattle.records.specs.Records.{unused_at, lawful_record, new_record}
use Rattle.precedences.specs.PredecessorExamples.{F}
use Rattle.precedences.specs.Bounds.{bound_number}
use Rattle.precedences.specs.Reasons.{at_least, at_most, both_bounds, reason_of, reason_number}

-- why task 0 starts at 6 or later
reason_of_zero : reason_of F 0 ≡ at_least 0 (pos 0) ∷ at_least 1 (pos 1) ∷ at_most 1 (pos 1) ∷ []
unfolding F both_bounds
reason_of_zero = refl

-- Two tasks come before task 1: the reason has them by number.
two_members : reason_of (tasks_of (1 ∷ 9 ∷ 1 ∷ []) (pos 1 ∷ pos 0 ∷ pos 0 ∷ []) (pos 2 ∷ pos 20 ∷ pos 3 ∷ [])) 1
    ≡ at_least 1 (pos 0) ∷ at_least 0 (pos 1) ∷ at_most 0 (pos 2) ∷ at_least 2 (pos 0) ∷ at_most 2 (pos 3) ∷ []
unfolding both_bounds
two_members = refl

-- the reason's tests on those of the first
number : Bool → ℕ → ℕ → ℕ
number bars task words = reason_number (new_record (pos 3 ∷ pos 5 ∷ [])) (pos 0 ∷ pos 1 ∷ []) (pos 6 ∷ pos 1 ∷ []) bars task words

-- the bound's tests on them: no words are asked for
bound_number_is : Bool → ℕ → ℕ
bound_number_is bars task = bound_number (new_record (pos 3 ∷ pos 5 ∷ [])) (pos 0 ∷ pos 1 ∷ []) (pos 6 ∷ pos 1 ∷ []) bars task

no_bound_of_it : bound_number_is true 2 ≡ 17
unfolding bound_number_is refusal lawful_record all_below unused_at filled total
no_bound_of_it = refl

asked : bound_number_is true 1 ≡ 0
unfolding bound_number_is refusal lawful_record all_below unused_at filled total
asked = refl

-- 13 is tried before 17, and 17 before 16
bars_first : number false 2 11 ≡ 13
unfolding number refusal lawful_record all_below unused_at filled total
bars_first = refl

no_such_task : number true 2 11 ≡ 17
unfolding number refusal lawful_record all_below unused_at filled total
no_such_task = refl

no_room : number true 1 11 ≡ 16
unfolding number refusal lawful_record all_below unused_at filled total
no_room = refl

just_room : number true 1 12 ≡ 0
unfolding number refusal lawful_record all_below unused_at filled total
just_room = refl
