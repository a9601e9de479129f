-- The definitions at the paper's instances and at small tasks.
use Rattle.std.specs.Prelude.{◌≡◌, refl, Option, Some, None, List, [], ◌∷◌, map, ℕ, pos}
use Rattle.integers.specs.FilledLists.{filled}
use Rattle.integers.specs.Orders.{sort, insert, numbers, has}
use Rattle.scheduling.specs.Ects.{ect_after}
use Rattle.records.specs.Records.{new_record, moments_in}
use Rattle.overload_test.specs.ReadTasks.{by_completion, answer_from, answer_of}

-- earliest and latest start and duration of each task
abbrev answer : List (ℕ × ℕ × ℕ) → Option ℕ
answer ts = answer_of (moments_in (new_record (map (λ (t : ℕ × ℕ × ℕ). pos t.2) ts)) (map (λ (t : ℕ × ℕ × ℕ). pos t.0) ts)
    (map (λ (t : ℕ × ℕ × ℕ). pos t.1) ts))

-- B overloads; in C the ect reaches the latest completion and does not pass it
instance_B : answer ((0, 2, 4) ∷ (1, 2, 4) ∷ []) ≡ Some 2
unfolding filled sort insert numbers has ect_after answer_from
instance_B = refl

instance_C : answer ((0, 4, 4) ∷ (1, 4, 4) ∷ []) ≡ None
unfolding filled sort insert numbers has ect_after answer_from
instance_C = refl

-- D: all three tie, so the two that overload are read last
instance_D : answer ((0, 13, 1) ∷ (10, 11, 3) ∷ (10, 11, 3) ∷ []) ≡ Some 3
unfolding filled sort insert numbers has ect_after answer_from
instance_D = refl

-- E: its run ends Emptied, and no set overloads
instance_E : answer ((0, 5, 3) ∷ (1, 1, 5) ∷ []) ≡ None
unfolding filled sort insert numbers has ect_after answer_from
instance_E = refl

-- yes before all is read, where the run meets an emptied range first
stops_early : answer ((0, 6, 3) ∷ (1, 1, 3) ∷ (1, 1, 3) ∷ []) ≡ Some 2
unfolding filled sort insert numbers has ect_after answer_from
stops_early = refl

-- the latest start does not order the tasks: here it is the same for all, and completions are 5, 3, 4
by_latest_completion : by_completion (moments_in (new_record (pos 3 ∷ pos 1 ∷ pos 2 ∷ [])) (pos 0 ∷ pos 0 ∷ pos 0 ∷ [])
    (pos 2 ∷ pos 2 ∷ pos 2 ∷ [])) ≡ 1 ∷ 2 ∷ 0 ∷
    []
unfolding filled sort insert numbers
by_latest_completion = refl

-- equal ones go by number
tied_by_number : by_completion (moments_in (new_record (pos 3 ∷ pos 1 ∷ pos 2 ∷ [])) (pos 0 ∷ pos 0 ∷ pos 0 ∷ [])
    (pos 1 ∷ pos 3 ∷ pos 1 ∷ [])) ≡ 2 ∷ 0 ∷ 1 ∷ []
unfolding filled sort insert numbers
tied_by_number = refl
