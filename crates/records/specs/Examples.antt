-- The definitions at small inputs.
use Rattle.std.specs.Prelude.{◌≡◌, refl, [], ◌∷◌, ◌+◌, ◌-◌, pos, replicate}
use Rattle.integers.specs.Limits.{TASKS, DURATIONS}
use Rattle.integers.specs.Tests.{all_below, refusal}
use Rattle.scheduling.specs.Scheduling.{total}
use Rattle.records.specs.Records.{creation_tests}

-- Creation: TASKS tasks pass and one more does not; each number is tried over the whole input before the next.
tasks_most : refusal (creation_tests (replicate TASKS (pos 1))) ≡ 0
unfolding refusal all_below total
tasks_most = refl

tasks_above : refusal (creation_tests (replicate (TASKS + 1) (pos 0))) ≡ 1
unfolding refusal all_below total
tasks_above = refl

tasks_none : refusal (creation_tests []) ≡ 1
unfolding refusal all_below total
tasks_none = refl

duration_zero : refusal (creation_tests (pos (DURATIONS + 1) ∷ pos 0 ∷ [])) ≡ 2
unfolding refusal all_below total
duration_zero = refl

sum_fits : refusal (creation_tests (pos (DURATIONS - 1) ∷ pos 1 ∷ [])) ≡ 0
unfolding refusal all_below total
sum_fits = refl

sum_above : refusal (creation_tests (pos (DURATIONS - 1) ∷ pos 2 ∷ [])) ≡ 5
unfolding refusal all_below total
sum_above = refl
