-- The definitions at small inputs.
use Rattle.std.specs.Prelude.{◌≡◌, refl, List, [], ◌∷◌, ◌+◌, ℤ, pos, negsuc}
use Rattle.integers.specs.FilledLists.{filled}
use Rattle.integers.specs.Limits.{LENGTH}
use Rattle.integers.specs.Tests.{all_below, refusal}
use Rattle.integers.specs.Extremes.{minℤ, maxℤ}
use Rattle.scheduling.specs.Scheduling.{total}
use Rattle.records.specs.declared.record.DisjunctivePropagator.{DisjunctivePropagator}
use Rattle.records.specs.Records.{unused_at, lawful_record, new_record}
use Rattle.fixed_schedules.specs.FixedSchedules.{tasks_on}
use Rattle.busiest_stretch.specs.Stretches.{common, covered, stretch_number}

-- task 0 starts at −2 and lasts 1, task 1 starts at 1 and lasts 4
two : DisjunctivePropagator
two = new_record (pos 1 ∷ pos 4 ∷ [])

starts : List ℤ
starts = negsuc 1 ∷ pos 1 ∷ []

-- a task and a stretch that touch have nothing in common
touching : common (pos 1) (pos 5) (negsuc 3) (pos 1) ≡ 0
unfolding minℤ maxℤ
touching = refl

-- Stretches of length 5 from −2, −1, 0 and 1 on. The least start that reaches the most is 0. No task starts or ends there; the stretch ends with task 1.
from_first : covered (tasks_on two starts starts) 5 (negsuc 1) ≡ 3
unfolding two starts minℤ maxℤ total filled
from_first = refl

from_next : covered (tasks_on two starts starts) 5 (negsuc 0) ≡ 3
unfolding two starts minℤ maxℤ total filled
from_next = refl

from_busiest : covered (tasks_on two starts starts) 5 (pos 0) ≡ 4
unfolding two starts minℤ maxℤ total filled
from_busiest = refl

from_last : covered (tasks_on two starts starts) 5 (pos 1) ≡ 4
unfolding two starts minℤ maxℤ total filled
from_last = refl

-- the limits of 23, which is tried after 14
longest : stretch_number two starts starts (pos LENGTH) ≡ 0
unfolding two starts refusal lawful_record all_below unused_at filled total
longest = refl

too_long : stretch_number two starts starts (pos (LENGTH + 1)) ≡ 23
unfolding two starts refusal lawful_record all_below unused_at filled total
too_long = refl

no_time : stretch_number two starts starts (pos 0) ≡ 23
unfolding two starts refusal lawful_record all_below unused_at filled total
no_time = refl

overlap : stretch_number two (pos 1 ∷ pos 1 ∷ []) (pos 1 ∷ pos 1 ∷ []) (pos 0) ≡ 14
unfolding two refusal lawful_record all_below unused_at filled total
overlap = refl
