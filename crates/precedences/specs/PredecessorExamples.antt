-- The definitions at small tasks.
use Rattle.std.specs.Prelude.{◌≡◌, refl, true, false, [], ◌∷◌, pos}
use Rattle.scheduling.specs.Scheduling.{whole, Tasks, tasks_of}
use Rattle.precedences.specs.Predecessors.{predecessors}

-- 0..6,3; 1..1,5: task 1 starts before task 0 can end, so it comes first. Task 0 can still start at the earliest end of task 1
unfoldable pub F : Tasks whole
F = tasks_of (3 ∷ 5 ∷ []) (pos 0 ∷ pos 1 ∷ []) (pos 6 ∷ pos 1 ∷ [])

one_before_zero : predecessors F 0 1 ≡ true
unfolding F
one_before_zero = refl

zero_may_follow : predecessors F 1 0 ≡ false
unfolding F
zero_may_follow = refl

-- no task comes before itself
not_itself : predecessors F 0 0 ≡ false
unfolding F
not_itself = refl

-- 0..9,3; 0..2,1: task 1 starts at 2 at the latest, and task 0 ends at 3 at the earliest: one unit decides
just_before : predecessors (tasks_of (3 ∷ 1 ∷ []) (pos 0 ∷ pos 0 ∷ []) (pos 9 ∷ pos 2 ∷ [])) 0 1 ≡ true
just_before = refl

-- with one unit more task 1 can start where task 0 ends
just_after : predecessors (tasks_of (3 ∷ 1 ∷ []) (pos 0 ∷ pos 0 ∷ []) (pos 9 ∷ pos 3 ∷ [])) 0 1 ≡ false
just_after = refl
