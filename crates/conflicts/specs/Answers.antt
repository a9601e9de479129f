-- Answers: sets as flags, and those that show no set.
use Rattle.std.specs.Prelude.{Bool, false, List, ℕ, pos, get_or, replicate}
use Rattle.integers.specs.FilledLists.{filled}
use Rattle.integers.specs.Limits.{TASKS}
use Rattle.scheduling.specs.Scheduling.{TaskSet}
use Rattle.conflicts.specs.declared.answer.Found.{Found}
use Rattle.conflicts.specs.declared.answer.Work.{Work}
use Rattle.conflicts.specs.declared.answer.Conflict.{Conflict}

-- the flags of no task
abbrev pub no_flags : List Bool
no_flags = replicate TASKS false

-- the flags of a set of tasks 0 to n − 1
abbrev pub flags_of : ℕ → TaskSet → List Bool
flags_of n Ω = filled Ω n no_flags

-- the set that has these flags
abbrev pub flagged : List Bool → TaskSet
flagged flags k = get_or flags k false

-- no task
abbrev pub without_work : Work
without_work = record { tasks = no_flags; est = pos 0; p = 0 }

-- an answer that shows no set
abbrev pub without_conflict : Found → Conflict
without_conflict found = record { found = found; set = without_work; lct = pos 0; excess = 0; before = without_work }
