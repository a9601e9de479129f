-- The lines of the tasks of a set, by number.
use Rattle.std.specs.Prelude.{Bool, ℕ, ℤ, pos, ◌+ℤ◌, length, get_or}
use mathlib.Core.List.{List, flat_map}
use Rattle.integers.specs.Orders.{picked, numbers}
use Rattle.conflicts.specs.Answers.{flagged}
use Rattle.conflict_pages.specs.Lines.{line_of}

-- the tasks of n that have a flag, least first
abbrev pub tasks_of : List Bool → ℕ → List ℕ
tasks_of flags n = picked (flagged flags) (numbers 0 n)

-- task k's line
abbrev pub line_at : List Bool → List ℤ → List ℤ → List ℕ → ℕ → List ℕ
line_at marked es ls ds k = line_of k (get_or es k (pos 0)) (get_or ls k (pos 0) +ℤ pos (get_or ds k 0)) (get_or ds k 0) (flagged marked k)

-- the lines of those that are chosen
abbrev pub task_lines : List Bool → List Bool → List ℤ → List ℤ → List ℕ → List ℕ
task_lines chosen marked es ls ds = flat_map (line_at marked es ls ds) (tasks_of chosen (length es))
