-- Lists of durations: their places in a record, their sum, and one left out.
use Rattle.std.specs.Prelude.{List, [], ◌∷◌, ◌++◌, ℕ, zero, suc, ◌-◌, length, get_or, replicate}
use Rattle.integers.specs.Limits.{TASKS}
use Rattle.scheduling.specs.Scheduling.{total}

-- the numbers in the first places of a record's array, and 0 in the unused ones
abbrev pub placed : List ℕ → List ℕ
placed l = l ++ replicate (TASKS - length l) 0

-- the sum of a list of durations
abbrev pub sum_of : List ℕ → ℕ
sum_of ds = total (λ k. get_or ds k 0) (length ds)

-- the list without its place t
unfoldable pub without : List ℕ → ℕ → List ℕ
without [] t = []
without (x ∷ xs) zero = xs
without (x ∷ xs) (suc t) = x ∷ without xs t
