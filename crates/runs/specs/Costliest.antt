-- The costliest tasks of each count: task k has the single start 10k, and lasts 10.
use Rattle.std.specs.Prelude.{List, ℕ, ◌*◌, ℤ, pos, replicate}
use Rattle.runs.specs.Runs.{tabulate}

-- their starts and their durations
abbrev pub costliest_starts : ℕ → List ℤ
costliest_starts n = tabulate (λ k. pos (10 * k)) 0 n

abbrev pub costliest_durations : ℕ → List ℕ
costliest_durations n = replicate n 10
