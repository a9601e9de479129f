-- What the code holds: raised starts in arrays, over moments.
use Rattle.std.specs.Prelude.{Option, Some, None, List, ℕ, ◌≤◌, ◌<◌, get_or}
use Rattle.scheduling.specs.Scheduling.{natural, Tasks}
use Rattle.trees.specs.Ects.{raised_to}
use Rattle.precedences.specs.PredecessorArrays.{bound_at}

-- task i's earliest start, raised
abbrev pub raised_there : Tasks natural → ℕ → ℕ
raised_there J i = raised_to (J.earliest i) (bound_at J i)

-- no raised start of the first n is past its latest start
abbrev pub NonePast : List ℕ → List ℕ → ℕ → Type 0
NonePast raised lst n = (k : ℕ) → k < n → get_or raised k 0 ≤ get_or lst k 0

-- the first of n tasks whose raised start is past its latest start, or that there is none
abbrev pub FirstPast : List ℕ → List ℕ → ℕ → Option ℕ → Type 0
FirstPast raised lst n (Some i) = (i < n) × (get_or lst i 0 < get_or raised i 0) × NonePast raised lst i
FirstPast raised lst n None = NonePast raised lst n
