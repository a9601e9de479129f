-- The numbers that a run answers, by its trace.
use Rattle.std.specs.Prelude.{[], ◌∷◌, ℕ, pos, length}
use Rattle.integers.specs.Answers.{Answer, answered}
use Rattle.runs.specs.Traces.{End, done, overload, emptied, Trace}
use Rattle.runs.specs.Words.{reasons}

-- the numbers of an end, after so many posts and atoms
abbrev pub end_numbers : ℕ → ℕ → End → Answer
end_numbers posts atoms done = answered 0 (pos posts ∷ [])
end_numbers posts atoms (overload reason) = answered 1 (pos posts ∷ pos atoms ∷ pos (length reason) ∷ [])
end_numbers posts atoms emptied = answered 2 (pos posts ∷ [])

-- what a run with this trace answers: an overload's reason stands after those of the posts
abbrev pub trace_numbers : Trace → Answer
trace_numbers t = end_numbers (length t.posts) (length (reasons t.posts)) t.end
