-- The reason that a number stands for: `number_of` read backwards.
use Rattle.std.specs.Prelude.{ℕ, ◌-◌, List, [], ◌∷◌, get_or}
use Rattle.integers.specs.declared.refused.Refusal.{Refusal}
use Rattle.integers.specs.declared.refused.Refusal.TheVariants as refusal

-- the reasons by their numbers, from 1
abbrev pub reasons : List Refusal
reasons =
    refusal.TaskCount
    ∷ refusal.Duration
    ∷ refusal.Start
    ∷ refusal.Crossed
    ∷ refusal.DurationSum
    ∷ refusal.Atoms
    ∷ refusal.Premises
    ∷ refusal.Consequent
    ∷ refusal.Room
    ∷ refusal.RangeCount
    ∷ refusal.Post
    ∷ refusal.Removed
    ∷ refusal.Bars
    ∷ refusal.Schedule
    ∷ refusal.PageRoom
    ∷ refusal.ReasonRoom
    ∷ refusal.Task
    ∷ refusal.Question
    ∷ refusal.Due
    ∷ refusal.Record
    ∷ refusal.Holes
    ∷ refusal.State
    ∷ refusal.Length
    ∷ []

-- number n's; a number that no reason has gets the last
abbrev pub reason_of : ℕ → Refusal
reason_of n = get_or reasons (n - 1) refusal.Length
