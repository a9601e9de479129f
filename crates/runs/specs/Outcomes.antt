-- Outcomes by the papers' numbers.
use Rattle.std.specs.Prelude.{[], ◌∷◌, ℕ, pos, nat_abs, get_or}
use Rattle.integers.specs.Answers.{Answer, answered, refused_by}
use Rattle.integers.specs.Refused.{number_of}
use Rattle.runs.specs.declared.outcome.Outcome.{Outcome}
use Rattle.runs.specs.declared.outcome.Outcome.TheVariants as outcome

-- the values are the post count and, of an overload's reason, the first atom's index and the atom count
abbrev pub outcome_numbers : Outcome → Answer
outcome_numbers (outcome.Done posts) = answered 0 (pos posts ∷ [])
outcome_numbers (outcome.Overload posts first count) = answered 1 (pos posts ∷ pos first ∷ pos count ∷ [])
outcome_numbers (outcome.Emptied posts) = answered 2 (pos posts ∷ [])
outcome_numbers (outcome.Refused why) = refused_by (number_of why)

-- value k of an outcome; 0 where it has none
abbrev pub value_of : Outcome → ℕ → ℕ
value_of o k = nat_abs (get_or (outcome_numbers o).values k (pos 0))

-- of an overload's reason the first atom's index, and how many atoms there are
abbrev pub first_of : Outcome → ℕ
first_of o = value_of o 1

abbrev pub count_of : Outcome → ℕ
count_of o = value_of o 2
