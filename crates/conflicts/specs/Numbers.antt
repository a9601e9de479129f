-- What was found, by the papers' numbers.
use Rattle.std.specs.Prelude.{[], ◌∷◌, pos}
use Rattle.integers.specs.Answers.{Answer, answered, refused_by}
use Rattle.integers.specs.Refused.{number_of}
use Rattle.conflicts.specs.declared.answer.Found.{Found}
use Rattle.conflicts.specs.declared.answer.Found.TheVariants.{NothingFound, Overload, Late, Refused}

-- the values of a late task are its number, its latest start and its bound
abbrev pub found_numbers : Found → Answer
found_numbers NothingFound = answered 0 []
found_numbers Overload = answered 1 []
found_numbers (Late task latest_start bound) = answered 2 (pos task ∷ latest_start ∷ bound ∷ [])
found_numbers (Refused why) = refused_by (number_of why)
