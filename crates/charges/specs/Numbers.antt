-- The answer by the papers' numbers.
use Rattle.std.specs.Prelude.{[], ◌∷◌, pos, Ok, Err}
use Rattle.integers.specs.Answers.{Answer, answered, refused_by}
use Rattle.integers.specs.Refused.{number_of}
use Rattle.charges.specs.declared.answer.Charges.{Charges}

-- the value is the total of the charges that are made
abbrev pub charges_numbers : Charges → Answer
charges_numbers c = elim c.answer [ Ok made ↦ answered 0 (pos c.charged.total ∷ []) | Err why ↦ refused_by (number_of why) ]
