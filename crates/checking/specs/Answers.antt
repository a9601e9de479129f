-- The variable state's answers by the papers' numbers.
use Rattle.std.specs.Prelude.{◌≡◌, Bool, true, false, [], ◌∷◌, pos, negsuc, Result, Ok, Err}
use Rattle.integers.specs.Answers.{Answer, answered, refused_by}
use Rattle.integers.specs.Refused.{number_of}
use Rattle.integers.specs.declared.refused.Refusal.{Refusal}
use Rattle.checking.specs.declared.int_ext.IntExt.{IntExt}
use Rattle.checking.specs.declared.int_ext.IntExt.TheVariants.{Int, NegativeInf, PositiveInf}
use Rattle.checking.specs.declared.variable_state.Application.{Application}
use Rattle.checking.specs.declared.variable_state.Application.TheVariants as application
use Rattle.checking.specs.declared.variable_state.Applied.{Applied}

-- the value of a contradiction is its variable
abbrev pub application_numbers : Application → Answer
application_numbers application.Consistent = answered 0 []
application_numbers (application.Contradiction x) = answered 2 (pos x ∷ [])
application_numbers (application.Refused why) = refused_by (number_of why)

-- The answer has these numbers, and the state after it is this one.
pub record AppliedAs (defined r : Applied) : Type 0 where
  pub answer : application_numbers r.answer ≡ application_numbers defined.answer
  pub state : r.state ≡ defined.state

abbrev pub numbers_of_truth : Result Bool Refusal → Answer
numbers_of_truth (Ok true) = answered 0 []
numbers_of_truth (Ok false) = answered 1 []
numbers_of_truth (Err why) = refused_by (number_of why)

-- the first value of a bound is 0, or an infinity's sign; the second is the whole number
abbrev pub numbers_of_ext : IntExt → Answer
numbers_of_ext (Int z) = answered 0 (pos 0 ∷ z ∷ [])
numbers_of_ext NegativeInf = answered 0 (negsuc 0 ∷ [])
numbers_of_ext PositiveInf = answered 0 (pos 1 ∷ [])

abbrev pub numbers_of_bound : Result IntExt Refusal → Answer
numbers_of_bound (Ok b) = numbers_of_ext b
numbers_of_bound (Err why) = refused_by (number_of why)
