-- The bounds of a variable as the queries of its state answer them: whole numbers, where they are finite.
use Rattle.std.proofs.Math.Option.{Option, some, none}
use Rattle.std.specs.Prelude.{ℕ, ℤ, pos, Result, Ok, Err}
use Rattle.checking.specs.declared.int_ext.IntExt.TheVariants.{Int, NegativeInf, PositiveInf}
use Rattle.checking.specs.declared.variable_state.VariableState.{VariableState}
use Rattle.checking.specs.declared.int_ext.IntExt.{IntExt}
use Rattle.integers.specs.declared.refused.Refusal.{Refusal}
use Rattle.checking.specs.States.{bound_of, lower_of, upper_of}

-- an answer as a number, where it is one
abbrev pub finite : Result IntExt Refusal → Option ℤ
finite (Ok (Int z)) = some z
finite (Ok NegativeInf) = none
finite (Ok PositiveInf) = none
finite (Err why) = none

-- what `lower_bound` and `upper_bound` answer of variable k
abbrev pub lower_in : VariableState → ℕ → Option ℤ
lower_in s k = finite (bound_of lower_of s (pos k))

abbrev pub upper_in : VariableState → ℕ → Option ℤ
upper_in s k = finite (bound_of upper_of s (pos k))
