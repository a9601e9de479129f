-- Where `gather` found something, the three numbers of the span are compared.
use native.Mathlib.Omega.{arith}
use Rattle.checker.proofs.EarlyAnswers.{reach_fits, some_overloads}
use Rattle.checker.proofs.formula.overloaded.Goals as goal

pub overflow_add-result : goal.overflow_add-result
overflow_add-result c = let (J, Ω, b) = c.requires in omega (arith, reach_fits b.held (c.gather.ensures J Ω b) c.in-Some.v c.in-Some.is)

pub returns : goal.returns
returns c J Ω b = some_overloads b.held (c.gather.ensures J Ω b) c.in-Some.v c.in-Some.is
