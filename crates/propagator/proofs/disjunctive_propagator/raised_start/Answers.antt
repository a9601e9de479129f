-- The tree's ect is that of its leaves, and it raises the start.
use mathlib.Core.Path.{ap, ◌∙◌}
use mathlib.Core.Option.{Option}
use Prim.Native.Nat.{ℕ}
use Rattle.trees.specs.Ects.{raised_to}
use Rattle.propagator.proofs.disjunctive_propagator.raised_start.Goals as goal

pub returns : goal.returns
returns c = λ inner h. c.raised.ensures ∙ ap (λ (o : Option ℕ). raised_to c.args.start o) (c.ect.ensures inner h)
