-- Raised from 0, a moment is itself, and none stands for 0.
use mathlib.Core.Path.{◌≡◌, refl, ap, ◌∙◌}
use mathlib.Core.Option.{Option}
use Prim.Native.Nat.{ℕ}
use native.Mathlib.Omega.{arith}
use Rattle.std.specs.Prelude.{None, Some}
use Rattle.std.specs.Prelude as code
use Rattle.std.specs.Option.{unwrap_or}
use Rattle.trees.specs.Ects.{moment_of, raised_to}
use Rattle.propagator.proofs.disjunctive_propagator.ect_bar_moment.Goals as goal

from_zero : (ect : code.Option ℕ) → unwrap_or ect 0 ≡ raised_to 0 (moment_of ect)
from_zero None = refl
from_zero (Some m) = omega arith

pub returns : goal.returns
returns c = λ inner h. c.unwrap_or.ensures ∙ from_zero c.ect_bar.result ∙ ap (λ (o : Option ℕ). raised_to 0 o) (c.ect_bar.ensures inner h)
