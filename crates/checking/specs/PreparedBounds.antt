-- What a check asks of its lists: their answer, and the bounds that their state leaves to the tasks.
use Rattle.std.specs.Prelude.{◌≡◌, List, ℕ, ℤ}
use Rattle.checking.specs.declared.variable_state.Application.{Application}
use Rattle.checking.specs.declared.variable_state.Application.TheVariants.{Consistent}
use Rattle.checking.specs.States.{prepared}
use Rattle.checking.specs.TaskBounds.{bounds_among}
use Rattle.checking.specs.declared.start_bounds.Bounds.{Bounds}

-- The answer is that of the prepared state, and where it is consistent these are the bounds of its first n variables.
pub record BoundsPrepared (premises consequent : List ℤ) (n : ℕ) (b : Bounds) (r : Application) : Type 0 where
  pub answer : r ≡ (prepared premises consequent).answer
  pub bounds : r ≡ Consistent → b ≡ bounds_among (prepared premises consequent).state n
