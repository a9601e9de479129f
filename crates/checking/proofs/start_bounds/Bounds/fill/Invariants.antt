-- The invariant: the first i tasks have the bounds that every function gives them whose results are those of the calls.
use Rattle.std.proofs.Common.{◌≡◌, ℕ, ◌<◌}
use Rattle.std.specs.Prelude.{Option}
use Rattle.checking.specs.declared.start_bounds.TaskBounds.{TaskBounds}
use Rattle.checking.specs.TaskBounds.{bounds_by}
use Rattle.checking.proofs.start_bounds.Bounds.fill.Given as goal

abbrev pub invariant-loop-i : goal.invariant-loop-i
invariant-loop-i g l = (f : ℕ → Option TaskBounds) → ((k : ℕ) (r : Option TaskBounds) → k < l.n → goal.F-post g l.at k r → r ≡ f k) → l.self ≡ bounds_by f l.i
