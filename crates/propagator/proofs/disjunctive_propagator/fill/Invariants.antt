-- The invariant: the first x leaves are white and the rest empty, and `ect` is the ect of their tasks.
use mathlib.Core.List.{List}
use Prim.Native.Nat.{ℕ}
use Rattle.trees.specs.Trees.{HasLeaves}
use Rattle.propagator.specs.declared.task_arrays.TaskArrays.{TaskArrays}
use Rattle.propagator.specs.FilledTheta.{Fillable}
use Rattle.propagator.proofs.FilledTheta.{up_to, Ect}
use Rattle.propagator.proofs.disjunctive_propagator.fill.Given as goal

-- the first x leaves are white
pub record Loop (tasks : TaskArrays) (nodes₀ nodes : List ℕ) (ect x : ℕ) : Type 0 where
  pub fillable : Fillable tasks nodes₀
  pub leaves : (f : Fillable tasks nodes₀) → HasLeaves f.J f.est_order (up_to f x) tasks.size.inner nodes
  pub later : (f : Fillable tasks nodes₀) → Ect f x ect

abbrev pub invariant-loop-x : goal.invariant-loop-x
invariant-loop-x l = Loop l.tasks l.initial.nodes l.nodes l.ect l.x
