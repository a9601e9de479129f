-- The invariant `Level`: at the head of level `index`, leaves and slices are at a state from which the definition's outer loop has the same trace.
use mathlib.Core.Path.{◌≡◌}
use mathlib.Core.Bool.{Bool}
use mathlib.Core.List.{List}
use Prim.Native.Nat.{ℕ, ◌<◌}
use lib.IntN.{ℤ}
use lib.ListN.{length}
use Rattle.propagator.specs.declared.task_arrays.TaskArrays.{TaskArrays}
use Rattle.propagator.specs.declared.disjunctive_propagator.Written.{Written}
use Rattle.propagator.specs.EdgeFinding.{EdgeFindable}
use Rattle.propagator.proofs.OuterLoop.{Level}
use Rattle.propagator.proofs.disjunctive_propagator.edge_finding.Given as goal

-- the level that the loop stands at; the slices keep their lengths
pub record Loop (tasks : TaskArrays) (ect : ℕ) (past : Bool) (n : ℕ) (nodes₀ : List ℕ) (earliest₀ posts₀ atoms₀ : List ℤ)
    (nodes : List ℕ) (earliest posts atoms : List ℤ)
    (w : Written) (last : ℕ) (joined : Bool) (index : ℕ) : Type 0 where
  pub findable : EdgeFindable tasks ect past nodes₀ earliest₀ posts₀ atoms₀
  pub level : (s : EdgeFindable tasks ect past nodes₀ earliest₀ posts₀ atoms₀) → Level s index nodes earliest posts atoms w last joined
  pub count : n ≡ tasks.size.leaves
  pub small : index < tasks.size.leaves
  pub starts_length : length earliest ≡ length earliest₀
  pub posts_length : length posts ≡ length posts₀
  pub atoms_length : length atoms ≡ length atoms₀

abbrev pub invariant-loop-index : goal.invariant-loop-index
invariant-loop-index l =
    Loop l.tasks l.ect l.past l.n l.initial.nodes l.initial.earliest l.initial.posts l.initial.atoms
    l.nodes l.earliest l.posts l.atoms l.w l.last_ect_bar l.joined l.index
