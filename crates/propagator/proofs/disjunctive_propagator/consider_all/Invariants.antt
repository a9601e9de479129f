-- The invariant `Turned`: tree and slices are at a state of the definition's inner loop that has as many turns left as the counter.
use mathlib.Core.Path.{◌≡◌}
use mathlib.Core.List.{List}
use Prim.Native.Nat.{ℕ, ◌-◌}
use lib.IntN.{ℤ}
use lib.ListN.{length}
use Rattle.propagator.specs.declared.task_arrays.TaskArrays.{TaskArrays}
use Rattle.propagator.specs.declared.disjunctive_propagator.Written.{Written}
use Rattle.propagator.specs.Candidates.{Considerable}
use Rattle.propagator.proofs.InnerLoop.{Turned}
use Rattle.propagator.proofs.disjunctive_propagator.consider_all.Given as goal

-- what the loop has got to; the slices keep their lengths
pub record Loop (tasks : TaskArrays) (lct : ℕ) (nodes₀ : List ℕ) (earliest₀ posts₀ atoms₀ : List ℤ) (w₀ : Written)
    (nodes : List ℕ) (earliest posts atoms : List ℤ) (w : Written) (turns left : ℕ) : Type 0 where
  pub considerable : Considerable tasks lct nodes₀ earliest₀ posts₀ atoms₀ w₀
  pub reached : (s : Considerable tasks lct nodes₀ earliest₀ posts₀ atoms₀ w₀) → Turned s turns left nodes earliest posts atoms w
  pub starts_length : length earliest ≡ length earliest₀
  pub posts_length : length posts ≡ length posts₀
  pub atoms_length : length atoms ≡ length atoms₀

abbrev pub invariant-loop-turn : goal.invariant-loop-turn
invariant-loop-turn l =
    Loop l.tasks l.lct l.initial.nodes l.initial.earliest l.initial.posts l.initial.atoms l.initial.w
    l.nodes l.earliest l.posts l.atoms l.w l.turns (l.turns - l._turn)
