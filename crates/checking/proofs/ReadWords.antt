-- What the machine reads is what was given: a value, three words in their test, and three words in the atom that is made of them.
use mathlib.Core.Path.{◌≡◌, ap, ◌∙◌}
use mathlib.Core.Bool.{true}
use Prim.Native.Nat.{◌<◌}
use native.Mathlib.Omega.{arith}
use lib.IntN.{ℤ}
use mir.Syntax.{w32}
use mir.Val.{SFits, to_z, of_z}
use Rattle.integers.specs.Limits.{VARIABLES}
use Rattle.integers.proofs.Ints.{back}
use Rattle.scheduling.specs.Scheduling.{Atom}
use Rattle.checking.specs.declared.atomic_constraint.AtomicConstraint.{AtomicConstraint}
use Rattle.checking.specs.Atoms.{atom_of, atom_from, right_atom}
use Rattle.checking.proofs.Atoms.{right_atom_is}

-- an answer for the value as the machine reads it is the answer for the value
pub as_read : {A : Type 0} {r : A} (f : ℤ → A) {value : ℤ} → SFits w32 value → r ≡ f (to_z w32 (of_z w32 value)) → r ≡ f value
as_read f fits e = e ∙ ap f (back fits)

module _ {x k v : ℤ} (fx : SFits w32 x) (fk : SFits w32 k) (fv : SFits w32 v) where
  pub read_right : right_atom (to_z w32 (of_z w32 x)) (to_z w32 (of_z w32 k)) (to_z w32 (of_z w32 v)) ≡ right_atom x k v
  read_right = λ i. right_atom (back fx i) (back fk i) (back fv i)

  pub read_atom : atom_from (to_z w32 (of_z w32 x)) (to_z w32 (of_z w32 k)) (to_z w32 (of_z w32 v)) ≡ atom_from x k v
  read_atom = λ i. atom_from (back fx i) (back fk i) (back fv i)

-- an atom made of right words has a known variable
pub made_known : (x k v : ℤ) (a : AtomicConstraint) → atom_of a ≡ atom_from x k v → right_atom x k v ≡ true → a.identifier < VARIABLES
made_known x k v a e right = let r = (right_atom_is x k v right).known in omega (arith, ap (λ (b : Atom). b.variable) e)
