-- P from both sides: a task is in P exactly where it is another one that no two starts from the ranges put at or after the end of i.
use mathlib.Core.Path.{◌≡◌, ap}
use mathlib.Core.Bool.{true, not}
use mathlib.Core.Logic.{◌↔◌, inl, inr}
use Prim.Native.Nat.{ℕ, ◌<◌}
use lib.Dec.{eqb}
use lib.IntN.{pos, ◌+ℤ◌}
use lib.Signed.{lt_z, ≤ℤ_refl}
use borrow.Author.Tests.{eqb-false, ne_eqb, not-true}
use Rattle.integers.proofs.Bools.{bool, and_true, and_yes}
use Rattle.integers.proofs.Ints.{ints, sumℤ}
use Rattle.scheduling.specs.Scheduling.{whole, Tasks, Proper}
use Rattle.precedences.specs.Predecessors.{predecessors, NeverAfter}

module _ (J : Tasks whole) (ok : Proper J) (i j : ℕ) (q : i < J.count) (r : j < J.count) where
  pub exactly_before : (predecessors J i j ≡ true) ↔ ((j ≡ i → ⊥) × NeverAfter J i j)
  exactly_before = (there, back)
    where
      there : predecessors J i j ≡ true → (j ≡ i → ⊥) × NeverAfter J i j
      there m = let (other, y) = and_true _ _ m in
          (eqb-false j i (not-true (eqb j i) other), λ u v h k after. omega (ints, y, sumℤ (J.earliest i) (pos (J.duration i)), sumℤ u (pos (J.duration i))))

      -- i at its earliest start and j at its latest are two such starts
      back : (j ≡ i → ⊥) × NeverAfter J i j → predecessors J i j ≡ true
      back (other, never) = and_yes (not (eqb j i)) (lt_z (J.latest j) (J.earliest i +ℤ pos (J.duration i))) (ap not (ne_eqb j i other))
          (elim (bool (lt_z (J.latest j) (J.earliest i +ℤ pos (J.duration i)))) [
            | inl y ↦ y
            | inr y ↦ absurd (never (J.earliest i) (J.latest j) (≤ℤ_refl (J.earliest i), ok.ranges i q) (ok.ranges j r, ≤ℤ_refl (J.latest j)) (omega (ints, y)))
          ])
