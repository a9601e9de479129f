-- The raised starts over whole numbers, from those that the code finds over their moments.
use mathlib.Core.Path.{◌≡◌, sym, ap, subst, ◌∙◌}
use mathlib.Core.Bool.{true, false}
use mathlib.Core.Logic.{◌⊎◌, inl, inr}
use Prim.Native.Nat.{ℕ, ◌<◌}
use native.Mathlib.Omega.{arith}
use lib.IntN.{ℤ}
use lib.Signed.{◌≤ℤ◌}
use Rattle.integers.specs.Moments.{moment, Above, instant, zero_at}
use Rattle.integers.proofs.Bools.{bool}
use Rattle.integers.proofs.MomentSums.{reflect, instant_above, moment_instant, instant_moment}
use Rattle.scheduling.specs.Scheduling.{whole, natural, Tasks, Proper, Largest}
use Rattle.scheduling.specs.Moments.{moments}
use Rattle.trees.specs.Ects.{exceeds}
use Rattle.trees.proofs.Ects.{exceeds_yes, raised_from, raised_bound, raised_up, raised_not}
use Rattle.precedences.specs.Predecessors.{PrecedenceBound}
use Rattle.precedences.specs.PredecessorArrays.{bound_at}
use Rattle.precedences.proofs.MomentBounds.{found, gives}
use Rattle.precedences.specs.PassArrays.{raised_there}

module _ (Z : Tasks whole) (ok : Proper Z) (low : (k : ℕ) → k < Z.count → Above zero_at (Z.earliest k)) (i : ℕ) (q : i < Z.count) where
  abbrev N : Tasks natural
  N = moments zero_at Z

  -- The raised start is the larger of the old one and the bound.
  pub raised_is : Largest whole (λ v. (Z.earliest i ≡ v) ⊎ PrecedenceBound Z i v) (instant zero_at (raised_there N i))
  raised_is = record {
    holds = elim (bool (exceeds (bound_at N i) (N.earliest i))) [ inl h ↦ inr (at_bound h) | inr h ↦ inl (at_start h) ];
    bounds = λ w c. elim c [ inl e ↦ old w e | inr e ↦ new w e ];
  }
    where
      at_bound : exceeds (bound_at N i) (N.earliest i) ≡ true → PrecedenceBound Z i (instant zero_at (raised_there N i))
      at_bound h =
          let (v, z, past) = exceeds_yes (bound_at N i) (N.earliest i) h in
          let g = gives Z ok low i q v z in
          subst (PrecedenceBound Z i) (sym (instant_moment zero_at g.bound g.above) ∙ ap (instant zero_at) (g.is ∙ sym (raised_up (N.earliest i) (bound_at N i) v z past))) g.is_bound

      at_start : exceeds (bound_at N i) (N.earliest i) ≡ false → Z.earliest i ≡ instant zero_at (raised_there N i)
      at_start h = sym (instant_moment zero_at (Z.earliest i) (low i q)) ∙ ap (instant zero_at) (sym (raised_not (N.earliest i) (bound_at N i) h))

      old : (w : ℤ) → Z.earliest i ≡ w → w ≤ℤ instant zero_at (raised_there N i)
      old w e = subst (λ (x : ℤ). x ≤ℤ instant zero_at (raised_there N i)) e
          (reflect zero_at (Z.earliest i) (instant zero_at (raised_there N i)) (low i q) (instant_above zero_at (raised_there N i))
          (omega (arith, raised_from (N.earliest i) (bound_at N i), moment_instant zero_at (raised_there N i))))

      new : (w : ℤ) → PrecedenceBound Z i w → w ≤ℤ instant zero_at (raised_there N i)
      new w e = let g = found Z ok low i q w e in
          reflect zero_at w (instant zero_at (raised_there N i)) g.above (instant_above zero_at (raised_there N i))
          (omega (arith, raised_bound (N.earliest i) (bound_at N i) (moment zero_at w) g.is, moment_instant zero_at (raised_there N i)))
