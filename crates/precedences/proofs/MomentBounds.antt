-- The bounds over whole numbers, and what the code finds over their moments.
use mathlib.Core.Path.{◌≡◌, sym, ap, ◌∙◌}
use mathlib.Core.Bool.{Bool, true, false, not, ◌&&◌}
use mathlib.Core.Logic.{inl, inr}
use mathlib.Core.Option.{some}
use Prim.Native.Nat.{ℕ, ◌<◌}
use native.Mathlib.Omega.{arith}
use lib.Dec.{eqb, ltb}
use lib.IntN.{ℤ, pos, ◌+ℤ◌}
use lib.Signed.{lt_z, ◌≤ℤ◌, ◌<ℤ◌}
use borrow.Author.Tests.{lt-ltb, le-ltb}
use Rattle.integers.specs.Moments.{moment, Above, zero_at}
use Rattle.integers.proofs.Bools.{bool}
use Rattle.integers.proofs.Ints.{ints}
use Rattle.integers.proofs.MomentSums.{at_moment, above_up, reflect, reflect<, plus, plus_above}
use Rattle.scheduling.specs.Scheduling.{whole, natural, Tasks, Proper, Ect}
use Rattle.scheduling.proofs.Agreement.{set_ect}
use Rattle.scheduling.proofs.Ects.{ect_is}
use Rattle.scheduling.proofs.Clocks.{sound, Is, ect→, ect←, part_above}
use Rattle.scheduling.specs.Moments.{moments}
use Rattle.trees.specs.Ects.{exceeds}
use Rattle.trees.proofs.Ects.{exceeds_yes, some_within}
use Rattle.precedences.specs.Predecessors.{predecessors, PrecedenceBound}
use Rattle.precedences.specs.PredecessorArrays.{comes_before, bound_at}

-- the test of whole numbers and that of their moments
tests_agree : (o : ℕ) (a b : ℤ) → Above o a → Above o b → lt_z a b ≡ ltb (moment o a) (moment o b)
tests_agree o a b p q = elim (bool (lt_z a b)) [
  | inl y ↦ y ∙ sym (lt-ltb (moment o a) (moment o b) (omega (ints, at_moment o a p, at_moment o b q)))
  | inr y ↦ y ∙ sym (le-ltb (moment o a) (moment o b) (omega (ints, at_moment o a p, at_moment o b q)))
]

module _ (Z : Tasks whole) (ok : Proper Z) (low : (k : ℕ) → k < Z.count → Above zero_at (Z.earliest k)) where
  abbrev N : Tasks natural
  N = moments zero_at Z

  fine : Proper N
  fine = sound zero_at Z ok low

  pub high : (k : ℕ) → k < Z.count → Above zero_at (Z.latest k)
  high k q = above_up zero_at (Z.earliest k) (Z.latest k) (ok.ranges k q) (low k q)

  module _ (i : ℕ) (q : i < Z.count) where
    pub same_tasks : (j : ℕ) → j < Z.count → predecessors Z i j ≡ comes_before N i j
    same_tasks j r = ap (λ (b : Bool). not (eqb j i) && b)
        (tests_agree zero_at (Z.latest j) (Z.earliest i +ℤ pos (Z.duration i)) (high j r) (plus_above zero_at (Z.earliest i) (Z.duration i) (low i q))
        ∙ ap (ltb (moment zero_at (Z.latest j))) (plus zero_at (Z.earliest i) (Z.duration i) (low i q)))

    -- a bound, and its moment
    pub record BoundMoment (b : ℤ) : Type 0 where
      pub above : Above zero_at b
      pub is : bound_at N i ≡ some (moment zero_at b)

    pub found : (b : ℤ) → PrecedenceBound Z i b → BoundMoment b
    found b e =
        let v : Ect N (comes_before N i) (moment zero_at b) = set_ect N (predecessors Z i) (comes_before N i) same_tasks (moment zero_at b) (ect→ zero_at Z ok low (predecessors Z i) b e) in
        record { above = part_above zero_at Z ok low (predecessors Z i) b e.holds; is = (ect_is N fine (comes_before N i) (moment zero_at b)).1 v }

    -- what the code finds, where it finds a moment, is that of a bound
    pub record Gives (v : ℕ) : Type 0 where
      pub bound : ℤ
      pub is_bound : PrecedenceBound Z i bound
      pub above : Above zero_at bound
      pub is : moment zero_at bound ≡ v

    pub gives : (v : ℕ) → bound_at N i ≡ some v → Gives v
    gives v z =
        let w : Ect N (predecessors Z i) v = set_ect N (comes_before N i) (predecessors Z i) (λ j r. sym (same_tasks j r)) v ((ect_is N fine (comes_before N i) v).0 z) in
        let e : Is zero_at Z ok low (Ect Z (predecessors Z i)) v = ect← zero_at Z ok low (predecessors Z i) v w in
        record { bound = e.at; is_bound = e.holds; above = e.above; is = e.is }

    -- The bound passes s, a latest or an earliest start, or no bound does.
    module _ (s : ℤ) (deep : Above zero_at s) where
      pub passes : exceeds (bound_at N i) (moment zero_at s) ≡ true → (b : ℤ) × PrecedenceBound Z i b × (s <ℤ b)
      passes h =
          let (v, z, past) = exceeds_yes (bound_at N i) (moment zero_at s) h in
          let g = gives v z in
          (g.bound, g.is_bound, reflect< zero_at s g.bound deep g.above (omega (arith, g.is)))

      pub fits : exceeds (bound_at N i) (moment zero_at s) ≡ false → (b : ℤ) → PrecedenceBound Z i b → b ≤ℤ s
      fits h b e = let g = found b e in reflect zero_at b s g.above deep (some_within (bound_at N i) (moment zero_at b) (moment zero_at s) g.is h)
