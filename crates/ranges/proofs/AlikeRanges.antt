-- Only bars within the range count: ranges with the same ends that bar the same values between them permit the same starts, and the same start is stored in them.
use mathlib.Core.Path.{◌≡◌, refl, sym, subst}
use mathlib.Core.Bool.{true}
use mathlib.Core.Logic.{◌⊎◌, inl, inr, ◌↔◌}
use lib.IntN.{ℤ}
use lib.Signed.{◌≤ℤ◌, ◌<ℤ◌}
use Rattle.integers.proofs.Ints.{ints}
use Rattle.integers.specs.WholeNumbers.{has}
use Rattle.integers.proofs.WholeNumbers.{has_none}
use Rattle.ranges.specs.declared.range.Range.{Range}
use Rattle.ranges.specs.Bars.{bars_of, BarsFit}
use Rattle.ranges.specs.Moves.{start_stored, latest_stored}
use Rattle.ranges.specs.Permitted.{Permitted}
use Rattle.ranges.proofs.MovedStarts.{first_permitted, last_permitted}

-- the same ends, and between them the same bars
pub record Alike (y y' : Range) : Type 0 where
  pub earliest : y.earliest ≡ y'.earliest
  pub latest : y.latest ≡ y'.latest
  pub bars : (z : ℤ) → y.earliest ≤ℤ z → z ≤ℤ y.latest → (has (bars_of y) z ≡ true) ↔ (has (bars_of y') z ≡ true)

alike_back : (y y' : Range) → Alike y y' → Alike y' y
alike_back y y' a = record { earliest = sym a.earliest; latest = sym a.latest; bars = λ z h k. (let b = a.bars z (omega (ints, a.earliest)) (omega (ints, a.latest)) in (b.1, b.0)) }

-- ranges that differ in places past the count alone are alike
pub unused_places : (y y' : Range) → y.earliest ≡ y'.earliest → y.latest ≡ y'.latest → bars_of y ≡ bars_of y' → Alike y y'
unused_places y y' e l b = record { earliest = e; latest = l; bars = λ z h k. (λ t. subst (λ bs. has bs z ≡ true) b t, λ t. subst (λ bs. has bs z ≡ true) (sym b) t) }

-- a range whose bars all lie outside it is like one that has none
pub bars_outside : (y : Range) → ((z : ℤ) → has (bars_of y) z ≡ true → (z <ℤ y.earliest) ⊎ (y.latest <ℤ z))
    → Alike y (record { earliest = y.earliest; latest = y.latest; count = 0; barred = y.barred })
bars_outside y out = record { earliest = refl; latest = refl; bars = λ z h k. (λ t. absurd (elim (out z t) [ inl o ↦ omega ints | inr o ↦ omega ints ]), λ t. absurd (has_none z t)) }

-- they permit the same starts
module _ (y y' : Range) (a : Alike y y') where
  pub same_permitted : (z : ℤ) → Permitted y z → Permitted y' z
  same_permitted z p = record { from = omega (ints, a.earliest, p.from); to = omega (ints, a.latest, p.to); free = λ t. p.free ((a.bars z p.from p.to).1 t) }

-- and the same starts are stored
module _ (y y' : Range) (a : Alike y y') (f : BarsFit y) (f' : BarsFit y') (z : ℤ) (from : y.earliest ≤ℤ z) (to : z ≤ℤ y.latest) where
  pub same_start : start_stored y z ≡ start_stored y' z
  same_start =
      let l = first_permitted y f z from to in
      let l' = first_permitted y' f' z (omega (ints, a.earliest)) (omega (ints, a.latest)) in
      let up : start_stored y z ≤ℤ start_stored y' z = l.bounds (start_stored y' z) (same_permitted y' y (alike_back y y' a) (start_stored y' z) l'.holds.0, l'.holds.1) in
      let down : start_stored y' z ≤ℤ start_stored y z = l'.bounds (start_stored y z) (same_permitted y y' a (start_stored y z) l.holds.0, l.holds.1) in
      omega ints

  pub same_latest : latest_stored y z ≡ latest_stored y' z
  same_latest =
      let l = last_permitted y f z from to in
      let l' = last_permitted y' f' z (omega (ints, a.earliest)) (omega (ints, a.latest)) in
      let down : latest_stored y' z ≤ℤ latest_stored y z = l.bounds (latest_stored y' z) (same_permitted y' y (alike_back y y' a) (latest_stored y' z) l'.holds.0, l'.holds.1) in
      let up : latest_stored y z ≤ℤ latest_stored y' z = l'.bounds (latest_stored y z) (same_permitted y y' a (latest_stored y z) l.holds.0, l.holds.1) in
      omega ints
