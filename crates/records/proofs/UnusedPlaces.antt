-- The walk over a record's unused places gathers their numbers by "or": what it has gathered is 0 exactly where all of them are.
use mathlib.Core.Path.{◌≡◌, ap, ◌∙◌}
use mathlib.Core.Bool.{true, ◌&&◌}
use Prim.Native.Nat.{ℕ}
use native.Mathlib.Omega.{arith}
use lib.Bits.{bit_or, or_add_and, and_le_l, and_le_r, or_zero_r}
use lib.Dec.{eqb}
use borrow.Author.Tests.{eqb-true, eq-eqb}
use Rattle.integers.proofs.Bools.{and_true, and_yes, same_tests}

-- two numbers are 0 where their "or" is
or_none : (a b : ℕ) → bit_or a b ≡ 0 → (a ≡ 0) × (b ≡ 0)
or_none a b z = (omega (arith, or_add_and a b, and_le_r a b), omega (arith, or_add_and a b, and_le_l a b))

or_both : (a b : ℕ) → a ≡ 0 → b ≡ 0 → bit_or a b ≡ 0
or_both a b p q = ap (bit_or a) q ∙ or_zero_r a ∙ p

pub gathered : (a b : ℕ) → eqb (bit_or a b) 0 ≡ eqb a 0 && eqb b 0
gathered a b = same_tests _ _ none all
  where
    none : eqb (bit_or a b) 0 ≡ true → eqb a 0 && eqb b 0 ≡ true
    none h = let z = or_none a b (eqb-true _ 0 h) in and_yes _ _ (eq-eqb a 0 z.0) (eq-eqb b 0 z.1)

    all : eqb a 0 && eqb b 0 ≡ true → eqb (bit_or a b) 0 ≡ true
    all h = let z = and_true _ _ h in eq-eqb _ 0 (or_both a b (eqb-true a 0 z.0) (eqb-true b 0 z.1))
