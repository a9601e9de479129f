-- The order of whole numbers and infinities.
use mathlib.Core.Path.{◌≡◌, refl, ap}
use mathlib.Core.Logic.{⊎_elim}
use mathlib.Core.Bool.{true, false, not}
use borrow.Author.Tests.{not-true}
use lib.IntN.{ℤ}
use lib.Signed.{le_z, ◌≤ℤ◌, ◌<ℤ◌}
use Rattle.integers.proofs.Bools.{bool, clash}
use Rattle.integers.proofs.Ints.{ints, le_le_z}
use Rattle.integers.proofs.WholeNumbers.{lt_le_z, eq_z_same}
use Rattle.checking.specs.declared.int_ext.IntExt.{IntExt}
use Rattle.checking.specs.declared.int_ext.IntExt.TheVariants.{Int, NegativeInf, PositiveInf}
use Rattle.checking.specs.Domains.{le_ext, lt_ext, eq_ext}

pub le_trans : (a b c : IntExt) → le_ext a b ≡ true → le_ext b c ≡ true → le_ext a c ≡ true
le_trans NegativeInf b c p q = refl
le_trans (Int x) NegativeInf c p q = clash p refl
le_trans (Int x) PositiveInf NegativeInf p q = clash q refl
le_trans (Int x) PositiveInf (Int z) p q = clash q refl
le_trans (Int x) PositiveInf PositiveInf p q = refl
le_trans (Int x) (Int y) NegativeInf p q = clash q refl
le_trans (Int x) (Int y) PositiveInf p q = refl
le_trans (Int x) (Int y) (Int z) p q = le_le_z x z (omega ints)
le_trans PositiveInf NegativeInf c p q = clash p refl
le_trans PositiveInf (Int y) c p q = clash p refl
le_trans PositiveInf PositiveInf c p q = q

pub le_total : (a b : IntExt) → le_ext a b ≡ false → le_ext b a ≡ true
le_total NegativeInf b p = clash refl p
le_total (Int x) NegativeInf p = refl
le_total (Int x) PositiveInf p = clash refl p
le_total (Int x) (Int y) p = le_le_z y x (omega ints)
le_total PositiveInf NegativeInf p = refl
le_total PositiveInf (Int y) p = refl
le_total PositiveInf PositiveInf p = clash refl p

-- a < b ≤ c gives a < c, and a ≤ b < c too
pub lt_le : (a b c : IntExt) → lt_ext a b ≡ true → le_ext b c ≡ true → lt_ext a c ≡ true
lt_le a b c p q = ⊎_elim (λ y. clash (le_trans b c a q y) (not-true (le_ext b a) p)) (λ n. ap not n) (bool (le_ext c a))

pub lt_to_le : (a b : IntExt) → lt_ext a b ≡ true → le_ext a b ≡ true
lt_to_le a b p = le_total b a (not-true (le_ext b a) p)

-- tests of two whole numbers
pub read_le : (a b : ℤ) → le_ext (Int a) (Int b) ≡ true → a ≤ℤ b
read_le a b p = omega ints

pub read_lt : (a b : ℤ) → lt_ext (Int a) (Int b) ≡ true → a <ℤ b
read_lt a b p = let q = not-true (le_z b a) p in omega ints

pub show_le : (a b : ℤ) → a ≤ℤ b → le_ext (Int a) (Int b) ≡ true
show_le = le_le_z

pub show_lt : (a b : ℤ) → a <ℤ b → lt_ext (Int a) (Int b) ≡ true
show_lt a b h = ap not (lt_le_z b a h)

-- a bound that equals a whole number is that number
pub eq_is : (b : IntExt) (v : ℤ) → eq_ext b (Int v) ≡ true → b ≡ Int v
eq_is (Int x) v p = ap Int (eq_z_same x v p)
eq_is NegativeInf v p = clash p refl
eq_is PositiveInf v p = clash p refl
