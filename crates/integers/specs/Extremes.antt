-- The larger and the smaller of two whole numbers.
use Rattle.std.specs.Prelude.{Bool, true, false, ℤ}
use Rattle.std.specs.Int.Signed.{le_z}

abbrev pub pickℤ : Bool → ℤ → ℤ → ℤ
pickℤ true a b = a
pickℤ false a b = b

unfoldable pub maxℤ : ℤ → ℤ → ℤ
maxℤ a b = pickℤ (le_z a b) b a

unfoldable pub minℤ : ℤ → ℤ → ℤ
minℤ a b = pickℤ (le_z a b) a b
