-- Whole numbers about zero, equality of whole numbers as a test, and membership in a list of them.
use Rattle.std.specs.Prelude.{Bool, false, ◌&&◌, ◌||◌, List, [], ◌∷◌, ℕ, ℤ, pos, neg_ℤ, ◌≤ℤ◌}
use Rattle.std.specs.Int.Signed.{le_z}

-- v is from −n to n
pub record Within (n : ℕ) (v : ℤ) : Type 0 where
  pub low : neg_ℤ (pos n) ≤ℤ v
  pub high : v ≤ℤ pos n

abbrev pub eq_z : ℤ → ℤ → Bool
eq_z a b = le_z a b && le_z b a

-- x is in the list
unfoldable pub has : List ℤ → ℤ → Bool
has [] x = false
has (h ∷ hs) x = eq_z h x || has hs x
