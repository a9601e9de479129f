-- A run ends inside its line.
use mathlib.Core.Bool.{Bool, true, false, beq}
use mathlib.Core.List.{List, [], ◌∷◌}
use Prim.Native.Nat.{ℕ, suc, ◌≤◌}
use native.Mathlib.Omega.{arith}
use lib.ListN.{length}
use Rattle.text.specs.Numbers.{space}
use Rattle.text.specs.Words.{run_length}

-- a byte more, whether it is of the run or not
longer : (more : Bool) (n long : ℕ) → n ≤ long → elim more [ true ↦ suc n | false ↦ 0 ] ≤ suc long
longer true n long h = omega (arith, h)
longer false n long h = omega arith

pub run_within : (white : Bool) (bs : List ℕ) → run_length white bs ≤ length bs
unfolding run_length
run_within white [] = omega arith
run_within white (b ∷ bs) = longer (beq (space b) white) _ _ (run_within white bs)
