-- Tests of an input in an order, each over the whole input, and the number of the first that is broken.
use Rattle.std.specs.Prelude.{◌≡◌, Bool, true, false, ◌&&◌, List, [], ◌∷◌, ℕ, zero, suc}

-- every number below n passes
unfoldable pub all_below : (ℕ → Bool) → ℕ → Bool
all_below pass zero = true
all_below pass (suc n) = all_below pass n && pass n

-- A test: the number that refuses an input, and whether the input passes.
pub record Test : Type 0 where
  pub number : ℕ
  pub passed : Bool

abbrev pub test : ℕ → Bool → Test
test number passed = record { number = number; passed = passed }

-- the number of the first test that is not passed; 0 where all are
unfoldable pub refusal : List Test → ℕ
refusal [] = 0
refusal (t ∷ ts) = elim t.passed [ true ↦ refusal ts | false ↦ t.number ]

-- all the tests are passed
abbrev pub AllPassed : List Test → Type 0
AllPassed [] = Unit {0}
AllPassed (t ∷ ts) = (t.passed ≡ true) × AllPassed ts
