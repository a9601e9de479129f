-- The count of an input, as the code finds it.
use Rattle.std.specs.Prelude as code
use Rattle.std.specs.Prelude.{true, false, None, Some, List, [], ◌∷◌, ℕ, ◌+◌, ◌*◌, eqb, ℤ, pos, negsuc, length, get_or, replicate}
use Rattle.std.proofs.Math.Option.{Option, none, some}
use Rattle.integers.specs.FilledLists.{filled}
use Rattle.integers.specs.Limits.{TASKS}

-- the first number of an input, where it is 0 or more
unfoldable pub first_natural : Option (List ℤ) → code.Option ℕ
first_natural none = None
first_natural (some []) = None
first_natural (some (negsuc n ∷ xs)) = None
first_natural (some (pos n ∷ xs)) = Some n

-- how many tasks an input has that is one count and that many triples
unfoldable pub count_in : Option (List ℤ) → code.Option ℕ
count_in none = None
count_in (some []) = None
count_in (some (negsuc n ∷ xs)) = None
count_in (some (pos n ∷ xs)) = elim (eqb (length xs) (3 * n)) [ true ↦ Some n | false ↦ None ]

-- every third number from place `from` on, n of them
abbrev pub column : List ℤ → ℕ → ℕ → List ℤ
column xs n from = filled (λ k. get_or xs (3 * k + from) (pos 0)) n (replicate TASKS (pos 0))
