-- The size that an input asks for, as the code finds it.
use Rattle.std.specs.Prelude as code
use Rattle.std.specs.Prelude.{true, false, ◌&&◌, None, Some, List, [], ◌∷◌, ℕ, leb, ℤ, pos, negsuc}
use Rattle.std.proofs.Math.Option.{Option, none, some}
use Rattle.integers.specs.Limits.{TASKS}

-- the one number of the input, where it is from 1 to TASKS
unfoldable pub asked_in : Option (List ℤ) → code.Option ℕ
asked_in none = None
asked_in (some []) = None
asked_in (some (negsuc n ∷ xs)) = None
asked_in (some (pos n ∷ [])) = elim (leb 1 n && leb n TASKS) [ true ↦ Some n | false ↦ None ]
asked_in (some (pos n ∷ x ∷ xs)) = None
