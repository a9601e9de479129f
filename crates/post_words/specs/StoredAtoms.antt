-- Atoms that are stored in a lent slice.
use Rattle.std.specs.Prelude.{◌≡◌, List, ℕ, ◌+◌, ◌*◌, ℤ, length}
use Rattle.std.proofs.lemmas.List.Edits.{sets}
use Rattle.scheduling.specs.Scheduling.{Atom}
use Rattle.scheduling.specs.Words.{atom_words}

-- The atoms xs are stored from the k-th on, every other word is unchanged, and `next` is the number of the atom after them.
pub record Stored (entry exit : List ℤ) (k next : ℕ) (xs : List Atom) : Type 0 where
  pub words : exit ≡ sets entry (3 * k) (atom_words xs)
  pub count : next ≡ k + length xs
