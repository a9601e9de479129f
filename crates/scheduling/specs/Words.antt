-- Atoms as words: three to an atom.
use Rattle.std.specs.Prelude.{List, [], ◌∷◌, ℤ, pos}
use Rattle.scheduling.specs.Scheduling.{Atom}

-- the variable, the kind and the value of each
unfoldable pub atom_words : List Atom → List ℤ
atom_words [] = []
atom_words (a ∷ rest) = pos a.variable ∷ pos a.kind ∷ a.value ∷ atom_words rest

-- an atom for places past the last
abbrev pub no_atom : Atom
no_atom = record { variable = 0; kind = 0; value = pos 0 }
