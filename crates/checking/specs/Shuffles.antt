-- A list of atoms in another sequence.
use Rattle.std.specs.Prelude.{◌≡◌, List, [], ◌∷◌, ◌++◌}
use Rattle.scheduling.specs.Scheduling.{Atom}

-- The first atom stands somewhere in the other list, and the rest are its other atoms in some sequence.
abbrev pub Shuffled : List Atom → List Atom → Type 0
Shuffled [] ys = ys ≡ []
Shuffled (x ∷ xs) ys = (before : List Atom) × (after : List Atom) × (ys ≡ before ++ (x ∷ after)) × Shuffled xs (before ++ after)
