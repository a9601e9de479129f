-- The words of the two lent slices: four for a post, three for each atom of its reason.
use Rattle.std.specs.Prelude.{List, [], ◌∷◌, ◌++◌, ℕ, ◌+◌, ℤ, pos, length}
use Rattle.integers.specs.Words.{overwritten}
use Rattle.scheduling.specs.Scheduling.{Atom}
use Rattle.scheduling.specs.Words.{atom_words}
use Rattle.runs.specs.Traces.{Post, End, done, overload, emptied, Trace}

unfoldable pub post_words : ℕ → List Post → List ℤ
post_words from [] = []
post_words from (p ∷ ps) = pos p.task ∷ p.bound ∷ pos from ∷ pos (length p.reason) ∷ post_words (from + length p.reason) ps

unfoldable pub reasons : List Post → List Atom
reasons [] = []
reasons (p ∷ ps) = p.reason ++ reasons ps

abbrev pub end_reason : End → List Atom
end_reason done = []
end_reason (overload r) = r
end_reason emptied = []

-- the atoms of all reasons of a trace
abbrev pub atoms_in : Trace → List Atom
atoms_in t = reasons t.posts ++ end_reason t.end

abbrev pub posts_after : List ℤ → Trace → List ℤ
posts_after entry t = overwritten entry (post_words 0 t.posts)

abbrev pub atoms_after : List ℤ → Trace → List ℤ
atoms_after entry t = overwritten entry (atom_words (atoms_in t))
