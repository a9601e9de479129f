-- After k turns the kinds and values of the first k atoms are mirrored, and all other words are unchanged.
use mathlib.Core.Path.{◌≡◌}
use mathlib.Core.List.{List, ◌++◌}
use Prim.Native.Nat.{ℕ}
use lib.IntN.{ℤ}
use lib.ListN.{length}
use Rattle.scheduling.specs.Words.{atom_words}
use Rattle.runs.specs.MirroredWords.{atoms_to}
use Rattle.mirrored.specs.MirroredSlices.{AtomsMirrorable}
use Rattle.mirrored.proofs.mirrored_time.mirror_atoms.Given as goal

-- the first k atoms are mirrored
pub record Loop (old : List ℤ) (count : ℕ) (array : List ℕ) (words : List ℤ) (k : ℕ) : Type 0 where
  pub mirrorable : AtomsMirrorable old count array
  pub mirrored : (h : AtomsMirrorable old count array) → words ≡ atom_words (atoms_to h.ds k h.atoms) ++ h.tail
  pub size : length words ≡ length old

abbrev pub invariant-loop-k : goal.invariant-loop-k
invariant-loop-k l = Loop l.initial.atoms l.count l.durations l.atoms l.k
