-- Atoms that are stored in a lent slice: one list of atoms after another, and the slice keeps its length.
use mathlib.Core.Path.{◌≡◌, ap, ◌∙◌}
use mathlib.Core.List.{List, ◌++◌}
use Prim.Native.Nat.{ℕ, ◌*◌}
use native.Mathlib.Omega.{arith}
use lib.IntN.{ℤ}
use lib.ListN.{length, length-append}
use lib.Seq.{sets, length-sets}
use Rattle.scheduling.specs.Scheduling.{Atom}
use Rattle.scheduling.specs.Words.{atom_words}
use Rattle.scheduling.proofs.Words.{atoms_stored}
use Rattle.post_words.specs.StoredAtoms.{Stored}

-- one run of atoms after another
pub stored_then : {l m n : List ℤ} {k a b : ℕ} {xs ys : List Atom} → Stored l m k a xs → Stored m n a b ys → Stored l n k b (xs ++ ys)
stored_then {l} {m} {n} {k} {a} {b} {xs} {ys} s t = record {
  words = t.words ∙ ap (λ (w : List ℤ). sets w (3 * a) (atom_words ys)) s.words ∙ atoms_stored l k a xs ys s.count;
  count = omega (arith, s.count, t.count, length-append xs ys);
}

pub stored_length : {l m : List ℤ} {k a : ℕ} {xs : List Atom} → Stored l m k a xs → length m ≡ length l
stored_length {l} {m} {k} {a} {xs} s = ap length s.words ∙ length-sets l (3 * k) (atom_words xs)
