-- The words of atoms in the slice: those of a list of tasks, two atoms to a task, and one run of atoms after another.
use mathlib.Core.Path.{◌≡◌, refl, sym, ap, ◌∙◌}
use mathlib.Core.List.{List, [], ◌∷◌}
use Prim.Native.Nat.{ℕ, suc, ◌+◌, ◌-◌, ◌*◌}
use native.Mathlib.Omega.{arith}
use lib.IntN.{ℤ, pos}
use lib.ListN.{length, get_or}
use lib.Seq.{sets, length-sets}
use Rattle.integers.specs.Moments.{instant, zero_at}
use Rattle.runs.specs.Runs.{within}
use Rattle.scheduling.specs.Words.{atom_words}
use Rattle.scheduling.proofs.Words.{atoms_none, atoms_more}
use Rattle.runs.proofs.WalkClauses.{within_none, within_more}
use Rattle.runs.proofs.ReasonLengths.{within_length}
use Rattle.explanations.specs.WrittenAtoms.{lasting, Writable}
use Rattle.post_words.specs.StoredAtoms.{Stored}

module _ (ds : List ℕ) (low high : ℕ) where
  -- the words of the tasks ks
  abbrev pub words_of : List ℕ → List ℤ
  words_of ks = atom_words (within zero_at (lasting ds) low high ks)

  -- those of one task's two atoms
  abbrev pub lower : ℕ → List ℤ
  lower t = pos t ∷ pos 0 ∷ instant zero_at low ∷ []

  abbrev pub upper : ℕ → List ℤ
  upper t = pos t ∷ pos 1 ∷ instant zero_at (high - get_or ds t 0) ∷ []

  two_more : (l : List ℤ) (t : ℕ) (rest : List ℕ) (at : ℕ) → sets (sets (sets l (3 * at) (lower t)) (3 * (at + 1)) (upper t)) (3 * (at + 2)) (words_of rest) ≡ sets l (3 * at) (words_of (t ∷ rest))
  two_more l t rest at =
      let a : 3 * (at + 1) ≡ suc (suc (suc (3 * at))) = omega arith in
      let b : 3 * (at + 2) ≡ suc (suc (suc (suc (suc (suc (3 * at)))))) = omega arith in
      rw (a, b, within_more zero_at (lasting ds) low high t rest, atoms_more, atoms_more)

-- Of the tasks ks, whose atoms go from the k-th on, `rest` are still to be written, from the at-th on.
pub record Written (entry : List ℤ) (k : ℕ) (ks ds : List ℕ) (low high : ℕ) (atoms : List ℤ) (rest : List ℕ) (at : ℕ) : Type 0 where
  pub writable : Writable (length atoms) at rest ds high
  pub count : at + 2 * length rest ≡ k + 2 * length ks
  pub size : length atoms ≡ length entry
  pub words : sets atoms (3 * at) (words_of ds low high rest) ≡ sets entry (3 * k) (words_of ds low high ks)

module _ {entry : List ℤ} {k : ℕ} {ks ds : List ℕ} {low high : ℕ} where
  pub written_none : Writable (length entry) k ks ds high → Written entry k ks ds low high entry ks k
  written_none w = record { writable = w; count = refl; size = refl; words = refl }

  pub written_more : {l m n : List ℤ} {t : ℕ} {rest : List ℕ} {at : ℕ} → Written entry k ks ds low high l (t ∷ rest) at → m ≡ sets l (3 * at) (lower ds low high t)
      → n ≡ sets m (3 * (at + 1)) (upper ds low high t)
      → Written entry k ks ds low high n rest (at + 2)
  written_more {l} {m} {n} {t} {rest} {at} w first second =
      let same : length n ≡ length l = ap length second ∙ length-sets m (3 * (at + 1)) (upper ds low high t) ∙ ap length first ∙ length-sets l (3 * at) (lower ds low high t) in
      record {
        writable = record { ends = λ x s. w.writable.ends (suc x) (omega arith); room = omega (arith, w.writable.room, same) };
        count = omega (arith, w.count);
        size = same ∙ w.size;
        words = ap (λ (z : List ℤ). sets z (3 * (at + 2)) (words_of ds low high rest)) (second ∙ ap (λ (z : List ℤ). sets z (3 * (at + 1)) (upper ds low high t)) first)
            ∙ two_more ds low high l t rest at ∙ w.words;
      }

  pub written_all : {l : List ℤ} {at : ℕ} → Written entry k ks ds low high l [] at → Stored entry l k at (within zero_at (lasting ds) low high ks)
  written_all {l} {at} w = record {
    words = ap (sets l (3 * at)) (sym (ap atom_words (within_none zero_at (lasting ds) low high) ∙ atoms_none)) ∙ w.words;
    count = omega (arith, w.count, within_length zero_at (lasting ds) low high ks);
  }
