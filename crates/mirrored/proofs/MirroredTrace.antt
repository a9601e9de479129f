-- The words that a run in mirrored time leaves may be mirrored post by post and atom by atom, and mirrored they are the words of the mirrored trace.
use mathlib.Core.Path.{◌≡◌, sym, ap, ◌∙◌}
use mathlib.Core.List.{List, ◌++◌}
use Prim.Native.Nat.{ℕ}
use native.Mathlib.Omega.{arith}
use lib.IntN.{ℤ}
use lib.ListN.{length, drop}
use Rattle.scheduling.specs.Words.{atom_words}
use Rattle.runs.specs.Words.{post_words, atoms_in}
use Rattle.runs.proofs.Mirrored.{posts_after_are, atoms_after_are}
use Rattle.runs.specs.MirroredWords.{posts_to, atoms_to}
use Rattle.runs.specs.declared.outcome.Outcome.{Outcome}
use Rattle.runs.specs.Outcomes.{value_of}
use Rattle.runs.proofs.TraceNumbers.{posts_made}
use Rattle.mirrored.specs.MirroredSlices.{PostsMirrorable, PostsMirrored, AtomsMirrorable, AtomsMirrored, AtomsCountable, WordsMirrorable, WordsMirrored}

module _ {r : Outcome} {posts atoms : List ℤ} {array : List ℕ} (e : WordsMirrorable r posts atoms array) where
  abbrev pub atoms_countable : AtomsCountable r posts
  atoms_countable = record { trace = e.trace; old = e.old_posts; answer = e.answer; words_are = e.post_words_are; few = e.few; small = e.small }

  pub post_count : (m : ℕ) → m ≡ value_of r 0 → m ≡ length e.trace.posts
  post_count m z = z ∙ posts_made r e.trace e.answer

  abbrev pub posts_mirrorable : (m : ℕ) → m ≡ length e.trace.posts → PostsMirrorable posts m array
  posts_mirrorable m z = record {
    ds = e.ds;
    posts = e.trace.posts;
    tail = drop (length (post_words 0 e.trace.posts)) e.old_posts;
    durations = e.durations;
    words_are = e.post_words_are;
    number = sym z;
    few = omega (arith, z, e.few);
    near = λ j q. e.posts_near j (omega (arith, z));
  }

  abbrev pub atoms_mirrorable : (k : ℕ) → k ≡ length (atoms_in e.trace) → AtomsMirrorable atoms k array
  atoms_mirrorable k z = record {
    ds = e.ds;
    atoms = atoms_in e.trace;
    tail = drop (length (atom_words (atoms_in e.trace))) e.old_atoms;
    durations = e.durations;
    words_are = e.atom_words_are;
    number = sym z;
    few = omega (arith, z, e.small);
    near = e.atoms_near;
  }

  pub words_mirrored : (m k : ℕ) → m ≡ length e.trace.posts → k ≡ length (atoms_in e.trace) → {posts' atoms' : List ℤ} → PostsMirrored posts m array posts' → AtomsMirrored atoms k array atoms'
      → WordsMirrored e posts' atoms'
  words_mirrored m k z y p q = record {
    post_words_are = p (posts_mirrorable m z)
        ∙ ap (λ (i : ℕ). post_words 0 (posts_to e.ds i e.trace.posts) ++ drop (length (post_words 0 e.trace.posts)) e.old_posts) z
        ∙ posts_after_are e.ds e.old_posts e.trace;
    atom_words_are = q (atoms_mirrorable k y)
        ∙ ap (λ (i : ℕ). atom_words (atoms_to e.ds i (atoms_in e.trace)) ++ drop (length (atom_words (atoms_in e.trace))) e.old_atoms) y
        ∙ atoms_after_are e.ds e.old_atoms e.trace;
  }
