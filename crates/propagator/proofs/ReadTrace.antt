-- What the slices hand out after a run that left a trace, read from their words alone.
use mathlib.Core.Path.{◌≡◌, sym, subst, ◌∙◌}
use mathlib.Core.List.{List}
use Prim.Native.Nat.{ℕ, ◌+◌, ◌*◌, ◌≤◌, ◌<◌}
use native.Mathlib.Omega.{arith}
use lib.IntN.{ℤ, pos}
use lib.ListN.{length, take, drop, length-append}
use Rattle.scheduling.specs.Scheduling.{Atom}
use Rattle.scheduling.specs.Words.{atom_words}
use Rattle.scheduling.proofs.Words.{atoms_length}
use Rattle.runs.specs.Traces.{Post, End, Trace, overload}
use Rattle.runs.specs.Words.{reasons, end_reason, atoms_in, posts_after, atoms_after}
use Rattle.runs.specs.Demand.{post}
use Rattle.runs.proofs.PostReaders.{start_of, four_after, four_inside, reader, stretch_inside, end_reader}
use Rattle.post_words.specs.Posts.{word_of_task, bound_of, number_of_post, reason_words}
use Rattle.post_words.proofs.PostReader.{read_at}

-- Post j of count, as a caller reads it from both slices: the post reader takes it and hands out its reason, and its words are its task and its bound.
pub record Read (p : Post) (posts atoms : List ℤ) (count j : ℕ) : Type 0 where
  pub number : number_of_post posts atoms count j ≡ 0
  pub reason : reason_words posts atoms count j ≡ atom_words p.reason
  pub task : word_of_task posts j ≡ pos p.task
  pub bound : bound_of posts j ≡ p.bound

-- An overload's reason, as a caller reads it from the slice of atoms, from atom `first` on.
pub record ReadOverload (reason : List Atom) (atoms : List ℤ) (first : ℕ) : Type 0 where
  pub inside : 3 * first + 3 * length reason ≤ length atoms
  pub words : take (3 * length reason) (drop (3 * first) atoms) ≡ atom_words reason

-- The slices hand out each post of a trace, and an overload's reason where the outcome says that it stands.
pub record Handed (t : Trace) (posts' atoms' : List ℤ) : Type 0 where
  pub posts : (j : ℕ) → j < length t.posts → Read (post t j) posts' atoms' (length t.posts) j
  pub overloads : (reason : List Atom) → t.end ≡ overload reason → ReadOverload reason atoms' (length (reasons t.posts))

-- post j of a trace
reads : (posts atoms : List ℤ) (t : Trace) (j : ℕ) → j < length t.posts → Read (post t j) (posts_after posts t) (atoms_after atoms t) (length t.posts) j
reads posts atoms t j q =
    let four = four_after posts t j q in
    let there = read_at (posts_after posts t) (atoms_after atoms t) (length t.posts) j (start_of t.posts j) (length (post t j).reason) four.from four.count q (four_inside posts t j q)
    (stretch_inside atoms t j q) in
    record { number = there.0; reason = there.1 ∙ reader atoms t j q; task = four.task; bound = four.bound }

-- an overload's reason
overload_read : (atoms : List ℤ) (t : Trace) (reason : List Atom) → t.end ≡ overload reason → ReadOverload reason (atoms_after atoms t) (length (reasons t.posts))
overload_read atoms t reason e = subst (λ (x : End). ReadOverload (end_reason x) (atoms_after atoms t) (length (reasons t.posts))) e (record { inside = inside; words = end_reader atoms t })
  where
    inside : 3 * length (reasons t.posts) + 3 * length (end_reason t.end) ≤ length (atoms_after atoms t)
    inside = omega (arith, length-append (atom_words (atoms_in t)) (drop (length (atom_words (atoms_in t))) atoms), atoms_length (atoms_in t), length-append (reasons t.posts) (end_reason t.end))

-- The words that a run leaves are read so.
pub handed : (t : Trace) (posts atoms : List ℤ) {posts' atoms' : List ℤ} → posts' ≡ posts_after posts t → atoms' ≡ atoms_after atoms t → Handed t posts' atoms'
handed t posts atoms {posts'} {atoms'} p b =
    subst (λ (u : List ℤ). Handed t u atoms') (sym p) (subst (Handed t (posts_after posts t)) (sym b) (record { posts = reads posts atoms t; overloads = overload_read atoms t }))
