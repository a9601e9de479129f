-- The task to consider next, and the words of a post and of an overload: from what the tree and the explanations promise.
use mathlib.Core.Path.{◌≡◌, subst}
use mathlib.Core.Bool.{true, false}
use mathlib.Core.List.{List, [], ◌∷◌}
use mathlib.Core.Option.{Option}
use Prim.Native.Nat.{ℕ, ◌+◌, ◌-◌, ◌*◌, ◌≤◌, ◌<◌}
use native.Mathlib.Omega.{arith}
use lib.IntN.{ℤ, pos}
use lib.ListN.{length}
use lib.Seq.{sets}
use Rattle.std.specs.Prelude.{None}
use Rattle.integers.specs.Limits.{TASKS, ATOMS}
use Rattle.integers.specs.Moments.{instant, zero_at}
use Rattle.scheduling.specs.Scheduling.{Atom}
use Rattle.trees.specs.Ects.{exceeds}
use Rattle.post_words.specs.Posts.{PostFits}
use Rattle.trees.specs.ArraySearches.{responsible_of}
use Rattle.runs.specs.Runs.{propagation}
use Rattle.runs.proofs.ReasonLengths.{propagation_length}
use Rattle.runs.proofs.AtomRoom.{theta_few}
use Rattle.explanations.specs.declared.theta.Theta.{Theta}
use Rattle.explanations.specs.Leaves.{white_of, task_at, tasks_of}
use Rattle.explanations.specs.WrittenAtoms.{starting}
use Rattle.post_words.specs.StoredAtoms.{Stored}
use Rattle.propagator.specs.declared.disjunctive_propagator.Written.{Written}
use Rattle.propagator.specs.Candidates.{candidate_of, Posted}
use Rattle.propagator.specs.EdgeFinding.{ConflictExplained}
use Rattle.runs.specs.declared.outcome.Outcome.TheVariants as outcome
use Rattle.runs.specs.declared.outcome.Finished.{Finished}

module _ (reverse_mapping : List ℕ) (lct : ℕ) (bar found : Option ℕ) where
  pub candidate_none : exceeds bar lct ≡ false → None ≡ candidate_of reverse_mapping lct bar found
  unfolding candidate_of
  candidate_none q = rw (q, candidate_of)

  pub candidate_some : exceeds bar lct ≡ true → responsible_of reverse_mapping found ≡ candidate_of reverse_mapping lct bar found
  unfolding candidate_of
  candidate_some q = rw (q, candidate_of)

-- the reason of a post is short, by the tasks of Theta
pub reason_few : (t : Theta) (i b lct p : ℕ) → length (propagation zero_at (starting t.est.now t.durations.now) i b lct p (tasks_of t)) ≤ 97
reason_few t i b lct p =
    omega (arith, propagation_length zero_at (starting t.est.now t.durations.now) i b lct p (tasks_of t), theta_few (white_of t) (task_at t) 0 t.n, t.tasks)

-- a reason that stands where the explanation has written it: how long it is, and the words of a post or of an overload
module _ {atoms atoms' : List ℤ} {k end : ℕ} {reason : List Atom} (s : Stored atoms atoms' k end reason) where
  pub long : end - k ≡ length reason
  long = omega (arith, s.count)

  pub post_fits : {i room j : ℕ} → i < TASKS → 4 * j + 4 ≤ room → k ≤ ATOMS → length reason ≤ 97 → PostFits room j i k (end - k)
  post_fits small r q few = record { room = r; task = small; first = omega arith; count = omega (arith, long) }

  pub post_done : {posts posts' : List ℤ} {before after : Written} {i b : ℕ} {said : List Atom} → reason ≡ said → before.atoms ≡ k → after.posts ≡ before.posts + 1 → after.atoms ≡ end
      → after.changes ≡ before.changes → posts' ≡ sets posts (4 * before.posts) (pos i ∷ instant zero_at b ∷ pos k ∷ pos (end - k) ∷ [])
      → Posted posts atoms posts' atoms' before after i b said
  post_done {posts} {posts'} {before} {after} {i} {b} is z u v x w = subst (Posted posts atoms posts' atoms' before after i b) is (record {
    post_words_are = rw (z, ← long) w;
    atom_words_are = rw z s.words;
    posted = u;
    explained = omega (arith, s.count, v, z);
    counted = x;
  })

  pub conflict_done : {w : Written} {r : Finished} {said : List Atom} → reason ≡ said → w.atoms ≡ k → (r.outcome ≡ outcome.Overload w.posts k (end - k)) × (r.changes ≡ w.changes)
      → ConflictExplained atoms atoms' w r said
  conflict_done {w} {r} is z f = subst (ConflictExplained atoms atoms' w r) is (record { atom_words_are = rw z s.words; answer = rw (z, ← long) f.0; changes = f.1 })
