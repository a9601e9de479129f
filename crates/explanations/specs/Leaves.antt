-- Θ as the leaves of a tree have it.
use Rattle.std.specs.Prelude.{◌≡◌, Bool, true, false, List, ℕ, ◌≤◌, ◌<◌, length, get_or, drop}
use Rattle.trees.specs.ArraySearches.{white_in, task_in, theta_in}
use Rattle.explanations.specs.Walks.{lasts, Each, At, between, Somewhere, Known}
use Rattle.explanations.specs.declared.theta.Theta.{Theta}

-- whether a leaf's task is in Θ, and which task it is
abbrev pub white_of : Theta → ℕ → Bool
white_of t = white_in t.nodes.now t.inner

abbrev pub task_at : Theta → ℕ → ℕ
task_at t = task_in t.reverse_mapping.now

-- the tasks of Θ at the leaves from a up to b, and at all leaves
abbrev pub tasks_between : Theta → ℕ → ℕ → List ℕ
tasks_between t a b = between (white_of t) (task_at t) a b

abbrev pub tasks_of : Theta → List ℕ
tasks_of t = theta_in t.nodes.now t.inner t.reverse_mapping.now t.n

-- A walk over the tasks ks, which last p, that asks at each by its earliest start and by how long the tasks from it on last. It may ask wherever it comes, and
-- at some task the answer cannot be no.
pub record Asks (may : ℕ → ℕ → Type 0) (answers : ℕ → ℕ → Bool → Type 0) (ks es ds : List ℕ) (p : ℕ) : Type 0 where
  pub known : Each (Known es ds) ks
  pub total : p ≡ lasts ds ks
  pub asked : Each (λ k. (q : ℕ) → q ≤ p → may (get_or es k 0) q) ks
  pub stops : Somewhere (λ k q. answers (get_or es k 0) q false → ⊥) ds ks

-- It halts at leaf x: there the answer is yes, and at each task before it is no. The tasks from there on last `left`.
pub record HaltsAt (answers : ℕ → ℕ → Bool → Type 0) (t : Theta) (a x left : ℕ) : Type 0 where
  pub from : a ≤ x
  pub small : x < t.n
  pub here : white_of t x ≡ true
  pub rest : left ≡ lasts t.durations.now (drop (length (tasks_between t a x)) (tasks_between t a t.n))
  pub yes : answers (get_or t.est.now (task_at t x) 0) left true
  pub no : (y : ℕ) → y < length (tasks_between t a x) → At (λ k q. answers (get_or t.est.now k 0) q false) t.durations.now (tasks_between t a t.n) y
