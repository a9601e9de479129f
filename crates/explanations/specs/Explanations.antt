-- What the two explanations are given.
--
-- Θ is a list of tasks by leaf (`theta_of`), es and ds are the earliest starts and the durations by task, all in moments.
use Rattle.std.specs.Prelude.{◌≡◌, List, ℕ, ◌+◌, ◌*◌, ◌^◌, ◌≤◌, ◌<◌, length, get_or}
use Rattle.explanations.specs.Walks.{lasts, Each, Precedes, Attains, Somewhere, Known}

-- whether the tasks of Θ from k on, which last q, overload: they pass lct
abbrev pub Overloads : List ℕ → ℕ → ℕ → ℕ → Type 0
Overloads es lct k q = lct < get_or es k 0 + q

-- Θ, which lasts p and whose tasks all can end by lct
pub record White (theta es ds : List ℕ) (p lct : ℕ) : Type 0 where
  pub known : Each (Known es ds) theta
  pub total : p ≡ lasts ds theta
  pub ends : Each (λ k. get_or es k 0 + get_or ds k 0 ≤ lct) theta

-- An overload of Θ, and room for its reason, whose lower bounds lie less than p before the est of ω: `early` says that they are moments.
pub record ConflictExplainable (size k : ℕ) (theta es ds : List ℕ) (p lct : ℕ) : Type 0 where
  pub white : White theta es ds p lct
  pub overloads : Somewhere (Overloads es lct) ds theta
  pub early : Each (λ t. p ≤ get_or es t 0) theta
  pub fits : lct + p < 2 ^ 32
  pub room : 3 * k + 6 * length theta ≤ size

-- A task i that has to go after tasks of Θ, some of which give the bound b, and room for the reason.
pub record PropagationExplainable (size k : ℕ) (theta es ds : List ℕ) (p lct i b : ℕ) : Type 0 where
  pub white : White theta es ds p lct
  pub known : Known es ds i
  pub precedes : Somewhere (Precedes es lct (get_or es i 0) (get_or ds i 0)) ds theta
  pub attains : Somewhere (Attains es b) ds theta
  pub among : precedes.place ≤ attains.place
  pub fits : lct + p + get_or ds i 0 < 2 ^ 32
  pub room : 3 * k + 6 * length theta + 3 ≤ size
