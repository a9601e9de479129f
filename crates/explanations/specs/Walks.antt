-- The walks over Θ: what they are given, and where they stop.
--
-- Θ is a list of tasks by leaf (`theta_of`), es and ds are the earliest starts and the durations by task, all in moments.
use Rattle.std.specs.Prelude.{◌≡◌, Bool, true, List, [], ◌∷◌, ℕ, ◌+◌, ◌-◌, ◌^◌, ◌≤◌, ◌<◌, min, length, get_or, drop}
use Rattle.integers.specs.Limits.{TASKS}
use Rattle.trees.specs.Searches.{theta_of}
use Rattle.trees.specs.ArraySearches.{Next}

-- how long the tasks ks last together
unfoldable pub lasts : List ℕ → List ℕ → ℕ
lasts ds [] = 0
lasts ds (k ∷ ks) = get_or ds k 0 + lasts ds ks

-- P holds of every task of ks
abbrev pub Each : (ℕ → Type 0) → List ℕ → Type 0
Each P ks = (x : ℕ) → x < length ks → P (get_or ks x 0)

-- The walks -------------------------------------------------------------------------------------------------------------------

-- A walk asks at each task k of Θ, with q for how long the tasks from k on last.

-- whether they pass lct with a task that starts at e and lasts d before or among them, so that it has to go after them
abbrev pub Precedes : List ℕ → ℕ → ℕ → ℕ → ℕ → ℕ → Type 0
Precedes es lct e d k q = lct < min e (get_or es k 0) + q + d

-- whether they give the bound b
abbrev pub Attains : List ℕ → ℕ → ℕ → ℕ → Type 0
Attains es b k q = get_or es k 0 + q ≡ b

module _ (P : ℕ → ℕ → Type 0) (ds ks : List ℕ) where
  -- the answer at place x of ks
  abbrev pub At : ℕ → Type 0
  At x = P (get_or ks x 0) (lasts ds (drop x ks))

  -- a place where it is yes
  pub record Somewhere : Type 0 where
    pub place : ℕ
    pub small : place < length ks
    pub holds : At place

  -- the first such place, and how long the tasks from there on last
  pub record First (place left : ℕ) : Type 0 where
    pub small : place < length ks
    pub rest : left ≡ lasts ds (drop place ks)
    pub holds : P (get_or ks place 0) left
    pub before : (x : ℕ) → x < place → At x → ⊥

-- Over the leaves --------------------------------------------------------------------------------------------------------------

-- The walk over the white leaves from a up to n: the leaves that it meets, one after the other, and then n.
pub record Walks (white : ℕ → Bool) (a n : ℕ) (leaf : ℕ → ℕ) : Type 0 where
  pub first : Next white a n (leaf 0)
  pub next : (j : ℕ) → leaf j < n → Next white (leaf j + 1) n (leaf (j + 1))

-- The leaves have exactly the tasks ks, each once and in their order: the j-th leaf has the j-th task, and after the last task comes n.
pub record Meets (task : ℕ → ℕ) (ks : List ℕ) (a n : ℕ) (leaf : ℕ → ℕ) : Type 0 where
  pub inside : (j : ℕ) → j < length ks → (a ≤ leaf j) × (leaf j < leaf (j + 1)) × (leaf j < n)
  pub tasks : (j : ℕ) → j < length ks → task (leaf j) ≡ get_or ks j 0
  pub ends : leaf (length ks) ≡ n

module _ (white : ℕ → Bool) (task : ℕ → ℕ) where
  -- the tasks of the white leaves from a up to b
  abbrev pub between : ℕ → ℕ → List ℕ
  between a b = theta_of white task a (b - a)

  -- A walk that asks stops at leaf x: the task there is the first of the list at which the answer is yes, and those from it on last `left`.
  pub record StopsAt (P : ℕ → ℕ → Type 0) (ds : List ℕ) (a n x left : ℕ) : Type 0 where
    pub from : a ≤ x
    pub small : x < n
    pub here : white x ≡ true
    pub first : First P ds (between a n) (length (between a x)) left

-- What is asked of the input --------------------------------------------------------------------------------------------------

-- k is a task, and both lists have it
pub record Known (es ds : List ℕ) (k : ℕ) : Type 0 where
  pub task : k < TASKS
  pub start : k < length es
  pub duration : k < length ds

-- A walk over ks, which last p: no sum that it forms, with d besides, wraps, and it stops.
pub record Walk (P : ℕ → ℕ → Type 0) (ks es ds : List ℕ) (p d : ℕ) : Type 0 where
  pub known : Each (Known es ds) ks
  pub total : p ≡ lasts ds ks
  pub fits : Each (λ k. get_or es k 0 + p + d < 2 ^ 32) ks
  pub stops : Somewhere P ds ks
