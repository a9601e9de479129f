-- A list that is filled from the front, and the places of tasks.
use Rattle.std.specs.Prelude.{List, ℕ, zero, suc, set, replicate}
use Rattle.integers.specs.Limits.{TASKS}

-- the list with f 0, .., f (n − 1) in its first n places
unfoldable pub filled : {A : Type 0} → (ℕ → A) → ℕ → List A → List A
filled f zero l = l
filled f (suc n) l = set (filled f n l) n (f n)

-- the places of tasks, all unused
abbrev pub no_tasks : List ℕ
no_tasks = replicate TASKS 0
