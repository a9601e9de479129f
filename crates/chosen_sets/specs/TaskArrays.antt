-- Tasks and a set of them in arrays.
use Rattle.std.specs.Prelude.{◌≡◌, Bool, false, cond, List, ℕ, ◌+◌, ◌≤◌, ◌<◌, max, get_or}
use Rattle.integers.specs.Limits.{TASKS, DURATIONS}
use Rattle.scheduling.specs.Scheduling.{natural, Tasks, Proper, TaskSet, total}
use Rattle.trees.specs.NodeBounds.{LATEST}

-- n tasks, their earliest starts and durations, and which of them are chosen
pub record HeldSet (J : Tasks natural) (Ω : TaskSet) (n : ℕ) (chosen : List Bool) (est durations : List ℕ) : Type 0 where
  pub proper : Proper J
  pub count : J.count ≡ n
  pub few : n ≤ TASKS
  pub member : (k : ℕ) → k < n → get_or chosen k false ≡ Ω k
  pub start : (k : ℕ) → k < n → get_or est k 0 ≡ J.earliest k
  pub lasts : (k : ℕ) → k < n → get_or durations k 0 ≡ J.duration k
  pub early : (k : ℕ) → k < n → J.earliest k ≤ LATEST
  pub sum : total J.duration n ≤ DURATIONS

-- and their latest starts
pub record Late (J : Tasks natural) (n : ℕ) (lst : List ℕ) : Type 0 where
  pub at : (k : ℕ) → k < n → get_or lst k 0 ≡ J.latest k
  pub fits : (k : ℕ) → k < n → J.latest k ≤ LATEST

-- an ect with one task more, where it is chosen; 0 is the ect of no task
abbrev pub completed : ℕ → Bool → ℕ → ℕ → ℕ
completed ect chosen est p = cond chosen (max ect est + p) ect
