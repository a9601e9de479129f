-- The same in moments, as the code computes it, and what its functions require.
use Rattle.std.specs.Prelude.{◌≡◌, List, ◌⊎◌, ℕ, ◌+◌, ◌-◌, ◌≤◌, ◌<◌, min, max, length, get_or}
use Rattle.integers.specs.Limits.{TASKS, START, DURATIONS, LENGTH}
use Rattle.integers.specs.Moments.{zero_at}
use Rattle.scheduling.specs.Scheduling.{natural, Tasks, total}
use Rattle.fixed_schedules.specs.Neighbours.{in_moments}

-- the time that [a, b) and [x, y) have in common
unfoldable pub common_in : ℕ → ℕ → ℕ → ℕ → ℕ
common_in a b x y = min b y - max a x

-- the time that task k has in common with the stretch [x, x + w), and that all tasks have
abbrev pub common_at : Tasks natural → ℕ → ℕ → ℕ → ℕ
common_at M w x k = common_in (M.earliest k) (M.earliest k + M.duration k) x (x + w)

abbrev pub covered_in : Tasks natural → ℕ → ℕ → ℕ
covered_in M w x = total (common_at M w x) M.count

-- the tasks with these starts and durations
abbrev pub tasks_at : List ℕ → List ℕ → Tasks natural
tasks_at starts ds = in_moments (length starts) starts ds

-- (d, y) is as good as (c, x) or better: more is covered, or as much from no later start
abbrev pub NoWorse : ℕ → ℕ → ℕ → ℕ → Type 0
NoWorse c x d y = (c < d) ⊎ ((c ≡ d) × (y ≤ x))

-- The starts of the tasks are from `first` to `last`, and all numbers are far from 0 and from the largest u32.
pub record Slidable (starts ds : List ℕ) (w first last : ℕ) : Type 0 where
  pub few : length starts ≤ TASKS
  pub long : length ds ≡ length starts
  pub least : (k : ℕ) → k < length starts → first ≤ get_or starts k 0
  pub greatest : (k : ℕ) → k < length starts → get_or starts k 0 ≤ last
  pub low : LENGTH ≤ first
  pub high : last ≤ zero_at + START
  pub sum : total (λ k. get_or ds k 0) (length starts) ≤ DURATIONS
  pub short : w ≤ LENGTH

-- Both ends are starts of tasks.
pub record EndsStart (starts : List ℕ) (first last : ℕ) : Type 0 where
  pub starts_first : (k : ℕ) × (k < length starts) × (get_or starts k 0 ≡ first)
  pub starts_last : (k : ℕ) × (k < length starts) × (get_or starts k 0 ≡ last)

module _ (M : Tasks natural) (w first last : ℕ) where
  -- A stretch whose start counts, with the time covered.
  pub record StretchHeld (c x : ℕ) : Type 0 where
    pub from : first ≤ x
    pub to : x ≤ last
    pub covers : covered_in M w x ≡ c

  -- The stretch (d, y) after the start x was tried against (c, s).
  pub record Tried (x c s d y : ℕ) : Type 0 where
    pub held : StretchHeld d y
    pub kept : NoWorse c s d y
    pub tried : first ≤ x → x ≤ last → NoWorse (covered_in M w x) x d y

  -- No stretch is better.
  pub record BusiestMoment (c x : ℕ) : Type 0 where
    pub held : StretchHeld c x
    pub most : (u : ℕ) → first ≤ u → u ≤ last → NoWorse (covered_in M w u) u c x
