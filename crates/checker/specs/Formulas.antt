-- The checker's formula as the source computes it, from the bounds that the premises and the negated consequent leave to each task: a whole number, or none.
use Rattle.std.specs.Prelude.{Bool, true, false, cond, not, ◌&&◌, ◌||◌, ℕ, zero, suc, ◌+◌, min, max, eqb, ltb, ℤ, pos, negsuc}
use Rattle.std.proofs.Math.Option.{Option, some, none}
use Rattle.integers.specs.Limits.{U32MAX}
use Rattle.integers.specs.Moments.{zero_at}
use Rattle.scheduling.specs.Scheduling.{whole, natural, Tasks, TaskSet, completion, processing}
use Rattle.scheduling.specs.Moments.{moments}
use Rattle.scheduling.specs.Ects.{ect_of}
use Rattle.trees.specs.Ects.{exceeds}

-- What the loop over the tasks gathers ------------------------------------------------------------------------------------------

-- some task of the set below k
unfoldable pub any : TaskSet → ℕ → Bool
any Ω zero = false
any Ω (suc k) = any Ω k || Ω k

module _ (J : Tasks natural) (Ω : TaskSet) where
  -- `lb_interval` and `ub_interval`: the least earliest start and the greatest latest completion of the tasks of Ω below k
  unfoldable pub lowest : ℕ → ℕ
  lowest zero = U32MAX
  lowest (suc k) = cond (Ω k) (min (lowest k) (J.earliest k)) (lowest k)

  unfoldable pub highest : ℕ → ℕ
  highest zero = 0
  highest (suc k) = cond (Ω k) (max (highest k) (completion J k)) (highest k)

  -- Ω has a task, and overloads its span
  abbrev pub overloads_span : Bool
  overloads_span = any Ω J.count && ltb (highest J.count) (lowest J.count + processing J Ω)

  -- Ω has a task; task i can start neither before nor among those of Ω: min(est i, lb_interval) + p + p i > ub_interval; and their ect is past i's latest
  -- start
  abbrev pub comes_after : ℕ → Bool
  comes_after i =
      any Ω J.count
      && (ltb (highest J.count) (min (J.earliest i) (lowest J.count) + processing J Ω + J.duration i)
      && exceeds (ect_of J Ω) (J.latest i))

infixl 20 ◌but◌
-- Ω without i
abbrev pub ◌but◌ : TaskSet → ℕ → TaskSet
◌but◌ Ω i k = not (eqb k i) && Ω k

-- The formula ------------------------------------------------------------------------------------------------------------------

abbrev pub known : Option ℤ → Bool
known none = false
known (some z) = true

abbrev pub value_of : Option ℤ → ℤ
value_of none = pos 0
value_of (some z) = z

-- n tasks with their durations, and the bounds of each one's start
module _ (n : ℕ) (duration : ℕ → ℕ) (lower upper : ℕ → Option ℤ) where
  -- the tasks with two finite bounds, and those but the propagating task i
  abbrev pub bounded : TaskSet
  bounded k = known (lower k) && known (upper k)

  abbrev pub theta : ℕ → TaskSet
  theta i = bounded but i

  -- the ranges that the bounds give; a task that lacks one stands at the least i32, whose moment is 0
  abbrev pub ranges : Tasks whole
  ranges = record {
    count = n;
    earliest = λ k. cond (bounded k) (value_of (lower k)) (negsuc 2147483647);
    latest = λ k. cond (bounded k) (value_of (upper k)) (negsuc 2147483647);
    duration = duration;
  }

  abbrev pub tasks : Tasks natural
  tasks = moments zero_at ranges

  -- without a consequent: the tasks with two bounds overload their span
  unfoldable pub overloaded : Bool
  overloaded = overloads_span tasks bounded

  -- with a consequent on the propagating task i: it comes after those of theta
  unfoldable pub implied : ℕ → Bool
  implied i = comes_after tasks (theta i) i
