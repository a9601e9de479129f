-- What the code holds: the tasks in arrays, a set of them as flags, and the words that a run left.
use Rattle.std.specs.Prelude.{◌≡◌, Bool, true, List, ℕ, ◌+◌, ◌-◌, ◌*◌, ◌≤◌, ◌<◌, ℤ, pos, length}
use Rattle.integers.specs.Limits.{TASKS}
use Rattle.scheduling.specs.Scheduling.{natural, Tasks, TaskSet, In, Atom}
use Rattle.scheduling.specs.Words.{atom_words}
use Rattle.post_words.specs.Posts.{word_of_task, bound_of, reason_words}
use Rattle.runs.specs.Traces.{Post}
use Rattle.runs.specs.ReasonSets.{named}
use Rattle.overload_test.specs.declared.task_moments.TaskMoments.{TaskMoments}
use Rattle.overload_test.specs.ReadArrays.{HoldsTasks}
use Rattle.overload_test.specs.ReadTasks.{overloads_at}
use Rattle.conflicts.specs.Answers.{flags_of}
use Rattle.conflicts.specs.Spans.{span_of}
use Rattle.conflicts.specs.ConflictOf.{others}

-- The arrays hold tasks, and the flags are those of a set of these.
pub record HoldsSet (m : TaskMoments) (tasks : List Bool) : Type 0 where
  pub J : Tasks natural
  pub Ω : TaskSet
  pub holds : HoldsTasks J m
  pub flags : tasks ≡ flags_of J.count Ω

-- They overload when the k-th by latest completion is read.
pub record Overloadable (m : TaskMoments) (k : ℕ) : Type 0 where
  pub J : Tasks natural
  pub holds : HoldsTasks J m
  pub some : 1 ≤ k
  pub few : k ≤ m.count
  pub over : overloads_at J (k - 1) ≡ true

-- Task i is in a set whose est + p is not before the lct of the others.
pub record Lates (J : Tasks natural) (S : TaskSet) (i : ℕ) : Type 0 where
  pub task : In J S i
  pub over : (span_of J (others S i)).lct ≤ (span_of J S).est + (span_of J S).p

-- The words are those of atoms on tasks.
pub record NamesTasks (words : List ℤ) : Type 0 where
  pub atoms : List Atom
  pub is : words ≡ atom_words atoms
  pub small : (k : ℕ) → named atoms k ≡ true → k < TASKS

-- The words of posts and atoms hold a last post that is late.
pub record LastPosted (m : TaskMoments) (latest posts atoms : List ℤ) (count : ℕ) : Type 0 where
  pub J : Tasks natural
  pub holds : HoldsTasks J m
  pub last : Post
  pub some : 1 ≤ count
  pub room : 4 * count ≤ length posts
  pub task : word_of_task posts (count - 1) ≡ pos last.task
  pub bound : bound_of posts (count - 1) ≡ last.bound
  pub reason : reason_words posts atoms count (count - 1) ≡ atom_words last.reason
  pub small : (k : ℕ) → named last.reason k ≡ true → k < J.count
  pub late : Lates J (named last.reason) last.task
  pub known : length latest ≡ m.count
