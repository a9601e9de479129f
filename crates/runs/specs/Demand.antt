-- What a run must be, over sets of tasks, schedules and the checker's formula. Nothing here knows how a run goes.
use Rattle.std.specs.Prelude.{◌≡◌, ◌↔◌, List, [], ℕ, suc, ◌≤◌, ◌<◌, ℤ, pos, ◌≤ℤ◌, ◌<ℤ◌, length, get_or}
use Rattle.scheduling.specs.Scheduling.{whole, Tasks, EdgeFindingBound, Schedule, Done, Conflict, Atom, HoldsAtEntry, PassesWith, PassesAlone}
use Rattle.runs.specs.Traces.{Post, done, overload, emptied, Trace}

-- what a post says: its task starts at or after its bound
abbrev pub consequent_of : Post → Atom
consequent_of p = record { variable = p.task; kind = 0; value = p.bound }

-- A post, whatever the outcome.
pub record PostRight (J : Tasks whole) (p : Post) : Type 0 where
  pub small : p.task < J.count
  pub raises : J.earliest p.task <ℤ p.bound
  pub edge : EdgeFindingBound J p.task p.bound
  pub holds : (s : ℕ → ℤ) → Schedule J s → p.bound ≤ℤ s p.task
  pub reason_holds : HoldsAtEntry J p.reason
  pub reason_passes : PassesWith J p.reason (consequent_of p)

pub record OverloadRight (J : Tasks whole) (reason : List Atom) : Type 0 where
  pub reason_holds : HoldsAtEntry J reason
  pub reason_passes : PassesAlone J reason

abbrev pub no_post : Post
no_post = record { task = 0; bound = pos 0; reason = [] }

abbrev pub post : Trace → ℕ → Post
post t j = get_or t.posts j no_post

pub record Right (J : Tasks whole) (t : Trace) : Type 0 where
  -- Done exactly when no set overloads its span and no edge-finding bound passes a latest start
  pub exactly : t.end ≡ done ↔ (Conflict J → ⊥)
  -- then each start is the largest of the old one and its bounds, and the posts are one for each task so raised, at its largest bound
  pub when_done : t.end ≡ done → Done J (λ k. get_or t.starts k (pos 0)) (length t.posts) (λ j. (post t j).task) (λ j. (post t j).bound)
  -- otherwise there is no schedule
  pub otherwise : (t.end ≡ done → ⊥) → (s : ℕ → ℤ) → Schedule J s → ⊥
  -- every post and every reason, whatever the outcome
  pub posts : (j : ℕ) → j < length t.posts → PostRight J (post t j)
  pub overloads : (reason : List Atom) → t.end ≡ overload reason → OverloadRight J reason
  -- a run that is emptied has a post; its last one, and no other of any run, has a bound above its task's latest start
  pub some_post : t.end ≡ emptied → 1 ≤ length t.posts
  pub above : (j : ℕ) → j < length t.posts → J.latest (post t j).task <ℤ (post t j).bound
      ↔ ((t.end ≡ emptied) × (suc j ≡ length t.posts))
  -- whatever the outcome, each other post's bound is its task's start,
  pub stands : (j : ℕ) → j < length t.posts → (post t j).bound ≤ℤ J.latest (post t j).task
      → get_or t.starts (post t j).task (pos 0) ≡ (post t j).bound
  -- and a task that no such post names has the start that it had
  pub stays : (k : ℕ) → k < J.count → ((j : ℕ) → j < length t.posts → (post t j).bound ≤ℤ J.latest (post t j).task
      → (post t j).task ≡ k → ⊥)
      → get_or t.starts k (pos 0) ≡ J.earliest k
