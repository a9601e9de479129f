-- The mirrored pass: a run on mirrored tasks, mirrored back into the caller's time; and what it must be.
use Rattle.std.specs.Prelude.{◌≡◌, ◌↔◌, List, [], ◌∷◌, map, ℕ, suc, ◌≤◌, ◌<◌, ℤ, pos, ◌≤ℤ◌, ◌<ℤ◌, length, get_or}
use Rattle.scheduling.specs.Scheduling.{whole, Tasks, Schedule, Atom, HoldsAtEntry, PassesWith, PassesAlone}
use Rattle.scheduling.specs.MirroredTime.{start_mirrored, mirror, mirror_atom, mirror_atoms, MirroredBound, MirroredConflict, MirroredDone}
use Rattle.runs.specs.Traces.{Post, End, done, overload, emptied, Trace}
use Rattle.runs.specs.Runs.{propagate}
use Rattle.runs.specs.Demand.{post}

-- The pass ---------------------------------------------------------------------------------------------------------------------

-- starts of tasks with these durations, mirrored
abbrev pub starts_mirrored : List ℕ → List ℤ → List ℤ
starts_mirrored (d ∷ ds) (z ∷ zs) = start_mirrored d z ∷ starts_mirrored ds zs
starts_mirrored (d ∷ ds) [] = []
starts_mirrored [] zs = []

module _ (ds : List ℕ) where
  abbrev pub duration_in : ℕ → ℕ
  duration_in k = get_or ds k 0

  abbrev pub mirror_post : Post → Post
  mirror_post p = record { task = p.task; bound = start_mirrored (duration_in p.task) p.bound; reason = mirror_atoms duration_in p.reason }

  abbrev pub mirror_end : End → End
  mirror_end done = done
  mirror_end (overload r) = overload (mirror_atoms duration_in r)
  mirror_end emptied = emptied

  -- a trace in the caller's time: its starts are the latest starts
  abbrev pub mirror_trace : Trace → Trace
  mirror_trace t = record { posts = map mirror_post t.posts; end = mirror_end t.end; starts = starts_mirrored ds t.starts; changes = t.changes }

-- the run on mirrored tasks, in mirrored time
abbrev pub mirrored_run : List ℕ → List ℤ → List ℤ → Trace
mirrored_run ds es ls = propagate ds (starts_mirrored ds ls) (starts_mirrored ds es)

-- the pass on tasks with the ranges es to ls
abbrev pub mirrored_pass : List ℕ → List ℤ → List ℤ → Trace
mirrored_pass ds es ls = mirror_trace ds (mirrored_run ds es ls)

-- What it must be --------------------------------------------------------------------------------------------------------------

-- what a post says: its task starts at or before its bound
abbrev pub mirrored_consequent : Post → Atom
mirrored_consequent p = record { variable = p.task; kind = 1; value = p.bound }

-- A post, whatever the outcome; its reason, mirrored, meets the checker's formula.
pub record MirroredPostRight (J : Tasks whole) (p : Post) : Type 0 where
  pub small : p.task < J.count
  pub lowers : p.bound <ℤ J.latest p.task
  pub rule : MirroredBound J p.task p.bound
  pub holds : (s : ℕ → ℤ) → Schedule J s → s p.task ≤ℤ p.bound
  pub reason_holds : HoldsAtEntry J p.reason
  pub reason_passes : PassesWith (mirror J) (mirror_atoms J.duration p.reason) (mirror_atom J.duration (mirrored_consequent p))

pub record MirroredOverloadRight (J : Tasks whole) (reason : List Atom) : Type 0 where
  pub reason_holds : HoldsAtEntry J reason
  pub reason_passes : PassesAlone (mirror J) (mirror_atoms J.duration reason)

pub record MirroredRight (J : Tasks whole) (t : Trace) : Type 0 where
  -- Done exactly when no set overloads its span and no bound of the mirrored rule is below an earliest start
  pub exactly : t.end ≡ done ↔ (MirroredConflict J → ⊥)
  -- then each latest start is the smallest of the old one and its bounds, and the posts are one for each task so moved, at its smallest bound
  pub when_done : t.end ≡ done → MirroredDone J (λ k. get_or t.starts k (pos 0)) (length t.posts) (λ j. (post t j).task) (λ j. (post t j).bound)
  -- otherwise there is no schedule
  pub otherwise : (t.end ≡ done → ⊥) → (s : ℕ → ℤ) → Schedule J s → ⊥
  -- every post and every reason, whatever the outcome
  pub posts : (j : ℕ) → j < length t.posts → MirroredPostRight J (post t j)
  pub overloads : (reason : List Atom) → t.end ≡ overload reason → MirroredOverloadRight J reason
  -- a pass that is emptied has a post; its last one, and no other of any pass, has a bound below its task's earliest start
  pub some_post : t.end ≡ emptied → 1 ≤ length t.posts
  pub below : (j : ℕ) → j < length t.posts → (post t j).bound <ℤ J.earliest (post t j).task
      ↔ ((t.end ≡ emptied) × (suc j ≡ length t.posts))
  -- whatever the outcome, each other post's bound is its task's latest start,
  pub stands : (j : ℕ) → j < length t.posts → J.earliest (post t j).task ≤ℤ (post t j).bound
      → get_or t.starts (post t j).task (pos 0) ≡ (post t j).bound
  -- and a task that no such post names has the latest start that it had
  pub stays : (k : ℕ) → k < J.count → ((j : ℕ) → j < length t.posts → J.earliest (post t j).task ≤ℤ (post t j).bound
      → (post t j).task ≡ k → ⊥)
      → get_or t.starts k (pos 0) ≡ J.latest k
