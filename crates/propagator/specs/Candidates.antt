-- What the functions of a run do, by the run's definition: each keeps the code's slices and tree at a state of the definition.
use Rattle.std.specs.Prelude.{◌≡◌, true, false, List, [], ◌∷◌, ℕ, suc, ◌+◌, ◌*◌, ◌≤◌, ◌<◌, ℤ, pos, length, get_or, None, Result, Ok, Err}
use Rattle.std.specs.Prelude as code
use Rattle.std.proofs.Math.Option.{Option, some}
use Rattle.std.proofs.lemmas.List.Edits.{sets}
use Rattle.integers.specs.Moments.{instant, zero_at}
use Rattle.scheduling.specs.Scheduling.{natural, Tasks, Atom, completion}
use Rattle.scheduling.specs.Words.{atom_words}
use Rattle.trees.specs.Ects.{exceeds}
use Rattle.trees.specs.declared.disjunctive_task.LocalId.{LocalId}
use Rattle.trees.specs.Leaves as leaves
use Rattle.trees.specs.ArraySearches.{responsible_of}
use Rattle.trees.specs.Operations.{Held, Tall}
use Rattle.runs.specs.Runs.{State, Turn, on, stop, inner, propagation}
use Rattle.runs.specs.Reached.{Reached}
use Rattle.explanations.specs.WrittenAtoms.{starting}
use Rattle.propagator.specs.declared.disjunctive_propagator.Written.{Written}
use Rattle.propagator.specs.declared.disjunctive_propagator.Emptied.{Emptied}
use Rattle.propagator.specs.declared.task_arrays.TaskArrays.{TaskArrays}
use Rattle.propagator.specs.RunArrays.{Ordered, Holds, Arrays, theta_shown, At}

-- nothing is written, and some leaves have changed
abbrev pub nothing_written : ℕ → Written
nothing_written n = record { posts = 0; atoms = 0; changes = n }

-- with more leaf changes
abbrev pub counted : Written → ℕ → Written
counted w more = record { posts = w.posts; atoms = w.atoms; changes = w.changes + more }

-- the task to consider next, by ect_bar and the responsible leaf: none where ect_bar is not past lct
unfoldable pub candidate_of : List ℕ → ℕ → Option ℕ → Option ℕ → code.Option LocalId
candidate_of reverse_mapping lct ect_bar_of found = elim (exceeds ect_bar_of lct) [ true ↦ responsible_of reverse_mapping found | false ↦ None ]

-- the answer of `candidate`
abbrev pub Proposes : TaskArrays → List ℕ → ℕ → code.Option LocalId → Type 0
Proposes tasks words lct r = (h : Held tasks.size.inner words) → Tall h tasks.size.height
    → r ≡ candidate_of tasks.reverse_mapping.now lct (leaves.ect_bar_of h.J h.est_order h.leaves) (leaves.responsible h.J h.est_order h.leaves)

-- a post's reason, by the tree and the arrays
abbrev pub reason_of : (tasks : TaskArrays) {words : List ℕ} → Held tasks.size.inner words → ℕ → ℕ → ℕ → List Atom
reason_of tasks {words} h i new_bound lct =
    propagation zero_at (starting tasks.est.now tasks.durations.now) i new_bound lct (leaves.sum h.J h.est_order h.leaves) (theta_shown tasks words)

-- A post: its four words and its reason's stand after those written so far. It changes no leaf.
pub record Posted (posts atoms posts' atoms' : List ℤ) (before after : Written) (i new_bound : ℕ) (reason : List Atom) : Type 0 where
  pub post_words_are : posts' ≡ sets posts (4 * before.posts) (pos i ∷ instant zero_at new_bound ∷ pos before.atoms ∷ pos (length reason) ∷ [])
  pub atom_words_are : atoms' ≡ sets atoms (3 * before.atoms) (atom_words reason)
  pub posted : after.posts ≡ before.posts + 1
  pub explained : after.atoms ≡ before.atoms + length reason
  pub counted : after.changes ≡ before.changes

-- What stands at a level of a run: the tasks and orders, the arrays that hold them, and the state st that the definition goes through and that tree and slices
-- are at.
pub record Considerable (tasks : TaskArrays) (lct : ℕ) (words : List ℕ) (es posts atoms : List ℤ) (w : Written) : Type 0 where
  pub J : Tasks natural
  pub est_order : List ℕ
  pub lct_order : List ℕ
  pub level : ℕ
  pub st : State
  pub posts₀ : List ℤ
  pub atoms₀ : List ℤ
  pub ordered : Ordered J est_order lct_order
  pub arrays : Arrays J est_order tasks
  pub latest : Holds tasks.size.leaves J.latest tasks.lst.now
  pub small : level < J.count
  pub ends : lct ≡ completion J (get_or lct_order level 0)
  pub post_room : 4 * tasks.size.leaves ≤ length posts₀
  pub atom_room : 6 * (tasks.size.leaves * tasks.size.leaves) ≤ length atoms₀
  pub reached : Reached zero_at J est_order lct_order level st
  pub at : At J est_order posts₀ atoms₀ st tasks.size.inner words es posts atoms w.posts w.atoms w.changes

module _ {tasks : TaskArrays} {lct : ℕ} {words : List ℕ} {es posts atoms : List ℤ} {w : Written} (s : Considerable tasks lct words es posts atoms w) where
  -- the state st' follows: tree and slices are at it
  abbrev pub AtNow : State → List ℕ → List ℤ → List ℤ → List ℤ → Written → Type 0
  AtNow st' words' es' posts' atoms' w' = At s.J s.est_order s.posts₀ s.atoms₀ st' tasks.size.inner words' es' posts'
      atoms' w'.posts w'.atoms
      w'.changes

  abbrev pub turns : ℕ → State → Turn
  turns f st' = inner zero_at s.J s.est_order s.lct_order f s.level st'

  -- one turn of the inner loop
  abbrev pub Considered : Result Written Emptied → List ℕ → List ℤ → List ℤ → List ℤ → Type 0
  Considered (Ok w') words' es' posts' atoms' = (st' : State) × AtNow st' words' es' posts' atoms' w'
      × ((f : ℕ) → turns (suc f) s.st ≡ turns f st')
  Considered (Err at) words' es' posts' atoms' = (st' : State) × AtNow st' words' es' posts' atoms' at.0
      × ((f : ℕ) → turns (suc f) s.st ≡ stop st')

  -- f turns of the inner loop
  abbrev pub AllConsidered : ℕ → Result Written Emptied → List ℕ → List ℤ → List ℤ → List ℤ → Type 0
  AllConsidered f (Ok w') words' es' posts' atoms' = (st' : State) × AtNow st' words' es' posts' atoms' w'
      × (turns f s.st ≡ on st')
  AllConsidered f (Err at) words' es' posts' atoms' = (st' : State) × AtNow st' words' es' posts' atoms' at.0
      × (turns f s.st ≡ stop st')

  -- x is the leaf of the task i to consider
  pub record ResponsibleFor (i x : ℕ) : Type 0 where
    pub over : exceeds (leaves.ect_bar_of s.J s.est_order s.st.leaves) lct ≡ true
    pub found : leaves.responsible s.J s.est_order s.st.leaves ≡ some x
    pub task : i ≡ get_or s.est_order x 0
