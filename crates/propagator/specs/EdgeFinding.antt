-- Edge finding as code: what stands when it begins, and what it leaves, by the run's definition.
use Rattle.std.specs.Prelude.{◌≡◌, Bool, true, false, List, ◌++◌, ℕ, ◌*◌, ◌≤◌, ◌<◌, ltb, ℤ, length, get_or}
use Rattle.std.proofs.lemmas.List.Edits.{sets}
use Rattle.integers.specs.Moments.{zero_at}
use Rattle.scheduling.specs.Scheduling.{natural, Tasks, Atom, completion}
use Rattle.trees.specs.Ects.{raised_to}
use Rattle.trees.specs.Leaves.{Leaf, ect_bar_of, sum}
use Rattle.trees.specs.Trees.{Limited, IsTree, HasLeaves}
use Rattle.trees.specs.Operations.{Held, HeldLeaves}
use Rattle.runs.specs.Runs.{conflict, run, all_white}
use Rattle.scheduling.specs.Words.{atom_words}
use Rattle.runs.specs.Words.{post_words, reasons, end_reason}
use Rattle.runs.specs.Outcomes.{outcome_numbers}
use Rattle.runs.specs.EndNumbers.{trace_numbers}
use Rattle.explanations.specs.WrittenAtoms.{starting}
use Rattle.propagator.specs.declared.disjunctive_propagator.Written.{Written}
use Rattle.propagator.specs.declared.task_arrays.TaskArrays.{TaskArrays}
use Rattle.propagator.specs.RunArrays.{Ordered, Holds, Arrays, theta_shown, Slices}
use Rattle.runs.specs.declared.outcome.Outcome.{Outcome}
use Rattle.runs.specs.declared.outcome.Outcome.TheVariants as outcome
use Rattle.runs.specs.declared.outcome.Finished.{Finished}

-- Tasks in an order and leaves over them, of which `last` is at least the ect_bar; where it is past a moment, the words hold their tree.
pub record HeldPast (inner : ℕ) (words : List ℕ) (last moment : ℕ) : Type 0 where
  pub J : Tasks natural
  pub est_order : List ℕ
  pub leaves : List Leaf
  pub limited : Limited J est_order
  pub most : raised_to 0 (ect_bar_of J est_order leaves) ≤ last
  pub tree : moment < last → IsTree J est_order leaves inner words

-- The inner nodes are joined where an ect_bar is past a moment: whatever leaves the words held, they hold these, and then their tree.
pub record JoinedPast (inner : ℕ) (words words' : List ℕ) (last moment : ℕ) (joined : Bool) : Type 0 where
  pub past : joined ≡ ltb moment last
  pub has : (l : HeldLeaves inner words) → HasLeaves l.J l.est_order l.leaves inner words'
  pub tree : (l : HeldLeaves inner words) → joined ≡ true → IsTree l.J l.est_order l.leaves inner words'

-- the reason of an overload, by the tree and the arrays
abbrev pub conflict_of : (tasks : TaskArrays) {words : List ℕ} → Held tasks.size.inner words → ℕ → List Atom
conflict_of tasks {words} h lct = conflict zero_at (starting tasks.est.now tasks.durations.now) lct (sum h.J h.est_order h.leaves) (theta_shown tasks words)

-- it stands after the atoms written so far
pub record ConflictExplained (atoms atoms' : List ℤ) (w : Written) (r : Finished) (reason : List Atom) : Type 0 where
  pub atom_words_are : atoms' ≡ sets atoms (3 * w.atoms) (atom_words reason)
  pub answer : r.outcome ≡ outcome.Overload w.posts w.atoms (length reason)
  pub changes : r.changes ≡ w.changes

-- What edge finding is given: the tasks in both orders, the arrays that hold them, their ect, room for posts and reasons, and all leaves white. Where the ect
-- is past the first lct, their tree is there too.
pub record EdgeFindable (tasks : TaskArrays) (ect : ℕ) (past : Bool) (words : List ℕ) (es posts atoms : List ℤ) : Type 0 where
  pub J : Tasks natural
  pub est_order : List ℕ
  pub lct_order : List ℕ
  pub ordered : Ordered J est_order lct_order
  pub arrays : Arrays J est_order tasks
  pub latest : Holds tasks.size.leaves J.latest tasks.lst.now
  pub completions : Holds tasks.size.leaves (completion J) tasks.lct.now
  pub order : Holds tasks.size.leaves (λ t. get_or lct_order t 0) tasks.sorted_tasks.now
  pub post_room : 4 * tasks.size.leaves ≤ length posts
  pub atom_room : 6 * (tasks.size.leaves * tasks.size.leaves) ≤ length atoms
  pub ect_is : ect ≡ raised_to 0 (ect_bar_of J est_order (all_white J).leaves)
  pub has : HasLeaves J est_order (all_white J).leaves tasks.size.inner words
  pub tree : past ≡ true → IsTree J est_order (all_white J).leaves tasks.size.inner words
  pub unjoined : past ≡ false → ect ≤ completion J (get_or lct_order 0 0)
  pub slices : Slices posts atoms (all_white J) es posts atoms 0 0 tasks.size.leaves

-- What it leaves: the trace of the run's definition.
pub record EdgeFound (J : Tasks natural) (est_order lct_order : List ℕ) (posts atoms : List ℤ) (r : Outcome) (changed : ℕ)
    (es' posts' atoms' : List ℤ) : Type 0 where
  pub answer : outcome_numbers r ≡ trace_numbers (run zero_at J est_order lct_order)
  pub changes : changed ≡ (run zero_at J est_order lct_order).changes
  pub starts : es' ≡ (run zero_at J est_order lct_order).starts
  pub post_words_are : posts' ≡ sets posts 0 (post_words 0 (run zero_at J est_order lct_order).posts)
  pub atom_words_are : atoms'
      ≡ sets atoms 0 (atom_words (reasons (run zero_at J est_order lct_order).posts ++ end_reason (run zero_at J est_order lct_order).end))
