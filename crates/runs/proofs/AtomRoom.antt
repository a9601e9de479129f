-- There is room for what a run writes: it makes fewer posts than there are tasks, and a reason has fewer atoms than twice their number.
use mathlib.Core.Path.{◌≡◌, sym, ap, subst, ◌∙◌}
use mathlib.Core.Bool.{Bool, false}
use mathlib.Core.Logic.{inl, inr}
use mathlib.Core.List.{List, [], ◌∷◌}
use Prim.Native.Nat.{ℕ, zero, suc, ◌+◌, ◌*◌, ◌≤◌, ◌<◌}
use native.Mathlib.Omega.{arith}
use native.Mathlib.Decide.{ℕ_discrete}
use lib.ListN.{length, get_or, length-append}
use Rattle.integers.specs.Orders.{index}
use Rattle.integers.proofs.Bools.{bool}
use Rattle.scheduling.specs.Scheduling.{natural, Tasks, Proper, TaskSet, In}
use Rattle.scheduling.proofs.SetSizes.{card_less}
use Rattle.scheduling.specs.Moments.{ByEarliest, ByCompletion}
use Rattle.trees.specs.Leaves.{Leaf, white_at, task_place, theta}
use Rattle.trees.specs.Searches.{theta_of}
use Rattle.trees.proofs.RootAnswers as tree
use Rattle.trees.proofs.WhiteTasks.{theta_none, theta_white, theta_skip, theta_is}
use Rattle.runs.specs.Traces.{Post}
use Rattle.runs.specs.Runs.{State, run}
use Rattle.runs.specs.Words.{reasons}
use Rattle.runs.proofs.ReasonLengths.{conflict_length, propagation_length}
use Rattle.runs.proofs.LevelSteps.{Measure, OutOk, run_ok, Inv, Th, lam, AllGood}

-- at most d of d leaves are white,
pub theta_few : (white : ℕ → Bool) (task : ℕ → ℕ) (a d : ℕ) → length (theta_of white task a d) ≤ d
theta_few white task a zero = rw (theta_none white task a) (omega arith)
theta_few white task a (suc d) = elim (bool (white a))
    [ inl y ↦ rw (theta_white white task a d y) (omega (arith, theta_few white task (suc a) d)) | inr y ↦ rw (theta_skip white task a d y) (omega (arith, theta_few white task (suc a) d)) ]

-- and fewer where one is not
theta_fewer : (white : ℕ → Bool) (task : ℕ → ℕ) (a d x : ℕ) → a ≤ x → x < a + d → white x ≡ false → suc (length (theta_of white task a d)) ≤ d
theta_fewer white task a zero x p q y = absurd (omega arith)
theta_fewer white task a (suc d) x p q y = elim (ℕ_discrete a x) [
  | yes z ↦ rw (theta_skip white task a d (ap white z ∙ y)) (omega (arith, theta_few white task (suc a) d))
  | no z ↦ elim (bool (white a)) [
    | inl w ↦ rw (theta_white white task a d w) (omega (arith, theta_fewer white task (suc a) d x (omega arith) (omega arith) y))
    | inr w ↦ rw (theta_skip white task a d w) (omega (arith, theta_few white task (suc a) d))
  ]
]

module _ (o : ℕ) (J : Tasks natural) (ok : Proper J) (est_order lct_order : List ℕ) (rk : ByEarliest J (λ j. get_or est_order j 0) (λ k. index est_order k))
    (ord : ByCompletion J (λ t. get_or lct_order t 0) (λ k. index lct_order k)) where
  abbrev n : ℕ
  n = J.count

  -- a reason is short
  abbrev pub Short : Post → Type 0
  Short p = length p.reason + 1 ≤ 2 * n

  abbrev pub ShortEnd : List Rattle.scheduling.specs.Scheduling.Atom → Type 0
  ShortEnd r = length r ≤ 2 * n

  pub theta_most : (ls : List Leaf) → length (theta J est_order ls) ≤ n
  theta_most ls = subst (λ (l : List ℕ). length l ≤ n) (sym (theta_is J est_order ls)) (theta_few (white_at ls) (task_place J est_order) 0 n)

  pub theta_less : (ls : List Leaf) (x : ℕ) → x < n → white_at ls x ≡ false → suc (length (theta J est_order ls)) ≤ n
  theta_less ls x q y = subst (λ (l : List ℕ). suc (length l) ≤ n) (sym (theta_is J est_order ls)) (theta_fewer (white_at ls) (task_place J est_order) 0 n x (omega arith) (omega arith) y)

  found_not_white : (t : ℕ) (ls : List Leaf) (Λ : TaskSet) (s : tree.Represents J ok est_order rk ls (Th o J ok est_order lct_order rk ord t) Λ) (x : ℕ)
      → tree.Found J ok est_order rk ls (Th o J ok est_order lct_order rk ord t) Λ s x → white_at ls x ≡ false
  found_not_white t ls Λ s x f = tree.white_at_is J ok est_order rk ls (Th o J ok est_order lct_order rk ord t) Λ s x f.small ∙ f.out

  pub short : Measure o J ok est_order lct_order rk ord Short ShortEnd
  short = record {
    of_post = λ t ls Λ s x b small f late over is up edge.
        omega (
          arith,
          propagation_length o J (get_or est_order x 0) b (Rattle.scheduling.specs.Scheduling.completion J (get_or lct_order t 0)) (Rattle.trees.specs.Leaves.sum J est_order ls) (theta J est_order ls),
          theta_less ls x f.small (found_not_white t ls Λ s x f),
        );
    of_end = λ t ls Λ s small over wrong.
        omega (arith, conflict_length o J (Rattle.scheduling.specs.Scheduling.completion J (get_or lct_order t 0)) (Rattle.trees.specs.Leaves.sum J est_order ls) (theta J est_order ls), theta_most ls);
  }

  pub short_run : 1 ≤ n → OutOk o J ok est_order lct_order rk ord Short ShortEnd short (run o J est_order lct_order)
  short_run = run_ok o J ok est_order lct_order rk ord Short ShortEnd short

  pub reasons_short : (ps : List Post) → AllGood o J ok est_order lct_order rk ord Short ShortEnd short ps → length (reasons ps) + length ps ≤ length ps * (2 * n)
  unfolding reasons
  reasons_short [] g = omega arith
  reasons_short (p ∷ ps) g = omega (arith, length-append p.reason (reasons ps), g 0 (omega arith), reasons_short ps (λ j q. g (suc j) (omega arith)))

  module _ (t : ℕ) (st : State) (v : Inv o J ok est_order lct_order rk ord Short ShortEnd short t st) where
    -- at level t there are at most t posts,
    pub posts_few : length st.posts ≤ t
    posts_few = omega (arith, v.few)

    -- and fewer where a task is in Λ, which was not posted yet
    pub posts_fewer : (k : ℕ) → In J (lam o J ok est_order lct_order rk ord Short ShortEnd short st) k → suc (length st.posts) ≤ t
    posts_fewer k h = omega (arith, v.few, card_less J (lam o J ok est_order lct_order rk ord Short ShortEnd short st) k h)
