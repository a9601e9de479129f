-- The tasks come into the arrays, and from there one by one into the theta tree. A task's leaf becomes white, and the root has the ect of the tasks read.
use mathlib.Core.Path.{◌≡◌, refl, sym, ap, ap₂, subst, ◌∙◌}
use mathlib.Core.List.{List}
use mathlib.Core.Option.{Option}
use Prim.Native.Nat.{ℕ, suc, ◌+◌, ◌-◌, ◌≤◌, ◌<◌}
use native.Mathlib.Omega.{arith}
use native.Mathlib.Numerals.{add-one}
use lib.Dec.{leb}
use lib.IntN.{ℤ}
use lib.ListN.{length, get_or, set, take, replicate, length-replicate}
use lib.Seq.{get_or-take}
use Rattle.integers.specs.Limits.{TASKS, U32MAX}
use Rattle.integers.specs.FilledLists.{filled, no_tasks}
use Rattle.integers.specs.Orders.{index, numbers, sort}
use Rattle.scheduling.specs.Scheduling.{natural, Tasks, completion}
use Rattle.scheduling.specs.Ects.{by_earliest, ect_of}
use Rattle.scheduling.proofs.Ects.{by_earliest_is}
use Rattle.trees.specs.Ects.{exceeds}
use Rattle.trees.specs.declared.theta_tree.ThetaTree.{ThetaTree}
use Rattle.trees.specs.Leaves.{Leaf, empty, white, in_theta, in_lambda, ect}
use Rattle.trees.specs.Trees.{IsPlainTree}
use Rattle.trees.specs.Operations.{HasTask}
use Rattle.trees.specs.PlainOperations.{HeldPlain, PlainNew, PlainWhitened}
use Rattle.sorts.specs.Orders.{SortedBy, Ranked, by_key}
use Rattle.integers.specs.Moments.{moment_at, completion_at}
use Rattle.sorts.proofs.Sorted.{sorted_as}
use Rattle.sorts.proofs.Ranks.{rank_index}
use Rattle.integers.proofs.StableSort.{key_whole, key_chain}
use Rattle.records.specs.declared.record.DisjunctivePropagator.{DisjunctivePropagator}
use Rattle.records.specs.Records.{moments_in}
use Rattle.records.specs.Refusals.{AcceptedInput}
use Rattle.records.proofs.AcceptedTasks.{completion_small, completions_are, completions_at}
use Rattle.chosen_sets.proofs.Recurrence.{limited, front_is}
use Rattle.chosen_sets.proofs.RecordArrays.{held as in_arrays, late}
use Rattle.overload_test.specs.declared.task_moments.TaskMoments.{TaskMoments}
use Rattle.overload_test.specs.ReadTasks.{by_completion, read, overloads_at, answer_from, answer_of}
use Rattle.overload_test.specs.ReadArrays.{no_task, HoldsTasks, Readable}
use Rattle.overload_test.proofs.ReadTasks.{by_completion_is, read_new, read_old, read_none}
use Rattle.integers.proofs.FilledLists.{get_d_fresh}
use Rattle.trees.proofs.RootAnswers as roots

module _ {inner : ℕ} {words mapping tasks : List ℕ} {m : TaskMoments} (f : Readable inner words mapping tasks m) where
  abbrev J : Tasks natural
  J = f.J

  abbrev est_order : List ℕ
  est_order = by_earliest f.J

  -- the tree has the first k tasks
  pub record Shows (k : ℕ) (now : List ℕ) : Type 0 where
    pub leaves : List Leaf
    pub tree : IsPlainTree f.J (by_earliest f.J) leaves inner now
    pub shape : roots.Represents f.J f.holds.held.proper (by_earliest f.J) (by_earliest_is f.J) leaves (read f.J k) no_task

  abbrev pub shown : (k : ℕ) {now : List ℕ} → Shows k now → HeldPlain inner now
  shown k t = record { J = f.J; est_order = by_earliest f.J; leaves = t.leaves; limited = limited f.holds.held; tree = t.tree }

  pub none_shown : Shows 0 words
  none_shown = record {
    leaves = replicate J.count empty;
    tree = f.tree;
    shape = record {
      size = length-replicate J.count empty;
      whites = λ k q. ap in_theta (get_d_fresh empty J.count (index est_order k)) ∙ sym (read_none J k);
      grays = λ k q. ap in_lambda (get_d_fresh empty J.count (index est_order k));
    };
  }

  pub all_answer : answer_of J ≡ answer_from J 0 (m.count - 0)
  all_answer = let z : J.count ≡ m.count - 0 = omega (arith, f.holds.held.count) in ap (answer_from J 0) z

  module _ (k : ℕ) (q : k < m.count) where
    -- the task to read
    abbrev i : ℕ
    i = get_or tasks k 0

    inside : k < J.count
    inside = omega (arith, f.holds.held.count)

    is_next : i ≡ get_or (by_completion J) k 0
    is_next = f.task k q

    small : i < m.count
    small = omega (arith, is_next, f.holds.held.count, (by_completion_is J).task k inside)

    pub task_known : i < TASKS
    task_known = omega (arith, small, f.holds.held.few)

    -- its leaf
    abbrev x : ℕ
    x = index est_order i

    x_small : x < J.count
    x_small = (by_earliest_is J).placed i (omega (arith, small, f.holds.held.count))

    pub has_task : {place : ℕ} → place ≡ get_or mapping i 0 → HasTask J est_order place (get_or m.est i 0) (get_or m.durations i 0)
    has_task e = subst (λ (y : ℕ). HasTask J est_order y (get_or m.est i 0) (get_or m.durations i 0)) (sym (e ∙ f.place i small))
        (let z : i ≡ get_or est_order x 0 = sym ((by_earliest_is J).there i (omega (arith, small, f.holds.held.count))) in
        record { inside = x_small; start = f.holds.held.start i small ∙ ap J.earliest z; lasts = f.holds.held.lasts i small ∙ ap J.duration z })

    pub was_added : {now now' : List ℕ} {place : ℕ} → place ≡ get_or mapping i 0 → (t : Shows k now) → PlainWhitened (shown k t) place now' → Shows (k + 1) now'
    was_added {now} {now'} e t p = record {
      leaves = set t.leaves x white;
      tree = subst (λ (y : ℕ). IsPlainTree J est_order (set t.leaves y white) inner now') (e ∙ f.place i small) p;
      shape = rw (add-one k) (roots.recoloured J f.holds.held.proper est_order (by_earliest_is J) t.leaves (read J k) no_task (read J (suc k)) no_task t.shape i
          (omega (arith, small, f.holds.held.count)) white
          (ap (read J (suc k)) is_next ∙ read_new J k inside) refl (λ j ne. (read_old J k j (λ z. ne (z ∙ sym is_next)), refl)));
    }

    -- the test, by what the tree answers
    pub test_is : {now : List ℕ} (t : Shows (k + 1) now) (v : Option ℕ) → v ≡ ect f.J (by_earliest f.J) t.leaves → exceeds v (get_or m.lct i 0) ≡ overloads_at J k
    test_is t v is = ap₂ exceeds (is ∙ roots.ect_of_is J f.holds.held.proper est_order (by_earliest_is J) t.leaves (read J (k + 1)) no_task t.shape ∙ ap (λ (t : ℕ). ect_of J (read J t)) (add-one k))
        (f.holds.ends i small ∙ ap (completion J) is_next)

-- How the arrays come to hold the tasks -------------------------------------------------------------------------------------------

module _ (r : DisjunctivePropagator) (es ls : List ℤ) (a : AcceptedInput r es ls) (long : length r.durations ≡ TASKS) {est lst : List ℕ} (e : est ≡ filled (moment_at es) (length es) no_tasks)
    (l : lst ≡ filled (moment_at ls) (length ls) no_tasks) where
  abbrev M : Tasks natural
  M = moments_in r es ls

  latest : (k : ℕ) → k < r.count → get_or lst k 0 ≡ M.latest k
  latest k q = (late r es ls a long l).at k q

  pub keys_small : (k : ℕ) → k < r.count → completion_at lst r.durations k ≤ U32MAX
  keys_small k q = omega (arith, completions_are r es ls a long lst latest k q, completion_small r es ls a long k q)

  pub holds_tasks : {lct : List ℕ} → lct ≡ filled (completion_at lst r.durations) r.count no_tasks
      → HoldsTasks (moments_in r es ls) (record { count = r.count; est = est; lct = lct; durations = r.durations })
  holds_tasks c = record {
    held = in_arrays r es ls a long e (λ k q. refl);
    ends = λ k q. ap (λ (o : List ℕ). get_or o k 0) c ∙ completions_at r es ls a long lst latest k q;
  }

module _ (J : Tasks natural) {m : TaskMoments} (h : HoldsTasks J m) where
  pub order_is : {tasks : List ℕ} → SortedBy (by_key m.lct) m.count tasks → take m.count tasks ≡ by_completion J
  order_is s = sorted_as s (λ j k. leb (completion J j) (completion J k)) (λ j k p q. ap₂ leb (h.ends j p) (h.ends k q))
      ∙ ap (λ (n : ℕ). sort (λ j k. leb (completion J j) (completion J k)) (numbers 0 n)) (sym h.held.count)

  abbrev pub readable : {leaves mapping tasks : List ℕ} {t : ThetaTree} → SortedBy (by_key m.est) m.count leaves × Ranked (by_key m.est) m.count mapping → SortedBy (by_key m.lct) m.count tasks
      → PlainNew m.count t → Readable t.number_of_internal_nodes t.nodes mapping tasks m
  readable {tasks = tasks} (s, r) s' new = record {
    J = J;
    holds = h;
    tree = new.empties J (by_earliest J) h.held.count;
    place = λ k q. r.at k q ∙ rank_index (by_key m.est) (key_whole (λ j. get_or m.est j 0)) (key_chain (λ j. get_or m.est j 0)) m.count k q
        ∙ ap (λ (o : List ℕ). index o k) (sym s.front ∙ front_is h.held s);
    task = λ k q. sym (get_or-take m.count tasks k 0 q) ∙ ap (λ (o : List ℕ). get_or o k 0) (order_is s');
  }
