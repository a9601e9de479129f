-- The recurrence of the ect over the tasks by earliest start: what is left of it, from the ect of the tasks before, is the whole.
use mathlib.Core.Path.{◌≡◌, refl, sym, ap, ap₂, subst, ◌∙◌}
use mathlib.Core.Bool.{Bool, true, false, cond}
use mathlib.Core.List.{List, []}
use mathlib.Core.Option.{Option, some}
use Prim.Native.Nat.{ℕ, zero, suc, ◌+◌, ◌≤◌, ◌<◌, max}
use native.Mathlib.Numerals.{add-one}
use native.Mathlib.Omega.{arith}
use lib.Dec.{leb}
use lib.ListN.{length, get_or, take, drop}
use lib.Seq.{drop-cons, drop-length}
use Rattle.integers.specs.Limits.{TASKS, DURATIONS, U32MAX}
use Rattle.integers.specs.Orders.{sort, numbers}
use Rattle.scheduling.specs.Scheduling.{natural, Tasks, TaskSet, total}
use Rattle.scheduling.specs.Ects.{by_earliest, completes, ect_after, ect_of}
use Rattle.scheduling.proofs.Ects.{by_earliest_is, order_size, after_none, after_more}
use Rattle.scheduling.proofs.Sets.{total_part, total_more}
use Rattle.sorts.specs.Orders.{SortedBy, by_key}
use Rattle.sorts.proofs.Sorted.{sorted_as}
use Rattle.trees.specs.Ects.{decoded}
use Rattle.trees.specs.NodeBounds.{LATEST}
use Rattle.trees.specs.Trees.{Limited}
use Rattle.trees.proofs.Ects.{decoded_none, decoded_some}
use Rattle.trees.proofs.RootAnswers as tree
use Rattle.chosen_sets.specs.TaskArrays.{HeldSet, completed}

module _ {J : Tasks natural} {Ω : TaskSet} {n : ℕ} {chosen : List Bool} {est durations : List ℕ} (h : HeldSet J Ω n chosen est durations) where
  -- the numbers stay in their range, in the order of earliest starts too
  pub limited : Limited J (by_earliest J)
  limited =
      tree.limited J h.proper (by_earliest J) (by_earliest_is J) (omega (arith, h.count, h.few)) (λ k q. h.early k (omega (arith, h.count)))
      (subst (λ (m : ℕ). total J.duration m ≤ DURATIONS) (sym h.count) h.sum)

  -- sorted by the keys in the array, the order is that of the earliest starts
  pub front_is : {m : List ℕ} → SortedBy (by_key est) n m → take n m ≡ by_earliest J
  front_is s = sorted_as s (λ j k. leb (J.earliest j) (J.earliest k)) (λ j k p q. ap₂ leb (h.start j p) (h.start k q))
      ∙ ap (λ (m : ℕ). sort (λ j k. leb (J.earliest j) (J.earliest k)) (numbers 0 m)) (sym h.count)

-- The tasks at the places before x are done, and their ect is `ect`.
pub record Done (J : Tasks natural) (Ω : TaskSet) (x ect : ℕ) : Type 0 where
  pub rest : ect_after J Ω (decoded ect) (drop x (by_earliest J)) ≡ ect_of J Ω
  pub most : ect ≤ LATEST + total (λ j. J.duration (get_or (by_earliest J) j 0)) x

pub none_done : (J : Tasks natural) (Ω : TaskSet) → Done J Ω 0 0
none_done J Ω = record { rest = ap (λ (o : Option ℕ). ect_after J Ω o (by_earliest J)) (decoded_none 0 refl); most = omega arith }

module _ {J : Tasks natural} {Ω : TaskSet} {n : ℕ} {chosen : List Bool} {est durations order : List ℕ} (h : HeldSet J Ω n chosen est durations) (s : SortedBy (by_key est) n order) where
  front_size : length (take n order) ≡ J.count
  front_size = ap length (front_is h s) ∙ order_size J

  module _ (x : ℕ) (q : x < length (take n order)) where
    abbrev i : ℕ
    i = get_or (take n order) x 0

    abbrev k : ℕ
    k = get_or (by_earliest J) x 0

    inside : x < J.count
    inside = omega (arith, front_size)

    task_is : i ≡ k
    task_is = ap (λ (o : List ℕ). get_or o x 0) (front_is h s)

    small : i < n
    small = omega (arith, task_is, h.count, (by_earliest_is J).task x inside)

    pub task_known : i < TASKS
    task_known = omega (arith, small, h.few)

    start_is : get_or est i 0 ≡ J.earliest k
    start_is = h.start i small ∙ ap J.earliest task_is

    lasts_is : get_or durations i 0 ≡ J.duration k
    lasts_is = h.lasts i small ∙ ap J.duration task_is

    chosen_is : get_or chosen i false ≡ Ω k
    chosen_is = h.member i small ∙ ap Ω task_is

    next_most : (ect : ℕ) → Done J Ω x ect → max ect (J.earliest k) + J.duration k ≤ LATEST + total (λ j. J.duration (get_or (by_earliest J) j 0)) (x + 1)
    next_most ect d = omega (arith, d.most, (limited h).starts x inside, total_more (λ j. J.duration (get_or (by_earliest J) j 0)) x)

    pub next_fits : (ect : ℕ) → Done J Ω x ect → max ect (get_or est i 0) + get_or durations i 0 ≤ U32MAX
    next_fits ect d = rw (start_is, lasts_is) (omega (
      arith,
      next_most ect d,
      total_more (λ j. J.duration (get_or (by_earliest J) j 0)) x,
      total_part (λ j. J.duration (get_or (by_earliest J) j 0)) J.count x inside,
      (limited h).durations,
    ))

    -- one task more: none that lasts completes at 0
    joined : (b : Bool) (ect : ℕ) → decoded (completed ect b (J.earliest k) (J.duration k)) ≡ cond b (some (completes J (decoded ect) k)) (decoded ect)
    joined false ect = refl
    joined true ect = decoded_some _ (omega (arith, (limited h).lasts x inside)) ∙ ap some (by ect)
      where
        by : (ect : ℕ) → max ect (J.earliest k) + J.duration k ≡ completes J (decoded ect) k
        by zero = rw (decoded_none 0 refl) (omega arith)
        by (suc e) = rw (decoded_some (suc e) (omega arith)) (omega arith)

    pub one_done : (ect r : ℕ) → Done J Ω x ect → r ≡ completed ect (get_or chosen i false) (get_or est i 0) (get_or durations i 0) → Done J Ω (x + 1) r
    one_done ect r d e = subst (Done J Ω (x + 1)) (sym (e ∙ rw (chosen_is, start_is, lasts_is) refl)) (record { rest = rest; most = most (Ω k) })
      where
        rest : ect_after J Ω (decoded (completed ect (Ω k) (J.earliest k) (J.duration k))) (drop (x + 1) (by_earliest J)) ≡ ect_of J Ω
        rest = rw (joined (Ω k) ect, add-one x) (sym (after_more J Ω (decoded ect) k (drop (suc x) (by_earliest J)))
            ∙ ap (ect_after J Ω (decoded ect)) (sym (drop-cons (by_earliest J) x 0 (omega (arith, inside, order_size J)))) ∙ d.rest)

        most : (b : Bool) → completed ect b (J.earliest k) (J.duration k) ≤ LATEST + total (λ j. J.duration (get_or (by_earliest J) j 0)) (x + 1)
        most true = next_most ect d
        most false = omega (arith, d.most, total_more (λ j. J.duration (get_or (by_earliest J) j 0)) x)

  pub all_done : (x ect : ℕ) → x ≡ length (take n order) → Done J Ω x ect → decoded ect ≡ ect_of J Ω
  all_done x ect e d = sym (after_none J Ω (decoded ect)) ∙ ap (ect_after J Ω (decoded ect)) (sym end) ∙ d.rest
    where
      end : drop x (by_earliest J) ≡ []
      end = ap (λ (m : ℕ). drop m (by_earliest J)) (let z : x ≡ length (by_earliest J) = omega (arith, order_size J, front_size) in z) ∙ drop-length (by_earliest J)
