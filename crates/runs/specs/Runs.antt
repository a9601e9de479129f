-- The run of edge finding, as a function on values: `edge_finding` with its two explanations, line by line.
--
-- Inside, moments are natural numbers; atoms and posts leave as whole numbers. A start is read as it was at entry: the source reads it from the store, but
-- a task's start changes only when it leaves Λ, and after that it is never read again.
use Rattle.std.specs.Prelude.{Bool, true, false, List, [], ◌∷◌, ◌++◌, map, ℕ, zero, suc, ◌+◌, ◌-◌, ◌/◌, min, ℤ, eqb, leb, ltb, get_or, set, replicate}
use Rattle.std.proofs.Math.Option.{some, none}
use Rattle.integers.specs.Moments.{instant, zero_at}
use Rattle.integers.specs.Orders.{sort, index, numbers}
use Rattle.scheduling.specs.Scheduling.{natural, Tasks, tasks_of, completion, Atom}
use Rattle.scheduling.specs.Moments.{moments}
use Rattle.trees.specs.Ects.{exceeds}
use Rattle.trees.specs.Leaves.{Leaf, empty, white, gray, task_place, ect, ect_bar_of, sum, responsible, theta}
use Rattle.runs.specs.Traces.{Post, End, done, overload, emptied, Trace}

-- the reasons -------------------------------------------------------------------------------------------------------------------

module _ (o : ℕ) (J : Tasks natural) where
  abbrev pub at_least : ℕ → ℕ → Atom
  at_least k v = record { variable = k; kind = 0; value = instant o v }

  abbrev pub at_most : ℕ → ℕ → Atom
  at_most k v = record { variable = k; kind = 1; value = instant o v }

  -- the tasks ks start at `low` or later and end by `high`
  unfoldable pub within : ℕ → ℕ → List ℕ → List Atom
  within low high [] = []
  within low high (k ∷ ks) = at_least k low ∷ at_most k (high - J.duration k) ∷ within low high ks

  -- `create_conflict_explanation`. ω is ks, which starts at e and lasts p; delta is what it passes lct by, less one
  abbrev pub conflict_of : ℕ → ℕ → ℕ → List ℕ → List Atom
  conflict_of lct p e ks = let delta = (e + p) - (lct + 1) in within (e - delta / 2) (lct + (delta - delta / 2)) ks

  -- and the walk to it: ks is what is left of Θ, and lasts p; the last task is never taken out
  unfoldable pub conflict : ℕ → ℕ → List ℕ → List Atom
  conflict lct p [] = []
  conflict lct p (k ∷ []) = conflict_of lct p (J.earliest k) (k ∷ [])
  conflict lct p (k ∷ j ∷ ks) = elim (ltb lct (J.earliest k + p)) [
    | true ↦ conflict_of lct p (J.earliest k) (k ∷ j ∷ ks)
    | false ↦ conflict lct (p - J.duration k) (j ∷ ks)
  ]

  -- `create_propagation_explanation`, its second walk: it finds ω', whose completion is b; the tasks before it start at r or later
  unfoldable pub bounds : ℕ → ℕ → ℕ → ℕ → List ℕ → List Atom
  bounds b r last p [] = []
  bounds b r last p (k ∷ ks) = elim (eqb b (J.earliest k + p)) [
    | true ↦ within (b - p) last (k ∷ ks)
    | false ↦ at_least k r ∷ at_most k (last - J.duration k) ∷ bounds b r last (p - J.duration k) ks
  ]

  abbrev pub propagation_of : ℕ → ℕ → ℕ → ℕ → List ℕ → List Atom
  propagation_of i b p r ks = bounds b r (r + p + J.duration i - 1) p ks ++ (at_least i r ∷ [])

  -- its first walk: it finds ω, which i cannot go before
  unfoldable pub propagation : ℕ → ℕ → ℕ → ℕ → List ℕ → List Atom
  propagation i b lct p [] = []
  propagation i b lct p (k ∷ ks) = elim (ltb lct (min (J.earliest i) (J.earliest k) + p + J.duration i)) [
    | true ↦ propagation_of i b p (min (J.earliest i) (J.earliest k)) (k ∷ ks)
    | false ↦ propagation i b lct (p - J.duration k) ks
  ]

-- the run -----------------------------------------------------------------------------------------------------------------------

-- The state of a run: the leaves, the starts, the posts, and how many leaves were put in or taken out.
pub record State : Type 0 where
  pub leaves : List Leaf
  pub starts : List ℕ
  pub posts : List Post
  pub changes : ℕ

-- the inner loop ends, or a post empties a range
pub data Turn : Type 0 where
  on : State → Turn
  stop : State → Turn

-- `add_to_lambda` after `remove_from_theta`, which are two changes, and `remove_from_lambda`, at leaf x; the start of i is raised to b
abbrev pub grayed : State → ℕ → State
grayed st x = record { leaves = set st.leaves x gray; starts = st.starts; posts = st.posts; changes = st.changes + 2 }

abbrev pub dropped : State → ℕ → State
dropped st x = record { leaves = set st.leaves x empty; starts = st.starts; posts = st.posts; changes = st.changes + 1 }

abbrev pub raised : State → ℕ → ℕ → State
raised st i b = record { leaves = st.leaves; starts = set st.starts i b; posts = st.posts; changes = st.changes }

unfoldable pub tabulate : {A : Type 0} → (ℕ → A) → ℕ → ℕ → List A
tabulate f a zero = []
tabulate f a (suc d) = f a ∷ tabulate f (suc a) d

-- every task put into Θ, no post
abbrev pub all_white : Tasks natural → State
all_white J = record { leaves = replicate J.count white; starts = tabulate J.earliest 0 J.count; posts = []; changes = J.count }

-- The two orders are sorted.
module _ (o : ℕ) (J : Tasks natural) (est_order lct_order : List ℕ) where
  abbrev n : ℕ
  n = J.count

  -- `sorted_tasks[t]`, and its `lct_j`
  abbrev pub sorted_task : ℕ → ℕ
  sorted_task t = get_or lct_order t 0

  abbrev pub lct : ℕ → ℕ
  lct t = completion J (sorted_task t)

  abbrev pub posted : State → ℕ → ℕ → ℕ → State
  posted st i b t = record {
    leaves = st.leaves;
    starts = st.starts;
    posts = st.posts ++ (record {
      task = i;
      bound = instant o b;
      reason = propagation o J i b (lct t) (sum J est_order st.leaves) (theta J est_order st.leaves);
    } ∷ []);
    changes = st.changes;
  }

  -- while ect_bar() > lct_j; at most f turns. Without a task in Θ there is no bound to post.
  unfoldable pub inner : ℕ → ℕ → State → Turn
  inner zero t st = on st
  inner (suc f) t st = elim (exceeds (ect_bar_of J est_order st.leaves) (lct t)) [
    | false ↦ on st
    | true ↦ elim (responsible J est_order st.leaves) [
      | none ↦ on st
      | some x ↦ elim (ect J est_order st.leaves) [
        | none ↦ inner f t (dropped st x)
        | some b ↦ elim (ltb (J.earliest (task_place J est_order x)) b) [
          | false ↦ inner f t (dropped st x)
          | true ↦ elim (ltb (J.latest (task_place J est_order x)) b) [
            | true ↦ stop (posted st (task_place J est_order x) b t)
            | false ↦ inner f t (dropped (raised (posted st (task_place J est_order x) b t) (task_place J est_order x) b) x)
          ]
        ]
      ]
    ]
  ]

  abbrev pub ended : State → End → Trace
  ended st end = record { posts = st.posts; end = end; starts = map (instant o) st.starts; changes = st.changes }

  -- while index < tasks.len() - 1
  unfoldable pub outer : ℕ → ℕ → State → Trace
  outer zero t st = ended st done
  outer (suc f) t st = elim (exceeds (ect J est_order st.leaves) (lct t)) [
    | true ↦ ended st (overload (conflict o J (lct t) (sum J est_order st.leaves) (theta J est_order st.leaves)))
    | false ↦ elim (inner n (suc t) (grayed st (index est_order (sorted_task t)))) [
      | on st' ↦ outer f (suc t) st'
      | stop st' ↦ ended st' emptied
    ]
  ]

  unfoldable pub run : Trace
  run = outer (n - 1) 0 (all_white J)

-- the whole run ----------------------------------------------------------------------------------------------------------------

abbrev pub by_earliest : Tasks natural → ℕ → ℕ → Bool
by_earliest J j k = leb (J.earliest j) (J.earliest k)

abbrev pub by_completion : Tasks natural → ℕ → ℕ → Bool
by_completion J j k = leb (completion J k) (completion J j)

-- the tasks by earliest start, least first, and by latest completion, greatest first; ties go to the lower number
abbrev pub earliest_order : Tasks natural → List ℕ
earliest_order J = sort (by_earliest J) (numbers 0 J.count)

abbrev pub completion_order : Tasks natural → List ℕ
completion_order J = sort (by_completion J) (numbers 0 J.count)

unfoldable pub propagate : List ℕ → List ℤ → List ℤ → Trace
propagate ds es ls =
    let J = moments zero_at (tasks_of ds es ls) in
    run zero_at J (earliest_order J) (completion_order J)
