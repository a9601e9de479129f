-- What a run that the core may run brings to edge finding: the tasks' moments in arrays, in both orders, and the tree of all tasks.
use mathlib.Core.Path.{◌≡◌, refl, sym, ap, ap₂, subst, ◌∙◌}
use mathlib.Core.Bool.{Bool, true}
use mathlib.Core.List.{List, ◌++◌, map}
use Prim.Native.Nat.{ℕ, ◌+◌, ◌-◌, ◌*◌, ◌≤◌, ◌<◌}
use native.Mathlib.Omega.{arith}
use lib.Dec.{leb}
use lib.IntN.{ℤ, pos, neg_ℤ}
use lib.ListN.{length, get_or, take, replicate, length-replicate}
use lib.Seq.{get_or-take}
use borrow.Author.Tests.{ltb-false}
use Rattle.integers.specs.Limits.{TASKS, INNER, DURATIONS, MIRRORED, U32MAX}
use Rattle.integers.specs.FilledLists.{filled, no_tasks}
use Rattle.integers.specs.Moments.{instant, zero_at, Above, moment_at, completion_at}
use Rattle.integers.specs.Orders.{sort, index, numbers}
use Rattle.integers.proofs.FilledLists.{filled_length, filled_at}
use Rattle.integers.proofs.Ints.{up, dn}
use Rattle.integers.proofs.StableSort.{key_whole, key_chain}
use Rattle.integers.proofs.MomentSums.{mono, above_up, above_show, instant_moment}
use Rattle.scheduling.specs.Scheduling.{whole, natural, Tasks, tasks_of, Proper, processing, completion}
use Rattle.scheduling.proofs.Processing.{processing_less, processing_all}
use Rattle.scheduling.proofs.Clocks.{sound}
use Rattle.scheduling.specs.Moments.{moments, ByEarliest}
use Rattle.trees.specs.Leaves.{white}
use Rattle.trees.specs.Operations.{HeldLeaves, New}
use Rattle.trees.specs.declared.theta_lambda_tree.ThetaLambdaTree.{ThetaLambdaTree}
use Rattle.trees.proofs.RootAnswers as tree
use Rattle.runs.specs.Runs.{tabulate, by_earliest, by_completion, earliest_order, completion_order, run, all_white}
use Rattle.scheduling.specs.Words.{atom_words}
use Rattle.runs.specs.Words.{post_words, reasons, end_reason, posts_after, atoms_after}
use Rattle.integers.proofs.Words.{overwrites}
use Rattle.runs.proofs.WrittenSlices.{no_posts_stored, no_atoms_stored, no_reasons}
use Rattle.runs.proofs.Demand as demand
use Rattle.runs.proofs.LeafChanges.{changes_most}
use Rattle.runs.proofs.WordRoom as few_words
use Rattle.runs.proofs.InnerLoop.{propagate_is}
use Rattle.runs.proofs.TaskLists.{tabulated}
use Rattle.sorts.specs.Orders.{SortedBy, Ranked, by_key, by_key_down}
use Rattle.sorts.proofs.Ranks.{rank_index}
use Rattle.sorts.proofs.Sorted.{sorted_as}
use Rattle.records.specs.declared.record.DisjunctivePropagator.{DisjunctivePropagator}
use Rattle.propagator.specs.declared.task_arrays.TaskArrays.{TaskArrays}
use Rattle.propagator.specs.RunArrays.{Ordered, Holds, Slices}
use Rattle.runs.specs.declared.outcome.Outcome.{Outcome}
use Rattle.propagator.specs.FilledTheta.{Fillable, Filled}
use Rattle.propagator.specs.EdgeFinding.{JoinedPast, EdgeFindable, EdgeFound}
use Rattle.propagator.specs.Ran.{Runnable, trace_of, RunLeft}
use Rattle.propagator.proofs.AcceptedInput as accepting

zeros_long : length no_tasks ≡ TASKS
zeros_long = length-replicate {A = ℕ} TASKS 0

module _ {r : DisjunctivePropagator} {es ls : List ℤ} {post_count count_of_atoms : ℕ} (a : Runnable r es ls post_count count_of_atoms) (long : length r.durations ≡ TASKS) where
  abbrev n : ℕ
  n = r.count

  abbrev pub ds : List ℕ
  ds = take r.count r.durations

  abbrev pub Z : Tasks whole
  Z = tasks_of (take r.count r.durations) es ls

  abbrev pub J : Tasks natural
  J = moments zero_at (tasks_of (take r.count r.durations) es ls)

  pub few : n ≤ TASKS
  few = a.lawful.few

  pub count : length ds ≡ n
  count = accepting.count r a.lawful

  -- the same input, as the run's definition accepts it
  accepted : demand.AcceptedTasks MIRRORED ds es ls
  accepted = accepting.accepted r es ls post_count count_of_atoms a

  abbrev pub est_order : List ℕ
  est_order = earliest_order J

  abbrev pub lct_order : List ℕ
  lct_order = completion_order J

  -- the arrays
  pub holds_starts : (xs : List ℤ) → length xs ≡ n → Holds n (moment_at xs) (filled (moment_at xs) (length xs) no_tasks)
  holds_starts xs z = record {
    size = filled_length (moment_at xs) (length xs) no_tasks ∙ zeros_long;
    at = λ k q. filled_at (moment_at xs) (length xs) no_tasks 0 k (omega (arith, z)) (omega (arith, z, few, zeros_long));
  }

  pub holds_durations : Holds n J.duration r.durations
  holds_durations = record { size = long; at = λ k q. sym (accepting.lasts_at_is r a.lawful k q) }

  -- an order sorted by an array's keys is that of the tasks
  sorted_is : (le : ℕ → ℕ → Bool) {by : ℕ → ℕ → Bool} {l : List ℕ} → SortedBy by n l → ((j k : ℕ) → j < n → k < n → by j k ≡ le j k) → take n l ≡ sort le (numbers 0 (length ds))
  sorted_is le s same = sorted_as s le same ∙ ap (λ (m : ℕ). sort le (numbers 0 m)) (sym count)

  pub holds_order : (l m : List ℕ) → take n l ≡ m → length l ≡ TASKS → Holds n (λ j. get_or m j 0) l
  holds_order l m z size = record { size = size; at = λ k q. sym (get_or-take n l k 0 q) ∙ ap (λ (o : List ℕ). get_or o k 0) z }

  -- the moments are in the limits
  deep : Above zero_at (neg_ℤ (pos MIRRORED))
  unfolding up dn
  deep = above_show zero_at (neg_ℤ (pos MIRRORED)) (omega arith)

  above : (k : ℕ) → k < length ds → Above zero_at (get_or es k (pos 0))
  above k q = above_up zero_at (neg_ℤ (pos MIRRORED)) (get_or es k (pos 0)) (accepted.from k q) deep

  early : (k : ℕ) → k < length ds → (zero_at - MIRRORED ≤ J.earliest k) × (J.earliest k ≤ J.latest k) × (J.latest k ≤ zero_at + MIRRORED)
  unfolding up dn
  early k q = (
    omega (arith, mono zero_at (neg_ℤ (pos MIRRORED)) (get_or es k (pos 0)) (accepted.from k q)),
    mono zero_at (get_or es k (pos 0)) (get_or ls k (pos 0)) (accepted.ranges k q),
    omega (arith, mono zero_at (get_or ls k (pos 0)) (pos MIRRORED) (accepted.to k q)),
  )

  short : processing J (λ _. true) ≤ DURATIONS
  short = omega (arith, processing_all J, accepted.sum)

  lasting : (k : ℕ) → k < length ds → J.duration k ≤ DURATIONS
  lasting k q = omega (arith, short, processing_less J (λ _. true) k (record { small = q; mem = refl }))

  proper : Proper J
  proper = sound zero_at Z (record { ranges = accepted.ranges; lasts = accepted.lasts }) above

  pub by_earliest_is : ByEarliest J (λ j. get_or est_order j 0) (λ k. index est_order k)
  by_earliest_is = demand.by_earliest_is J

  pub ordered : Ordered J est_order lct_order
  ordered = record {
    proper = proper;
    some = accepted.some;
    by_earliest_is = by_earliest_is;
    by_completion_is = demand.by_completion_is J;
    limited = tree.limited J proper est_order by_earliest_is accepted.few (λ k q. omega (arith, (early k q).1, (early k q).2)) (omega (arith, accepted.sum));
    room = λ k q. omega (arith, short, (early k q).0);
    fits = λ k q. omega (arith, short, (early k q).2, lasting k q);
  }

  completion_small : (k : ℕ) → k < n → completion J k ≤ U32MAX
  completion_small k q = let z : k < length ds = omega (arith, count) in omega (arith, (early k z).2, lasting k z)

  -- the state at the start: nothing is written
  pub at_start : (posts atoms : List ℤ) → Slices posts atoms (all_white J) es posts atoms 0 0 n
  at_start posts atoms = record {
    starts = subst (λ (m : ℕ). es ≡ map (instant zero_at) (tabulate J.earliest 0 m)) (a.counts.earliest ∙ sym count)
        (tabulated zero_at es J.earliest 0 (λ k q. back k (omega (arith, q, a.counts.earliest, count))));
    post_words_are = no_posts_stored posts;
    atom_words_are = no_atoms_stored atoms;
    posted = refl;
    explained = sym no_reasons;
    counted = sym count;
  }
    where
      back : (k : ℕ) → k < length ds → instant zero_at (J.earliest (0 + k)) ≡ get_or es k (pos 0)
      back k q = let z : 0 + k ≡ k = omega arith in ap (λ (j : ℕ). instant zero_at (J.earliest j)) z ∙ instant_moment zero_at (get_or es k (pos 0)) (above k q)

  -- the trace that it leaves, and that its words fit the lent slices
  trace_is : trace_of r es ls ≡ run zero_at J est_order lct_order
  trace_is = propagate_is ds es ls

  posts_fit : length (post_words 0 (run zero_at J est_order lct_order).posts) ≤ post_count
  posts_fit = omega (arith, few_words.posts_fit zero_at J proper est_order lct_order by_earliest_is ordered.by_completion_is accepted.some, count, a.words.posts)

  atoms_fit : length (atom_words (reasons (run zero_at J est_order lct_order).posts ++ end_reason (run zero_at J est_order lct_order).end)) ≤ count_of_atoms
  atoms_fit = omega (
    arith,
    subst (λ (m : ℕ). length (atom_words (reasons (run zero_at J est_order lct_order).posts ++ end_reason (run zero_at J est_order lct_order).end)) ≤ 6 * (m * m)) count
        (few_words.atoms_fit zero_at J proper est_order lct_order by_earliest_is ordered.by_completion_is accepted.some),
    a.words.atoms,
  )

  -- what a run leaves
  pub left : {posts atoms es' posts' atoms' : List ℤ} {o : Outcome} {c : ℕ} → post_count ≡ length posts → count_of_atoms ≡ length atoms
      → EdgeFound J est_order lct_order posts atoms o c es' posts' atoms'
      → RunLeft r es ls posts atoms o c es' posts' atoms'
  left {posts} {atoms} p q d = record {
    answer = rw trace_is d.answer;
    changes = rw trace_is d.changes;
    changes_most = omega (arith, d.changes, changes_most zero_at J proper est_order lct_order by_earliest_is ordered.by_completion_is accepted.some, count);
    starts = rw trace_is d.starts;
    post_words_are = d.post_words_are ∙ overwrites posts (post_words 0 (run zero_at J est_order lct_order).posts) (omega (arith, posts_fit, p)) ∙ ap (posts_after posts) (sym trace_is);
    atom_words_are = d.atom_words_are ∙ overwrites atoms (atom_words (reasons (run zero_at J est_order lct_order).posts ++ end_reason (run zero_at J est_order lct_order).end))
        (omega (arith, atoms_fit, q))
        ∙ ap (atoms_after atoms) (sym trace_is);
    posts_fit = rw trace_is (omega (arith, posts_fit, p));
    atoms_fit = rw trace_is (omega (arith, atoms_fit, q));
  }

  -- what the calls before edge finding left
  module _ {est lst : List ℕ} (e : est ≡ filled (moment_at es) (length es) no_tasks) (l : lst ≡ filled (moment_at ls) (length ls) no_tasks) where
    pub starts : Holds n J.earliest est
    starts = subst (Holds n J.earliest) (sym e) (holds_starts es a.counts.earliest)

    pub latest : Holds n J.latest lst
    latest = subst (Holds n J.latest) (sym l) (holds_starts ls a.counts.latest)

    -- a latest completion is a key
    is_completion : (k : ℕ) → k < n → completion_at lst r.durations k ≡ completion J k
    is_completion k q = ap₂ ◌+◌ (latest.at k q) (holds_durations.at k q)

    pub key_small : (k : ℕ) → k < n → completion_at lst r.durations k ≤ U32MAX
    key_small k q = omega (arith, is_completion k q, completion_small k q)

    pub completions : {lct : List ℕ} → lct ≡ filled (completion_at lst r.durations) n no_tasks → Holds n (completion J) lct
    completions c = rw c (record {
      size = filled_length (completion_at lst r.durations) n no_tasks ∙ zeros_long;
      at = λ k q. filled_at (completion_at lst r.durations) n no_tasks 0 k q (omega (arith, few, zeros_long)) ∙ is_completion k q;
    })

    pub keys_small : {lct : List ℕ} → lct ≡ filled (completion_at lst r.durations) n no_tasks → (k : ℕ) → k < n → get_or lct k 0 ≤ U32MAX
    keys_small c k q = omega (arith, (completions c).at k q, completion_small k q)

    module _ {lct reverse_mapping sorted_tasks : List ℕ} (c : lct ≡ filled (completion_at lst r.durations) n no_tasks) (f : SortedBy (by_key est) n reverse_mapping)
        (g : SortedBy (by_key_down lct) n sorted_tasks) where
      front : take n reverse_mapping ≡ est_order
      front = sorted_is (by_earliest J) f (λ j k p q. ap₂ leb (starts.at j p) (starts.at k q))

      pub order : Holds n (λ j. get_or est_order j 0) reverse_mapping
      order = holds_order reverse_mapping est_order front f.size

      pub sorted_tasks_order : Holds n (λ t. get_or lct_order t 0) sorted_tasks
      sorted_tasks_order = holds_order sorted_tasks lct_order (sorted_is (by_completion J) g (λ j k p q. ap₂ leb ((completions c).at k q) ((completions c).at j p))) g.size

      -- there is a first level, of a task
      any : 0 < n
      any = omega (arith, accepted.some, count)

      first_small : get_or sorted_tasks 0 0 < n
      first_small = omega (arith, sorted_tasks_order.at 0 any, ordered.by_completion_is.task 0 accepted.some, count)

      pub first_known : get_or sorted_tasks 0 0 < TASKS
      first_known = omega (arith, first_small, few)

      -- the new tree, and the leaf of each task by its rank
      module _ {made : ThetaLambdaTree} {mapping : List ℕ} (t : New n made) (m : Ranked (by_key est) n mapping) where
        pub places : (x : ℕ) → x < n → get_or mapping x 0 ≡ index est_order x
        places x q = m.at x q ∙ rank_index (by_key est) (key_whole (λ k. get_or est k 0)) (key_chain (λ k. get_or est k 0)) n x q ∙ ap (λ (o : List ℕ). index o x) (sym f.front ∙ front)

        -- the arrays that edge finding reads, wherever they stand
        abbrev pub arrays : (a₁ a₂ a₃ a₄ a₅ a₆ a₇ : ℕ × ℕ) → n ≤ TASKS → made.number_of_internal_nodes ≤ INNER → TaskArrays
        arrays a₁ a₂ a₃ a₄ a₅ a₆ a₇ few_tasks few_nodes = record {
          est = record { ref_ptr = a₁; now = est };
          lst = record { ref_ptr = a₂; now = lst };
          lct = record { ref_ptr = a₃; now = lct };
          durations = record { ref_ptr = a₄; now = r.durations };
          mapping = record { ref_ptr = a₅; now = mapping };
          reverse_mapping = record { ref_ptr = a₆; now = reverse_mapping };
          sorted_tasks = record { ref_ptr = a₇; now = sorted_tasks };
          size = record { inner = made.number_of_internal_nodes; height = made.height; leaves = n };
          few_tasks = few_tasks;
          few_nodes = few_nodes;
        }

        abbrev pub fillable : {a₁ a₂ a₃ a₄ a₅ a₆ a₇ : ℕ × ℕ} {f : n ≤ TASKS} {i : made.number_of_internal_nodes ≤ INNER} → Fillable (arrays a₁ a₂ a₃ a₄ a₅ a₆ a₇ f i) made.nodes
        fillable = record {
          J = J;
          est_order = est_order;
          limited = ordered.limited;
          count = count;
          tree = t.empties J est_order count;
          task = order.at;
          known = λ x q. omega (arith, few, count, by_earliest_is.task x (omega (arith, count)));
          start = λ x q. starts.at (get_or est_order x 0) (omega (arith, count, by_earliest_is.task x (omega (arith, count))));
          lasts = λ x q. holds_durations.at (get_or est_order x 0) (omega (arith, count, by_earliest_is.task x (omega (arith, count))));
        }

        -- the first level's lct
        pub first_lct : get_or lct (get_or sorted_tasks 0 0) 0 ≡ completion J (get_or lct_order 0 0)
        first_lct = ap (λ (k : ℕ). get_or lct k 0) (sorted_tasks_order.at 0 any) ∙ (completions c).at (get_or lct_order 0 0) (omega (arith, first_small, sorted_tasks_order.at 0 any))

        -- the tree was filled: the words hold white leaves, and the ect of all tasks is known
        abbrev pub begun : {a₁ a₂ a₃ a₄ a₅ a₆ a₇ : ℕ × ℕ} {f : n ≤ TASKS} {i : made.number_of_internal_nodes ≤ INNER} {words : List ℕ} {ect : ℕ} → Filled (arrays a₁ a₂ a₃ a₄ a₅ a₆ a₇ f i) made.nodes words ect → HeldLeaves made.number_of_internal_nodes words
        begun full = record { J = J; est_order = est_order; leaves = replicate J.count white; limited = ordered.limited; has = (full fillable).0 }

        abbrev pub findable : {a₁ a₂ a₃ a₄ a₅ a₆ a₇ : ℕ × ℕ} {f : n ≤ TASKS} {i : made.number_of_internal_nodes ≤ INNER} {words words' : List ℕ} {ect : ℕ} {past : Bool} {posts atoms : List ℤ} → Filled (arrays a₁ a₂ a₃ a₄ a₅ a₆ a₇ f i) made.nodes words ect
            → JoinedPast made.number_of_internal_nodes words words' ect (get_or lct (get_or sorted_tasks 0 0) 0) past → post_count ≡ length posts → count_of_atoms ≡ length atoms
            → EdgeFindable (arrays a₁ a₂ a₃ a₄ a₅ a₆ a₇ f i) ect past words' es posts atoms
        findable {ect = ect} {posts = posts} {atoms = atoms} full k p q = record {
          J = J;
          est_order = est_order;
          lct_order = lct_order;
          ordered = ordered;
          arrays = record { count = count; starts = starts; lasts = holds_durations; reverse_mapping_is = order; places = places; tall = t.size.least };
          latest = latest;
          completions = completions c;
          order = sorted_tasks_order;
          post_room = omega (arith, p, a.words.posts);
          atom_room = omega (arith, q, a.words.atoms);
          ect_is = (full fillable).1;
          has = k.has (begun full);
          tree = k.tree (begun full);
          unjoined = λ z. omega (arith, ltb-false (get_or lct (get_or sorted_tasks 0 0) 0) ect (sym k.past ∙ z), first_lct);
          slices = at_start posts atoms;
        }
