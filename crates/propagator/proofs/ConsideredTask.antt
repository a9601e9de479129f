-- At a level: what is asked of an overload's reason and of a post's holds, and after a turn of the inner loop tree and slices are at the definition's next state.
use mathlib.Core.Path.{◌≡◌, refl, sym, ap, subst, ◌∙◌}
use mathlib.Core.List.{List, [], ◌∷◌, ◌++◌, map}
use mathlib.Core.Bool.{true, false}
use mathlib.Core.Logic.{◌⊎◌, inl, inr}
use mathlib.Core.Option.{some}
use Prim.Native.Nat.{ℕ, suc, ◌+◌, ◌*◌, ◌≤◌, ◌<◌}
use native.Mathlib.Nat.{mul-le-mul, mul-le-mul_right, mul_left_comm}
use native.Mathlib.Omega.{arith}
use lib.IntN.{ℤ, pos}
use lib.ListN.{length, get_or, set, length-append, length-map}
use lib.Seq.{sets, length-sets, set-get_or}
use borrow.Author.Tests.{lt-ltb, le-ltb}
use Rattle.std.specs.Prelude.{Ok, Err}
use Rattle.integers.specs.Limits.{TASKS, ATOMS}
use Rattle.integers.specs.Moments.{instant, zero_at}
use Rattle.integers.specs.Orders.{index}
use Rattle.scheduling.specs.Scheduling.{natural, Tasks, TaskSet, Atom, completion}
use Rattle.trees.specs.Ects.{exceeds, raised_to}
use Rattle.trees.proofs.Ects.{raised_some, within_bound, raised_least}
use Rattle.trees.specs.Leaves as leaves
use Rattle.trees.specs.Leaves.{Leaf, empty, gray_at}
use Rattle.trees.specs.ArraySearches.{theta_in}
use Rattle.trees.specs.Shapes.{height_for}
use Rattle.trees.specs.Trees.{IsTree}
use Rattle.trees.specs.Operations.{Held, Tall, InLambda, Coloured}
use Rattle.trees.proofs.RootAnswers as tree
use Rattle.trees.proofs.Trees.{theta_of}
use Rattle.runs.specs.Traces.{Post}
use Rattle.runs.specs.Runs.{State, dropped, raised, posted, conflict, propagation}
use Rattle.scheduling.specs.Words.{atom_words}
use Rattle.runs.specs.Words.{post_words, reasons}
use Rattle.runs.specs.Reached.{Reached}
use Rattle.runs.proofs.LeafChanges.{reached_changes}
use Rattle.runs.proofs.WrittenSlices.{post_stored, reason_stored, reasons_more}
use Rattle.runs.proofs.InnerLoop.{inner_pass, inner_stop, inner_raise}
use Rattle.runs.proofs.AtomRoom as room
use Rattle.runs.proofs.LevelSteps as steps
use Rattle.runs.proofs.ReachedStates.{reached_inv}
use Rattle.explanations.specs.WrittenAtoms.{starting}
use Rattle.explanations.specs.Explanations.{ConflictExplainable, PropagationExplainable}
use Rattle.explanations.proofs.ExplanationAtoms.{Alike, conflict_same, propagation_same}
use Rattle.propagator.specs.declared.disjunctive_propagator.Written.{Written}
use Rattle.propagator.specs.declared.task_arrays.TaskArrays.{TaskArrays}
use Rattle.propagator.specs.RunArrays.{Ordered, Holds, theta_shown, Slices}
use Rattle.propagator.specs.Candidates.{counted, reason_of, Posted, Considerable, AtNow, Considered, ResponsibleFor}
use Rattle.propagator.specs.EdgeFinding.{conflict_of}
use Rattle.propagator.proofs.ExplanationInput as meeting
use Rattle.integers.proofs.Lists.{map_set}

-- what is asked of, and said by, an explanation, with other names for the same values
explainable_at : {size k : ℕ} {est durations θ θ' : List ℕ} {p c c' i i' b : ℕ} → θ ≡ θ' → c ≡ c' → i ≡ i' → PropagationExplainable size k θ' est durations p c' i' b
    → PropagationExplainable size k θ est durations p c i b
explainable_at a e f m = rw (a, e, f) m

propagation_at : (K : Tasks natural) (p b : ℕ) {θ θ' : List ℕ} {c c' i i' : ℕ} → θ ≡ θ' → c ≡ c' → i ≡ i' → propagation zero_at K i b c p θ ≡ propagation zero_at K i' b c' p θ'
propagation_at K p b a e f = rw (a, e, f)

overloaded_at : {size k : ℕ} {est durations θ θ' : List ℕ} {p c c' : ℕ} → θ ≡ θ' → c ≡ c' → ConflictExplainable size k θ' est durations p c' → ConflictExplainable size k θ est durations p c
overloaded_at a e m = rw (a, e) m

conflict_at : (K : Tasks natural) (p : ℕ) {θ θ' : List ℕ} {c c' : ℕ} → θ ≡ θ' → c ≡ c' → conflict zero_at K c p θ ≡ conflict zero_at K c' p θ'
conflict_at K p a e = rw (a, e)

-- the words of one post more, of its reason, and of a start that is raised
posts_at : (posts₀ : List ℤ) {posts posts' : List ℤ} (made : List Post) (p : Post) {k m i many : ℕ} {b : ℤ} → posts ≡ sets posts₀ 0 (post_words 0 made) → k ≡ length made → m ≡ length (reasons made)
    → i ≡ p.task
    → b ≡ p.bound → many ≡ length p.reason
    → posts' ≡ sets posts (4 * k) (pos i ∷ b ∷ pos m ∷ pos many ∷ []) → posts' ≡ sets posts₀ 0 (post_words 0 (made ++ (p ∷ [])))
posts_at posts₀ made p a c d e f g h = h ∙ rw (a, c, d, e, f, g) (post_stored posts₀ made p)

atoms_at : (atoms₀ : List ℤ) {atoms atoms' : List ℤ} (made : List Post) (p : Post) {m : ℕ} {ws : List ℤ} → atoms ≡ sets atoms₀ 0 (atom_words (reasons made)) → m ≡ length (reasons made)
    → ws ≡ atom_words p.reason
    → atoms' ≡ sets atoms (3 * m) ws → atoms' ≡ sets atoms₀ 0 (atom_words (reasons (made ++ (p ∷ []))))
atoms_at atoms₀ made p a c d h = h ∙ rw (a, c, d) (reason_stored atoms₀ (reasons made) p.reason ∙ ap (λ (r : List Atom). sets atoms₀ 0 (atom_words r)) (sym (reasons_more made p)))

starts_at : {es es' : List ℤ} (starts : List ℕ) (b : ℕ) {i j : ℕ} → es ≡ map (instant zero_at) starts → i ≡ j → es' ≡ set es i (instant zero_at b) → es' ≡ map (instant zero_at) (set starts j b)
starts_at starts b {i} {j} a d h = h ∙ rw (a, d) (sym (map_set (instant zero_at) starts j b))

-- leaves change: in the slices and their counts, only the count of changes does
pub recounted : {posts₀ atoms₀ es posts atoms : List ℤ} {st : State} {many far changed : ℕ} (k : ℕ) {ls : List Leaf} → Slices posts₀ atoms₀ st es posts atoms many far changed
    → Slices posts₀ atoms₀ (record { leaves = ls; starts = st.starts; posts = st.posts; changes = st.changes + k }) es posts atoms many far (changed + k)
recounted k a = record {
  starts = a.starts;
  post_words_are = a.post_words_are;
  atom_words_are = a.atom_words_are;
  posted = a.posted;
  explained = a.explained;
  counted = ap (λ (c : ℕ). c + k) a.counted;
}

-- the leaf changes of a run are few
pub changes_few : {J : Tasks natural} {est_order lct_order : List ℕ} {t : ℕ} {st : State} {posts₀ atoms₀ es posts atoms : List ℤ} {many far changed : ℕ} (G : Ordered J est_order lct_order)
    → Reached zero_at J est_order lct_order t st → t < J.count → Slices posts₀ atoms₀ st es posts atoms many far changed
    → changed ≤ 4 * TASKS
changes_few {J} {est_order} {lct_order} {t} {st} G r small a =
    omega (arith, a.counted, reached_changes zero_at J G.proper est_order lct_order G.by_earliest_is G.by_completion_is t st r small, G.limited.count)

module _ {tasks : TaskArrays} {lct : ℕ} {words : List ℕ} {es posts atoms : List ℤ} {w : Written} (s : Considerable tasks lct words es posts atoms w) where
  abbrev n : ℕ
  n = tasks.size.leaves

  abbrev inn : ℕ
  inn = tasks.size.inner

  abbrev est : List ℕ
  est = tasks.est.now

  abbrev lst : List ℕ
  lst = tasks.lst.now

  abbrev durations : List ℕ
  durations = tasks.durations.now

  abbrev reverse_mapping : List ℕ
  reverse_mapping = tasks.reverse_mapping.now

  abbrev mapping : List ℕ
  mapping = tasks.mapping.now

  abbrev J : Tasks natural
  J = s.J

  abbrev est_order : List ℕ
  est_order = s.est_order

  abbrev lct_order : List ℕ
  lct_order = s.lct_order

  abbrev G : Ordered J est_order lct_order
  G = s.ordered

  abbrev ls : List Leaf
  ls = s.st.leaves

  abbrev t : ℕ
  t = s.level

  abbrev T : ℕ → ℕ
  T x = get_or est_order x 0

  abbrev Short : Post → Type 0
  Short = room.Short zero_at J G.proper est_order lct_order G.by_earliest_is G.by_completion_is

  abbrev ShortEnd : List Atom → Type 0
  ShortEnd = room.ShortEnd zero_at J G.proper est_order lct_order G.by_earliest_is G.by_completion_is

  abbrev short : steps.Measure zero_at J G.proper est_order lct_order G.by_earliest_is G.by_completion_is Short ShortEnd
  short = room.short zero_at J G.proper est_order lct_order G.by_earliest_is G.by_completion_is

  pub inv : steps.Inv zero_at J G.proper est_order lct_order G.by_earliest_is G.by_completion_is Short ShortEnd short t s.st
  inv = reached_inv zero_at J G.proper est_order lct_order G.by_earliest_is G.by_completion_is Short ShortEnd short t s.st s.reached s.small

  abbrev Θ : TaskSet
  Θ = steps.Th zero_at J G.proper est_order lct_order G.by_earliest_is G.by_completion_is t

  abbrev pub Λ : TaskSet
  Λ = steps.lam zero_at J G.proper est_order lct_order G.by_earliest_is G.by_completion_is Short ShortEnd short s.st

  abbrev pub shape : tree.Represents J G.proper est_order G.by_earliest_is ls Θ Λ
  shape = steps.shape zero_at J G.proper est_order lct_order G.by_earliest_is G.by_completion_is Short ShortEnd short t s.st inv

  -- the tree that the words hold, and its height
  abbrev pub shown : Held inn words
  shown = record { J = J; est_order = est_order; leaves = ls; limited = G.limited; tree = s.at.tree }

  pub tall : Tall shown tasks.size.height
  tall = s.arrays.tall ∙ ap height_for (sym s.arrays.count)

  pub theta_is : theta_shown tasks words ≡ leaves.theta J est_order ls
  theta_is = ap (theta_in words inn reverse_mapping) (sym s.arrays.count)
      ∙ theta_of G.limited s.at.tree reverse_mapping (λ j q. s.arrays.reverse_mapping_is.at j (omega (arith, s.arrays.count)))

  pub few : n ≤ TASKS
  few = tasks.few_tasks

  pub few_changes : w.changes ≤ 4 * TASKS
  few_changes = changes_few G s.reached s.small s.at.slices

  -- a number of each task, by the tasks' count
  pub held : {f : ℕ → ℕ} {array : List ℕ} → Holds n f array → Holds J.count f array
  held h = record { size = h.size; at = λ k q. h.at k (omega (arith, s.arrays.count)) }

  -- how long the reasons so far are, and the slice that they stand in
  pub reasons_short : length (reasons s.st.posts) + length s.st.posts ≤ length s.st.posts * (2 * n)
  reasons_short = subst (λ (n : ℕ). length (reasons s.st.posts) + length s.st.posts ≤ length s.st.posts * (2 * n)) s.arrays.count
      (room.reasons_short zero_at J G.proper est_order lct_order G.by_earliest_is G.by_completion_is s.st.posts inv.good)

  pub atoms_size : length atoms ≡ length s.atoms₀
  atoms_size = ap length s.at.slices.atom_words_are ∙ length-sets s.atoms₀ 0 (atom_words (reasons s.st.posts))

  pub found_inside : (x : ℕ) → leaves.responsible J est_order ls ≡ some x → x < n
  found_inside x z = omega (arith, s.arrays.count, (tree.one_found J G.proper est_order G.by_earliest_is ls Θ Λ shape x z).small)

  -- an overload of the level
  posts_few : length s.st.posts ≤ t
  posts_few = room.posts_few zero_at J G.proper est_order lct_order G.by_earliest_is G.by_completion_is t s.st inv

  over_room : 3 * w.atoms + 6 * length (leaves.theta J est_order ls) ≤ length atoms
  over_room = omega (
    arith,
    s.at.slices.explained,
    reasons_short,
    room.theta_most zero_at J G.proper est_order lct_order G.by_earliest_is G.by_completion_is ls,
    s.arrays.count,
    s.atom_room,
    atoms_size,
    mul_left_comm n 2 n,
    mul-le-mul_right {m = suc (length s.st.posts)} {n = n} (2 * n) (omega (arith, posts_few, s.small, s.arrays.count)),
  )

  pub over_asked : exceeds (leaves.ect J est_order ls) lct ≡ true → ConflictExplainable (length atoms) w.atoms (theta_shown tasks words) est durations (leaves.sum J est_order ls) lct
  over_asked q = overloaded_at theta_is s.ends
      (meeting.conflict_explainable G (held s.arrays.starts) (held s.arrays.lasts) t shape s.small (length atoms) w.atoms
      (ap (exceeds (leaves.ect J est_order ls)) (sym s.ends) ∙ q) over_room)

  pub conflict_is : conflict_of tasks shown lct ≡ conflict zero_at J (completion J (get_or lct_order t 0)) (leaves.sum J est_order ls) (leaves.theta J est_order ls)
  conflict_is = conflict_at (starting est durations) (leaves.sum J est_order ls) theta_is s.ends
      ∙ conflict_same zero_at (starting est durations) J (completion J (get_or lct_order t 0)) (leaves.sum J est_order ls) (leaves.theta J est_order ls)
      (λ y q. meeting.alike G (held s.arrays.starts) (held s.arrays.lasts) (get_or (leaves.theta J est_order ls) y 0)
      (meeting.each_listed G (held s.arrays.starts) (held s.arrays.lasts) t shape s.small y q))

  -- a task to consider
  module _ {i x : ℕ} (r : ResponsibleFor s i x) where
    found : tree.Found J G.proper est_order G.by_earliest_is ls Θ Λ shape x
    found = tree.one_found J G.proper est_order G.by_earliest_is ls Θ Λ shape x r.found

    passes : exceeds (leaves.ect_bar_of J est_order ls) (completion J (get_or lct_order t 0)) ≡ true
    passes = ap (exceeds (leaves.ect_bar_of J est_order ls)) (sym s.ends) ∙ r.over

    pub small : i < n
    small = omega (arith, r.task, found.gray.small, s.arrays.count)

    pub known : i < TASKS
    known = omega (arith, small, few)

    -- its start is in the slice
    pub start_inside : i < length es
    start_inside = omega (arith, small, s.arrays.count, inv.known, ap length s.at.slices.starts, length-map s.st.starts (instant zero_at))

    task_start : get_or est i 0 ≡ J.earliest (T x)
    task_start = s.arrays.starts.at i small ∙ ap J.earliest r.task

    task_latest : get_or lst i 0 ≡ J.latest (T x)
    task_latest = s.latest.at i small ∙ ap J.latest r.task

    leaf : get_or mapping i 0 ≡ x
    leaf = s.arrays.places i small ∙ ap (λ (k : ℕ). index est_order k) r.task ∙ G.by_earliest_is.back x found.small

    -- room for one post more
    fewer : suc (length s.st.posts) ≤ t
    fewer = room.posts_fewer zero_at J G.proper est_order lct_order G.by_earliest_is G.by_completion_is t s.st inv (T x) found.gray

    theta_less : suc (length (leaves.theta J est_order ls)) ≤ n
    theta_less = omega (
      arith,
      s.arrays.count,
      room.theta_less zero_at J G.proper est_order lct_order G.by_earliest_is G.by_completion_is ls x found.small
          (tree.white_at_is J G.proper est_order G.by_earliest_is ls Θ Λ shape x found.small ∙ found.out),
    )

    pub many_atoms : w.atoms ≤ ATOMS
    many_atoms = omega (
      arith,
      s.at.slices.explained,
      reasons_short,
      mul-le-mul {n₁ = length s.st.posts} {m₁ = 2 * n} {n₂ = TASKS} {m₂ = 2 * TASKS} (omega (arith, fewer, s.small, few, s.arrays.count)) (omega (arith, few)),
    )

    atom_room : 3 * w.atoms + 6 * length (leaves.theta J est_order ls) + 3 ≤ length atoms
    atom_room = omega (
      arith,
      s.at.slices.explained,
      reasons_short,
      theta_less,
      s.atom_room,
      atoms_size,
      twice,
      mul-le-mul_right {m = suc (length s.st.posts)} {n = n} (2 * n) (omega (arith, fewer, s.small, s.arrays.count)),
    )
      where
        twice : n * (2 * n) ≡ 2 * (n * n)
        twice = mul_left_comm n 2 n

    pub post_room : 4 * w.posts + 4 ≤ length posts
    post_room = omega (arith, s.at.slices.posted, fewer, s.small, s.post_room, s.arrays.count, ap length s.at.slices.post_words_are ∙ length-sets s.posts₀ 0 (post_words 0 s.st.posts))

    -- the task's leaf may be emptied, and is then
    in_lambda : {k : ℕ} → k ≡ get_or mapping i 0 → (k < J.count) × (gray_at ls k ≡ true)
    in_lambda e = (
      omega (arith, e, leaf, found.small),
      ap (gray_at ls) (e ∙ leaf) ∙ tree.gray_at_is J G.proper est_order G.by_earliest_is ls Θ Λ shape x found.small ∙ found.gray.mem,
    )

    pub may_clear : {k : ℕ} → k ≡ get_or mapping i 0 → (h : Held inn words) × InLambda h k
    may_clear e = (shown, in_lambda e)

    abbrev pub Cleared : ℕ → List ℕ → Type 0
    Cleared k words' = (h : Held inn words) → InLambda h k → Coloured empty h k words'

    cleared : {k : ℕ} (words' : List ℕ) → k ≡ get_or mapping i 0 → Cleared k words' → IsTree J est_order (set ls x empty) inn words'
    cleared words' e q = subst (λ (k : ℕ). IsTree J est_order (set ls k empty) inn words') (e ∙ leaf) (q shown (in_lambda e))

    -- the start, raised to the ect of Theta
    module _ (b : ℕ) (is : b ≡ raised_to (get_or est i 0) (leaves.ect J est_order ls)) where
      module _ (up : get_or est i 0 < b) where
        ect_is : leaves.ect J est_order ls ≡ some b
        ect_is = raised_some (get_or est i 0) b (leaves.ect J est_order ls) is up

        up' : J.earliest (T x) < b
        up' = omega (arith, up, task_start)

        -- what `post` asks
        pub asked : PropagationExplainable (length atoms) w.atoms (theta_shown tasks words) est durations (leaves.sum J est_order ls) lct i b
        asked = explainable_at theta_is s.ends r.task
            (meeting.propagation_explainable G (held s.arrays.starts) (held s.arrays.lasts) t shape s.small (length atoms) w.atoms x b found passes ect_is up' atom_room)

        abbrev now : List Atom
        now = propagation zero_at J (T x) b (completion J (get_or lct_order t 0)) (leaves.sum J est_order ls) (leaves.theta J est_order ls)

        abbrev made : Post
        made = record { task = T x; bound = instant zero_at b; reason = now }

        reason_is : reason_of tasks shown i b lct ≡ now
        reason_is = propagation_at (starting est durations) (leaves.sum J est_order ls) b theta_is s.ends r.task
            ∙ propagation_same zero_at (starting est durations) J (T x) b (completion J (get_or lct_order t 0)) (leaves.sum J est_order ls) (leaves.theta J est_order ls)
            (alike (T x) found.gray.small) (λ y q.
            alike (get_or (leaves.theta J est_order ls) y 0) (meeting.each_listed G (held s.arrays.starts) (held s.arrays.lasts) t shape s.small y q))
          where
            alike : (k : ℕ) → k < J.count → Alike (starting est durations) J k
            alike = meeting.alike G (held s.arrays.starts) (held s.arrays.lasts)

        -- the state with the post
        abbrev after : State
        after = posted zero_at J est_order lct_order s.st (T x) b t

        module _ {posts' atoms' : List ℤ} {w' : Written} (p : Posted posts atoms posts' atoms' w w' i b (reason_of tasks shown i b lct)) where
          post_at : AtNow s after words es posts' atoms' w'
          post_at = record {
            tree = s.at.tree;
            slices = record {
              starts = s.at.slices.starts;
              post_words_are = posts_at s.posts₀ s.st.posts made s.at.slices.post_words_are s.at.slices.posted s.at.slices.explained r.task refl (ap length reason_is) p.post_words_are;
              atom_words_are = atoms_at s.atoms₀ s.st.posts made s.at.slices.atom_words_are s.at.slices.explained (ap atom_words reason_is) p.atom_words_are;
              posted = omega (arith, p.posted, s.at.slices.posted, length-append s.st.posts (made ∷ []));
              explained = omega (arith, p.explained, s.at.slices.explained, ap length reason_is, ap length (reasons_more s.st.posts made), length-append (reasons s.st.posts) now);
              counted = p.counted ∙ s.at.slices.counted;
            };
          }

          pub emptied : get_or lst i 0 < b → Considered s (Err (record { 0 = w' })) words es posts' atoms'
          emptied high = (
            after,
            post_at,
            λ f. inner_stop zero_at J est_order lct_order f t s.st x passes r.found b ect_is (lt-ltb (J.earliest (T x)) b up') (lt-ltb (J.latest (T x)) b (omega (arith, high, task_latest))),
          )

          pub raised_on : {k : ℕ} {words' : List ℕ} {es' : List ℤ} → b ≤ get_or lst i 0 → es' ≡ set es i (instant zero_at b) → k ≡ get_or mapping i 0 → Cleared k words'
              → Considered s (Ok (counted w' 1)) words' es' posts' atoms'
          raised_on {words' = words'} low e at_leaf q = (
            dropped (raised after (T x) b) x,
            record {
              tree = cleared words' at_leaf q;
              slices = record {
                starts = starts_at s.st.starts b s.at.slices.starts r.task e;
                post_words_are = post_at.slices.post_words_are;
                atom_words_are = post_at.slices.atom_words_are;
                posted = post_at.slices.posted;
                explained = post_at.slices.explained;
                counted = ap (λ (c : ℕ). c + 1) post_at.slices.counted;
              };
            },
            λ f. inner_raise zero_at J est_order lct_order f t s.st x passes r.found b ect_is (lt-ltb (J.earliest (T x)) b up') (le-ltb (J.latest (T x)) b (omega (arith, low, task_latest))),
          )

      -- no post
      pub passed_on : {k : ℕ} {words' : List ℕ} → b ≤ get_or est i 0 → k ≡ get_or mapping i 0 → Cleared k words' → Considered s (Ok (counted w 1)) words' es posts atoms
      passed_on {words' = words'} low at_leaf q = (
        dropped s.st x,
        record {
          tree = cleared words' at_leaf q;
          slices = recounted 1 s.at.slices;
        },
        λ f. inner_pass zero_at J est_order lct_order f t s.st x passes r.found still,
      )
        where
          still : exceeds (leaves.ect J est_order ls) (J.earliest (T x)) ≡ false
          still = subst (λ (e : ℕ). exceeds (leaves.ect J est_order ls) e ≡ false) task_start (within_bound (get_or est i 0) (get_or est i 0) (leaves.ect J est_order ls) (omega (arith, low, is)))

      -- what the test for a post leaves: a post, or nothing new where the bound is not above the start
      abbrev pub Tried : List ℤ → List ℤ → Written → Type 0
      Tried posts' atoms' w' = ((get_or est i 0 < b) × Posted posts atoms posts' atoms' w w' i b (reason_of tasks shown i b lct))
          ⊎ ((b ≤ get_or est i 0) × (posts' ≡ posts) × (atoms' ≡ atoms) × (w' ≡ w))

      module _ {posts' atoms' : List ℤ} {w' : Written} where
        pub tried_sizes : Tried posts' atoms' w' → (length posts' ≡ length posts) × (length atoms' ≡ length atoms)
        tried_sizes (inl (up, p)) = let reason = reason_of tasks shown i b lct in (
          ap length p.post_words_are ∙ length-sets posts (4 * w.posts) (pos i ∷ instant zero_at b ∷ pos w.atoms ∷ pos (length reason) ∷ []),
          ap length p.atom_words_are ∙ length-sets atoms (3 * w.atoms) (atom_words reason),
        )
        tried_sizes (inr (low, e, f, g)) = (ap length e, ap length f)

        pub tried_changes : Tried posts' atoms' w' → w'.changes ≡ w.changes
        tried_changes (inl (up, p)) = p.counted
        tried_changes (inr (low, e, f, g)) = ap (λ (w : Written). w.changes) g

        -- a bound above the latest start was posted
        pub tried_emptied : Tried posts' atoms' w' → get_or lst i 0 < b → Considered s (Err (record { 0 = w' })) words es posts' atoms'
        tried_emptied (inl (up, p)) high = emptied up p high
        tried_emptied (inr (low, e, f, g)) high = absurd (omega (arith, low, high, task_start, task_latest, G.proper.ranges (T x) found.gray.small))

        -- a start that is not raised is written as it was
        pub tried_on : {k : ℕ} {words' : List ℕ} {es' : List ℤ} → Tried posts' atoms' w' → b ≤ get_or lst i 0 → es' ≡ set es i (instant zero_at b) → k ≡ get_or mapping i 0 → Cleared k words'
            → Considered s (Ok (counted w' 1)) words' es' posts' atoms'
        tried_on (inl (up, p)) fits e at_leaf q = raised_on up p fits e at_leaf q
        tried_on {words' = words'} (inr (low, f, g, h)) fits e at_leaf q = rw (e ∙ same, f, g, h) (passed_on low at_leaf q)
          where
            same_start : b ≡ get_or s.st.starts i 0
            same_start = omega (
              arith,
              low,
              is,
              raised_least (get_or est i 0) (leaves.ect J est_order ls),
              task_start,
              ap (λ (k : ℕ). get_or s.st.starts k 0) r.task,
              inv.facts.same_in (T x) found.gray,
            )

            same : set es i (instant zero_at b) ≡ es
            same = rw (s.at.slices.starts, same_start) (sym (map_set (instant zero_at) s.st.starts i (get_or s.st.starts i 0)) ∙ ap (map (instant zero_at)) (set-get_or s.st.starts i 0))
