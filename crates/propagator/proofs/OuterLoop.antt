-- The outer loop: what it has got to at a level, and how it goes on or ends from there.
use mathlib.Core.Path.{◌≡◌, refl, sym, ap, subst, ◌∙◌}
use mathlib.Core.Bool.{Bool, true, false, ◌||◌}
use mathlib.Core.Logic.{inl, inr}
use mathlib.Core.Option.{Option}
use mathlib.Core.List.{List, [], ◌++◌, append-nil}
use Prim.Native.Nat.{ℕ, suc, ◌+◌, ◌*◌, ◌-◌, ◌^◌, ◌≤◌, ◌<◌}
use native.Mathlib.Omega.{arith}
use native.Mathlib.Decide.{dec_lt}
use lib.Dec.{ltb}
use lib.IntN.{ℤ}
use lib.ListN.{length, get_or, set}
use lib.Seq.{sets, set-set}
use Rattle.std.specs.Prelude.{Result, Ok, Err}
use Rattle.std.specs.Int.{from_bool}
use borrow.Author.Tests.{le-ltb, lt-ltb}
use Rattle.integers.specs.Limits.{TASKS}
use Rattle.integers.specs.Moments.{zero_at}
use Rattle.integers.specs.Orders.{index}
use Rattle.integers.proofs.Bools.{bool, clash}
use Rattle.scheduling.specs.Scheduling.{natural, Tasks, Atom, completion}
use Rattle.trees.specs.Ects.{exceeds, raised_to}
use Rattle.trees.specs.Leaves as leaves
use Rattle.trees.specs.Leaves.{Leaf, empty, gray}
use Rattle.trees.specs.Trees.{IsTree, HasLeaves}
use Rattle.trees.specs.Operations.{Held, Answers}
use Rattle.trees.proofs.NodeOrder.{ect_within}
use Rattle.trees.proofs.RebuiltTrees.{tree_leaves}
use Rattle.runs.specs.Traces.{Trace, End, done, overload, emptied}
use Rattle.runs.specs.Runs.{State, Turn, on, conflict, inner, outer, run, ended, grayed, dropped, all_white}
use Rattle.scheduling.specs.Words.{atom_words}
use Rattle.runs.specs.Words.{reasons, end_reason}
use Rattle.runs.proofs.WrittenSlices.{reason_stored}
use Rattle.runs.proofs.QuietLevels as quiet_levels
use Rattle.runs.proofs.QuietLevels.{ect_bar_no_later}
use Rattle.runs.proofs.InnerLoop.{run_is, inner_end, inner_pass, outer_end, outer_over, outer_on, outer_stop}
use Rattle.runs.specs.Reached.{Entered, Reached, begins, follows, at_head, moved, turned}
use Rattle.explanations.specs.Explanations.{ConflictExplainable}
use Rattle.propagator.specs.declared.disjunctive_propagator.Emptied.{Emptied}
use Rattle.propagator.specs.declared.disjunctive_propagator.Written.{Written}
use Rattle.propagator.specs.declared.task_arrays.TaskArrays.{TaskArrays}
use Rattle.propagator.specs.RunArrays.{Ordered, theta_shown, Slices, At}
use Rattle.propagator.specs.Candidates.{nothing_written, counted, Considerable, AllConsidered}
use Rattle.propagator.proofs.ConsideredTask as considering
use Rattle.runs.specs.declared.outcome.Outcome.TheVariants as outcome
use Rattle.runs.specs.declared.outcome.Finished.{Finished}
use Rattle.propagator.specs.LeavingTheta.{Movable, Recoloured, turn_known, left_for}
use Rattle.runs.specs.Outcomes.{outcome_numbers}
use Rattle.runs.specs.EndNumbers.{end_numbers}
use Rattle.propagator.specs.EdgeFinding.{HeldPast, conflict_of, ConflictExplained, EdgeFindable, EdgeFound}
use Rattle.propagator.proofs.FirstCandidate.{IsFirst, level_first}
use Rattle.propagator.proofs.LeavingTheta as leaving

module _ {tasks : TaskArrays} {first : ℕ} {past : Bool} {words : List ℕ} {es posts atoms : List ℤ} (s : EdgeFindable tasks first past words es posts atoms) where
  abbrev n : ℕ
  n = tasks.size.leaves

  abbrev inn : ℕ
  inn = tasks.size.inner

  abbrev est : List ℕ
  est = tasks.est.now

  abbrev lct : List ℕ
  lct = tasks.lct.now

  abbrev durations : List ℕ
  durations = tasks.durations.now

  abbrev sorted_tasks : List ℕ
  sorted_tasks = tasks.sorted_tasks.now

  abbrev J : Tasks natural
  J = s.J

  abbrev est_order : List ℕ
  est_order = s.est_order

  abbrev lct_order : List ℕ
  lct_order = s.lct_order

  abbrev G : Ordered J est_order lct_order
  G = s.ordered

  abbrev whole : Trace
  whole = run zero_at J est_order lct_order

  abbrev rest_of : ℕ → ℕ → State → Trace
  rest_of f t st = outer zero_at J est_order lct_order f t st

  -- the loop stands at the head of level `t`: `last` is at least the ect_bar, and where the inner nodes are not joined it is at most the level's lct
  pub record Level (t : ℕ) (words' : List ℕ) (es' posts' atoms' : List ℤ) (w' : Written) (last : ℕ) (joined : Bool) : Type 0 where
    pub st : State
    pub small : t < n
    pub entered : Entered zero_at J est_order lct_order t st
    pub has : HasLeaves J est_order st.leaves inn words'
    pub tree : joined ≡ true → IsTree J est_order st.leaves inn words'
    pub slices : Slices posts atoms st es' posts' atoms' w'.posts w'.atoms w'.changes
    pub most : raised_to 0 (leaves.ect_bar_of J est_order st.leaves) ≤ last
    pub unjoined : joined ≡ false → last ≤ completion J (get_or lct_order t 0)
    pub rest : whole ≡ rest_of (n - 1 - t) t st

  pub few : n ≤ TASKS
  few = tasks.few_tasks

  pub sorted_task_small : (t : ℕ) → t < n → get_or sorted_tasks t 0 < TASKS
  sorted_task_small t q = omega (arith, s.order.at t q, G.by_completion_is.task t (omega (arith, q, s.arrays.count)), G.limited.count)

  -- a tree of the run's tasks, and the moment that is told of its root
  abbrev held : {words' : List ℕ} {ls : List Leaf} → IsTree J est_order ls inn words' → Held inn words'
  held {ls = ls} t = record { J = J; est_order = est_order; leaves = ls; limited = G.limited; tree = t }

  abbrev pub Told : List ℕ → ℕ → Type 0
  Told words' last = Answers (λ J est_order ls. raised_to 0 (leaves.ect_bar_of J est_order ls)) words' last

  pub any : 0 < n
  any = omega (arith, G.some, s.arrays.count)

  pub first_level : Level 0 words es posts atoms (nothing_written n) first past
  first_level = record {
    st = all_white J;
    small = any;
    entered = begins;
    has = s.has;
    tree = s.tree;
    slices = s.slices;
    most = omega (arith, s.ect_is);
    unjoined = s.unjoined;
    rest = run_is zero_at J est_order lct_order ∙ ap (λ (f : ℕ). rest_of f 0 (all_white J)) turns;
  }
    where
      turns : J.count - 1 ≡ n - 1 - 0
      turns = omega (arith, s.arrays.count)

  -- what stands at a state of a level, where words and slices are at it
  abbrev standing : {t c : ℕ} {st : State} {words' : List ℕ} {es' posts' atoms' : List ℤ} {w' : Written} → t < J.count → c ≡ completion J (get_or lct_order t 0)
      → Reached zero_at J est_order lct_order t st → At J est_order posts atoms st inn words' es' posts' atoms' w'.posts w'.atoms w'.changes
      → Considerable tasks c words' es' posts' atoms' w'
  standing {t} {c} {st} small ends reached at = record {
    J = J;
    est_order = est_order;
    lct_order = lct_order;
    level = t;
    st = st;
    posts₀ = posts;
    atoms₀ = atoms;
    ordered = G;
    arrays = s.arrays;
    latest = s.latest;
    small = small;
    ends = ends;
    post_room = s.post_room;
    atom_room = s.atom_room;
    reached = reached;
    at = at;
  }

  -- how the run ends from a state
  module _ (st : State) (end : End) (is : whole ≡ ended zero_at J est_order lct_order st end) {es' posts' atoms' : List ℤ} {w' : Written}
      (a : Slices posts atoms st es' posts' atoms' w'.posts w'.atoms w'.changes) where
    ends : {r : Finished} {atoms'' : List ℤ} → outcome_numbers r.outcome ≡ end_numbers (length st.posts) (length (reasons st.posts)) end → r.changes ≡ w'.changes
        → atoms'' ≡ sets atoms 0 (atom_words (reasons st.posts ++ end_reason end))
        → EdgeFound J est_order lct_order posts atoms r.outcome r.changes es' posts' atoms''
    ends y x z = record {
      answer = rw is y;
      changes = rw is (x ∙ a.counted);
      starts = rw is a.starts;
      post_words_are = rw is a.post_words_are;
      atom_words_are = rw is z;
    }

    -- with no reason more
    no_more : end_reason end ≡ [] → atoms' ≡ sets atoms 0 (atom_words (reasons st.posts ++ end_reason end))
    no_more z = a.atom_words_are ∙ ap (λ (l : List Atom). sets atoms 0 (atom_words l)) (sym (ap (λ (l : List Atom). reasons st.posts ++ l) z ∙ append-nil (reasons st.posts)))

  module _ {t : ℕ} {words' : List ℕ} {es' posts' atoms' : List ℤ} {w' : Written} {last : ℕ} {joined : Bool} (v : Level t words' es' posts' atoms' w' last joined) where
    -- all levels are done
    pub all_done : {r : Finished} → n ≤ t + 1 → (r.outcome ≡ outcome.Done w'.posts) × (r.changes ≡ w'.changes)
        → EdgeFound J est_order lct_order posts atoms r.outcome r.changes es' posts' atoms'
    all_done q f = ends v.st done is v.slices (ap outcome_numbers f.0 ∙ ap (λ (k : ℕ). outcome_numbers (outcome.Done k)) v.slices.posted) f.1 (no_more v.st done is v.slices refl)
      where
        none : n - 1 - t ≡ 0
        none = omega arith

        is : whole ≡ ended zero_at J est_order lct_order v.st done
        is = v.rest ∙ ap (λ (f : ℕ). rest_of f t v.st) none ∙ outer_end zero_at J est_order lct_order 0 t v.st

    module _ (more : t + 1 < n) where
      -- the level's task, and its lct
      abbrev pub j : ℕ
      j = get_or sorted_tasks t 0

      abbrev pub c : ℕ
      c = get_or lct j 0

      pub j_is : j ≡ get_or lct_order t 0
      j_is = s.order.at t v.small

      pub j_small : j < n
      j_small = omega (arith, j_is, G.by_completion_is.task t (omega (arith, v.small, s.arrays.count)), s.arrays.count)

      pub c_is : c ≡ completion J (get_or lct_order t 0)
      c_is = s.completions.at j j_small ∙ ap (completion J) j_is

      pub small_t : t < J.count
      small_t = omega (arith, v.small, s.arrays.count)

      abbrev pub ect : Option ℕ
      ect = leaves.ect J est_order v.st.leaves

      abbrev end : ℕ
      end = completion J (get_or lct_order t 0)

      -- past the level's lct or not, by the array
      past_end : {u : Bool} → exceeds ect c ≡ u → exceeds ect end ≡ u
      past_end q = ap (exceeds ect) (sym c_is) ∙ q

      next : n - 1 - t ≡ suc (n - 1 - suc t)
      next = omega arith

      pub few_changes : w'.changes ≤ 4 * TASKS
      few_changes = considering.changes_few G (at_head t v.st v.entered) small_t v.slices

      -- where the ect_bar known last is past the level's lct, the inner nodes are joined
      pub joined_past : c < last → joined ≡ true
      joined_past q = elim (bool joined) [ inl z ↦ z | inr z ↦ absurd (omega (arith, v.unjoined z, c_is)) ]

      abbrev pub tested : HeldPast inn words' last c
      tested = record { J = J; est_order = est_order; leaves = v.st.leaves; limited = G.limited; most = v.most; tree = λ q. v.tree (joined_past q) }

      -- the white tasks overload
      module _ (over : exceeds ect c ≡ true) where
        pub tree_past : IsTree J est_order v.st.leaves inn words'
        tree_past = elim (dec_lt c last) [
          | yes q ↦ v.tree (joined_past q)
          | no q ↦ clash over (ect_within J est_order v.st.leaves c (omega (arith, v.most)))
        ]

        abbrev here : Considerable tasks c words' es' posts' atoms' w'
        here = standing small_t c_is (at_head t v.st v.entered) (record { tree = tree_past; slices = v.slices })

        abbrev pub shown : Held inn words'
        shown = considering.shown here

        pub over_asked : ConflictExplainable (length atoms') w'.atoms (theta_shown tasks words') est durations (leaves.sum J est_order v.st.leaves) c
        over_asked = considering.over_asked here over

        pub overloads : {r : Finished} {atoms'' : List ℤ} → ConflictExplained atoms' atoms'' w' r (conflict_of tasks shown c)
            → EdgeFound J est_order lct_order posts atoms r.outcome r.changes es' posts' atoms''
        overloads {r} {atoms''} k = ends v.st (overload reason) is v.slices answer k.changes words_are
          where
            reason : List Atom
            reason = conflict zero_at J end (leaves.sum J est_order v.st.leaves) (leaves.theta J est_order v.st.leaves)

            reason_is : conflict_of tasks shown c ≡ reason
            reason_is = considering.conflict_is here

            is : whole ≡ ended zero_at J est_order lct_order v.st (overload reason)
            is = v.rest ∙ ap (λ (f : ℕ). rest_of f t v.st) next ∙ outer_over zero_at J est_order lct_order (n - 1 - suc t) t v.st (past_end over)

            answer : outcome_numbers r.outcome ≡ end_numbers (length v.st.posts) (length (reasons v.st.posts)) (overload reason)
            answer = ap outcome_numbers (k.answer ∙ ap (λ (l : List Atom). outcome.Overload w'.posts w'.atoms (length l)) reason_is) ∙ rw (v.slices.posted, v.slices.explained) refl

            words_are : atoms'' ≡ sets atoms 0 (atom_words (reasons v.st.posts ++ reason))
            words_are = k.atom_words_are ∙ ap (λ (l : List Atom). sets atoms' (3 * w'.atoms) (atom_words l)) reason_is
                ∙ rw (v.slices.atom_words_are, v.slices.explained) (reason_stored atoms (reasons v.st.posts) reason)

      -- they do not: the task of the level leaves Theta
      abbrev pub moves : Movable tasks words' j joined
      moves = leaving.movable G s.arrays t small_t j j_is v.st.leaves v.has v.tree

      -- est + p of the level's task fits a word
      pub reachable : (j < TASKS) × (get_or est j 0 + get_or durations j 0 < 2 ^ 32)
      reachable = let q : j < J.count = omega (arith, j_small, s.arrays.count) in
          (omega (arith, j_small, few), omega (arith, s.arrays.starts.at j j_small, s.arrays.lasts.at j j_small, G.proper.ranges j q, G.fits j q))

      -- the lct of the next level
      abbrev pub d : ℕ
      d = get_or lct (get_or sorted_tasks (t + 1) 0) 0

      pub ends_d : d ≡ completion J (get_or lct_order (suc t) 0)
      ends_d = let one : t + 1 ≡ suc t = omega arith in
          let k_small : get_or lct_order (suc t) 0 < n = omega (arith, G.by_completion_is.task (suc t) (omega (arith, more, s.arrays.count)), s.arrays.count) in
          ap (λ (u : ℕ). get_or lct (get_or sorted_tasks u 0) 0) one ∙ ap (λ (k : ℕ). get_or lct k 0) (s.order.at (suc t) (omega arith)) ∙ s.completions.at (get_or lct_order (suc t) 0) k_small

      -- the inner nodes are joined where the next level needs the tree, or where this one did
      abbrev joins : Bool → Bool
      joins before = ltb d last || before

      module _ (quiet : exceeds ect c ≡ false) (before : Bool) {taken : Bool} (known : taken ≡ turn_known tasks j last (ltb d last)) {words'' : List ℕ}
          (m : Recoloured (left_for taken) tasks words' words'' j joined (joins before)) {k : ℕ} (one_or_none : k ≡ from_bool taken) {w₁ : Written}
          (count : w₁ ≡ counted w' (2 + k)) where
        -- the leaf of the level's task, and the state in which it is gray
        abbrev x : ℕ
        x = index est_order (get_or lct_order t 0)

        abbrev st₁ : State
        st₁ = grayed v.st x

        pub still : exceeds ect end ≡ false
        still = past_end quiet

        -- the leaf has its new colour: in the source a gray leaf takes two leaf changes, and an empty one a third
        at_place : {u : Bool} → taken ≡ u → HasLeaves J est_order (set v.st.leaves x (left_for u)) inn words''
            × (joins before ≡ true → IsTree J est_order (set v.st.leaves x (left_for u)) inn words'')
        at_place z = rw (sym z, sym (leaving.gray_place G s.arrays t small_t j j_is)) (m moves)

        slices_of : (ls : List Leaf) {u : Bool} → taken ≡ u
            → Slices posts atoms (record { leaves = ls; starts = v.st.starts; posts = v.st.posts; changes = v.st.changes + (2 + from_bool u) }) es' posts' atoms' w₁.posts w₁.atoms w₁.changes
        slices_of ls {u} z = rw (count, one_or_none, z) (considering.recounted (2 + from_bool u) v.slices)

        unfold_level : whole ≡ rest_of (suc (n - 1 - suc t)) t v.st
        unfold_level = v.rest ∙ ap (λ (f : ℕ). rest_of f t v.st) next

        -- the next level has no candidate, as the ect_bar known last is not past its lct
        pub passed_over : last ≤ d → Level (t + 1) words'' es' posts' atoms' w₁ last (joins before)
        passed_over low =
            let one : suc t ≡ t + 1 = omega arith in
            subst (λ (k : ℕ). Level k words'' es' posts' atoms' w₁ last (joins before)) one (record {
              st = st₁;
              small = omega arith;
              entered = follows t v.st st₁ v.entered still on_st₁;
              has = (at_place none).0;
              tree = (at_place none).1;
              slices = slices_of st₁.leaves none;
              most = omega (arith, v.most, ect_bar_no_later zero_at J G.proper est_order lct_order G.by_earliest_is G.by_completion_is t v.st small_t v.entered);
              unjoined = λ _. omega (arith, low, ends_d);
              rest = unfold_level ∙ outer_on zero_at J est_order lct_order (n - 1 - suc t) t v.st st₁ still on_st₁;
            })
          where
            none : taken ≡ false
            none = known ∙ rw (le-ltb d last low) refl

            on_st₁ : inner zero_at J est_order lct_order J.count (suc t) st₁ ≡ on st₁
            on_st₁ = quiet_levels.passed_over zero_at J G.proper est_order lct_order G.by_earliest_is G.by_completion_is t v.st small_t v.entered J.count (omega (arith, v.most, low, ends_d))

        -- it may have one, and the words hold the tree
        module _ (passes : d < last) where
          is_joined : joins before ≡ true
          is_joined = rw (lt-ltb d last passes) refl

          -- the state after the turns that are known: the level's task is the first candidate where it alone reaches the ect_bar known last
          pub record Begun : Type 0 where
            pub st : State
            pub reached : Reached zero_at J est_order lct_order (suc t) st
            pub tree : IsTree J est_order st.leaves inn words''
            pub slices : Slices posts atoms st es' posts' atoms' w₁.posts w₁.atoms w₁.changes
            pub rest : inner zero_at J est_order lct_order n (suc t) st₁ ≡ inner zero_at J est_order lct_order (n - k) (suc t) st

          pub begun : Begun
          begun = elim (bool taken) [
            | inr z ↦ record {
              st = st₁;
              reached = moved t v.st v.entered still;
              tree = (at_place z).1 is_joined;
              slices = slices_of st₁.leaves z;
              rest = ap (λ (f : ℕ). inner zero_at J est_order lct_order f (suc t) st₁) (omega (arith, none_of z));
            }
            | inl z ↦ record {
              st = dropped st₁ x;
              reached = turned (suc t) st₁ (dropped st₁ x) (moved t v.st v.entered still) (drops z 0 ∙ inner_end zero_at J est_order lct_order 0 (suc t) (dropped st₁ x));
              tree = rw (set-set v.st.leaves x gray empty) ((at_place z).1 is_joined);
              slices = subst (λ (c : ℕ). Slices posts atoms (record { leaves = (dropped st₁ x).leaves; starts = v.st.starts; posts = v.st.posts; changes = c }) es' posts' atoms' w₁.posts
                  w₁.atoms w₁.changes) (omega arith) (slices_of (dropped st₁ x).leaves z);
              rest = ap (λ (f : ℕ). inner zero_at J est_order lct_order f (suc t) st₁) (omega (arith, more)) ∙ drops z (n - 1)
                  ∙ ap (λ (f : ℕ). inner zero_at J est_order lct_order f (suc t) (dropped st₁ x)) (omega (arith, one_of z));
            }
          ]
            where
              one_of : taken ≡ true → k ≡ 1
              one_of z = one_or_none ∙ ap from_bool z

              none_of : taken ≡ false → k ≡ 0
              none_of z = one_or_none ∙ ap from_bool z

              alone : taken ≡ true → IsFirst J est_order st₁.leaves (get_or lct_order t 0) (completion J (get_or lct_order (suc t) 0))
              alone z = level_first zero_at J G.proper est_order lct_order G.by_earliest_is G.by_completion_is t v.st small_t v.entered last v.most
                  (omega (arith, leaving.reaches tasks j last (ltb d last) (sym known ∙ z), s.arrays.starts.at j j_small, s.arrays.lasts.at j j_small, ap J.earliest j_is, ap J.duration j_is))
                  (completion J (get_or lct_order (suc t) 0)) (omega (arith, passes, ends_d))

              drops : taken ≡ true → (f : ℕ) → inner zero_at J est_order lct_order (suc f) (suc t) st₁ ≡ inner zero_at J est_order lct_order f (suc t) (dropped st₁ x)
              drops z f = inner_pass zero_at J est_order lct_order f (suc t) st₁ x (alone z).past (alone z).found
                  (subst (λ (k : ℕ). exceeds (leaves.ect J est_order st₁.leaves) (J.earliest k) ≡ false) (sym (G.by_earliest_is.there (get_or lct_order t 0) (G.by_completion_is.task t small_t)))
                  (alone z).not_raised)

          abbrev pub goes_on : Considerable tasks d words'' es' posts' atoms' w₁
          goes_on = standing (omega (arith, more, s.arrays.count)) ends_d begun.reached (record { tree = begun.tree; slices = begun.slices })

          inner_is : {u : Turn} → inner zero_at J est_order lct_order (n - k) (suc t) begun.st ≡ u → inner zero_at J est_order lct_order J.count (suc t) st₁ ≡ u
          inner_is z = ap (λ (f : ℕ). inner zero_at J est_order lct_order f (suc t) st₁) s.arrays.count ∙ begun.rest ∙ z

          -- the inner loop ended,
          pub one_more : {words''' : List ℕ} {es'' posts'' atoms'' : List ℤ} {w'' : Written} {u : Result Written Emptied} → u ≡ Ok w'' → AllConsidered goes_on (n - k) u words''' es'' posts'' atoms''
              → {last' : ℕ} → Told words''' last' → Level (t + 1) words''' es'' posts'' atoms'' w'' last' (joins before)
          one_more {words'''} {es''} {posts''} {atoms''} {w''} is all {last'} told =
              let (st', a, z) = rw is at all in
              let one : suc t ≡ t + 1 = omega arith in
              subst (λ (k : ℕ). Level k words''' es'' posts'' atoms'' w'' last' (joins before)) one (record {
                st = st';
                small = omega arith;
                entered = follows t v.st st' v.entered still (inner_is z);
                has = tree_leaves G.limited a.tree;
                tree = λ _. a.tree;
                slices = a.slices;
                most = omega (arith, told inn (held a.tree));
                unjoined = λ not. clash is_joined not;
                rest = unfold_level ∙ outer_on zero_at J est_order lct_order (n - 1 - suc t) t v.st st' still (inner_is z);
              })

          -- or a post emptied a range
          pub one_emptied : (words''' : List ℕ) {es'' posts'' atoms'' : List ℤ} {w'' : Written} {u : Result Written Emptied} {r : Finished} → u ≡ Err (record { 0 = w'' })
              → AllConsidered goes_on (n - k) u words''' es'' posts'' atoms''
              → (r.outcome ≡ outcome.Emptied w''.posts) × (r.changes ≡ w''.changes) → EdgeFound J est_order lct_order posts atoms r.outcome r.changes es'' posts'' atoms''
          one_emptied words''' {es''} {posts''} {atoms''} {w''} is all f =
              let (st', a, z) = rw is at all in
              let stops : whole ≡ ended zero_at J est_order lct_order st' emptied = unfold_level ∙ outer_stop zero_at J est_order lct_order (n - 1 - suc t) t v.st st' still (inner_is z) in
              ends st' emptied stops a.slices (ap outcome_numbers f.0 ∙ ap (λ (k : ℕ). outcome_numbers (outcome.Emptied k)) a.slices.posted) f.1 (no_more st' emptied stops a.slices refl)
