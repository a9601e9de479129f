-- Where the walks of the reasons stop, at a level of a run: inside Θ.
use mathlib.Core.Path.{◌≡◌, ap, subst, ◌∙◌}
use mathlib.Core.Bool.{Bool, true}
use mathlib.Core.List.{List, ◌∷◌, ◌++◌}
use mathlib.Core.Logic.{inl, inr}
use mathlib.Core.Option.{some}
use Prim.Native.Nat.{ℕ, zero, suc, ◌+◌, ◌-◌, ◌≤◌, ◌<◌}
use native.Mathlib.Omega.{arith}
use lib.Dec.{leb}
use lib.ListN.{length, get_or, drop}
use lib.Seq.{drop-append_seam}
use borrow.Author.Tests.{leb-true}
use Rattle.integers.specs.Orders.{index}
use Rattle.integers.proofs.Bools.{bool}
use Rattle.scheduling.specs.Scheduling.{natural, Tasks, Proper, TaskSet, In, completion, processing, Ect}
use Rattle.scheduling.specs.Moments.{ByEarliest, ByCompletion}
use Rattle.scheduling.proofs.Suffixes.{attaining}
use Rattle.scheduling.proofs.WalkStops.{passing, after_first}
use Rattle.trees.specs.Ects.{exceeds}
use Rattle.trees.proofs.Ects.{exceeds_yes}
use Rattle.trees.specs.Leaves.{Leaf, white_at, task_place, ect, ect_bar_of, sum, theta}
use Rattle.trees.specs.Searches.{theta_of}
use Rattle.trees.proofs.RootAnswers as tree
use Rattle.trees.proofs.WhiteTasks.{theta_none, theta_white, theta_skip, theta_is}
use Rattle.runs.specs.Runs.{propagation, conflict}
use Rattle.runs.proofs.ReasonWalks as walks

-- the white tasks of two stretches of leaves, one after the other
pub theta_append : (white : ℕ → Bool) (task : ℕ → ℕ) (a d e : ℕ) → theta_of white task a (d + e) ≡ theta_of white task a d ++ theta_of white task (a + d) e
theta_append white task a zero e =
    let z : 0 + e ≡ e = omega arith in
    let y : a + 0 ≡ a = omega arith in
    rw (z, y, theta_none white task a)
theta_append white task a (suc d) e =
    let z : suc d + e ≡ suc (d + e) = omega arith in
    let y : a + suc d ≡ suc a + d = omega arith in
    elim (bool (white a)) [
      | inl w ↦ rw (z, y, theta_white white task a (d + e) w, theta_white white task a d w) (ap (λ (l : List ℕ). task a ∷ l) (theta_append white task (suc a) d e))
      | inr w ↦ rw (z, y, theta_skip white task a (d + e) w, theta_skip white task a d w) (theta_append white task (suc a) d e)
    ]

module _ (o : ℕ) (J : Tasks natural) (ok : Proper J) (est_order lct_order : List ℕ) (rk : ByEarliest J (λ j. get_or est_order j 0) (λ k. index est_order k))
    (ord : ByCompletion J (λ t. get_or lct_order t 0) (λ k. index lct_order k))
    (t : ℕ) (ls : List Leaf) (Λ : TaskSet) where
  abbrev n : ℕ
  n = J.count

  abbrev T : ℕ → ℕ
  T j = get_or est_order j 0

  abbrev rank : ℕ → ℕ
  rank k = index est_order k

  abbrev place : ℕ → ℕ
  place k = index lct_order k

  abbrev Θ : TaskSet
  Θ k = leb t (place k)

  abbrev c : ℕ
  c = completion J (get_or lct_order t 0)

  abbrev ea : ℕ → ℕ
  ea j = J.earliest (T j)

  module _ (s : tree.Represents J ok est_order rk ls Θ Λ) (small : t < n) where
    abbrev onward : ℕ → TaskSet
    onward a = walks.onward o J ok est_order lct_order rk ls Θ Λ s a

    abbrev dr : ℕ → ℕ
    dr a = processing J (onward a)

    pub ect_is : (b : ℕ) → ect J est_order ls ≡ some b → Ect J Θ b
    ect_is b = (tree.moment_is J ok est_order rk ls Θ Λ s b).0

    -- every task of Θ ends by the level's lct
    pub ends : (k : ℕ) → In J Θ k → completion J k ≤ c
    ends k h = subst (λ (j : ℕ). completion J j ≤ c) (ord.there k h.small) (ord.sorted t (place k) (leb-true t (place k) h.mem) (ord.placed k h.small))

    at_rank : (k : ℕ) → k < n → Θ k ≡ true → Θ (T (rank k)) ≡ true
    at_rank k q y = rw (rk.there k q) y

    -- the place in the list of a white leaf, and what is left of the list there
    pub spot : ℕ → ℕ
    spot x = length (theta_of (white_at ls) (task_place J est_order) 0 x)

    pub from_spot : (x : ℕ) → x < n → drop (spot x) (theta J est_order ls) ≡ theta_of (white_at ls) (task_place J est_order) x (n - x)
    unfolding spot
    from_spot x q =
        let z : n ≡ x + (n - x) = omega arith in
        let y : 0 + x ≡ x = omega arith in
        ap (drop (spot x)) (theta_is J est_order ls ∙ ap (theta_of (white_at ls) (task_place J est_order) 0) z ∙ theta_append (white_at ls) (task_place J est_order) 0 x (n - x))
        ∙ drop-append_seam (theta_of (white_at ls) (task_place J est_order) 0 x) (theta_of (white_at ls) (task_place J est_order) (0 + x) (n - x))
        ∙ ap (λ (a : ℕ). theta_of (white_at ls) (task_place J est_order) a (n - x)) y

    pub spot_up : (x y : ℕ) → x ≤ y → spot x ≤ spot y
    unfolding spot
    spot_up x y q =
        let z : y ≡ x + (y - x) = omega arith in
        omega (
          arith,
          ap (λ (d : ℕ). length (theta_of (white_at ls) (task_place J est_order) 0 d)) z,
          ap length (theta_append (white_at ls) (task_place J est_order) 0 x (y - x)),
          lib.ListN.length-append (theta_of (white_at ls) (task_place J est_order) 0 x) (theta_of (white_at ls) (task_place J est_order) (0 + x) (y - x)),
        )

    -- the overload's walk stops
    pub overload_stops : exceeds (ect J est_order ls) c ≡ true → walks.Stopped o J ok est_order lct_order rk ls Θ Λ s c (conflict o J c (sum J est_order ls) (theta J est_order ls))
    overload_stops y =
        let (b, is, over) = exceeds_yes (ect J est_order ls) c y in
        let (j, jm, h) = attaining J T rank rk Θ b (ect_is b is) in
        walks.conflict_stops o J ok est_order lct_order rk ls Θ Λ s c (rank j) (rk.placed j jm.small) (at_rank j jm.small jm.mem)
        (omega (arith, h, over, ap J.earliest (rk.there j jm.small)))

    -- a post's two walks stop, the first no later than the second
    module _ (x : ℕ) (f : tree.Found J ok est_order rk ls Θ Λ s x) (over : exceeds (ect_bar_of J est_order ls) c ≡ true) (b : ℕ) (is : ect J est_order ls ≡ some b) (up : J.earliest (T x) < b) where
      abbrev i : ℕ
      i = T x

      pub first_walk : walks.First o J ok est_order lct_order rk ls Θ Λ s i c b (propagation o J i b c (sum J est_order ls) (theta J est_order ls))
      first_walk =
          let (m, mm, h) = passing J T rank rk Θ i c b f.value f.attains f.has f.gray.small (tree.past_found J ok est_order rk ls Θ Λ s f c over) (ect_is b is) up in
          walks.first_stops o J ok est_order lct_order rk ls Θ Λ s i c b (rank m) (rk.placed m mm.small) (at_rank m mm.small mm.mem)
          (omega (arith, h, ap J.earliest (rk.there m mm.small)))

      pub record Attaining : Type 0 where
        pub at : ℕ
        pub inside : at < n
        pub white : Θ (T at) ≡ true
        pub attains : ea at + dr at ≡ b
        pub after : first_walk.m ≤ at

      pub attaining_after : Attaining
      attaining_after =
          let m : ℕ = first_walk.m in
          let (j, jm, h) = attaining J T rank rk Θ b (ect_is b is) in
          let back : dr (rank (T m)) ≡ dr m = ap dr (rk.back m first_walk.small) in
          let q : rank (T m) ≤ rank j = after_first J T rank rk Θ i c b (T m) j (ect_is b is) (record { small = rk.task m first_walk.small; mem = first_walk.mem }) jm
          (omega (arith, first_walk.over, back))
          (λ l. omega (arith, first_walk.before (rank j) (omega arith) (omega (arith, rk.back m first_walk.small)) (at_rank j jm.small jm.mem), ap J.earliest (rk.there j jm.small)))
          h in
          record {
            at = rank j;
            inside = rk.placed j jm.small;
            white = at_rank j jm.small jm.mem;
            attains = omega (arith, h, ap J.earliest (rk.there j jm.small));
            after = omega (arith, q, rk.back m first_walk.small);
          }

      -- and so does the second, which leaves bounds of the tasks from there on
      pub second_walk : (r last : ℕ)
          → walks.Second o J ok est_order lct_order rk ls Θ Λ s b r last first_walk.left first_walk.m
      second_walk r last =
          let w = attaining_after in
          walks.second_stops o J ok est_order lct_order rk ls Θ Λ s b r last first_walk.left first_walk.m w.at first_walk.all w.after w.inside w.white w.attains
