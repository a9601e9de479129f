-- Every post of a run and every overload's reason is right: the bound is an edge-finding bound, and the reason holds at entry and passes the formula.
use mathlib.Core.Path.{◌≡◌, refl, sym, subst}
use mathlib.Core.Bool.{true, false}
use mathlib.Core.Logic.{inl, inr, ◌↔◌}
use mathlib.Core.List.{List, [], ◌∷◌, ◌++◌}
use mathlib.Core.Option.{some}
use Prim.Native.Nat.{ℕ, ◌+◌, ◌-◌, ◌/◌, ◌≤◌, ◌<◌, min}
use native.Mathlib.Omega.{arith}
use lib.Dec.{leb}
use lib.IntN.{ℤ, pos, negsuc, ◌+ℤ◌, sub_ℕ}
use lib.Signed.{◌≤ℤ◌, ≤ℤ_refl}
use lib.ListN.{get_or}
use borrow.Author.Tests.{ne_eqb, eq-eqb, lt-leb}
use Rattle.scheduling.specs.Scheduling.{whole, natural, Tasks, Proper, TaskSet, ◌with◌, In, Outside, Subset, completion, Est, EdgeFindingBound}
use Rattle.scheduling.specs.Scheduling as defs
use Rattle.integers.proofs.Bools.{clash}
use Rattle.scheduling.proofs.Sets.{with_in, with_new, with_old}
use Rattle.scheduling.proofs.Processing.{processing_mono}
use Rattle.scheduling.proofs.Reasons as why
use Rattle.integers.specs.Moments.{Above}
use Rattle.integers.proofs.MomentSums.{reflect, reflect<, above_up, moment_instant, instant_above}
use Rattle.integers.proofs.Ints.{up, dn, ints, sumℤ, sub_law}
use Rattle.scheduling.proofs.Suffixes as suffixes
use Rattle.scheduling.proofs.Clocks.{sound, edge_instant, instants, checks_down, overloads_down}
use Rattle.scheduling.specs.Moments.{moments, ByEarliest, ByCompletion}
use Rattle.scheduling.proofs.Schedules.{rule_sound}
use Rattle.integers.specs.Orders.{index}
use Rattle.scheduling.specs.Scheduling.{Atom}
use Rattle.trees.specs.Leaves.{Leaf, theta, white_at, task_place}
use Rattle.trees.specs.Searches.{theta_of}
use Rattle.runs.specs.Runs.{within, conflict, bounds, propagation}
use Rattle.runs.specs.Runs as edges
use Rattle.trees.specs.Leaves as leaves
use Rattle.trees.specs.Ects.{exceeds}
use Rattle.trees.proofs.RootAnswers as tree
use Rattle.scheduling.specs.Scheduling.{Meets, Every, Admits, negation, HoldsAtEntry, Bounded, PassesWith, PassesAlone}
use Rattle.runs.specs.Demand.{consequent_of, PostRight, OverloadRight}
use Rattle.runs.proofs.ReasonWalks as walks
use Rattle.scheduling.proofs.Every.{every_append, every_left, every_right}
use Rattle.runs.proofs.WalkStops as stops
use Rattle.runs.proofs.LevelSteps.{Measure}

-- atoms that are met at each variable's own start
met_of : (s : ℕ → ℤ) (atoms : List Atom) → ((k : ℕ) → Admits atoms k (s k)) → Every (Meets s) atoms
met_of s [] h = tt
met_of s (a ∷ rest) h = ((h a.variable).0 refl, met_of s rest (λ k. (h k).1))

-- moments as whole numbers: their order, and one step earlier
at_le : (o a b : ℕ) → a ≤ b → sub_ℕ a o ≤ℤ sub_ℕ b o
at_le o a b q = omega (ints, sub_law a o, sub_law b o)

at_pred : (o b : ℕ) → 1 ≤ b → sub_ℕ b o +ℤ negsuc 0 ≡ sub_ℕ (b - 1) o
unfolding up dn
at_pred o b q = omega (ints, sumℤ (sub_ℕ b o) (negsuc 0), sub_law b o, sub_law (b - 1) o)

module _ (o : ℕ) (Z : Tasks whole) (okz : Proper Z) (deepz : (k : ℕ) → k < Z.count → Above o (Z.earliest k)) (est_order lct_order : List ℕ)
    (rk : ByEarliest (moments o Z) (λ j. get_or est_order j 0) (λ k. index est_order k)) (ord : ByCompletion (moments o Z) (λ t. get_or lct_order t 0) (λ k. index lct_order k)) where
  abbrev J : Tasks natural
  J = moments o Z

  abbrev ok : Proper J
  ok = sound o Z okz deepz

  abbrev n : ℕ
  n = Z.count

  abbrev T : ℕ → ℕ
  T j = get_or est_order j 0

  abbrev rank : ℕ → ℕ
  rank k = index est_order k

  abbrev place : ℕ → ℕ
  place k = index lct_order k

  abbrev at : ℕ → ℤ
  at m = sub_ℕ m o

  abbrev ea : ℕ → ℕ
  ea j = J.earliest (T j)

  -- bounds that hold at entry
  entry_low : (k g : ℕ) → k < n → g ≤ J.earliest k → (z : ℤ) → Z.earliest k ≤ℤ z → at g ≤ℤ z
  entry_low k g q h z y = omega (ints, reflect o (at g) (Z.earliest k) (instant_above o g) (deepz k q) (omega (arith, moment_instant o g)), y)

  entry_high : (k g : ℕ) → k < n → J.latest k ≤ g → (z : ℤ) → z ≤ℤ Z.latest k → z ≤ℤ at g
  entry_high k g q h z y = let w = reflect o (Z.latest k) (at g) (above_up o (Z.earliest k) (Z.latest k) (okz.ranges k q) (deepz k q)) (instant_above o g) (omega (arith, moment_instant o g)) in
      omega (ints, w, y)

  -- Atoms that keep the tasks of X in the ranges lo to hi, and say nothing of other tasks, leave just these ranges.
  module _ (atoms : List Atom) (X : TaskSet) (lo hi : ℕ → ℕ) (fits : (k : ℕ) → In J X k → lo k ≤ hi k)
      (says : (k : ℕ) (z : ℤ) → Admits atoms k z ↔ (In J X k → (at (lo k) ≤ℤ z) × (z ≤ℤ at (hi k)))) where
    in_range : (k : ℕ) → In Z X k → at (lo k) ≤ℤ at (hi k)
    in_range k h = at_le o (lo k) (hi k) (fits k (record { small = h.small; mem = h.mem }))

    bounded : Bounded Z atoms X (instants o (record { count = n; earliest = lo; latest = hi; duration = Z.duration }))
    unfolding up dn
    bounded = record {
      same_count = refl;
      same_duration = λ k. refl;
      least = λ k h. record {
        holds = (says k (at (lo k))).1 (λ _. (≤ℤ_refl (at (lo k)), in_range k h));
        bounds = λ w a. ((says k w).0 a (record { small = h.small; mem = h.mem })).0;
      };
      greatest = λ k h. record {
        holds = (says k (at (hi k))).1 (λ _. (in_range k h, ≤ℤ_refl (at (hi k))));
        bounds = λ w a. ((says k w).0 a (record { small = h.small; mem = h.mem })).1;
      };
      -- no greatest value where nothing is said
      only = λ k q y u v a l. omega (ints, sumℤ v (pos 1), l.bounds (v +ℤ pos 1) ((says k (v +ℤ pos 1)).1 (λ h. clash h.mem y)));
    }

  module _ (t : ℕ) (ls : List Leaf) (Λ : TaskSet) where
    abbrev Θ : TaskSet
    Θ k = leb t (place k)

    -- the level's lct
    abbrev c : ℕ
    c = completion J (get_or lct_order t 0)

    module _ (s : tree.Represents J ok est_order rk ls Θ Λ) (small : t < n) where
      abbrev onward : ℕ → TaskSet
      onward = walks.onward o J ok est_order lct_order rk ls Θ Λ s

      abbrev dr : ℕ → ℕ
      dr = walks.dr o J ok est_order lct_order rk ls Θ Λ s

      -- a post -----------------------------------------------------------------------------------------------------------------
      module _ (x : ℕ) (f : tree.Found J ok est_order rk ls Θ Λ s x) (late : place (T x) < t) (over : exceeds (leaves.ect_bar_of J est_order ls) c ≡ true) (b : ℕ) (is : leaves.ect J est_order ls ≡ some b)
          (up : J.earliest (T x) < b) (edge : EdgeFindingBound J (T x) b) where
        abbrev i : ℕ
        i = T x

        abbrev As : List Atom
        As = propagation o J i b c (leaves.sum J est_order ls) (theta J est_order ls)

        i_small : i < n
        i_small = f.gray.small

        i_out : Θ i ≡ false
        i_out = lt-leb t (place i) late

        edge_ℤ : EdgeFindingBound Z i (at b)
        edge_ℤ = edge_instant o Z okz deepz i b edge

        -- the first walk
        abbrev one : walks.First o J ok est_order lct_order rk ls Θ Λ s i c b As
        one = stops.first_walk o J ok est_order lct_order rk ord t ls Λ s small x f over b is up

        abbrev m : ℕ
        m = one.m

        abbrev r : ℕ
        r = min (J.earliest i) (ea m)

        abbrev last : ℕ
        last = r + dr m + J.duration i - 1

        abbrev Whites : List ℕ
        Whites = theta_of (white_at ls) (task_place J est_order) m one.left

        abbrev Pre : List Atom
        Pre = bounds o J b r last (dr m) Whites

        -- the second
        abbrev two : walks.Second o J ok est_order lct_order rk ls Θ Λ s b r last one.left m
        two = stops.second_walk o J ok est_order lct_order rk ord t ls Λ s small x f over b is up r last

        abbrev m' : ℕ
        m' = two.m

        abbrev Ω : TaskSet
        Ω = onward m

        abbrev Ω' : TaskSet
        Ω' = onward m'

        out : Outside J Ω i
        out = record { small = i_small; mem = suffixes.onward_not J T rank rk Θ m i i_out }

        sub : Subset J Ω' Ω
        sub k h = let u = suffixes.onward_in J T rank rk Θ m' k h.mem in suffixes.onward_out J T rank rk Θ m k (omega (arith, two.from, u.0)) u.1

        low : (k : ℕ) → In J Ω k → r ≤ J.earliest k
        low k h = omega (arith, suffixes.after J T rank rk Θ m k h.small (suffixes.onward_in J T rank rk Θ m k h.mem).0)

        low_i : r ≤ J.earliest i
        low_i = omega arith

        by_c : (k : ℕ) → In J Ω k → completion J k ≤ c
        by_c k h = stops.ends o J ok est_order lct_order rk ord t ls Λ s small k (record { small = h.small; mem = (suffixes.onward_in J T rank rk Θ m k h.mem).1 })

        past : c < r + (dr m + J.duration i)
        past = omega (arith, one.over)

        est' : Est J Ω' (ea m')
        est' = suffixes.onward_est J T rank rk Θ m' two.small two.mem

        abbrev G : Tasks natural
        G = why.Given J ok Ω Ω' i r (ea m') b c out sub est' two.over low low_i by_c past

        abbrev Mine : List Atom
        Mine = edges.at_least o J i r ∷ []

        abbrev Not : List Atom
        Not = negation (consequent_of (record { task = i; bound = at b; reason = As })) ∷ []

        abbrev Full : List Atom
        Full = (Pre ++ Mine) ++ Not

        G_low : (k : ℕ) → In J Ω k → G.earliest k ≤ J.earliest k
        G_low = why.holds_low J ok Ω Ω' i r (ea m') b c out sub est' two.over low low_i by_c past

        G_high : (k : ℕ) → In J Ω k → J.latest k ≤ G.latest k
        G_high = why.holds_high J ok Ω Ω' i r (ea m') b c out sub est' two.over low low_i by_c past

        G_i : G.earliest i ≡ r
        G_i = rw (suffixes.onward_not J T rank rk Θ m' i i_out)

        G_i' : G.latest i ≡ b - 1
        G_i' = rw (eq-eqb i i refl)

        pre_says : (k : ℕ) (z : ℤ) → Admits Pre k z ↔ (In J Ω k → (at (G.earliest k) ≤ℤ z) × (z ≤ℤ at (last - J.duration k)))
        pre_says k z = rw two.is (walks.listed_says o J ok est_order lct_order rk ls Θ Λ s m one.left one.all G.earliest (λ k. last - J.duration k) k z)

        late_Ω : (k : ℕ) → In J Ω k → G.latest k ≡ last - J.duration k
        late_Ω k h =
            let z : (r + (dr m + J.duration i)) - 1 ≡ last = omega arith in
            rw (ne_eqb k i (λ e. clash h.mem (subst (λ (j : ℕ). Ω j ≡ false) (sym e) out.mem)), z)

        says : (k : ℕ) (z : ℤ) → Admits Full k z ↔ (In J (Ω with i) k → (at (G.earliest k) ≤ℤ z) × (z ≤ℤ at (G.latest k)))
        says k z = (
          λ a h. elim (with_in Ω i k h.mem) [
            | inl e ↦ rw (e, G_i, G_i') ((every_right _ Pre Mine (every_left _ (Pre ++ Mine) Not a)).0 (sym e), rw (at_pred o b (omega (arith, up))) at ((every_right _ (Pre ++ Mine) Not a).0 (sym e)))
            | inr y ↦ (let w : In J Ω k = record { small = h.small; mem = y } in rw (late_Ω k w) ((pre_says k z).0 (every_left _ Pre Mine (every_left _ (Pre ++ Mine) Not a)) w))
          ],
          λ f. every_append _ (Pre ++ Mine) Not
              (every_append _ Pre Mine ((pre_says k z).1 (λ h. rw (late_Ω k h) at (f (record { small = h.small; mem = with_old Ω i k h.mem })))) (λ e. (here f e).0, tt))
              (λ e. (here f e).1, tt),
        )
          where
            here : (In J (Ω with i) k → (at (G.earliest k) ≤ℤ z) × (z ≤ℤ at (G.latest k))) → i ≡ k → (at r ≤ℤ z) × (z ≤ℤ (at b +ℤ negsuc 0))
            here f e =
                let self : In J (Ω with i) i = record { small = i_small; mem = with_new Ω i } in
                let g = subst (λ (j : ℕ). (at (G.earliest j) ≤ℤ z) × (z ≤ℤ at (G.latest j))) (sym e) (f (subst (In J (Ω with i)) e self)) in
                rw (at_pred o b (omega (arith, up))) (rw (G_i, G_i') at g)

        range : (k : ℕ) → In J (Ω with i) k → G.earliest k ≤ G.latest k
        range k h = elim (with_in Ω i k h.mem) [
          | inl z ↦ rw z (omega (arith, G_i, G_i', up, low_i))
          | inr y ↦ (let w : In J Ω k = record { small = h.small; mem = y } in omega (arith, G_low k w, G_high k w, ok.ranges k h.small))
        ]

        passes : PassesWith Z (Pre ++ Mine) (consequent_of (record { task = i; bound = at b; reason = As }))
        passes = record {
          ranges = instants o G;
          set = Ω;
          bounded = bounded Full (Ω with i) G.earliest G.latest range says;
          formula = checks_down o G Ω i (why.passes J ok Ω Ω' i r (ea m') b c out sub est' two.over low low_i by_c past);
        }

        at_entry : HoldsAtEntry Z (Pre ++ Mine)
        at_entry st h = met_of st (Pre ++ Mine) (λ k. every_append _ Pre Mine
            ((pre_says k (st k)).1 (λ w. (
              entry_low k (G.earliest k) w.small (G_low k w) (st k) (h k w.small).0,
              entry_high k (last - J.duration k) w.small (omega (arith, G_high k w, late_Ω k w)) (st k) (h k w.small).1,
            )))
            (λ e. subst (λ (k : ℕ). at r ≤ℤ st k) e (entry_low i r i_small low_i (st i) (h i i_small).0), tt))

        post_right : PostRight Z (record { task = i; bound = at b; reason = As })
        post_right = record {
          small = i_small;
          raises = reflect< o (Z.earliest i) (at b) (deepz i i_small) (instant_above o b) (omega (arith, moment_instant o b, up));
          edge = edge_ℤ;
          holds = λ st sch. rule_sound Z okz st sch i (at b) edge_ℤ;
          reason_holds = subst (HoldsAtEntry Z) (sym one.is) at_entry;
          reason_passes = subst (λ (atoms : List Atom). PassesWith Z atoms (consequent_of (record { task = i; bound = at b; reason = As }))) (sym one.is) passes;
        }

      -- an overload -------------------------------------------------------------------------------------------------------------
      module _ (room : (k : ℕ) → k < n → defs.processing J (λ _. true) ≤ J.earliest k) (passes : exceeds (leaves.ect J est_order ls) c ≡ true) where
        abbrev Os : List Atom
        Os = conflict o J c (leaves.sum J est_order ls) (theta J est_order ls)

        stopped : walks.Stopped o J ok est_order lct_order rk ls Θ Λ s c Os
        stopped = stops.overload_stops o J ok est_order lct_order rk ord t ls Λ s small passes

        abbrev q : ℕ
        q = stopped.m

        abbrev delta : ℕ
        delta = (ea q + dr q) - (c + 1)

        abbrev left : ℕ
        left = delta / 2

        abbrev right : ℕ
        right = delta - delta / 2

        abbrev O : TaskSet
        O = onward q

        q_in : In J O (T q)
        q_in = suffixes.onward_first J T rank rk Θ q stopped.small stopped.mem

        low_O : (k : ℕ) → In J O k → ea q ≤ J.earliest k
        low_O k h = suffixes.after J T rank rk Θ q k h.small (suffixes.onward_in J T rank rk Θ q k h.mem).0

        ends_O : (k : ℕ) → In J O k → completion J k ≤ c
        ends_O k h = stops.ends o J ok est_order lct_order rk ord t ls Λ s small k (record { small = h.small; mem = (suffixes.onward_in J T rank rk Θ q k h.mem).1 })

        slack : c + (left + right) + 1 ≡ ea q + dr q
        slack = omega (arith, stopped.over)

        roomy : left ≤ ea q
        roomy = omega (arith, ends_O (T q) q_in, ok.ranges (T q) q_in.small, room (T q) q_in.small, processing_mono J O (λ _. true) (λ k h. refl))

        abbrev S : Tasks natural
        S = why.Span J ok O (ea q) c left right (T q, q_in) low_O ends_O slack roomy

        abbrev In_O : List Atom
        In_O = within o J (ea q - left) (c + right) (theta_of (white_at ls) (task_place J est_order) q stopped.left)

        S_low : (k : ℕ) → In J O k → S.earliest k ≤ J.earliest k
        S_low = why.span_low J ok O (ea q) c left right (T q, q_in) low_O ends_O slack roomy

        S_high : (k : ℕ) → In J O k → J.latest k ≤ S.latest k
        S_high = why.span_high J ok O (ea q) c left right (T q, q_in) low_O ends_O slack roomy

        says_O : (k : ℕ) (z : ℤ) → Admits In_O k z ↔ (In J O k → (at (S.earliest k) ≤ℤ z) × (z ≤ℤ at (S.latest k)))
        says_O k z = rw (walks.within_between o J S.earliest S.latest (ea q - left) (c + right) (theta_of (white_at ls) (task_place J est_order) q stopped.left) (λ k h. (refl, refl)))
            (walks.listed_says o J ok est_order lct_order rk ls Θ Λ s q stopped.left stopped.all S.earliest S.latest k z)

        range_O : (k : ℕ) → In J O k → S.earliest k ≤ S.latest k
        range_O k w = omega (arith, S_low k w, S_high k w, ok.ranges k w.small)

        alone : PassesAlone Z In_O
        alone = record {
          ranges = instants o S;
          set = O;
          bounded = bounded In_O O S.earliest S.latest range_O says_O;
          formula = overloads_down o S O (why.span_overloads J ok O (ea q) c left right (T q, q_in) low_O ends_O slack roomy);
        }

        entry_O : HoldsAtEntry Z In_O
        entry_O st h = met_of st In_O (λ k. (says_O k (st k)).1 (λ w. (
          entry_low k (S.earliest k) w.small (S_low k w) (st k) (h k w.small).0,
          entry_high k (S.latest k) w.small (S_high k w) (st k) (h k w.small).1,
        )))

        overload_right : OverloadRight Z Os
        overload_right = record { reason_holds = subst (HoldsAtEntry Z) (sym stopped.is) entry_O; reason_passes = subst (PassesAlone Z) (sym stopped.is) alone }

  pub all_right : ((k : ℕ) → k < n → defs.processing J (λ _. true) ≤ J.earliest k) → Measure o J ok est_order lct_order rk ord (PostRight Z) (OverloadRight Z)
  all_right room = record {
    of_post = λ t ls Λ s x b small f late over is up edge. post_right t ls Λ s small x f late over b is up edge;
    of_end = λ t ls Λ s small over wrong. overload_right t ls Λ s small room over;
  }
