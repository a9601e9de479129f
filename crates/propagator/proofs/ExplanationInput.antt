-- What the explanations ask of their input holds wherever a run calls them.
use mathlib.Core.Path.{◌≡◌, refl, sym, ap, subst, ◌∙◌}
use mathlib.Core.Bool.{true, false}
use mathlib.Core.List.{List, ◌∷◌}
use mathlib.Core.Logic.{◌⊎◌, inl, inr}
use mathlib.Core.Option.{some}
use Prim.Native.Nat.{ℕ, zero, suc, ◌+◌, ◌-◌, ◌*◌, ◌^◌, ◌≤◌, ◌<◌, min}
use native.Mathlib.Omega.{arith}
use lib.Dec.{leb}
use lib.ListN.{length, get_or, drop, length-drop}
use lib.Seq.{get_or-drop}
use Rattle.integers.specs.Limits.{TASKS}
use Rattle.integers.specs.Moments.{zero_at}
use Rattle.integers.specs.Orders.{index}
use Rattle.integers.proofs.Bools.{bool}
use Rattle.integers.proofs.Permutations.{has_at}
use Rattle.scheduling.specs.Scheduling.{natural, Tasks, Proper, TaskSet, In, completion, processing}
use Rattle.scheduling.proofs.Processing.{processing_mono, processing_less}
use Rattle.trees.specs.Ects.{exceeds}
use Rattle.trees.specs.Leaves.{Leaf, white_at, task_place, ect, ect_bar_of, sum, theta}
use Rattle.trees.specs.Searches.{theta_of}
use Rattle.trees.proofs.RootAnswers as tree
use Rattle.trees.proofs.WhiteTasks.{theta_none, theta_white, theta_skip, theta_is}
use Rattle.runs.proofs.ReasonWalks as walks
use Rattle.runs.proofs.WalkStops as stops
use Rattle.explanations.specs.WrittenAtoms.{starting}
use Rattle.explanations.specs.Walks.{lasts, Each, Known}
use Rattle.explanations.specs.Explanations.{White, ConflictExplainable, PropagationExplainable}
use Rattle.explanations.proofs.ExplanationAtoms.{Alike}
use Rattle.explanations.proofs.Places.{lasts_none, lasts_more}
use Rattle.propagator.specs.RunArrays.{Ordered, Holds}

module _ {J : Tasks natural} {est_order lct_order : List ℕ} (G : Ordered J est_order lct_order) {est durations : List ℕ} (he : Holds J.count J.earliest est)
    (hd : Holds J.count J.duration durations) where
  abbrev ok : Proper J
  ok = G.proper

  abbrev n : ℕ
  n = J.count

  abbrev T : ℕ → ℕ
  T j = get_or est_order j 0

  abbrev all : ℕ
  all = processing J (λ _. true)

  few : n ≤ TASKS
  few = G.limited.count

  pub known : (k : ℕ) → k < n → Known est durations k
  known k q = record { task = omega (arith, few); start = omega (arith, few, he.size); duration = omega (arith, few, hd.size) }

  -- the arrays say what J does
  pub alike : (k : ℕ) → k < n → Alike (starting est durations) J k
  alike k q = record { earliest = he.at k q; duration = hd.at k q }

  module _ (t : ℕ) {ls : List Leaf} {Λ : TaskSet} (s : tree.Represents J ok est_order G.by_earliest_is ls (λ k. leb t (index lct_order k)) Λ) (small : t < n) where
    abbrev Θ : TaskSet
    Θ k = leb t (index lct_order k)

    abbrev onward : ℕ → TaskSet
    onward a = walks.onward zero_at J ok est_order lct_order G.by_earliest_is ls Θ Λ s a

    abbrev th : ℕ → ℕ → List ℕ
    th a d = theta_of (white_at ls) (task_place J est_order) a d

    abbrev θ : List ℕ
    θ = theta J est_order ls

    abbrev c : ℕ
    c = completion J (get_or lct_order t 0)

    abbrev spot : ℕ → ℕ
    spot x = stops.spot zero_at J ok est_order lct_order G.by_earliest_is G.by_completion_is t ls Λ s small x

    white_at_is : (a : ℕ) → a < n → white_at ls a ≡ Θ (T a)
    white_at_is = tree.white_at_is J ok est_order G.by_earliest_is ls Θ Λ s

    -- how long the listed tasks from a place on last
    lasts_onward : (d a : ℕ) → a + d ≡ n → lasts durations (th a d) ≡ processing J (onward a)
    lasts_onward zero a z = let end : a ≡ n = omega arith in
        ap (lasts durations) (theta_none (white_at ls) (task_place J est_order) a) ∙ lasts_none durations
        ∙ sym (ap (λ (a : ℕ). processing J (onward a)) end ∙ walks.none_left zero_at J ok est_order lct_order G.by_earliest_is ls Θ Λ s)
    lasts_onward (suc d) a z = by (lasts_onward d (suc a) (omega arith)) (bool (white_at ls a))
      where
        by : lasts durations (th (suc a) d) ≡ processing J (onward (suc a)) → (white_at ls a ≡ true) ⊎ (white_at ls a ≡ false) → lasts durations (th a (suc d)) ≡ processing J (onward a)
        by ih (inl w) = ap (lasts durations) (theta_white (white_at ls) (task_place J est_order) a d w) ∙ lasts_more durations (T a) (th (suc a) d)
            ∙ omega (
              arith,
              ih,
              hd.at (T a) (G.by_earliest_is.task a (omega arith)),
              walks.step zero_at J ok est_order lct_order G.by_earliest_is ls Θ Λ s a (omega arith) (sym (white_at_is a (omega arith)) ∙ w),
            )
        by ih (inr w) = ap (lasts durations) (theta_skip (white_at ls) (task_place J est_order) a d w) ∙ ih
            ∙ sym (walks.skip zero_at J ok est_order lct_order G.by_earliest_is ls Θ Λ s a (omega arith) (sym (white_at_is a (omega arith)) ∙ w))

    -- each listed task is a task of Θ
    listed : (x : ℕ) → x < length θ → In J Θ (get_or θ x 0)
    listed x q = tree.theta_only J ok est_order G.by_earliest_is ls Θ Λ s (get_or θ x 0) (has_at θ x q)

    pub each_listed : Each (λ k. k < n) θ
    each_listed x q = (listed x q).small

    -- a white leaf, in the list
    at_spot : (x : ℕ) → x < n → Θ (T x) ≡ true → (spot x < length θ) × (get_or θ (spot x) 0 ≡ T x) × (lasts durations (drop (spot x) θ) ≡ processing J (onward x))
    at_spot x q y =
        let one : n - x ≡ suc (n - suc x) = omega arith in
        let plus : spot x ≡ spot x + 0 = omega arith in
        let f = stops.from_spot zero_at J ok est_order lct_order G.by_earliest_is G.by_completion_is t ls Λ s small x q in
        let g : drop (spot x) θ ≡ T x ∷ th (suc x) (n - suc x) = f ∙ ap (th x) one ∙ theta_white (white_at ls) (task_place J est_order) x (n - suc x) (white_at_is x q ∙ y) in (
          omega (arith, ap length g, length-drop (spot x) θ),
          ap (λ (k : ℕ). get_or θ k 0) plus ∙ sym (get_or-drop (spot x) θ 0 0) ∙ ap (λ (l : List ℕ). get_or l 0 0) g,
          ap (lasts durations) f ∙ lasts_onward (n - x) x (omega arith),
        )

    sum_lasts : sum J est_order ls ≡ lasts durations θ
    sum_lasts = walks.sum_is zero_at J ok est_order lct_order G.by_earliest_is ls Θ Λ s ∙ sym (lasts_onward n 0 (omega arith)) ∙ ap (lasts durations) (sym (theta_is J est_order ls))

    sum_most : sum J est_order ls ≤ all
    sum_most = omega (arith, walks.sum_is zero_at J ok est_order lct_order G.by_earliest_is ls Θ Λ s, processing_mono J (onward 0) (λ _. true) (λ k h. refl))

    white : White θ est durations (sum J est_order ls) c
    white = record {
      known = λ x q. known (get_or θ x 0) (each_listed x q);
      total = sum_lasts;
      ends = λ x q. let h = listed x q in
          omega (
            arith,
            he.at (get_or θ x 0) h.small,
            hd.at (get_or θ x 0) h.small,
            ok.ranges (get_or θ x 0) h.small,
            stops.ends zero_at J ok est_order lct_order G.by_earliest_is G.by_completion_is t ls Λ s small (get_or θ x 0) h,
          );
    }

    ends_fit : c + 2 * all < 2 ^ 32
    ends_fit = G.fits (get_or lct_order t 0) (G.by_completion_is.task t small)

    -- an overload
    pub conflict_explainable : (size k : ℕ) → exceeds (ect J est_order ls) c ≡ true → 3 * k + 6 * length θ ≤ size → ConflictExplainable size k θ est durations (sum J est_order ls) c
    conflict_explainable size k over room =
        let o = stops.overload_stops zero_at J ok est_order lct_order G.by_earliest_is G.by_completion_is t ls Λ s small over in
        let (q, z, l) = at_spot o.m o.small o.mem in
        record {
          white = white;
          room = room;
          fits = omega (arith, ends_fit, sum_most);
          overloads = record {
            place = spot o.m;
            small = q;
            holds = subst (λ (j : ℕ). c < get_or est j 0 + lasts durations (drop (spot o.m) θ)) (sym z) (omega (arith, o.over, l, he.at (T o.m) (G.by_earliest_is.task o.m o.small)));
          };
          early = λ x r. let h = listed x r in omega (arith, sum_most, G.room (get_or θ x 0) h.small, he.at (get_or θ x 0) h.small);
        }

    -- a post
    pub propagation_explainable : (size k x b : ℕ) → tree.Found J ok est_order G.by_earliest_is ls Θ Λ s x → exceeds (ect_bar_of J est_order ls) c ≡ true → ect J est_order ls ≡ some b
        → J.earliest (T x) < b
        → 3 * k + 6 * length θ + 3 ≤ size
        → PropagationExplainable size k θ est durations (sum J est_order ls) c (T x) b
    propagation_explainable size k x b f over is up room =
        let one = stops.first_walk zero_at J ok est_order lct_order G.by_earliest_is G.by_completion_is t ls Λ s small x f over b is up in
        let two = stops.attaining_after zero_at J ok est_order lct_order G.by_earliest_is G.by_completion_is t ls Λ s small x f over b is up in
        let (q, z, l) = at_spot one.m one.small one.mem in
        let (q', z', l') = at_spot two.at two.inside two.white in
        let i_small : T x < n = f.gray.small in
        let ei : get_or est (T x) 0 ≡ J.earliest (T x) = he.at (T x) i_small in
        let di : get_or durations (T x) 0 ≡ J.duration (T x) = hd.at (T x) i_small in
        let em : get_or est (T one.m) 0 ≡ J.earliest (T one.m) = he.at (T one.m) (G.by_earliest_is.task one.m one.small) in
        record {
          white = white;
          known = known (T x) i_small;
          room = room;
          precedes = record {
            place = spot one.m;
            small = q;
            holds = subst (λ (j : ℕ). c < min (get_or est (T x) 0) (get_or est j 0) + lasts durations (drop (spot one.m) θ) + get_or durations (T x) 0) (sym z) (rw (ei, di, em, l) one.over);
          };
          attains = record {
            place = spot two.at;
            small = q';
            holds = subst (λ (j : ℕ). get_or est j 0 + lasts durations (drop (spot two.at) θ) ≡ b) (sym z')
                (omega (arith, two.attains, l', he.at (T two.at) (G.by_earliest_is.task two.at two.inside)));
          };
          among = stops.spot_up zero_at J ok est_order lct_order G.by_earliest_is G.by_completion_is t ls Λ s small one.m two.at two.after;
          fits = omega (arith, ends_fit, sum_most, di, processing_less J (λ _. true) (T x) (record { small = i_small; mem = refl }));
        }
