-- The sets of a post are read off its reason. The post's task cannot go before the other tasks that the reason names. The ones of these from some place on,
-- in the order of earliest starts, give the bound.
use mathlib.Core.Path.{◌≡◌, refl, sym, ap, subst, ◌∙◌}
use mathlib.Core.Bool.{Bool, true, false, ◌||◌, ◌&&◌}
use mathlib.Core.Logic.{◌⊎◌, inl, inr}
use mathlib.Core.List.{List, [], ◌∷◌, ◌++◌}
use mathlib.Core.Option.{some}
use Prim.Native.Nat.{ℕ, ◌+◌, ◌-◌, ◌≤◌, ◌<◌, min}
use native.Mathlib.Omega.{arith}
use lib.Dec.{eqb, leb}
use lib.IntN.{sub_ℕ}
use lib.ListN.{length, get_or}
use borrow.Author.Tests.{eq-eqb, eqb-true, leb-true, le-leb, lt-leb}
use Rattle.integers.specs.Moments.{moment}
use Rattle.integers.specs.Orders.{index, has}
use Rattle.integers.proofs.Bools.{bool, clash, or_true, or_right}
use Rattle.integers.proofs.MomentSums.{moment_instant}
use Rattle.scheduling.specs.Scheduling.{natural, Tasks, Proper, TaskSet, In, Subset, Est, Ect, EstPlusP, Overloads, completion, processing, Atom}
use Rattle.scheduling.specs.Moments.{ByEarliest, ByCompletion}
use Rattle.scheduling.proofs.Suffixes as suffixes
use Rattle.scheduling.proofs.Sets.{◌less◌, less_in, less_out}
use Rattle.scheduling.proofs.Processing.{processing_less, processing_same}
use Rattle.scheduling.proofs.LargerSets.{part_mono}
use Rattle.trees.specs.Ects.{exceeds}
use Rattle.trees.specs.Leaves.{Leaf, theta, white_at, task_place}
use Rattle.trees.specs.Leaves as leaves
use Rattle.trees.specs.Searches.{theta_of}
use Rattle.trees.proofs.RootAnswers as tree
use Rattle.runs.specs.Traces.{Post, overload}
use Rattle.runs.specs.Demand.{post}
use Rattle.runs.specs.ReasonSets.{named}
use Rattle.runs.specs.Runs.{at_least, bounds, propagation, run, earliest_order, completion_order}
use Rattle.runs.proofs.Demand.{by_earliest_is, by_completion_is}
use Rattle.runs.proofs.LevelSteps.{Measure, run_ok}
use Rattle.runs.proofs.ReasonWalks as walks
use Rattle.runs.proofs.WalkStops as stops

-- What the walks name ----------------------------------------------------------------------------------------------------------

named_append : (xs ys : List Atom) (k : ℕ) → named (xs ++ ys) k ≡ named xs k || named ys k
unfolding has
named_append [] ys k = refl
named_append (x ∷ xs) ys k = rw (named_append xs ys k) (or_assoc (eqb x.variable k) (named xs k) (named ys k))
  where
    or_assoc : (a b c : Bool) → a || (b || c) ≡ (a || b) || c
    or_assoc true b c = refl
    or_assoc false b c = refl

-- The sets of a post -----------------------------------------------------------------------------------------------------------

-- With S the tasks that the reason names and ω those without the post's task: ω ends by `end`, which est + p of S passes. The bound is ect(ω), and est + p of
-- the tasks of ω from a place on.
pub record SetsRight (o : ℕ) (J : Tasks natural) (est_order : List ℕ) (p : Post) : Type 0 where
  pub task : In J (named p.reason) p.task
  pub small : (k : ℕ) → named p.reason k ≡ true → k < J.count
  pub end : ℕ
  pub ends : (k : ℕ) → In J (named p.reason less p.task) k → completion J k ≤ end
  pub over : (s : ℕ) → Est J (named p.reason) s → end < s + processing J (named p.reason)
  pub place : ℕ
  pub inside : place < J.count
  pub member : (named p.reason less p.task) (get_or est_order place 0) ≡ true
  pub reaches : J.earliest (get_or est_order place 0) + processing J (λ k. leb place (index est_order k) && (named p.reason less p.task) k) ≡ moment o p.bound
  pub ect : Ect J (named p.reason less p.task) (moment o p.bound)

module _ (o : ℕ) (J : Tasks natural) (ok : Proper J) (est_order lct_order : List ℕ) (rk : ByEarliest J (λ j. get_or est_order j 0) (λ k. index est_order k))
    (ord : ByCompletion J (λ t. get_or lct_order t 0) (λ k. index lct_order k)) (t : ℕ) (ls : List Leaf) (Λ : TaskSet) where
  abbrev n : ℕ
  n = J.count

  abbrev T : ℕ → ℕ
  T j = get_or est_order j 0

  abbrev rank : ℕ → ℕ
  rank k = index est_order k

  abbrev Θ : TaskSet
  Θ k = leb t (index lct_order k)

  abbrev c : ℕ
  c = completion J (get_or lct_order t 0)

  module _ (s : tree.Represents J ok est_order rk ls Θ Λ) (small : t < n) (x : ℕ) (f : tree.Found J ok est_order rk ls Θ Λ s x) (late : index lct_order (T x) < t)
      (over : exceeds (leaves.ect_bar_of J est_order ls) c ≡ true) (b : ℕ) (is : leaves.ect J est_order ls ≡ some b) (up : J.earliest (T x) < b) where
    abbrev i : ℕ
    i = T x

    abbrev reason : List Atom
    reason = propagation o J i b c (leaves.sum J est_order ls) (theta J est_order ls)

    abbrev one : walks.First o J ok est_order lct_order rk ls Θ Λ s i c b reason
    one = stops.first_walk o J ok est_order lct_order rk ord t ls Λ s small x f over b is up

    abbrev two : stops.Attaining o J ok est_order lct_order rk ord t ls Λ s small x f over b is up
    two = stops.attaining_after o J ok est_order lct_order rk ord t ls Λ s small x f over b is up

    abbrev m : ℕ
    m = one.m

    abbrev r : ℕ
    r = min (J.earliest i) (J.earliest (T m))

    abbrev whites : List ℕ
    whites = theta_of (white_at ls) (task_place J est_order) m one.left

    abbrev S : TaskSet
    S = named reason

    abbrev ω : TaskSet
    ω = S less i

    i_small : i < n
    i_small = f.gray.small

    -- the reason names the white tasks from m on, and i
    names : (k : ℕ) → S k ≡ has whites k || (eqb i k || false)
    unfolding has
    names k =
        let p : ℕ = processing J (λ j. leb m (rank j) && Θ j) in
        let w = stops.second_walk o J ok est_order lct_order rk ord t ls Λ s small x f over b is up r (r + p + J.duration i - 1) in
        ap (λ (l : List Atom). named l k) one.is ∙ named_append (bounds o J b r (r + p + J.duration i - 1) p whites) (at_least o J i r ∷ []) k
        ∙ ap (λ (l : List Atom). named l k || (eqb i k || false)) w.is ∙ ap (λ (y : Bool). y || (eqb i k || false)) (walks.between_names o J _ _ whites k)

    -- the white tasks from m on
    abbrev Ω : TaskSet
    Ω = suffixes.onward J T rank rk Θ m

    listed : (k : ℕ) → has whites k ≡ true → In J Ω k
    listed = walks.listed_in o J ok est_order lct_order rk ls Θ Λ s m one.left one.all

    self : S i ≡ true
    self = names i ∙ ap (λ (y : Bool). has whites i || (y || false)) (eq-eqb i i refl) ∙ or_right (has whites i) (true || false) refl

    cases : (k : ℕ) → S k ≡ true → (has whites k ≡ true) ⊎ (i ≡ k)
    cases k h = elim (or_true (has whites k) (eqb i k || false) (sym (names k) ∙ h)) [
      | inl y ↦ inl y
      | inr y ↦ elim (or_true (eqb i k) false y) [ inl w ↦ inr (eqb-true i k w) | inr w ↦ clash w refl ]
    ]

    all_small : (k : ℕ) → S k ≡ true → k < n
    all_small k h = elim (cases k h) [ inl y ↦ (listed k y).small | inr z ↦ subst (λ (k : ℕ). k < n) z i_small ]

    -- are those that the reason names without i
    ω_is : (k : ℕ) → k < n → ω k ≡ Ω k
    ω_is k q = elim (bool (ω k)) [
      | inl y ↦ (let l = less_in S i k y in y ∙ sym (elim (cases k l.0) [ inl w ↦ (listed k w).mem | inr z ↦ absurd (l.1 (sym z)) ]))
      | inr y ↦ y ∙ sym (elim (bool (Ω k)) [
        | inl w ↦ clash (less_out S i k
            (names k ∙ ap (λ (b : Bool). b || (eqb i k || false)) (walks.listed_out o J ok est_order lct_order rk ls Θ Λ s m one.left one.all k (record { small = q; mem = w })))
            (λ z. clash (rw z at w) (suffixes.onward_not J T rank rk Θ m i (lt-leb t (index lct_order i) late)))) y
        | inr w ↦ w
      ])
    ]

    sub : Subset J ω Θ
    sub k h = (suffixes.onward_in J T rank rk Θ m k (sym (ω_is k h.small) ∙ h.mem)).1

    sum_from : (a : ℕ) → m ≤ a → processing J (λ k. leb a (rank k) && ω k) ≡ processing J (λ k. leb a (rank k) && Θ k)
    sum_from a h = processing_same J (λ k. leb a (rank k) && ω k) (λ k. leb a (rank k) && Θ k) (λ k q. ap (λ (b : Bool). leb a (rank k) && b) (ω_is k q) ∙ elim (bool (leb a (rank k))) [
      | inl e ↦ rw (e, le-leb m (rank k) (omega (arith, leb-true a (rank k) e)))
      | inr e ↦ rw e
    ])

    -- the tasks of S start at min(est i, est of the task at m) or later
    low : (k : ℕ) → In J S k → min (J.earliest i) (J.earliest (T m)) ≤ J.earliest k
    low k h = elim (cases k h.mem) [
      | inl y ↦ (let w = listed k y in omega (arith, suffixes.after J T rank rk Θ m k w.small (suffixes.onward_in J T rank rk Θ m k w.mem).0))
      | inr z ↦ omega (arith, ap J.earliest z)
    ]

    passes : (v : ℕ) → Est J S v → c < v + processing J S
    passes v e =
        let (k, km, z) = e.holds in
        omega (arith, one.over, low k km, z, processing_less J S i (record { small = i_small; mem = self }), processing_same J ω Ω ω_is)

    at_two : In J ω (T two.at)
    at_two = let small = rk.task two.at two.inside in
        record { small = small; mem = ω_is _ small ∙ suffixes.onward_out J T rank rk Θ m _ (omega (arith, two.after, rk.back two.at two.inside)) two.white }

    attains : J.earliest (T two.at) + processing J (λ k. leb two.at (rank k) && ω k) ≡ b
    attains = omega (arith, two.attains, sum_from two.at two.after)

    ect_ω : Ect J ω b
    ect_ω = record {
      holds = subst (EstPlusP J ω) attains (subst (λ (a : ℕ). EstPlusP J ω (J.earliest (T two.at) + processing J (λ k. leb a (rank k) && ω k))) (rk.back two.at two.inside)
          (suffixes.suffix_end J T rank rk ω (T two.at) at_two));
      bounds = λ w g. (stops.ect_is o J ok est_order lct_order rk ord t ls Λ s small b is).bounds w (part_mono J ω Θ w sub g);
    }

    sets_right : SetsRight o J est_order (record { task = i; bound = sub_ℕ b o; reason = reason })
    sets_right = record {
      task = record { small = i_small; mem = self };
      small = all_small;
      end = c;
      ends = λ k h. stops.ends o J ok est_order lct_order rk ord t ls Λ s small k (record { small = h.small; mem = sub k h });
      over = passes;
      place = two.at;
      inside = two.inside;
      member = at_two.mem;
      reaches = attains ∙ sym (moment_instant o b);
      ect = rw (moment_instant o b) ect_ω;
    }

-- The sets of a run ------------------------------------------------------------------------------------------------------------

module _ (o : ℕ) (J : Tasks natural) (ok : Proper J) (one : 1 ≤ J.count) where
  abbrev eo : List ℕ
  eo = earliest_order J

  abbrev co : List ℕ
  co = completion_order J

  abbrev Overloaded : List Atom → Type 0
  Overloaded _ = (Ω : TaskSet) × Overloads J Ω

  measure : Measure o J ok eo co (by_earliest_is J) (by_completion_is J) (SetsRight o J eo) Overloaded
  measure = record {
    of_post = λ t ls Λ s x b small f late over is up edge. sets_right o J ok eo co (by_earliest_is J) (by_completion_is J) t ls Λ s small x f late over b is up;
    of_end = λ t ls Λ s small over wrong. wrong;
  }

  -- every post has such sets,
  pub all_sets : (j : ℕ) → j < length (run o J (earliest_order J) (completion_order J)).posts → SetsRight o J (earliest_order J) (post (run o J (earliest_order J) (completion_order J)) j)
  all_sets = (run_ok o J ok eo co (by_earliest_is J) (by_completion_is J) (SetsRight o J eo) Overloaded measure one).goods

  -- and where it ends by an overload some set overloads
  pub overload_set : (reason : List Atom) → (run o J (earliest_order J) (completion_order J)).end ≡ overload reason → (Ω : TaskSet) × Overloads J Ω
  overload_set = (run_ok o J ok eo co (by_earliest_is J) (by_completion_is J) (SetsRight o J eo) Overloaded measure one).over
