-- The walks over the white leaves: where they stop, and what the atoms that they leave say of each task.
use mathlib.Core.Path.{◌≡◌, refl, sym, ap, ap₂, subst, ◌∙◌}
use mathlib.Core.Bool.{Bool, true, false, cond, ◌&&◌, ◌||◌}
use mathlib.Core.Logic.{◌⊎◌, inl, inr, ◌↔◌}
use mathlib.Core.List.{List, [], ◌∷◌}
use Prim.Native.Nat.{ℕ, zero, suc, ◌+◌, ◌-◌, ◌≤◌, ◌<◌, min}
use native.Mathlib.Omega.{arith}
use native.Mathlib.Decide.{dec_lt, ℕ_discrete}
use lib.Dec.{eqb, leb, ltb}
use lib.IntN.{ℤ, sub_ℕ}
use lib.Signed.{◌≤ℤ◌}
use lib.ListN.{get_or}
use borrow.Author.Tests.{ne_eqb, eq-eqb, le-leb, lt-ltb, le-ltb}
use Rattle.scheduling.specs.Scheduling.{natural, Tasks, Proper, TaskSet, In, processing}
use Rattle.integers.proofs.Bools.{bool, clash}
use Rattle.integers.proofs.Permutations.{has_nil, has_here, has_later, has_cases}
use Rattle.scheduling.proofs.Suffixes as suffixes
use Rattle.scheduling.proofs.Processing.{processing_same, processing_empty}
use Rattle.scheduling.specs.Moments.{ByEarliest}
use Rattle.integers.specs.Orders.{index, has}
use Rattle.scheduling.specs.Scheduling.{Atom}
use Rattle.trees.specs.Leaves.{Leaf, white_at}
use Rattle.runs.specs.Runs.{within, conflict, conflict_of, bounds, propagation, propagation_of}
use Rattle.runs.specs.Runs as edges
use Rattle.trees.specs.Leaves as leaves
use Rattle.trees.specs.Leaves.{task_place}
use Rattle.trees.specs.Searches.{theta_of}
use Rattle.trees.proofs.RootAnswers as tree
use Rattle.trees.proofs.WhiteTasks.{theta_white, theta_skip, theta_is, theta_in, theta_from}
use Rattle.scheduling.specs.Scheduling.{Admits}
use Rattle.runs.specs.ReasonSets.{named}
use Rattle.runs.proofs.WalkClauses.{conflict_hit, conflict_miss, propagation_hit, propagation_miss, bounds_hit, bounds_miss}

-- Atoms ------------------------------------------------------------------------------------------------------------------------

module _ (o : ℕ) (J : Tasks natural) (lo hi : ℕ → ℕ) where
  -- each task k of a list starts at lo k or later, and at hi k or earlier
  pub between : List ℕ → List Atom
  between [] = []
  between (k ∷ ks) = edges.at_least o J k (lo k) ∷ edges.at_most o J k (hi k) ∷ between ks

  -- these atoms say just that of a task of the list, and nothing of any other
  pub between_says : (ks : List ℕ) (k : ℕ) (z : ℤ) → Admits (between ks) k z ↔ (has ks k ≡ true → (sub_ℕ (lo k) o ≤ℤ z) × (z ≤ℤ sub_ℕ (hi k) o))
  unfolding between
  between_says [] k z = (λ a h. clash h (has_nil k), λ f. tt)
  between_says (j ∷ ks) k z = (
    λ a h. elim (has_cases j k ks h) [
      | inl e ↦ subst (λ (i : ℕ). (sub_ℕ (lo i) o ≤ℤ z) × (z ≤ℤ sub_ℕ (hi i) o)) e (a.0 e, a.1.0 e)
      | inr q ↦ (between_says ks k z).0 a.1.1 q
    ],
    λ f. (λ e. (here f e).0, (λ e. (here f e).1, (between_says ks k z).1 (λ h. f (has_later j k ks h)))),
  )
    where
      here : (has (j ∷ ks) k ≡ true → (sub_ℕ (lo k) o ≤ℤ z) × (z ≤ℤ sub_ℕ (hi k) o)) → j ≡ k → (sub_ℕ (lo j) o ≤ℤ z) × (z ≤ℤ sub_ℕ (hi j) o)
      here f e = rw e (f (subst (λ (i : ℕ). has (j ∷ ks) i ≡ true) e (has_here j ks)))

  pub between_names : (ks : List ℕ) (k : ℕ) → named (between ks) k ≡ has ks k
  unfolding between has
  between_names [] k = refl
  between_names (j ∷ ks) k = rw (between_names ks k) (twice (eqb j k))
    where
      twice : (a : Bool) → a || (a || has ks k) ≡ a || has ks k
      twice true = refl
      twice false = refl

  between_more : (k : ℕ) (ks : List ℕ) → between (k ∷ ks) ≡ edges.at_least o J k (lo k) ∷ edges.at_most o J k (hi k) ∷ between ks
  unfolding between
  between_more k ks = refl

  pub within_between : (low high : ℕ) (ks : List ℕ) → ((k : ℕ) → has ks k ≡ true → (low ≡ lo k) × (high - J.duration k ≡ hi k)) → within o J low high ks ≡ between ks
  unfolding within between
  within_between low high [] h = refl
  within_between low high (k ∷ ks) h =
      let (a, b) = h k (has_here k ks) in
      rw (within_between low high ks (λ j q. h j (has_later k j ks q))) (ap₂ (λ (u v : ℕ). edges.at_least o J k u ∷ edges.at_most o J k v ∷ between ks) a b)

-- The walks --------------------------------------------------------------------------------------------------------------------

module _ (o : ℕ) (J : Tasks natural) (ok : Proper J) (est_order lct_order : List ℕ) (rk : ByEarliest J (λ j. get_or est_order j 0) (λ k. index est_order k)) (ls : List Leaf) (Θ Λ : TaskSet)
    (s : tree.Represents J ok est_order rk ls Θ Λ) where
  abbrev T : ℕ → ℕ
  T j = get_or est_order j 0

  abbrev rank : ℕ → ℕ
  rank k = index est_order k

  abbrev n : ℕ
  n = J.count

  abbrev at : ℕ → ℤ
  at m = sub_ℕ m o

  abbrev th : ℕ → ℕ → List ℕ
  th a d = theta_of (white_at ls) (task_place J est_order) a d

  abbrev ea : ℕ → ℕ
  ea j = J.earliest (T j)

  -- the white tasks from place a on
  abbrev pub onward : ℕ → TaskSet
  onward a k = leb a (rank k) && Θ k

  -- and how long they last
  abbrev pub dr : ℕ → ℕ
  dr a = processing J (onward a)

  -- one place more, at a task outside Θ and at one of Θ
  pub skip : (a : ℕ) → a < n → Θ (T a) ≡ false → dr a ≡ dr (suc a)
  skip = suffixes.sum_skip J T rank rk Θ

  pub step : (a : ℕ) → a < n → Θ (T a) ≡ true → dr a ≡ dr (suc a) + J.duration (T a)
  step = suffixes.sum_less J T rank rk Θ

  pub none_left : dr n ≡ 0
  none_left = processing_empty J (onward n) (λ k q. suffixes.onward_early J T rank rk Θ n k (rk.placed k q))

  -- `sum_of_processing_times`
  pub sum_is : leaves.sum J est_order ls ≡ dr 0
  sum_is = tree.sum_of J ok est_order rk ls Θ Λ s ∙ processing_same J Θ (onward 0) (λ k q. sym (ap (λ (b : Bool). b && Θ k) (le-leb 0 (rank k) (omega arith))))

  -- the list of white tasks
  white_at_is : (a : ℕ) → a < n → white_at ls a ≡ Θ (T a)
  white_at_is = tree.white_at_is J ok est_order rk ls Θ Λ s

  th_in : (a d : ℕ) → a < n → Θ (T a) ≡ true → th a (suc d) ≡ T a ∷ th (suc a) d
  th_in a d q y = theta_white (white_at ls) (task_place J est_order) a d (white_at_is a q ∙ y)

  th_out : (a d : ℕ) → a < n → Θ (T a) ≡ false → th a (suc d) ≡ th (suc a) d
  th_out a d q y = theta_skip (white_at ls) (task_place J est_order) a d (white_at_is a q ∙ y)

  -- the list has the white tasks from a on
  module _ (a d : ℕ) (all : a + d ≡ n) where
    pub listed_in : (k : ℕ) → has (th a d) k ≡ true → In J (onward a) k
    listed_in k h =
        let (j, lo, hi, y, z) = theta_from (white_at ls) (task_place J est_order) a d k h in
        let q : j < n = omega arith in
        subst (In J (onward a)) z (record { small = rk.task j q; mem = suffixes.onward_out J T rank rk Θ a (T j) (omega (arith, rk.back j q)) (sym (white_at_is j q) ∙ y) })

    pub listed_out : (k : ℕ) → In J (onward a) k → has (th a d) k ≡ true
    listed_out k h =
        let (q, y) = suffixes.onward_in J T rank rk Θ a k h.mem in
        let r : rank k < n = rk.placed k h.small in
        theta_in (white_at ls) (task_place J est_order) a d (rank k) k q (omega arith) (s.whites k h.small ∙ y) (rk.there k h.small)

    pub listed_says : (lo hi : ℕ → ℕ) (k : ℕ) (z : ℤ) → Admits (between o J lo hi (th a d)) k z ↔ (In J (onward a) k → (at (lo k) ≤ℤ z) × (z ≤ℤ at (hi k)))
    listed_says lo hi k z = let e = between_says o J lo hi (th a d) k z in (λ u h. e.0 u (listed_out k h), λ f. e.1 (λ h. f (listed_in k h)))

    left_over : (x : ℕ) → a ≤ x → x < n → Θ (T x) ≡ true → th a d ≡ [] → ⊥
    left_over x q r y e = clash (listed_out (T x) (record { small = rk.task x r; mem = suffixes.onward_out J T rank rk Θ a (T x) (omega (arith, rk.back x r)) y }))
        (ap (λ (l : List ℕ). has l (T x)) e ∙ has_nil (T x))

  -- where a walk stops: at the first white leaf from a on that it hits; and what it leaves from there on --------------------------
  pub record Stops (Hit Miss : ℕ → Type 0) (Leaves : ℕ → ℕ → Type 0) (a : ℕ) : Type 0 where
    pub m : ℕ
    pub left : ℕ
    pub all : m + left ≡ n
    pub from : a ≤ m
    pub small : m < n
    pub mem : Θ (T m) ≡ true
    pub over : Hit m
    pub before : (j : ℕ) → a ≤ j → j < m → Θ (T j) ≡ true → Miss j
    pub is : Leaves m left

  -- `Leaves a d m left`: what the walk over d leaves from a on answers, where it stops at m, the first of the last `left`
  module _ (Hit Miss : ℕ → Type 0) (decide : (a : ℕ) → Hit a ⊎ Miss a) (clear : (a : ℕ) → Hit a → Miss a → ⊥) (Leaves : ℕ → ℕ → ℕ → ℕ → Type 0)
      (hit : (a d : ℕ) → a + suc d ≡ n → Θ (T a) ≡ true → Hit a → Leaves a (suc d) a (suc d))
      (miss : (a d m left : ℕ) → a + suc d ≡ n → a < m → Θ (T a) ≡ true → Miss a → (th (suc a) d ≡ [] → ⊥) → Leaves (suc a) d m left → Leaves a (suc d) m left)
      (pass : (a d m left : ℕ) → th a (suc d) ≡ th (suc a) d → dr a ≡ dr (suc a) → Leaves (suc a) d m left → Leaves a (suc d) m left) where
    -- one place more before the walk
    earlier : (a d : ℕ) → (Θ (T a) ≡ true → Miss a) → (f : Stops Hit Miss (Leaves (suc a) d) (suc a)) → Leaves a (suc d) f.m f.left → Stops Hit Miss (Leaves a (suc d)) a
    earlier a d h f l = record {
      m = f.m;
      left = f.left;
      all = f.all;
      from = omega (arith, f.from);
      small = f.small;
      mem = f.mem;
      over = f.over;
      is = l;
      before = λ j q r y. elim (ℕ_discrete a j) [ yes w ↦ subst Miss w (h (rw w y)) | no w ↦ f.before j (omega arith) r y ];
    }

    stops : (d a x : ℕ) → a + d ≡ n → a ≤ x → x < n → Θ (T x) ≡ true → Hit x → Stops Hit Miss (Leaves a d) a
    stops zero a x z q r y over = absurd (omega arith)
    stops (suc d) a x z q r y over = by (λ g. stops d (suc a) x (omega arith) g r y over) (bool (Θ (T a))) (decide a)
      where
        next : (Θ (T a) ≡ false) ⊎ Miss a → suc a ≤ x
        next (inl v) = elim (ℕ_discrete a x) [ yes w ↦ clash (rw (← w) at y) v | no w ↦ omega arith ]
        next (inr u) = elim (ℕ_discrete a x) [ yes w ↦ absurd (clear x over (subst Miss w u)) | no w ↦ omega arith ]

        by : (suc a ≤ x → Stops Hit Miss (Leaves (suc a) d) (suc a)) → (Θ (T a) ≡ true) ⊎ (Θ (T a) ≡ false) → Hit a ⊎ Miss a → Stops Hit Miss (Leaves a (suc d)) a
        by ih (inr v) u = let f = ih (next (inl v)) in
            earlier a d (λ t. clash t v) f (pass a d f.m f.left (th_out a d (omega arith) v) (skip a (omega arith) v) f.is)
        by ih (inl v) (inl u) = record { m = a; left = suc d; all = z; from = omega arith; small = omega arith; mem = v; over = u; before = λ j q r y. absurd (omega arith); is = hit a d z v u }
        by ih (inl v) (inr u) = let f = ih (next (inr u)) in
            earlier a d (λ _. u) f (miss a d f.m f.left z (omega (arith, f.from)) v u (left_over (suc a) d (omega arith) x (next (inr u)) r y) f.is)

  -- a walk that stops where its reach passes c, with F of the tasks from there on
  module _ (c : ℕ) (reach : ℕ → ℕ) (F : ℕ → List ℕ → List Atom) where
    abbrev pub Passing : List Atom → Type 0
    Passing atoms = Stops (λ m. c < reach m) (λ m. reach m ≤ c) (λ m left. atoms ≡ F m (th m left)) 0

    passing : (walk : ℕ → List ℕ → List Atom) → ((a : ℕ) (ks : List ℕ) → c < reach a → walk (dr a) (T a ∷ ks) ≡ F a (T a ∷ ks))
        → ((a : ℕ) (ks : List ℕ) → reach a ≤ c → (ks ≡ [] → ⊥) → walk (dr a) (T a ∷ ks) ≡ walk (dr a - J.duration (T a)) ks)
        → (x : ℕ) → x < n → Θ (T x) ≡ true → c < reach x → Passing (walk (leaves.sum J est_order ls) (leaves.theta J est_order ls))
    passing walk hit miss x small mem over = rw (sum_is, theta_is J est_order ls)
        (stops (λ m. c < reach m) (λ m. reach m ≤ c) (λ a. elim (dec_lt c (reach a)) [ yes u ↦ inl u | no u ↦ inr (omega arith) ]) (λ a p q. omega arith)
        (λ a d m left. walk (dr a) (th a d) ≡ F m (th m left))
        (λ a d z v u. rw (th_in a d (omega arith) v) (hit a (th (suc a) d) u))
        (λ a d m left z r v u ne g. rw (th_in a d (omega arith) v) (miss a (th (suc a) d) u ne
        ∙ ap (λ (p : ℕ). walk p (th (suc a) d)) (omega (arith, step a (omega arith) v)) ∙ g))
        (λ a d m left e f g. rw (e, f) g) n 0 x (omega arith) (omega arith) small mem over)

  -- the walk of an overload's reason
  abbrev pub Stopped : ℕ → List Atom → Type 0
  Stopped c = Passing c (λ m. ea m + dr m) (λ m. conflict_of o J c (dr m) (ea m))

  -- one step of that walk, where tasks are left
  conflict_on : (c p k : ℕ) (ks : List ℕ) → ltb c (J.earliest k + p) ≡ false → (ks ≡ [] → ⊥) → conflict o J c p (k ∷ ks) ≡ conflict o J c (p - J.duration k) ks
  conflict_on c p k [] y ne = absurd (ne refl)
  conflict_on c p k (j ∷ ks) y ne = conflict_miss o J c p k j ks y

  pub conflict_stops : (c x : ℕ) → x < n → Θ (T x) ≡ true → c < ea x + dr x → Stopped c (conflict o J c (leaves.sum J est_order ls) (leaves.theta J est_order ls))
  conflict_stops c = passing c (λ m. ea m + dr m) (λ m. conflict_of o J c (dr m) (ea m)) (conflict o J c)
      (λ a ks u. conflict_hit o J c (dr a) (T a) ks (lt-ltb c (ea a + dr a) u)) (λ a ks u ne. conflict_on c (dr a) (T a) ks (le-ltb c (ea a + dr a) u) ne)

  -- the first walk of a post's reason
  module _ (i c b : ℕ) where
    abbrev pub reach : ℕ → ℕ
    reach m = min (J.earliest i) (ea m) + dr m + J.duration i

    abbrev pub First : List Atom → Type 0
    First = Passing c reach (λ m. propagation_of o J i b (dr m) (min (J.earliest i) (ea m)))

    pub first_stops : (x : ℕ) → x < n → Θ (T x) ≡ true → c < reach x → First (propagation o J i b c (leaves.sum J est_order ls) (leaves.theta J est_order ls))
    first_stops = passing c reach (λ m. propagation_of o J i b (dr m) (min (J.earliest i) (ea m))) (propagation o J i b c)
        (λ a ks u. propagation_hit o J i b c (dr a) (T a) ks (lt-ltb c (reach a) u)) (λ a ks u ne. propagation_miss o J i b c (dr a) (T a) ks (le-ltb c (reach a) u))

  -- and the second walk, which bounds each task from a on
  module _ (b r last : ℕ) where
    abbrev pub low : ℕ → ℕ → ℕ
    low m k = cond (onward m k) (ea m) r

    abbrev high : ℕ → ℕ
    high k = last - J.duration k

    abbrev Bounds : ℕ → ℕ → ℕ → ℕ → Type 0
    Bounds a d m left = bounds o J b r last (dr a) (th a d) ≡ between o J (low m) high (th a d)

    abbrev pub Second : ℕ → ℕ → Type 0
    Second d a = Stops (λ m. ea m + dr m ≡ b) (λ m. ea m + dr m ≡ b → ⊥) (λ m left. bounds o J b r last (dr a) (th a d) ≡ between o J (low m) (λ k. last - J.duration k) (th a d)) a

    found : (a d : ℕ) → a + suc d ≡ n → Θ (T a) ≡ true → ea a + dr a ≡ b → Bounds a (suc d) a (suc d)
    found a d z v e =
        ap (bounds o J b r last (dr a)) (th_in a d (omega arith) v)
        ∙ bounds_hit o J b r last (dr a) (T a) (th (suc a) d) (eq-eqb b (ea a + dr a) (sym e))
        ∙ ap (within o J (b - dr a) last) (sym (th_in a d (omega arith) v))
        ∙ within_between o J (low a) high (b - dr a) last (th a (suc d)) (λ k h. (rw (listed_in a (suc d) z k h).mem (omega arith), refl))

    passed : (a d m left : ℕ) → a + suc d ≡ n → a < m → Θ (T a) ≡ true → (ea a + dr a ≡ b → ⊥) → (th (suc a) d ≡ [] → ⊥) → Bounds (suc a) d m left → Bounds a (suc d) m left
    passed a d m left z q v ne some g =
        let early : onward m (T a) ≡ false = suffixes.onward_early J T rank rk Θ m (T a) (omega (arith, rk.back a (omega arith))) in
        let rest : dr a - J.duration (T a) ≡ dr (suc a) = omega (arith, step a (omega arith) v) in
        rw (th_in a d (omega arith) v, bounds_miss o J b r last (dr a) (T a) (th (suc a) d) (ne_eqb b (ea a + dr a) (λ e. ne (sym e))), between_more o J (low m) high (T a) (th (suc a) d), early, rest)
        (ap (λ (l : List Atom). edges.at_least o J (T a) r ∷ edges.at_most o J (T a) (high (T a)) ∷ l) g)

    pub second_stops : (d a x : ℕ) → a + d ≡ n → a ≤ x → x < n → Θ (T x) ≡ true → ea x + dr x ≡ b → Second d a
    second_stops = stops (λ m. ea m + dr m ≡ b) (λ m. ea m + dr m ≡ b → ⊥) (λ a. elim (ℕ_discrete (ea a + dr a) b) [ yes e ↦ inl e | no ne ↦ inr ne ]) (λ a e ne. ne e)
        Bounds found passed (λ a d m left e f g. rw (e, f) g)
