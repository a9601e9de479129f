-- The root's values and the search's answer as they stand to the sets: ect(Θ), the largest ect with at most one task of Λ, and the responsible task.
use mathlib.Core.Path.{◌≡◌, refl, sym, ap, subst, ◌∙◌, fun_ext}
use mathlib.Core.Bool.{Bool, true, false, ◌&&◌}
use mathlib.Core.Logic.{◌⊎◌, inl, inr, ◌↔◌}
use mathlib.Core.List.{List}
use mathlib.Core.Option.{Option, some, none}
use Prim.Native.Nat.{ℕ, zero, suc, ◌+◌, ◌-◌, ◌≤◌, ◌<◌, max}
use native.Mathlib.Omega.{arith}
use native.Mathlib.Nat.{zero-add, add-zero, add-suc, le_antisymm}
use native.Mathlib.Decide.{dec_le, dec_lt, ℕ_discrete}
use lib.Dec.{ltb}
use lib.ListN.{length, get_or, set, length-set}
use lib.Seq.{get_or-set_same, get_or-set_other}
use borrow.Author.Tests.{lt-ltb, le-ltb, ltb-false}
use Rattle.integers.specs.Orders.{index, has}
use Rattle.integers.proofs.Bools.{bool, clash}
use Rattle.integers.specs.Limits.{TASKS, DURATIONS}
use Rattle.scheduling.specs.Scheduling.{natural, Tasks, Proper, TaskSet, total, ◌with◌, Largest, In, NonEmpty, EstPlusP, Ect, processing}
use Rattle.scheduling.proofs.Sets.{Empty, Top, top, with_new, with_old, total_suc, total_none}
use Rattle.scheduling.proofs.Processing.{processing_all, processing_mono, processing_less, processing_empty}
use Rattle.scheduling.proofs.Scan.{scan, upto, and_in, and_out, widen, alone, joined, widen_part, alone_part, joined_new, joined_old, attained, scan_is, grow_in, grow_out}
use Rattle.scheduling.specs.Moments.{ByEarliest}
use Rattle.scheduling.specs.Ects.{ect_of}
use Rattle.scheduling.proofs.Ects.{ect_none, ect_is}
use Rattle.scheduling.proofs.LeafRanges as range
use Rattle.scheduling.proofs.RootValues as bars
use Rattle.trees.specs.NodeBounds.{LATEST}
use Rattle.trees.specs.Shapes.{width, height_for}
use Rattle.trees.specs.Leaves as leaves
use Rattle.trees.specs.Leaves.{Leaf, empty, in_theta, in_lambda, white_at, gray_at, task_place, start_at, duration_at}
use Rattle.trees.specs.Trees.{Limited}
use Rattle.trees.specs.Ects.{decoded, exceeds}
use Rattle.trees.proofs.Ects.{decoded_none, decoded_some, decoded_word, exceeds_decoded, exceeds_yes, some_or_none}
use Rattle.trees.proofs.Heights.{enough}
use Rattle.trees.proofs.LeafColours.{past_empty, gray_small}
use Rattle.trees.proofs.NodeOrder.{root_later}
use Rattle.trees.proofs.RangeNodes.{not_white, first_hold}
use Rattle.trees.proofs.WhiteTasks.{theta_in, theta_from}
use Rattle.trees.proofs.Descents.{ects}
use Rattle.trees.proofs.ResponsibleTask.{through, Ok, by_ok}

module _ (J : Tasks natural) (ok : Proper J) (est_order : List ℕ) (rk : ByEarliest J (task_place J est_order) (λ k. index est_order k)) where
  abbrev T : ℕ → ℕ
  T = task_place J est_order

  abbrev rank : ℕ → ℕ
  rank k = index est_order k

  abbrev e : ℕ → ℕ
  e = start_at J est_order

  abbrev p : ℕ → ℕ
  p = duration_at J est_order

  -- the number of tasks
  abbrev n : ℕ
  n = J.count

  abbrev H : ℕ
  H = height_for n

  -- the scan of a set: of one with a task in it, and of none
  abbrev scanned : TaskSet → ℕ
  scanned S = scan J T rank S n

  scan_some : (S : TaskSet) (k : ℕ) → In J S k → 1 ≤ scanned S
  scan_some S k m =
      let f = (scan_is J T rank ok rk S (k, m)).holds in
      let (i, im, _) = f.est.holds in
      omega (arith, f.sum, processing_less J f.part i im, ok.lasts i im.small)

  scan_none : (S : TaskSet) → Empty S n → scanned S ≡ 0
  scan_none S nil = elim (attained J T rank ok rk S n (omega arith)) [
    | inl z ↦ z.0
    | inr f ↦ (let (i, im, _) = f.est.holds in clash (and_in J T rank ok rk S S n i (f.within i im)).1 (nil i im.small))
  ]

  -- a sum over the leaves of the tasks of S
  module _ (S : TaskSet) (f : ℕ → ℕ) (none : f 0 ≡ 0) (in_S : (d : ℕ) → d < n → S (T d) ≡ true → f (suc d) ≡ f d + p d)
      (not_in_S : (d : ℕ) → d < n → S (T d) ≡ false → f (suc d) ≡ f d) where
    sum_upto : (d : ℕ) → d ≤ n → f d ≡ processing J (upto J T rank S d)
    sum_upto zero q = none ∙ sym (processing_empty J (upto J T rank S 0) (λ k r.
        elim (bool (upto J T rank S 0 k)) [ inl y ↦ absurd (omega (arith, (and_in J T rank ok rk S S 0 k y).0)) | inr y ↦ y ]))
    sum_upto (suc d) q =
        let more : processing J (upto J T rank S d) ≤ processing J (upto J T rank S (suc d)) = processing_mono J (upto J T rank S d) (upto J T rank S (suc d)) (λ k h.
        let u = and_in J T rank ok rk S S d k h.mem in and_out J T rank ok rk S S (suc d) k (omega (arith, u.0)) u.1) in
        elim (bool (S (T d))) [
          | inl y ↦ omega (arith, sum_upto d (omega arith), in_S d q y, grow_in J T rank ok rk S S d q y)
          | inr y ↦ omega (arith, sum_upto d (omega arith), not_in_S d q y, more, grow_out J T rank ok rk S S d q y)
        ]

    sum_all : f n ≡ processing J S
    sum_all = sum_upto n (omega arith)
        ∙ le_antisymm (processing_mono J (upto J T rank S n) S (λ k h. (and_in J T rank ok rk S S n k h.mem).1))
        (processing_mono J S (upto J T rank S n) (λ k h. and_out J T rank ok rk S S n k (rk.placed k h.small) h.mem))

  -- tasks within the limits are so in their order too
  pub limited : n ≤ TASKS → ((k : ℕ) → k < n → J.earliest k ≤ LATEST) → total J.duration n ≤ DURATIONS → Limited J est_order
  limited few early short = record {
    count = few;
    starts = λ j q. early (T j) (rk.task j q);
    lasts = λ j q. ok.lasts (T j) (rk.task j q);
    durations = omega (arith, sum_all (λ _. true) (total p) (total_none p) (λ d q y. total_suc p d) (λ d q y. clash refl y), processing_all J);
  }

  -- the leaves show the tasks Ω of Θ and the tasks Λ
  pub record Represents (ls : List Leaf) (Ω Λ : TaskSet) : Type 0 where
    pub size : length ls ≡ n
    pub whites : (k : ℕ) → k < n → white_at ls (rank k) ≡ Ω k
    pub grays : (k : ℕ) → k < n → gray_at ls (rank k) ≡ Λ k

  -- one task's leaf of another colour
  pub recoloured : (ls : List Leaf) (Ω Λ Ω' Λ' : TaskSet) → Represents ls Ω Λ → (k : ℕ) → k < n → (c : Leaf) → Ω' k ≡ in_theta c → Λ' k ≡ in_lambda c
      → ((j : ℕ) → (j ≡ k → ⊥) → (Ω' j ≡ Ω j) × (Λ' j ≡ Λ j)) → Represents (set ls (rank k) c) Ω' Λ'
  recoloured ls Ω Λ Ω' Λ' s k q c w_here g_here there = record {
    size = length-set ls (rank k) c ∙ s.size;
    whites = λ j r. by in_theta Ω Ω' s.whites w_here (λ i ne. (there i ne).0) j r (ℕ_discrete j k);
    grays = λ j r. by in_lambda Λ Λ' s.grays g_here (λ i ne. (there i ne).1) j r (ℕ_discrete j k);
  }
    where
      by : (f : Leaf → Bool) (S S' : TaskSet) → ((j : ℕ) → j < n → f (get_or ls (rank j) empty) ≡ S j) → S' k ≡ f c → ((j : ℕ) → (j ≡ k → ⊥) → S' j ≡ S j)
          → (j : ℕ) → j < n → Dec (j ≡ k) → f (get_or (set ls (rank k) c) (rank j) empty) ≡ S' j
      by f S S' old here other j r (yes z) = rw z (ap f (get_or-set_same ls (rank k) c empty (omega (arith, s.size, rk.placed k q))) ∙ sym here)
      by f S S' old here other j r (no z) =
          ap f (get_or-set_other ls (rank k) (rank j) c empty (λ e. z (sym (rk.there j r) ∙ ap T e ∙ rk.there k q))) ∙ old j r ∙ sym (other j z)

  module _ (ls : List Leaf) (Ω Λ : TaskSet) (s : Represents ls Ω Λ) where
    abbrev colour : ℕ → Leaf
    colour j = get_or ls j empty

    abbrev w : ℕ → Bool
    w = white_at ls

    abbrev g : ℕ → Bool
    g = gray_at ls

    past : (j : ℕ) → n ≤ j → get_or ls j empty ≡ empty
    past = past_empty J est_order ls s.size

    -- a colour by place; past the tasks no leaf has it
    module _ (f : Leaf → Bool) (S : TaskSet) (is : (k : ℕ) → k < n → f (get_or ls (rank k) empty) ≡ S k) (blank : f empty ≡ false) where
      colour_at : (j : ℕ) → j < n → f (get_or ls j empty) ≡ S (T j)
      colour_at j q = subst (λ (x : ℕ). f (get_or ls x empty) ≡ S (T j)) (rk.back j q) (is (T j) (rk.task j q))

      colours_are : ◌≡◌ {A = ℕ → Bool} (λ j. f (get_or ls j empty)) (λ j. ltb j n && S (T j))
      colours_are = fun_ext (λ j. elim (dec_lt j n)
          [ yes q ↦ rw (lt-ltb j n q) (colour_at j q) | no q ↦ rw (le-ltb j n (omega arith)) (ap f (past j (omega arith)) ∙ blank) ])

    pub white_at_is : (j : ℕ) → j < n → white_at ls j ≡ Ω (T j)
    white_at_is = colour_at in_theta Ω s.whites refl

    pub gray_at_is : (j : ℕ) → j < n → gray_at ls j ≡ Λ (T j)
    gray_at_is = colour_at in_lambda Λ s.grays refl

    -- anything of the leaves' colours
    moved : {A : Type 0} (f : (ℕ → Bool) → (ℕ → Bool) → A) → f w g ≡ f (bars.w J ok T rank rk Ω Λ) (bars.g J ok T rank rk Ω Λ)
    moved f = ap (λ (v : ℕ → Bool). f v g) (colours_are in_theta Ω s.whites refl) ∙ ap (f (bars.w J ok T rank rk Ω Λ)) (colours_are in_lambda Λ s.grays refl)

    ect_scan : (d : ℕ) → d ≤ n → range.ect w g e p 0 d ≡ scan J T rank Ω d
    ect_scan d q = moved (λ v u. range.ect v u e p 0 d) ∙ bars.ect_scan J ok T rank rk Ω Λ d q

    gray_in : (x : ℕ) → g x ≡ true → (x < n) × (Λ (T x) ≡ true)
    gray_in x h = let q = gray_small J est_order ls s.size x h in (q, sym (gray_at_is x q) ∙ h)

    pub lasts : (x : ℕ) → g x ≡ true → 1 ≤ p x
    lasts x h = ok.lasts (T x) (rk.task x (gray_in x h).0)

    -- a part of Ω with i that holds i
    pub record Holding (i d v : ℕ) : Type 0 where
      pub fill : EstPlusP J (upto J T rank (Ω with i) d) v
      pub has : fill.part i ≡ true

    module _ (x : ℕ) (small : x < n) (out : Ω (T x) ≡ false) where
      abbrev i : ℕ
      i = T x

      -- the ect of the white leaves before x with x after them, and then m leaves more
      abbrev value : ℕ → ℕ
      value m = max (scan J T rank Ω x) (e x) + p x + range.sum w g e p (suc x) m

      to_value : {d u v : ℕ} → Holding i d u → u ≡ v → Holding i d v
      to_value {d} h z = subst (Holding i d) z h

      start : Holding i (suc x) (value 0)
      start =
          let self = with_new Ω i in
          let same = bars.before J ok T rank rk Ω Λ i x (rk.task x small) (omega (arith, rk.back x small)) in
          let blank = (range.blank w g e p (suc x)).s in
          elim (dec_le (scan J T rank Ω x) (e x)) [
            | yes q ↦ to_value (record { fill = alone J T rank ok rk (Ω with i) x small self; has = alone_part J T rank ok rk (Ω with i) x small self }) (omega (arith, blank))
            | no q ↦ elim (attained J T rank ok rk (Ω with i) x (omega arith)) [
              | inl z ↦ absurd (omega (arith, z.0, same))
              | inr f ↦ (let v = scan J T rank (Ω with i) x in
                  to_value (record { fill = joined J T rank ok rk (Ω with i) x v small self f; has = joined_new J T rank ok rk (Ω with i) x v small self f }) (omega (arith, same, blank)))
            ]
          ]

      -- one more leaf after x
      one_more : (m : ℕ) → suc x + m < n → Holding i (suc x + m) (value m) → (Ω (T (suc x + m)) ≡ true) ⊎ (Ω (T (suc x + m)) ≡ false) → Holding i (suc (suc x + m)) (value (suc m))
      one_more m q h (inl y) = let d : ℕ = suc x + m in to_value (record {
        fill = joined J T rank ok rk (Ω with i) d (value m) q (with_old Ω i (T d) y) h.fill;
        has = joined_old J T rank ok rk (Ω with i) d (value m) q (with_old Ω i (T d) y) h.fill i h.has;
      }) (omega (arith, (range.white w g e p (suc x) m d refl (white_at_is d q ∙ y)).s))
      one_more m q h (inr y) = let d : ℕ = suc x + m in
          to_value (record { fill = widen J T rank ok rk (Ω with i) d (value m) h.fill; has = widen_part J T rank ok rk (Ω with i) d (value m) h.fill i h.has })
          (omega (arith, (not_white w g e p (suc x) m d refl (white_at_is d q ∙ y)).0))

      extended : (m : ℕ) → suc x + m ≤ n → Holding i (suc x + m) (value m)
      extended zero q = rw (add-zero (suc x)) start
      extended (suc m) q = subst (λ (d : ℕ). Holding i d (value (suc m))) (sym (add-suc (suc x) m)) (one_more m (omega arith) (extended m (omega arith)) (bool (Ω (T (suc x + m)))))

      through_is : (d : ℕ) → n ≤ d → through colour e p lasts x 0 d ≡ value (n - suc x)
      unfolding through
      through_is d q =
          let rest : (0 + d) - suc x ≡ (n - suc x) + (d - n) = omega arith in
          let from_zero : x - 0 ≡ x = omega arith in
          omega (
            arith,
            ap (range.ect w g e p 0) from_zero,
            ect_scan x (omega arith),
            ap (range.sum w g e p (suc x)) rest,
            (range.past w g e p (suc x) (n - suc x) (d - n) (λ j r. ap in_theta (past j (omega arith))) (λ j r. ap in_lambda (past j (omega arith)))).0,
          )

    -- the root -----------------------------------------------------------------------------------------------------------------

    -- its values are those of the leaves of tasks
    root_is : let v = leaves.root J est_order ls in
        (v.sum_of_processing_times ≡ range.sum w g e p 0 n) × (v.ect ≡ range.ect w g e p 0 n) × (v.ect_bar ≡ range.ect_bar_of w g e p 0 n)
    unfolding leaves.root
    root_is = first_hold colour e p H n (enough n) past

    -- its words for the two ects
    abbrev word : ℕ
    word = (leaves.root J est_order ls).ect

    abbrev bar_word : ℕ
    bar_word = (leaves.root J est_order ls).ect_bar

    word_is : word ≡ scanned Ω
    word_is = root_is.1 ∙ ect_scan n (omega arith)

    bar_word_is : bar_word ≡ bars.EB J ok T rank rk Ω Λ n
    bar_word_is = root_is.2 ∙ moved (λ v u. range.ect_bar_of v u e p 0 n)

    some_word : (k : ℕ) → In J Ω k → 1 ≤ word
    some_word k m = omega (arith, word_is, scan_some Ω k m)

    -- the answer `ect`: ect(Θ), or none exactly where no leaf is white
    pub moment_some : (k : ℕ) → In J Ω k → leaves.ect J est_order ls ≡ some (scanned Ω)
    moment_some k m = decoded_some word (some_word k m) ∙ ap some word_is

    pub moment_none : Empty Ω n → leaves.ect J est_order ls ≡ none
    moment_none nil = decoded_none word (word_is ∙ scan_none Ω nil)

    pub ect_of_is : leaves.ect J est_order ls ≡ ect_of J Ω
    ect_of_is = elim (top Ω (λ k. 0) n) [
      | inl nil ↦ moment_none nil ∙ sym (ect_none J ok Ω nil)
      | inr t ↦ (let m : In J Ω t.at = record { small = t.small; mem = t.mem } in
          moment_some t.at m ∙ sym ((ect_is J ok Ω (scanned Ω)).1 (scan_is J T rank ok rk Ω (t.at, m))))
    ]

    pub moment_is : (v : ℕ) → (leaves.ect J est_order ls ≡ some v) ↔ Ect J Ω v
    moment_is v = subst (λ (o : Option ℕ). (o ≡ some v) ↔ Ect J Ω v) (sym ect_of_is) (ect_is J ok Ω v)

    pub none_where_none_white : (leaves.ect J est_order ls ≡ none) ↔ ((j : ℕ) → j < n → white_at ls j ≡ false)
    none_where_none_white = (
      λ z j q. elim (bool (white_at ls j)) [ inl y ↦ some_or_none (moment_some (T j) (record { small = rk.task j q; mem = sym (white_at_is j q) ∙ y })) z | inr y ↦ y ],
      λ none_white. moment_none (λ k q. sym (s.whites k q) ∙ none_white (rank k) (rk.placed k q)),
    )

    -- the sum is p(Θ)
    pub sum_of : leaves.sum J est_order ls ≡ processing J Ω
    sum_of = root_is.0 ∙ sum_all Ω (range.sum w g e p 0) (range.blank w g e p 0).s
        (λ d q y. (range.white w g e p 0 d d (zero-add d) (white_at_is d q ∙ y)).s) (λ d q y. (not_white w g e p 0 d d (zero-add d) (white_at_is d q ∙ y)).0)

    -- the bar is at least the ect with each gray task
    most_word : (k : ℕ) → In J Λ k → scanned (Ω with k) ≤ bar_word
    most_word k h = omega (arith, bar_word_is, bars.most J ok T rank rk Ω Λ k h n (omega arith))

    pub most : (k : ℕ) → In J Λ k → (m : ℕ) → exceeds (leaves.ect_bar_of J est_order ls) m ≡ false → scanned (Ω with k) ≤ m
    most k h m y = omega (arith, most_word k h, ltb-false m bar_word (sym (exceeds_decoded bar_word m) ∙ y))

    -- and it is the largest ect of Θ with at most one task of Λ
    abbrev pub AtMostOne : ℕ → Type 0
    AtMostOne v = Ect J Ω v ⊎ ((k : ℕ) × In J Λ k × Ect J (Ω with k) v)

    past_zero : NonEmpty J Ω ⊎ NonEmpty J Λ → 1 ≤ bar_word
    past_zero (inl (k, m)) = omega (arith, root_later J est_order ls, some_word k m)
    past_zero (inr (k, m)) = omega (arith, most_word k m, scan_some (Ω with k) k (record { small = m.small; mem = with_new Ω k }))

    largest : NonEmpty J Ω ⊎ NonEmpty J Λ → Largest natural AtMostOne bar_word
    largest some_task = record { holds = rw bar_word_is (holds (bars.reached J ok T rank rk Ω Λ n (omega arith)) (top Ω (λ k. 0) n)); bounds = bounds }
      where
        EB : ℕ
        EB = bars.EB J ok T rank rk Ω Λ n

        holds : (EB ≡ scanned Ω) ⊎ bars.One J ok T rank rk Ω Λ n → Empty Ω n ⊎ Top Ω (λ k. 0) n → AtMostOne EB
        holds (inl z) (inl nil) = absurd (omega (arith, past_zero some_task, bar_word_is, z, scan_none Ω nil))
        holds (inl z) (inr t) = inl (rw z (scan_is J T rank ok rk Ω (t.at, record { small = t.small; mem = t.mem })))
        holds (inr o) t = inr (o.at, o.mem, rw o.is (scan_is J T rank ok rk (Ω with o.at) (o.at, record { small = o.mem.small; mem = with_new Ω o.at })))

        bounds : (v : ℕ) → AtMostOne v → v ≤ bar_word
        bounds v (inl h) =
            let (i, im, _) = h.holds.est.holds in
            omega (arith, root_later J est_order ls, word_is, (scan_is J T rank ok rk Ω (i, record { small = im.small; mem = h.holds.within i im })).bounds v h.holds)
        bounds v (inr (k, m, h)) =
            omega (arith, most_word k m, (scan_is J T rank ok rk (Ω with k) (k, record { small = m.small; mem = with_new Ω k })).bounds v h.holds)

    -- the answer `ect_bar`: that ect, or none exactly where no leaf is white or gray
    pub bar_some : NonEmpty J Ω ⊎ NonEmpty J Λ → (v : ℕ) × (leaves.ect_bar_of J est_order ls ≡ some v) × Largest natural AtMostOne v
    bar_some some_task = (bar_word, decoded_some bar_word (past_zero some_task), largest some_task)

    pub bar_none : Empty Ω n → Empty Λ n → leaves.ect_bar_of J est_order ls ≡ none
    bar_none nil no_gray = decoded_none bar_word (elim (bars.reached J ok T rank rk Ω Λ n (omega arith))
        [ inl z ↦ bar_word_is ∙ z ∙ scan_none Ω nil | inr o ↦ clash o.mem.mem (no_gray o.at o.mem.small) ])

    -- the search's answer ------------------------------------------------------------------------------------------------------

    answered : Ok colour e p lasts ects H 0 (leaves.responsible J est_order ls)
    unfolding leaves.responsible
    answered = by_ok colour e p lasts ects H 0

    -- no task found: a gray one is not needed for the bar
    pub none_found : leaves.responsible J est_order ls ≡ none → leaves.ect_bar_of J est_order ls ≡ leaves.ect J est_order ls
    unfolding leaves.root
    none_found z = ap decoded (le_antisymm (subst (Ok colour e p lasts ects H 0) z answered) (root_later J est_order ls))

    -- A task found: it is gray and not white. Some set of this task and white ones has an est + p that is no less than the bar.
    pub record Found (x : ℕ) : Type 0 where
      pub small : x < n
      pub gray : In J Λ (T x)
      pub out : Ω (T x) ≡ false
      pub value : ℕ
      pub attains : EstPlusP J (Ω with T x) value
      pub has : attains.part (T x) ≡ true
      pub reaches : (v : ℕ) → leaves.ect_bar_of J est_order ls ≡ some v → v ≤ value

    pub one_found : (x : ℕ) → leaves.responsible J est_order ls ≡ some x → Found x
    unfolding leaves.root
    one_found x z =
        let f = subst (Ok colour e p lasts ects H 0) z answered in
        let u = gray_in x f.0.gray in
        let y : Ω (T x) ≡ false = sym (white_at_is x u.0) ∙ f.0.white in
        let m : ℕ = n - suc x in
        let h : Holding (T x) (suc x + m) (value x u.0 y m) = extended x u.0 y m (omega (arith, u.0)) in
        record {
          small = u.0;
          gray = record { small = rk.task x u.0; mem = u.1 };
          out = y;
          value = value x u.0 y m;
          attains = record {
            part = h.fill.part;
            within = λ k q. (and_in J T rank ok rk Ω (Ω with T x) (suc x + m) k (h.fill.within k q)).1;
            start = h.fill.start;
            est = h.fill.est;
            sum = h.fill.sum;
          };
          has = h.has;
          reaches = λ v z. omega (arith, f.1, through_is x u.0 y (width H) (enough n), decoded_word bar_word v z);
        }

    pub past_found : {x : ℕ} (f : Found x) (m : ℕ) → exceeds (leaves.ect_bar_of J est_order ls) m ≡ true → m < f.value
    past_found f m y = let (v, is, q) = exceeds_yes (leaves.ect_bar_of J est_order ls) m y in omega (arith, q, f.reaches v is)

    -- the list of Θ ------------------------------------------------------------------------------------------------------------

    -- it has the tasks of Θ
    pub theta_has : (k : ℕ) → In J Ω k → has (leaves.theta J est_order ls) k ≡ true
    unfolding leaves.theta
    theta_has k m = theta_in w T 0 n (rank k) k (omega arith) (omega (arith, rk.placed k m.small)) (s.whites k m.small ∙ m.mem) (rk.there k m.small)

    -- and no others; by its definition, in the order of the leaves
    pub theta_only : (k : ℕ) → has (leaves.theta J est_order ls) k ≡ true → In J Ω k
    unfolding leaves.theta
    theta_only k h =
        let (j, lo, hi, white, is) = theta_from w T 0 n k h in
        let q : j < n = omega arith in
        record { small = subst (λ (x : ℕ). x < n) is (rk.task j q); mem = subst (λ (x : ℕ). Ω x ≡ true) is (sym (white_at_is j q) ∙ white) }
