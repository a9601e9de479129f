-- The walk over the leaves, from each white leaf to the next one, meets the tasks of the list.
use mathlib.Core.Path.{◌≡◌, sym, ap, subst, ◌∙◌}
use mathlib.Core.Bool.{Bool, true, false}
use mathlib.Core.List.{List, [], ◌∷◌, ◌++◌}
use Prim.Native.Nat.{ℕ, zero, suc, ◌+◌, ◌-◌, ◌≤◌, ◌<◌}
use native.Mathlib.Omega.{arith}
use native.Mathlib.Numerals.{add-one}
use native.Mathlib.Decide.{dec_lt, ℕ_discrete}
use lib.ListN.{length, get_or, take, drop, length-append}
use lib.Seq.{take-append_seam, drop-append_seam, get_or-append_seam}
use Rattle.trees.specs.Searches.{theta_of}
use Rattle.trees.specs.ArraySearches.{Next}
use Rattle.trees.proofs.WhiteTasks.{theta_none, theta_white, theta_skip}
use Rattle.runs.proofs.WalkStops.{theta_append}
use Rattle.explanations.specs.Walks.{lasts, Each, At, Somewhere, Walks, Meets, between}
use Rattle.explanations.specs.Leaves.{Asks}
use Rattle.explanations.proofs.Places.{lasts_cons, lasts_drop}

module _ (white : ℕ → Bool) (task : ℕ → ℕ) where
  -- Stretches of leaves ---------------------------------------------------------------------------------------------------------

  pub all_leaves : (n : ℕ) → theta_of white task 0 n ≡ between white task 0 n
  all_leaves n = let z : n ≡ n - 0 = omega arith in ap (theta_of white task 0) z

  pub between_none : (a : ℕ) → between white task a a ≡ []
  between_none a = let z : a - a ≡ 0 = omega arith in ap (theta_of white task a) z ∙ theta_none white task a

  -- a white leaf's task, and those after it
  pub between_white : (a b : ℕ) → a < b → white a ≡ true → between white task a b ≡ task a ∷ between white task (a + 1) b
  between_white a b s w = let z : b - a ≡ suc (b - suc a) = omega arith in rw (add-one a) (ap (theta_of white task a) z ∙ theta_white white task a (b - suc a) w)

  between_skip : (a b : ℕ) → a < b → white a ≡ false → between white task a b ≡ between white task (suc a) b
  between_skip a b s w = let z : b - a ≡ suc (b - suc a) = omega arith in ap (theta_of white task a) z ∙ theta_skip white task a (b - suc a) w

  pub between_split : (a x b : ℕ) → a ≤ x → x ≤ b → between white task a b ≡ between white task a x ++ between white task x b
  between_split a x b s t =
      let z : b - a ≡ (x - a) + (b - x) = omega arith in
      let y : a + (x - a) ≡ x = omega arith in
      ap (theta_of white task a) z ∙ theta_append white task a (x - a) (b - x) ∙ ap (λ (c : ℕ). between white task a x ++ theta_of white task c (b - x)) y

  between_passed : (d a b : ℕ) → b ≡ a + d → ((x : ℕ) → a ≤ x → x < b → white x ≡ false) → between white task a b ≡ []
  between_passed zero a b e none = let z : b ≡ a = omega arith in rw z (between_none a)
  between_passed (suc d) a b e none = between_skip a b (omega arith) (none a (omega arith) (omega arith)) ∙ between_passed d (suc a) b (omega arith) (λ x s t. none x (omega arith) t)

  -- no task stands before the next white leaf
  pub next_none : {a n y : ℕ} → Next white a n y → between white task a y ≡ []
  next_none {a} {n} {y} s = between_passed (y - a) a y (omega (arith, s.from)) s.passed

  pub next_same : {a n y : ℕ} → Next white a n y → between white task a n ≡ between white task y n
  next_same {a} {n} {y} s = between_split a y n s.from s.to ∙ ap (λ (l : List ℕ). l ++ between white task y n) (next_none s)

  -- The tasks met before a leaf -------------------------------------------------------------------------------------------------

  module _ (a n x : ℕ) (from : a ≤ x) where
    -- how many they are
    abbrev met : ℕ
    met = length (between white task a x)

    pub met_front : x ≤ n → take met (between white task a n) ≡ between white task a x
    met_front to = ap (take met) (between_split a x n from to) ∙ take-append_seam (between white task a x) (between white task x n)

    pub met_rest : x ≤ n → drop met (between white task a n) ≡ between white task x n
    met_rest to = ap (drop met) (between_split a x n from to) ∙ drop-append_seam (between white task a x) (between white task x n)

    module _ (small : x < n) (here : white x ≡ true) where
      parts : between white task a n ≡ between white task a x ++ task x ∷ between white task (x + 1) n
      parts = between_split a x n from (omega arith) ∙ ap (λ (l : List ℕ). between white task a x ++ l) (between_white x n small here)

      pub met_task : get_or (between white task a n) met 0 ≡ task x
      met_task = ap (λ (l : List ℕ). get_or l met 0) parts ∙ get_or-append_seam (between white task a x) (task x) (between white task (x + 1) n) 0

      pub met_small : met < length (between white task a n)
      met_small = omega (arith, ap length parts, length-append (between white task a x) (task x ∷ between white task (x + 1) n))

      -- what holds of each task of the list holds of this one
      pub met_each : (Q : ℕ → Type 0) → Each Q (between white task a n) → Q (task x)
      met_each Q h = subst Q met_task (h met met_small)

      -- one more before the next white leaf
      pub met_next : {y : ℕ} → Next white (x + 1) n y → length (between white task a y) ≡ met + 1
      met_next {y} t =
          let e : between white task a y ≡ between white task a x ++ task x ∷ [] =
          between_split a x y from (omega (arith, t.from))
          ∙ ap (λ (l : List ℕ). between white task a x ++ l) (between_white x y (omega (arith, t.from)) here ∙ ap (λ (l : List ℕ). task x ∷ l) (next_none t)) in
          omega (arith, ap length e, length-append (between white task a x) (task x ∷ []))

    -- where not all are met, there is a leaf
    pub met_inside : x ≤ n → met < length (between white task a n) → x < n
    met_inside to h = elim (dec_lt x n) [ yes z ↦ z | no z ↦ absurd (let e : x ≡ n = omega arith in omega (arith, ap (λ (b : ℕ). length (between white task a b)) e)) ]

  pub met_first : {a n y : ℕ} → Next white a n y → length (between white task a y) ≡ 0
  met_first s = ap length (next_none s)

-- The walk --------------------------------------------------------------------------------------------------------------------

module _ (white : ℕ → Bool) (task : ℕ → ℕ) (a n : ℕ) (leaf : ℕ → ℕ) (w : Walks white a n leaf) where
  abbrev list : List ℕ
  list = between white task a n

  -- its j-th leaf, before which it has met j tasks
  record Comes (j : ℕ) : Type 0 where
    from : a ≤ leaf j
    to : leaf j ≤ n
    found : leaf j < n → white (leaf j) ≡ true
    count : length (between white task a (leaf j)) ≡ j

  comes : (j : ℕ) → j ≤ length list → Comes j
  comes zero s = record { from = w.first.from; to = w.first.to; found = w.first.found; count = met_first white task w.first }
  comes (suc j) s = by (comes j (omega arith))
    where
      by : Comes j → Comes (suc j)
      by c =
          let small : leaf j < n = met_inside white task a n (leaf j) c.from c.to (omega (arith, c.count)) in
          let t : Next white (leaf j + 1) n (leaf (suc j)) = rw (add-one j) at (w.next j small) in
          record { from = omega (arith, c.from, t.from); to = t.to; found = t.found; count = omega (arith, c.count, met_next white task a n (leaf j) c.from small (c.found small) t) }

  inside : (j : ℕ) → j < length list → leaf j < n
  inside j s = let c = comes j (omega arith) in met_inside white task a n (leaf j) c.from c.to (omega (arith, c.count))

  pub walk_meets : Meets task list a n leaf
  walk_meets = record {
    inside = λ j s. ((comes j (omega arith)).from, omega (arith, (w.next j (inside j s)).from), inside j s);
    tasks = λ j s.
        let c = comes j (omega arith) in
        sym (met_task white task a n (leaf j) c.from (inside j s) (c.found (inside j s))) ∙ ap (λ (m : ℕ). get_or list m 0) c.count;
    ends = let c = comes (length list) (omega arith) in elim (dec_lt (leaf (length list)) n) [
      | yes z ↦ absurd (omega (arith, c.count, met_small white task a n (leaf (length list)) c.from z (c.found z)))
      | no z ↦ omega (arith, c.to)
    ];
  }

-- The walk over all leaves meets exactly the tasks of Theta's list, each once and in its order.
pub theta_meets : (white : ℕ → Bool) (task : ℕ → ℕ) (n : ℕ) (leaf : ℕ → ℕ) → Walks white 0 n leaf → Meets task (theta_of white task 0 n) 0 n leaf
theta_meets white task n leaf w = rw (all_leaves white task n) (walk_meets white task 0 n leaf w)

-- What a walk knows at leaf x, before it asks there: at each task before, the answer was no.
pub record WalkedTo (white : ℕ → Bool) (task : ℕ → ℕ) (No : ℕ → ℕ → Type 0) (ds : List ℕ) (a n x q : ℕ) : Type 0 where
  pub from : a ≤ x
  pub small : x < n
  pub here : white x ≡ true
  pub rest : q ≡ lasts ds (drop (length (between white task a x)) (between white task a n))
  pub no : (y : ℕ) → y < length (between white task a x) → At No ds (between white task a n) y

module _ {white : ℕ → Bool} {task : ℕ → ℕ} {No : ℕ → ℕ → Type 0} {ds : List ℕ} {a n : ℕ} where
  pub sets_out : {p x : ℕ} → p ≡ lasts ds (between white task a n) → Somewhere (λ k q. No k q → ⊥) ds (between white task a n) → Next white a n x → WalkedTo white task No ds a n x p
  sets_out {x = x} total s y =
      let small : x < n = met_inside white task a n x y.from y.to (omega (arith, met_first white task y, s.small)) in
      record { from = y.from; small = small; here = y.found small; rest = rw (met_first white task y) total; no = λ z h. absurd (omega (arith, met_first white task y)) }

  module _ {x q : ℕ} (w : WalkedTo white task No ds a n x q) where
    abbrev tasks : List ℕ
    tasks = between white task a n

    abbrev so_far : ℕ
    so_far = length (between white task a x)

    is : get_or (between white task a n) (length (between white task a x)) 0 ≡ task x
    is = met_task white task a n x w.from w.small w.here

    there : so_far < length tasks
    there = met_small white task a n x w.from w.small w.here

    -- the tasks from x on: that of x, and those after it
    next_lasts : q ≡ get_or ds (task x) 0 + lasts ds (drop (suc so_far) tasks)
    next_lasts = w.rest ∙ lasts_cons ds tasks so_far there ∙ ap (λ (k : ℕ). get_or ds k 0 + lasts ds (drop (suc so_far) tasks)) is

    pub enough_there : get_or ds (task x) 0 ≤ q
    enough_there = omega (arith, next_lasts)

    -- they last no longer than all
    less_there : {p : ℕ} → p ≡ lasts ds (between white task a n) → q ≤ p
    less_there total = omega (arith, w.rest, lasts_drop ds tasks so_far)

    -- what holds of each task holds of that of x
    pub each_met : (Q : ℕ → Type 0) → Each Q (between white task a n) → Q (task x)
    each_met = met_each white task a n x w.from w.small w.here

    -- it may ask there
    pub asked_there : {may : ℕ → ℕ → Type 0} {answers : ℕ → ℕ → Bool → Type 0} {es : List ℕ} {p : ℕ} → Asks may answers (between white task a n) es ds p → may (get_or es (task x) 0) q
    asked_there {may} {es = es} {p = p} g = each_met (λ k. (q : ℕ) → q ≤ p → may (get_or es k 0) q) g.asked q (less_there g.total)

    -- the walk goes on to the next leaf: there is one, since somewhere the answer cannot be no
    pub walks_on : {y : ℕ} → Somewhere (λ k q. No k q → ⊥) ds (between white task a n) → No (task x) q → Next white (x + 1) n y
        → WalkedTo white task No ds a n y (q - get_or ds (task x) 0)
    walks_on {y} s unmet t =
        let more : length (between white task a y) ≡ suc so_far = met_next white task a n x w.from w.small w.here t ∙ add-one so_far in
        let from : a ≤ y = omega (arith, w.from, t.from) in
        let small : y < n = met_inside white task a n y from t.to (omega (arith, more, later, s.small)) in
        record { from = from; small = small; here = t.found small; rest = rw more (omega (arith, next_lasts)); no = λ z h. so_no z (omega (arith, more)) }
      where
        so_no : (z : ℕ) → z < suc so_far → At No ds tasks z
        so_no z h = elim (ℕ_discrete z so_far) [ yes e ↦ subst (At No ds tasks) (sym e) (rw (is, ← w.rest) unmet) | no e ↦ w.no z (omega arith) ]

        later : so_far < s.place
        later = elim (dec_lt so_far s.place) [ yes z ↦ z | no z ↦ absurd (s.holds (so_no s.place (omega arith))) ]
