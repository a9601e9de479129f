-- What the two searches for the responsible task find: a gray leaf that attains the bar, or the bar is the plain value.
use mathlib.Core.Path.{◌≡◌, refl, sym, ap, ◌∙◌}
use mathlib.Core.Bool.{Bool, true, false}
use mathlib.Core.Option.{Option, some, none}
use Prim.Native.Nat.{ℕ, zero, suc, ◌+◌, ◌-◌, ◌≤◌, ◌<◌, max}
use native.Mathlib.Omega.{arith}
use native.Mathlib.Nat.{add-zero}
use native.Mathlib.Numerals.{add-one}
use native.Mathlib.Decide.{dec_le}
use Rattle.scheduling.proofs.LeafRanges as range
use Rattle.trees.specs.declared.theta_lambda_node.Node.{Node}
use Rattle.trees.specs.declared.theta_lambda_node.EctBarDescent.TheVariants as bar
use Rattle.trees.specs.declared.theta_lambda_node.EctBarDescent.{EctBarDescent}
use Rattle.trees.specs.Nodes.{white_of, gray_of, join_of}
use Rattle.trees.specs.Descents.{gray}
use Rattle.trees.proofs.Descents.{By, sums, ects, bar_of, plain_of, step_at, Fact, fact}
use Rattle.trees.proofs.LeafColours.{gray_is}
use Rattle.trees.specs.Shapes.{width, node_over}
use Rattle.trees.specs.Searches.{search_p, search_ect}
use Rattle.trees.specs.Leaves as leaves
use Rattle.trees.specs.Leaves.{Leaf, in_theta, in_lambda, leaf_node}
use Rattle.trees.proofs.Heights.{once, twice}
use Rattle.trees.proofs.SearchSteps.{around_over, search_by, rest, inner_is, leaf_search}
use Rattle.trees.proofs.RangeNodes.{not_white, Holds, over_holds}
use Rattle.trees.proofs.ArrayTrees.{over_leaf}

-- the larger of two numbers is at most c where each that it may be is
of_larger : {v a b c : ℕ} → v ≡ max a b → (v ≡ a → v ≤ c) → (v ≡ b → v ≤ c) → v ≤ c
of_larger {v} {a} {b} is one other = elim (dec_le a b) [ yes q ↦ other (omega arith) | no q ↦ one (omega arith) ]

module _ (colour : ℕ → Leaf) (e p : ℕ → ℕ) (lasts : (x : ℕ) → in_lambda (colour x) ≡ true → 1 ≤ p x) where
  abbrev w : ℕ → Bool
  w k = in_theta (colour k)

  abbrev g : ℕ → Bool
  g k = in_lambda (colour k)

  abbrev leaf : ℕ → Node
  leaf k = leaf_node (colour k) (e k) (p k)

  abbrev S : ℕ → ℕ → ℕ
  S = range.sum w g e p

  abbrev E : ℕ → ℕ → ℕ
  E = range.ect w g e p

  abbrev node : ℕ → ℕ → Node
  node h a = node_over join_of leaf h a

  values : (h a : ℕ) → Holds colour e p (node h a) a (width h)
  values h a = over_holds colour e p h a

  -- the latest completion of a set of white leaves of the range with leaf x in it, as early as can be
  unfoldable pub through : ℕ → ℕ → ℕ → ℕ
  through x a d = max (E a (x - a)) (e x) + p x + S (suc x) ((a + d) - suc x)

  -- a range cut at a leaf that is not white: r leaves follow it
  cut : (a b r : ℕ) → w (a + b) ≡ false → S a (b + (1 + r)) ≡ S a b + S (suc (a + b)) r
  cut a b r y = omega (
    arith,
    (range.join w g e p a b (1 + r)).sums,
    (range.join w g e p (a + b) 1 r).sums,
    ap (λ (u : ℕ). S u r) (add-one (a + b)),
    (not_white w g e p (a + b) 0 (a + b) (add-zero (a + b)) y).0,
    (range.blank w g e p (a + b)).s,
  )

  through_leaf : (a : ℕ) → through a a 1 ≡ e a + p a
  unfolding through
  through_leaf a =
      let same : a - a ≡ 0 = omega arith in
      let none_left : (a + 1) - suc a ≡ 0 = omega arith in
      omega (arith, ap (E a) same, (range.blank w g e p a).t, ap (S (suc a)) none_left, (range.blank w g e p (suc a)).s)

  -- x in the right half
  module _ (x a b c : ℕ) (y : w x ≡ false) (lo : a + b ≤ x) (hi : x < a + b + c) where
    from_left : x - a ≡ b + (x - (a + b))
    from_left = omega arith

    the_end : (a + (b + c)) - suc x ≡ (a + b + c) - suc x
    the_end = omega arith

    through_right : through x (a + b) c ≤ through x a (b + c)
    unfolding through
    through_right = omega (arith, ap (E a) from_left, ap (S (suc x)) the_end, (range.join w g e p a b (x - (a + b))).ects)

    through_mid : E a b + (S (a + b) c + p x) ≤ through x a (b + c)
    unfolding through
    through_mid =
        let here : x ≡ a + b + (x - (a + b)) = omega arith in
        let len : c ≡ (x - (a + b)) + (1 + ((a + b + c) - suc x)) = omega arith in
        let split = cut (a + b) (x - (a + b)) ((a + b + c) - suc x) (ap w (sym here) ∙ y) in
        omega (arith, ap (E a) from_left, ap (S (suc x)) the_end, (range.join w g e p a b (x - (a + b))).ects, split, ap (S (a + b)) len, ap (λ (u : ℕ). S (suc u) ((a + b + c) - suc x)) here)

  -- x in the left half
  through_left : (x a b c : ℕ) → x < a + b → through x a b + S (a + b) c ≤ through x a (b + c)
  unfolding through
  through_left x a b c hi =
      let more_end : (a + (b + c)) - suc x ≡ ((a + b) - suc x) + c = omega arith in
      let start_right : suc x + ((a + b) - suc x) ≡ a + b = omega arith in
      omega (arith, ap (S (suc x)) more_end, (range.join w g e p (suc x) ((a + b) - suc x) c).sums, ap (λ (u : ℕ). S u c) start_right)

  -- a gray leaf of the range
  pub record GrayBelow (a d x : ℕ) : Type 0 where
    pub gray : g x ≡ true
    pub white : w x ≡ false
    pub from : a ≤ x
    pub to : x < a + d

  -- what white leaves of the range attain with leaf x
  abbrev Reach : By → ℕ → ℕ → ℕ → ℕ
  Reach sums x a d = S a d + p x
  Reach ects x a d = through x a d

  -- the answer of a search below node n: a gray leaf that attains the bar, or none, where no gray leaf is needed
  abbrev OkAt : By → Node → ℕ → ℕ → Option ℕ → Type 0
  OkAt by n a d none = bar_of by n ≤ plain_of by n
  OkAt by n a d (some x) = GrayBelow a d x × (bar_of by n ≤ Reach by x a d)

  abbrev pub Ok : By → ℕ → ℕ → Option ℕ → Type 0
  Ok by h a o = OkAt by (node h a) a (width h) o

  leaf_ok : (by : By) (a : ℕ) → Ok by 0 a (elim (gray (leaf a)) [ true ↦ some a | false ↦ none ])
  leaf_ok by a = rw (over_leaf join_of leaf a, once, gray_is (colour a) (e a) (p a) (lasts a)) (of (colour a) refl)
    where
      no_bar : (by : By) (v d : ℕ) → bar_of by (white_of v d) ≤ plain_of by (white_of v d)
      no_bar sums v d = omega arith
      no_bar ects v d = omega arith

      reach : (by : By) → bar_of by (gray_of (e a + p a) (p a)) ≤ Reach by a a 1
      reach sums = omega arith
      reach ects = omega (arith, through_leaf a)

      of : (c : Leaf) → colour a ≡ c → OkAt by (leaf_node c (e a) (p a)) a 1 (elim (in_lambda c) [ true ↦ some a | false ↦ none ])
      of leaves.empty z = no_bar by 0 0
      of leaves.white z = no_bar by (e a + p a) (p a)
      of leaves.gray z = (record { gray = ap in_lambda z; white = ap in_theta z; from = omega arith; to = omega arith }, reach by)

  -- a leaf of a half is one of the whole
  within : {b d a d' x : ℕ} → a ≤ b → b + d ≤ a + d' → GrayBelow b d x → GrayBelow a d' x
  within lo hi f = record { gray = f.gray; white = f.white; from = omega (arith, f.from); to = omega (arith, f.to) }

  -- Node (h + 1, a) with its halves.
  module _ (h a : ℕ) where
    abbrev l : Node
    l = node h a

    abbrev r : Node
    r = node h (a + width h)

    -- the left half, and the sum of the right one, within the whole
    plain_left : (by : By) → plain_of by l + r.sum_of_processing_times ≤ plain_of by (node (suc h) a)
    unfolding node_over join_of
    plain_left sums = omega arith
    plain_left ects = omega arith

    halves : S a (width (suc h)) ≡ S a (width h) + S (a + width h) (width h)
    unfolding width
    halves = (range.join w g e p a (width h) (width h)).sums

    reach_left : (by : By) (x : ℕ) → x < a + width h → Reach by x a (width h) + r.sum_of_processing_times ≤ Reach by x a (width (suc h))
    unfolding width
    reach_left sums x q = omega (arith, halves, (values h (a + width h)).sum)
    reach_left ects x q = omega (arith, through_left x a (width h) (width h) q, (values h (a + width h)).sum)

    reach_right : (by : By) (x : ℕ) → GrayBelow (a + width h) (width h) x → plain_of by l + (S (a + width h) (width h) + p x) ≤ Reach by x a (width (suc h))
    unfolding width
    reach_right sums x f = omega (arith, halves, (values h a).sum)
    reach_right ects x f = omega (arith, through_mid x a (width h) (width h) f.white f.from f.to, (values h a).ect)

    -- The answer of the child that a step goes on in is one for the node.
    left_ok : (by : By) (o : Option ℕ) → Ok by h a o → Fact (node (suc h) a) l r bar.Left by → Ok by (suc h) a o
    left_ok by none ok q = omega (arith, ok, q, plain_left by)
    left_ok by (some x) ok q = (within (omega arith) (omega (arith, twice h)) ok.0, omega (arith, ok.1, q, reach_left by x ok.0.to))

    right_sum_ok : (by : By) (o : Option ℕ) → Ok sums h (a + width h) o → Fact (node (suc h) a) l r bar.RightP by → Ok by (suc h) a o
    right_sum_ok by none ok q = omega (arith, ok, q, plain_left by)
    right_sum_ok by (some x) ok q = (within (omega arith) (omega (arith, twice h)) ok.0, omega (arith, ok.1, q, reach_right by x ok.0))

    right_ect_ok : (by : By) (o : Option ℕ) → Ok ects h (a + width h) o → Fact (node (suc h) a) l r bar.Right by → Ok by (suc h) a o
    unfolding node_over join_of width
    right_ect_ok sums o ok f = absurd f
    right_ect_ok ects none ok f = omega arith
    right_ect_ok ects (some x) ok f =
        (within (omega arith) (omega arith) ok.0, omega (arith, f, ok.1, through_right x a (width h) (width h) ok.0.white ok.0.from ok.0.to))

    -- no test held: each child whose value the bar may be has no task
    none_ok : (by : By) → Fact (node (suc h) a) l r bar.Nothing by → Ok by (suc h) a none
    unfolding node_over join_of
    none_ok sums (left, right) = of_larger refl (λ z. omega (arith, left z)) (λ z. omega (arith, right z))
    none_ok ects (right, mid, left) = of_larger refl (λ z. omega (arith, right z)) (λ z. of_larger z (λ y. omega (arith, mid y)) (λ y. omega (arith, left y)))

  pub by_ok : (by : By) (h a : ℕ) → Ok by h a (search_by leaf by h a)
  by_ok by zero a = rw (leaf_search leaf by a) (leaf_ok by a)
  by_ok by (suc h) a = rw (inner_is leaf by h a)
      (go (by_ok by h a) (λ k. by_ok k h (a + width h)) (step_at by (around_over leaf (suc h) a)) (fact (node (suc h) a) (node h a) (node h (a + width h)) by))
    where
      go : Ok by h a (search_by leaf by h a) → ((k : By) → Ok k h (a + width h) (search_by leaf k h (a + width h))) → (d : EctBarDescent)
          → Fact (node (suc h) a) (node h a) (node h (a + width h)) d by → Ok by (suc h) a (rest leaf by h a d)
      go x y bar.Left f = left_ok h a by (search_by leaf by h a) x f
      go x y bar.RightP f = right_sum_ok h a by (search_p leaf h (a + width h)) (y sums) f
      go x y bar.Right f = right_ect_ok h a by (search_ect leaf h (a + width h)) (y ects) f
      go x y bar.Here f = absurd f
      go x y bar.Nothing f = none_ok h a by f
