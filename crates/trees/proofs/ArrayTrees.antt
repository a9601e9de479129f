-- Trees in an array, at any type of nodes: each node is the one over its leaves, also while a loop calculates inner nodes anew.
use mathlib.Core.Path.{◌≡◌, refl, sym, ap, ap₂, subst, ◌∙◌, fun_ext}
use Prim.Native.Nat.{ℕ, zero, suc, ◌+◌, ◌*◌, ◌-◌, ◌/◌, ◌≤◌, ◌<◌}
use native.Mathlib.Omega.{arith}
use native.Mathlib.Decide.{ℕ_discrete}
use borrow.Author.Rules.{rules}
use borrow.Author.Tests.{eq-eqb, ne_eqb}
use Rattle.scheduling.proofs.Sets.{total_suc}
use Rattle.integers.specs.Limits.{INNER}
use Rattle.scheduling.specs.Scheduling.{total}
use Rattle.trees.specs.NodeBounds.{Additive, Fits}
use Rattle.trees.specs.Shapes.{width, node_over}
use Rattle.trees.specs.Arrays.{leftmost, HasHeight, changed, leaves_of, TreeOf}
use Rattle.trees.specs.Bounds.{Bounded, NeedsUpheap, CanPut}
use Rattle.trees.specs.Puts.{Joinable}
use Rattle.trees.proofs.Heights.{once, twice, leftmost_leaf, leftmost_left, leftmost_right, root_height, root_first, inner_height, left_height, right_height, height_of}

-- one value changed
pub changed_here : {A : Type 0} (f : ℕ → A) (i : ℕ) (v : A) → changed f i v i ≡ v
unfolding changed
changed_here f i v = rw (eq-eqb i i refl, changed)

pub changed_other : {A : Type 0} (f : ℕ → A) (i : ℕ) (v : A) (k : ℕ) → (k ≡ i → ⊥) → changed f i v k ≡ f k
unfolding changed
changed_other f i v k ne = rw (ne_eqb k i ne, changed)

-- a function that agrees with it everywhere
pub changed_is : {A : Type 0} (f g : ℕ → A) (i : ℕ) (v : A) → g i ≡ v → ((k : ℕ) → (k ≡ i → ⊥) → g k ≡ f k) → g ≡ changed f i v
changed_is f g i v here there = fun_ext (λ k. elim (ℕ_discrete k i)
    [ yes z ↦ rw z (here ∙ sym (changed_here f i v)) | no z ↦ there k z ∙ sym (changed_other f i v k z) ])

-- a leaf of an array changed
pub changed_leaf : {A : Type 0} (m : ℕ) (at : ℕ → A) (k : ℕ) (v : A) → leaves_of m (changed at (m + k) v) ≡ changed (leaves_of m at) k v
changed_leaf m at k v = changed_is (leaves_of m at) (leaves_of m (changed at (m + k) v)) k v (changed_here at (m + k) v)
    (λ j ne. changed_other at (m + k) v (m + j) (λ z. ne (omega arith)))

-- an inner node changed
pub changed_inner : {A : Type 0} (m : ℕ) (at : ℕ → A) (i : ℕ) (v : A) → i < m → leaves_of m (changed at i v) ≡ leaves_of m at
changed_inner m at i v q = fun_ext (λ k. changed_other at i v (m + k) (λ z. omega arith))

module _ {A : Type 0} (join : A → A → A) where
  pub over_leaf : (leaf : ℕ → A) (a : ℕ) → node_over join leaf 0 a ≡ leaf a
  unfolding node_over
  over_leaf leaf a = refl

  pub over_join : (leaf : ℕ → A) (h a : ℕ) → node_over join leaf (suc h) a ≡ join (node_over join leaf h a) (node_over join leaf h (a + width h))
  unfolding node_over
  over_join leaf h a = refl

  -- `Right`, by height and node, makes a node the join of its children and holds of them too: where it holds, a node is the one over its leaves
  module _ (m : ℕ) (at : ℕ → A) (Right : ℕ → ℕ → Type 0)
      (w : (h i : ℕ) → HasHeight m (suc h) i → Right (suc h) i → (at i ≡ join (at (2 * i + 1)) (at (2 * i + 2))) × Right h (2 * i + 1) × Right h (2 * i + 2)) where
    pub over_is : (h i : ℕ) → HasHeight m h i → Right h i → at i ≡ node_over join (leaves_of m at) h (leftmost h i - m)
    over_is zero i s q =
        let z : i ≡ m + (leftmost 0 i - m) = omega (arith, s.from, leftmost_leaf i) in
        ap at z ∙ sym (over_leaf (leaves_of m at) (leftmost 0 i - m))
    over_is (suc h) i s q =
        let left : leftmost h (2 * i + 1) - m ≡ leftmost (suc h) i - m = omega (arith, leftmost_left h i) in
        let right : leftmost h (2 * i + 2) - m ≡ (leftmost (suc h) i - m) + width h = omega (arith, leftmost_right h i, s.from) in
        let (here, l, r) = w h i s q in
        here ∙ ap₂ join (over_is h (2 * i + 1) (left_height s) l ∙ ap (node_over join (leaves_of m at) h) left)
        (over_is h (2 * i + 2) (right_height s) r ∙ ap (node_over join (leaves_of m at) h) right) ∙ sym (over_join (leaves_of m at) h (leftmost (suc h) i - m))

  -- every node of a tree
  pub node_is : (m : ℕ) (at : ℕ → A) → TreeOf join m (leaves_of m at) at → (h i : ℕ) → HasHeight m h i → at i ≡ node_over join (leaves_of m at) h (leftmost h i - m)
  node_is m at t h i s = over_is m at (λ h i. Unit {0}) (λ g j r q. (t.joins j (inner_height r), tt, tt)) h i s tt

  -- a tree over leaves is one over its own leaves
  pub own_leaves : {m : ℕ} {leaf at : ℕ → A} → TreeOf join m leaf at → leaves_of m at ≡ leaf
  own_leaves t = fun_ext t.leaves

  pub own_tree : {m : ℕ} {leaf at : ℕ → A} → TreeOf join m leaf at → TreeOf join m (leaves_of m at) at
  own_tree t = record { joins = t.joins; leaves = λ k. refl }

  pub root_is : {m : ℕ} (H : ℕ) {leaf at : ℕ → A} → m + 1 ≡ width H → TreeOf join m leaf at → at 0 ≡ node_over join leaf H 0
  root_is {m} H {at = at} e t = node_is m at (own_tree t) H 0 (root_height m H e) ∙ ap₂ (λ (f : ℕ → A). node_over join f H) (own_leaves t) (root_first m H e)

  -- a tree over leaves of which one was put is one over the old ones, but for that one
  pub put_tree : {m : ℕ} (at : ℕ → A) {at' at'' : ℕ → A} (place : ℕ) (n : A) → at' ≡ changed at (m + place) n → TreeOf join m (leaves_of m at') at'' → TreeOf join m (changed (leaves_of m at) place n) at''
  put_tree {m} at {at'' = at''} place n e = subst (λ (leaf : ℕ → A). TreeOf join m leaf at'') (ap (leaves_of m) e ∙ changed_leaf m at place n)

-- a relation that holds between the leaves of two trees, and that joins keep, holds between their nodes
pub over_both : {A B : Type 0} {join : A → A → A} {join' : B → B → B} (R : A → B → Type 0) → ((l r : A) (l' r' : B) → R l l' → R r r' → R (join l r) (join' l' r')) → (leaf : ℕ → A) (leaf' : ℕ → B)
    → ((k : ℕ) → R (leaf k) (leaf' k)) → (h a : ℕ) → R (node_over join leaf h a) (node_over join' leaf' h a)
over_both {join = join} {join'} R keeps leaf leaf' each zero a = rw (over_leaf join leaf a, over_leaf join' leaf' a) (each a)
over_both {join = join} {join'} R keeps leaf leaf' each (suc h) a = rw (over_join join leaf h a, over_join join' leaf' h a)
    (keeps _ _ _ _ (over_both R keeps leaf leaf' each h a) (over_both R keeps leaf leaf' each h (a + width h)))

-- bounds -----------------------------------------------------------------------------------------------------------------------

module _ {A : Type 0} {size : A → ℕ} {Fair : A → Type 0} where
  pub leaf_fits : (leaf : ℕ → A) → Bounded size Fair leaf → (k : ℕ) → Fits size Fair (leaf k)
  leaf_fits leaf b k = record { fair = b.fair k; small = omega (arith, b.small (suc k), total_suc (λ j. size (leaf j)) k) }

  -- the leaf put fits
  pub put_fits : {join : A → A → A} {m : ℕ} {at : ℕ → A} {place : ℕ} {n : A} → CanPut size Fair join m at place n → Fits size Fair n
  put_fits {m = m} {at} {place} {n} t = rw (changed_here (leaves_of m at) place n) at (leaf_fits (changed (leaves_of m at) place n) t.bounded place)

module _ {A : Type 0} {size : A → ℕ} {Fair : A → Type 0} {join : A → A → A} (law : Additive size Fair join) where
  over_fair : (leaf : ℕ → A) → Bounded size Fair leaf → (h a : ℕ) → Fair (node_over join leaf h a)
  over_fair leaf b = over_both {join' = join} (λ n _. Fair n) (λ l r _ _. law.keeps l r) leaf leaf b.fair

  over_size : (leaf : ℕ → A) → Bounded size Fair leaf → (h a : ℕ) → total (λ k. size (leaf k)) a + size (node_over join leaf h a) ≤ total (λ k. size (leaf k)) (a + width h)
  over_size leaf b zero a =
      let z : a + width 0 ≡ suc a = omega (arith, once) in
      rw (z, over_leaf join leaf a) (omega (arith, total_suc (λ k. size (leaf k)) a))
  over_size leaf b (suc h) a =
      let z : a + width (suc h) ≡ a + width h + width h = omega (arith, twice h) in
      rw (z, over_join join leaf h a)
      (omega (
        arith,
        law.adds (node_over join leaf h a) (node_over join leaf h (a + width h)) (over_fair leaf b h a) (over_fair leaf b h (a + width h)),
        over_size leaf b h a,
        over_size leaf b h (a + width h),
      ))

  pub over_fits : (leaf : ℕ → A) → Bounded size Fair leaf → (h a : ℕ) → Fits size Fair (node_over join leaf h a)
  over_fits leaf b h a = record { fair = over_fair leaf b h a; small = omega (arith, over_size leaf b h a, b.small (a + width h)) }

  -- loops that calculate inner nodes --------------------------------------------------------------------------------------------

  -- What holds during such a loop: the leaves stay, and the inner nodes that are `Right` are the joins of their children.
  pub record During (Right : ℕ → Type 0) (m : ℕ) (at₀ at : ℕ → A) : Type 0 where
    pub joins : (i : ℕ) → i < m → Right i → at i ≡ join (at (2 * i + 1)) (at (2 * i + 2))
    pub leaves : leaves_of m at ≡ leaves_of m at₀
    pub bounded : Bounded size Fair (leaves_of m at)
    pub height : ℕ
    pub complete : m + 1 ≡ width height
    pub room : m ≤ INNER

  -- where all are right, it is a tree
  pub whole : {Right : ℕ → Type 0} {m : ℕ} {at₀ at : ℕ → A} → During Right m at₀ at → ((j : ℕ) → Right j) → TreeOf join m (leaves_of m at₀) at
  whole c all = record { joins = λ i q. c.joins i q (all i); leaves = λ k. ap (λ (f : ℕ → A). f k) c.leaves }

  -- all nodes after p are right
  module _ {Right : ℕ → Type 0} {m : ℕ} {at₀ at : ℕ → A} {p : ℕ} (c : During Right m at₀ at) (inner : p < m) (after : (j : ℕ) → p < j → Right j) where
    child_fits : (k : ℕ) → p < k → k ≤ 2 * m → Fits size Fair (at k)
    child_fits k q r =
        let s = height_of m c.height c.complete k k (omega arith) r in
        rw (over_is join m at (λ h j. p < j) (λ h j s q. (c.joins j (inner_height s) (after j q), omega arith, omega arith)) s.0 k s.1 q)
        (over_fits (leaves_of m at) c.bounded s.0 (leftmost s.0 k - m))

    -- the loop's turn at node p: the children's numbers can be added
    joinable : Joinable size Fair at p
    joinable = record { inner = omega (arith, c.room); left = child_fits (2 * p + 1) (omega arith) (omega arith); right = child_fits (2 * p + 2) (omega arith) (omega arith) }

    abbrev n : A
    n = join (at (2 * p + 1)) (at (2 * p + 2))

    other : (k : ℕ) → (k ≡ p → ⊥) → changed at p n k ≡ at k
    other = changed_other at p n

    -- node p becomes right too, and a right node stays right unless p is its child
    calculated : (Right' : ℕ → Type 0) → ((j : ℕ) → Right' j → ((j ≡ p → ⊥) → Right j) × (p ≡ 2 * j + 1 → ⊥) × (p ≡ 2 * j + 2 → ⊥)) → During Right' m at₀ (changed at p n)
    calculated Right' was = record {
      joins = λ j q r. elim (ℕ_discrete j p) [
        | yes z ↦ rw z (changed_here at p n ∙ sym (ap₂ join (other (2 * p + 1) (λ y. omega arith)) (other (2 * p + 2) (λ y. omega arith))))
        | no z ↦ other j z ∙ c.joins j q ((was j r).0 z) ∙ sym (ap₂ join (other (2 * j + 1) (λ y. (was j r).1 (sym y))) (other (2 * j + 2) (λ y. (was j r).2 (sym y))))
      ];
      leaves = same ∙ c.leaves;
      bounded = rw same c.bounded;
      height = c.height;
      complete = c.complete;
      room = c.room;
    }
      where
        same : leaves_of m (changed at p n) ≡ leaves_of m at
        same = changed_inner m at p n inner

  -- Upheap is at node i, whose parent alone is not yet right.
  pub record DuringUpheap (m : ℕ) (at₀ at : ℕ → A) (i : ℕ) : Type 0 where
    pub during : During (λ j. (i ≡ 2 * j + 1 → ⊥) × (i ≡ 2 * j + 2 → ⊥)) m at₀ at
    pub inside : i ≤ 2 * m

  pub start : {m : ℕ} {at : ℕ → A} {i : ℕ} → NeedsUpheap size Fair join m at i → DuringUpheap m at at i
  start r = record {
    during = record { joins = λ j q s. r.joins j q s.0 s.1; leaves = refl; bounded = r.bounded; height = r.height; complete = r.complete; room = r.room };
    inside = r.to;
  }

  pub end : {m : ℕ} {at₀ at : ℕ → A} {i : ℕ} → DuringUpheap m at₀ at i → i ≡ 0 → TreeOf join m (leaves_of m at₀) at
  end c root = whole c.during (λ j. (λ z. omega arith, λ z. omega arith))

  module _ {m : ℕ} {at₀ at : ℕ → A} {i : ℕ} (c : DuringUpheap m at₀ at i) (q : i ≡ 0 → ⊥) {p : ℕ} (is_up : p ≡ (i - 1) / 2) where
    pub up_inner : p < m
    up_inner = omega (arith, c.inside)

    pub up_joinable : Joinable size Fair at p
    up_joinable = joinable c.during up_inner (λ j r. (λ z. omega arith, λ z. omega arith))

    pub next_is : {at' : ℕ → A} → at' ≡ changed at p (join (at (2 * p + 1)) (at (2 * p + 2))) → DuringUpheap m at₀ at' p
    next_is e = rw e (record {
      during = calculated c.during up_inner (λ j r. (λ z. omega arith, λ z. omega arith))
          (λ j. (p ≡ 2 * j + 1 → ⊥) × (p ≡ 2 * j + 2 → ⊥)) (λ j s. (λ ne. (λ z. ne (omega arith), λ z. ne (omega arith)), s.0, s.1));
      inside = omega (arith, c.inside);
    })

  -- A rebuild is at node i, from which on all are right.
  pub record DuringRebuild (m : ℕ) (at₀ at : ℕ → A) (i : ℕ) : Type 0 where
    pub during : During (λ j. i ≤ j) m at₀ at
    pub inside : i ≤ m

  module _ {m : ℕ} {at₀ at : ℕ → A} {i : ℕ} (c : DuringRebuild m at₀ at i) (q : 0 < i) where
    pub down_joinable : Joinable size Fair at (i - 1)
    down_joinable = joinable c.during (omega (arith, c.inside)) (λ j r. omega arith)

    pub goes_on : {at' : ℕ → A} → at' ≡ changed at (i - 1) (join (at (2 * (i - 1) + 1)) (at (2 * (i - 1) + 2))) → DuringRebuild m at₀ at' (i - 1)
    goes_on e = rw e (record {
      during = calculated c.during (omega (arith, c.inside)) (λ j r. omega arith) (λ j. i - 1 ≤ j) (λ j s. (λ ne. omega arith, λ z. omega arith, λ z. omega arith));
      inside = omega (arith, c.inside);
    })

-- a leaf changed, and the ancestors not yet
pub needs_upheap : {A : Type 0} {size : A → ℕ} {Fair : A → Type 0} {join : A → A → A} {m : ℕ} {at at' : ℕ → A} {place : ℕ} {n : A} → CanPut size Fair join m at place n → at' ≡ changed at (m + place) n
    → NeedsUpheap size Fair join m at' (m + place)
needs_upheap {join = join} {m} {at} {at'} {place} {n} t e = rw e (record {
  joins = λ i q a b. changed_other at (m + place) n i (λ z. omega arith) ∙ t.tree.joins i q
      ∙ sym (ap₂ join (changed_other at (m + place) n (2 * i + 1) (λ z. a (sym z))) (changed_other at (m + place) n (2 * i + 2) (λ z. b (sym z))));
  bounded = rw (changed_leaf m at place n) t.bounded;
  height = t.height;
  complete = t.complete;
  room = t.room;
  from = omega arith;
  to = omega (arith, t.inside);
})

-- what is left to show, at any type of nodes: where a loop calculates the ancestors, or all inner nodes, and where a leaf is put
pub ruleset upheaps = (rules, start, up_joinable, next_is, end)

pub ruleset rebuilds = (rules, down_joinable, goes_on)

pub ruleset puts = (rules, needs_upheap, put_tree)
