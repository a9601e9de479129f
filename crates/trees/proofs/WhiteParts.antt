-- The nodes without their gray tasks: where a leaf changes in its bars alone, these stay, and each is still the join of its children.
use mathlib.Core.Path.{◌≡◌, refl, sym, ap, ap₂, subst, ◌∙◌}
use Prim.Native.Nat.{ℕ, ◌+◌, ◌*◌, ◌-◌, ◌/◌}
use borrow.Author.Rules.{rules}
use native.Mathlib.Omega.{arith}
use native.Mathlib.Decide.{ℕ_discrete}
use Rattle.trees.specs.declared.theta_lambda_node.Node.{Node}
use Rattle.trees.specs.Nodes.{join_of, plain_join_of}
use Rattle.trees.specs.NodeBounds.{Fair, size}
use Rattle.trees.specs.Arrays.{changed}
use Rattle.trees.specs.Bounds.{CanPut}
use Rattle.trees.specs.Puts.{white_part, WhiteJoins, Liftable}
use Rattle.trees.specs.NodeLaws.{additive}
use Rattle.trees.proofs.ArrayTrees.{changed_here, changed_other, DuringUpheap, up_inner, up_joinable, next_is, start, end, puts}

pub join_white : (l r : Node) → white_part (join_of l r) ≡ plain_join_of (white_part l) (white_part r)
unfolding join_of plain_join_of
join_white l r = refl

-- a change of bars alone
module _ {m : ℕ} {at at' : ℕ → Node} (p : ℕ) (n : Node) (e : at' ≡ changed at p n) (same : white_part (at p) ≡ white_part n) (w : WhiteJoins m at) where
  white_is : (k : ℕ) → white_part (at' k) ≡ white_part (at k)
  white_is k = ap (λ (f : ℕ → Node). white_part (f k)) e ∙ elim (ℕ_discrete k p) [
    | yes z ↦ subst (λ (j : ℕ). white_part (changed at p n j) ≡ white_part (at j)) (sym z) (ap white_part (changed_here at p n) ∙ sym same)
    | no z ↦ ap white_part (changed_other at p n k z)
  ]

  bars_changed : WhiteJoins m at'
  bars_changed = record { joins = λ i q. white_is i ∙ w.joins i q ∙ sym (ap₂ plain_join_of (white_is (2 * i + 1)) (white_is (2 * i + 2))) }

-- a leaf is put: without their gray tasks the nodes stay joins,
pub leaf_bars : {m : ℕ} {at at' : ℕ → Node} {place : ℕ} {n : Node} → CanPut size Fair join_of m at place n → at' ≡ changed at (m + place) n → white_part (at (m + place)) ≡ white_part n → WhiteJoins m at'
leaf_bars {m} {at} {at'} {place} {n} t e same = bars_changed (m + place) n e same (record { joins = λ i q. ap white_part (t.tree.joins i q) ∙ join_white (at (2 * i + 1)) (at (2 * i + 2)) })

-- and they do where an ancestor is calculated
module _ {m : ℕ} {at₀ at : ℕ → Node} {i : ℕ} (c : DuringUpheap additive m at₀ at i) (q : i ≡ 0 → ⊥) where
  pub liftable : {n : Node} → n ≡ at i → Liftable at i n
  liftable e = let t = up_joinable additive c q refl in record { not_root = omega (arith, q); small = omega (arith, t.inner); is = e; left = t.left; right = t.right }

  module _ (w : WhiteJoins m at) {p : ℕ} (is_up : p ≡ (i - 1) / 2) {n : Node} (en : n ≡ join_of (at (2 * ((i - 1) / 2) + 1)) (at (2 * ((i - 1) / 2) + 2))) where
    pub white_stays : white_part (at p) ≡ white_part n
    white_stays = rw (is_up, en) (w.joins ((i - 1) / 2) (up_inner additive c q refl) ∙ sym (join_white (at (2 * ((i - 1) / 2) + 1)) (at (2 * ((i - 1) / 2) + 2))))

    pub next_white : {at' : ℕ → Node} → at' ≡ changed at p n → WhiteJoins m at'
    next_white e = bars_changed p n e white_stays w

    pub next_up : {at' : ℕ → Node} → at' ≡ changed at p n → DuringUpheap additive m at₀ at' p
    next_up e = next_is additive c q is_up (e ∙ rw (en, is_up) refl)

-- the ancestor that is stored is the node that is carried up next
pub carried : (at : ℕ → Node) {at' : ℕ → Node} {p : ℕ} {n : Node} → at' ≡ changed at p n → n ≡ at' p
carried at {at'} {p} {n} e = sym (ap (λ (f : ℕ → Node). f p) e ∙ changed_here at p n)

pub ruleset bar_upheaps = (rules, start, up_joinable, liftable, white_stays, next_white, next_up, carried, end)

pub ruleset bar_puts = (puts, leaf_bars)
