-- Words of an array that stand for nodes: what a store of one node's words does.
use mathlib.Core.Path.{◌≡◌, refl, sym, ap, ◌∙◌}
use mathlib.Core.Logic.{◌⊎◌, inl, inr}
use mathlib.Core.List.{List, [], ◌∷◌}
use Prim.Native.Nat.{ℕ, zero, suc, ◌+◌, ◌*◌, ◌≤◌, ◌<◌}
use native.Mathlib.Decide.{dec_lt}
use native.Mathlib.Nat.{mul-le-mul_left, mul-suc}
use native.Mathlib.Numerals.{add-one}
use native.Mathlib.Omega.{arith}
use lib.ListN.{get_or, set, length, length-set, replicate}
use lib.Seq.{sets, length-sets, get_or-set_same, get_or-set_other, set-get_or}
use Rattle.integers.specs.Limits.{NODES, THETAWORDS, TREEWORDS}
use Rattle.integers.proofs.FilledLists.{get_d_fresh}
use Rattle.trees.specs.declared.theta_lambda_node.Node.{Node}
use Rattle.trees.specs.declared.theta_node.Node as plain
use Rattle.trees.specs.Nodes.{empty_of, plain_empty_of}
use Rattle.trees.specs.Arrays.{changed}
use Rattle.trees.specs.Puts.{white_part}
use Rattle.trees.specs.Words.{node_at, plain_at}
use Rattle.trees.proofs.ArrayTrees.{changed_is}

-- words stored from place i on: the others stay, and these are there
sets_out : (vs l : List ℕ) (i j : ℕ) → (j < i) ⊎ (i + length vs ≤ j) → get_or (sets l i vs) j 0 ≡ get_or l j 0
sets_out [] l i j q = refl
sets_out (v ∷ vs) l i j (inl q) = sets_out vs (set l i v) (suc i) j (inl (omega arith)) ∙ get_or-set_other l i j v 0 (λ e. omega arith)
sets_out (v ∷ vs) l i j (inr q) = sets_out vs (set l i v) (suc i) j (inr (omega arith)) ∙ get_or-set_other l i j v 0 (λ e. omega arith)

sets_in : (vs l : List ℕ) (i j k : ℕ) → j ≡ i + k → k < length vs → i + length vs ≤ length l → get_or (sets l i vs) j 0 ≡ get_or vs k 0
sets_in [] l i j k e q h = absurd (omega arith)
sets_in (v ∷ vs) l i j zero e q h = let z : j ≡ i = omega arith in rw z (sets_out vs (set l i v) (suc i) i (inl (omega arith)) ∙ get_or-set_same l i v 0 (omega arith))
sets_in (v ∷ vs) l i j (suc k) e q h = sets_in vs (set l i v) (suc i) j k (omega arith) (omega arith) (omega (arith, length-set l i v))

-- Words stored at the place of node i, of w words a node: they are there, and those of every other node stay.
module _ {w : ℕ} (ws : List ℕ) (i : ℕ) (vs : List ℕ) (size : length vs ≡ w) where
  own_word : (x k : ℕ) → x ≡ w * i + k → k < w → w * i + w ≤ length ws → get_or (sets ws (w * i) vs) x 0 ≡ get_or vs k 0
  own_word x k e q h = sets_in vs ws (w * i) x k e (omega (arith, size)) (omega (arith, size))

  other_word : (j x : ℕ) → (j ≡ i → ⊥) → w * j ≤ x → x < w * j + w → get_or (sets ws (w * i) vs) x 0 ≡ get_or ws x 0
  other_word j x ne lo hi = sets_out vs ws (w * i) x (elim (dec_lt j i) [
    | yes q ↦ let r : w * suc j ≤ w * i = mul-le-mul_left w (omega arith) in inl (omega (arith, mul-suc w j))
    | no q ↦ let r : w * suc i ≤ w * j = mul-le-mul_left w (omega arith) in inr (omega (arith, mul-suc w i, size))
  ])

-- nodes of the same numbers
pub same : (m n : Node) → m.ect ≡ n.ect → m.sum_of_processing_times ≡ n.sum_of_processing_times → m.ect_bar ≡ n.ect_bar
    → m.sum_of_processing_times_bar ≡ n.sum_of_processing_times_bar → m ≡ n
same m n p q r s = λ t. record { ect = p t; sum_of_processing_times = q t; ect_bar = r t; sum_of_processing_times_bar = s t }

plain_same : (m n : plain.Node) → m.ect ≡ n.ect → m.sum_of_processing_times ≡ n.sum_of_processing_times → m ≡ n
plain_same m n p q = λ t. record { ect = p t; sum_of_processing_times = q t }

-- a node of the theta tree stored
abbrev pub pair : List ℕ → ℕ → ℕ → ℕ → List ℕ
pair ws k a b = set (set ws k a) (k + 1) b

pub plain_stored : (ws : List ℕ) (i : ℕ) (n : plain.Node) → i < NODES → length ws ≡ THETAWORDS
    → (plain_at (pair ws (2 * i) n.ect n.sum_of_processing_times) ≡ changed (plain_at ws) i n) × (length (pair ws (2 * i) n.ect n.sum_of_processing_times) ≡ THETAWORDS)
plain_stored ws i n h l = rw (add-one (2 * i)) (
  changed_is (plain_at ws) (plain_at out) i n
      (plain_same (plain_at out i) n (own (2 * i) 0 (omega arith) (omega arith)) (own (2 * i + 1) 1 (omega arith) (omega arith)))
      (λ j ne. plain_same (plain_at out j) (plain_at ws j) (other j (2 * j) ne (omega arith) (omega arith)) (other j (2 * j + 1) ne (omega arith) (omega arith))),
  length-sets ws (2 * i) vs ∙ l,
)
  where
    vs : List ℕ
    vs = n.ect ∷ n.sum_of_processing_times ∷ []

    out : List ℕ
    out = sets ws (2 * i) vs

    own : (x k : ℕ) → x ≡ 2 * i + k → k < 2 → get_or out x 0 ≡ get_or vs k 0
    own x k e q = own_word ws i vs refl x k e q (omega arith)

    other : (j x : ℕ) → (j ≡ i → ⊥) → 2 * j ≤ x → x < 2 * j + 2 → get_or out x 0 ≡ get_or ws x 0
    other = other_word ws i vs refl

-- a node of the theta-lambda tree stored
abbrev pub quad : List ℕ → ℕ → Node → List ℕ
quad ws k n = set (set (pair ws k n.ect n.sum_of_processing_times) (k + 2) n.ect_bar) (k + 3) n.sum_of_processing_times_bar

pub stored : (ws : List ℕ) (i : ℕ) (n : Node) → i < NODES → length ws ≡ TREEWORDS → (node_at (quad ws (4 * i) n) ≡ changed (node_at ws) i n) × (length (quad ws (4 * i) n) ≡ TREEWORDS)
stored ws i n h l = rw is (
  changed_is (node_at ws) (node_at out) i n
      (same (node_at out i) n (own (4 * i) 0 (omega arith) (omega arith)) (own (4 * i + 1) 1 (omega arith) (omega arith)) (own (4 * i + 2) 2 (omega arith) (omega arith))
      (own (4 * i + 3) 3 (omega arith) (omega arith)))
      (λ j ne. same (node_at out j) (node_at ws j) (other j (4 * j) ne (omega arith) (omega arith)) (other j (4 * j + 1) ne (omega arith) (omega arith))
      (other j (4 * j + 2) ne (omega arith) (omega arith)) (other j (4 * j + 3) ne (omega arith) (omega arith))),
  length-sets ws (4 * i) vs ∙ l,
)
  where
    vs : List ℕ
    vs = n.ect ∷ n.sum_of_processing_times ∷ n.ect_bar ∷ n.sum_of_processing_times_bar ∷ []

    out : List ℕ
    out = sets ws (4 * i) vs

    is : quad ws (4 * i) n ≡ sets ws (4 * i) (n.ect ∷ n.sum_of_processing_times ∷ n.ect_bar ∷ n.sum_of_processing_times_bar ∷ [])
    is =
        let two : 4 * i + 2 ≡ suc (suc (4 * i)) = omega arith in
        let three : 4 * i + 3 ≡ suc (suc (suc (4 * i))) = omega arith in
        rw (add-one (4 * i), two, three)

    own : (x k : ℕ) → x ≡ 4 * i + k → k < 4 → get_or out x 0 ≡ get_or vs k 0
    own x k e q = own_word ws i vs refl x k e q (omega arith)

    other : (j x : ℕ) → (j ≡ i → ⊥) → 4 * j ≤ x → x < 4 * j + 4 → get_or out x 0 ≡ get_or ws x 0
    other = other_word ws i vs refl

-- and its bars alone, where the words have its ect and sum already
pub bars_stored : (ws : List ℕ) (i : ℕ) (n : Node) → i < NODES → length ws ≡ TREEWORDS → white_part (node_at ws i) ≡ white_part n
    → (node_at (set (set ws (4 * i + 2) n.ect_bar) (4 * i + 3) n.sum_of_processing_times_bar) ≡ changed (node_at ws) i n)
    × (length (set (set ws (4 * i + 2) n.ect_bar) (4 * i + 3) n.sum_of_processing_times_bar) ≡ TREEWORDS)
bars_stored ws i n h l e = rw kept at (stored ws i n h l)
  where
    first : set ws (4 * i) n.ect ≡ ws
    first = ap (set ws (4 * i)) (sym (ap (λ (p : plain.Node). p.ect) e)) ∙ set-get_or ws (4 * i) 0

    kept : pair ws (4 * i) n.ect n.sum_of_processing_times ≡ ws
    kept = ap (λ (v : List ℕ). set v (4 * i + 1) n.sum_of_processing_times) first ∙ ap (set ws (4 * i + 1)) (sym (ap (λ (p : plain.Node). p.sum_of_processing_times) e))
        ∙ set-get_or ws (4 * i + 1) 0

-- words that are all 0 are empty nodes
pub blank_nodes : (i : ℕ) → node_at (replicate TREEWORDS 0) i ≡ empty_of
blank_nodes i = same (node_at (replicate TREEWORDS 0) i) empty_of (get_d_fresh 0 TREEWORDS (4 * i)) (get_d_fresh 0 TREEWORDS (4 * i + 1)) (get_d_fresh 0 TREEWORDS (4 * i + 2))
    (get_d_fresh 0 TREEWORDS (4 * i + 3))

pub plain_blank_nodes : (i : ℕ) → plain_at (replicate THETAWORDS 0) i ≡ plain_empty_of
plain_blank_nodes i = plain_same (plain_at (replicate THETAWORDS 0) i) plain_empty_of (get_d_fresh 0 THETAWORDS (2 * i)) (get_d_fresh 0 THETAWORDS (2 * i + 1))
