-- What keeps the numbers of a node within 32 bits: earliest starts up to LATEST, and durations that sum to at most DURATIONS.
use Rattle.std.specs.Prelude.{◌≡◌, ℕ, ◌+◌, ◌≤◌}
use Rattle.integers.specs.Limits.{DURATIONS, VALUE, HOLES}
use Rattle.integers.specs.Moments.{zero_at}
use Rattle.trees.specs.declared.theta_lambda_node.Node.{Node}
use Rattle.trees.specs.declared.theta_node.Node as plain

-- the latest moment of an earliest start: an atom's value, past a chain of holes
abbrev pub LATEST : ℕ
LATEST = zero_at + VALUE + HOLES + 1

-- An ect is at most the latest earliest start and the sum, the bars are at least the plain values, and a node without a sum bar has no task at all.
pub record Fair (n : Node) : Type 0 where
  pub ect : n.ect ≤ LATEST + n.sum_of_processing_times
  pub ect_bar_of : n.ect_bar ≤ LATEST + n.sum_of_processing_times_bar
  pub sum : n.sum_of_processing_times ≤ n.sum_of_processing_times_bar
  pub blank : n.sum_of_processing_times_bar ≡ 0 → (n.ect ≡ 0) × (n.ect_bar ≡ 0)

abbrev pub size : Node → ℕ
size n = n.sum_of_processing_times_bar

pub record PlainFair (n : plain.Node) : Type 0 where
  pub ect : n.ect ≤ LATEST + n.sum_of_processing_times

abbrev pub plain_size : plain.Node → ℕ
plain_size n = n.sum_of_processing_times

module _ {A : Type 0} (size : A → ℕ) (Fair : A → Type 0) where
  -- A join keeps nodes fair, and is at most as large as its children together.
  pub record Additive (join : A → A → A) : Type 0 where
    pub adds : (l r : A) → Fair l → Fair r → size (join l r) ≤ size l + size r
    pub keeps : (l r : A) → Fair l → Fair r → Fair (join l r)

  -- a node whose numbers can be added
  pub record Fits (n : A) : Type 0 where
    pub fair : Fair n
    pub small : size n ≤ DURATIONS
