-- Nodes as words of an array: four to a node of the theta-lambda tree, two to one of the theta tree.
use Rattle.std.specs.Prelude.{List, ℕ, ◌+◌, ◌*◌, get_or}
use Rattle.trees.specs.declared.theta_lambda_node.Node.{Node}
use Rattle.trees.specs.declared.theta_node.Node as plain

-- the i-th node of the words
abbrev pub node_at : List ℕ → ℕ → Node
node_at ws i = record {
  ect = get_or ws (4 * i) 0;
  sum_of_processing_times = get_or ws (4 * i + 1) 0;
  ect_bar = get_or ws (4 * i + 2) 0;
  sum_of_processing_times_bar = get_or ws (4 * i + 3) 0;
}

abbrev pub plain_at : List ℕ → ℕ → plain.Node
plain_at ws i = record { ect = get_or ws (2 * i) 0; sum_of_processing_times = get_or ws (2 * i + 1) 0 }
