-- The nodes of the two trees: the value of each kind of leaf, and of a parent from its children. Moment 0 is the ect of no task.
use Rattle.std.specs.Prelude.{Bool, ◌&&◌, ℕ, ◌+◌, max, eqb}
use Rattle.trees.specs.declared.theta_lambda_node.Node.{Node}
use Rattle.trees.specs.declared.theta_node.Node as plain

-- a leaf with no task
abbrev pub empty_of : Node
empty_of = record { ect = 0; sum_of_processing_times = 0; ect_bar = 0; sum_of_processing_times_bar = 0 }

-- a leaf with a task of Theta
abbrev pub white_of : ℕ → ℕ → Node
white_of ect p = record { ect = ect; sum_of_processing_times = p; ect_bar = ect; sum_of_processing_times_bar = p }

-- a leaf with a task of Lambda
abbrev pub gray_of : ℕ → ℕ → Node
gray_of ect p = record { ect = 0; sum_of_processing_times = 0; ect_bar = ect; sum_of_processing_times_bar = p }

-- a parent from its children; the gray task of a bar is in the one or in the other
unfoldable pub join_of : Node → Node → Node
join_of l r =
    record {
      ect = max r.ect (l.ect + r.sum_of_processing_times);
      sum_of_processing_times = l.sum_of_processing_times + r.sum_of_processing_times;
      ect_bar = max r.ect_bar (max (l.ect + r.sum_of_processing_times_bar) (l.ect_bar + r.sum_of_processing_times));
      sum_of_processing_times_bar = max (l.sum_of_processing_times_bar + r.sum_of_processing_times)
          (l.sum_of_processing_times + r.sum_of_processing_times_bar);
    }

-- the node is `Node::empty()`
unfoldable pub is_empty : Node → Bool
is_empty n = eqb n.ect 0 && (eqb n.sum_of_processing_times 0 && (eqb n.ect_bar 0 && eqb n.sum_of_processing_times_bar 0))

-- a node of the theta tree with no task, a leaf with one, and a parent
abbrev pub plain_empty_of : plain.Node
plain_empty_of = record { ect = 0; sum_of_processing_times = 0 }

abbrev pub plain_of : ℕ → ℕ → plain.Node
plain_of ect p = record { ect = ect; sum_of_processing_times = p }

unfoldable pub plain_join_of : plain.Node → plain.Node → plain.Node
plain_join_of l r =
    record {
      ect = max r.ect (l.ect + r.sum_of_processing_times);
      sum_of_processing_times = l.sum_of_processing_times + r.sum_of_processing_times;
    }
