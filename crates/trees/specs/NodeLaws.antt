-- The nodes of both trees are additive: a join of fair nodes is fair, and their sizes add up.
use Rattle.std.specs.Prelude.{◌≡◌}
use Rattle.std.proofs.Common.{arith}
use Rattle.trees.specs.declared.theta_lambda_node.Node.{Node}
use Rattle.trees.specs.Nodes.{join_of, plain_join_of}
use Rattle.trees.specs.NodeBounds.{Fair, size, PlainFair, plain_size, Additive}

join_blank : (l r : Node) → Fair l → Fair r → (join_of l r).sum_of_processing_times_bar ≡ 0 → ((join_of l r).ect ≡ 0) × ((join_of l r).ect_bar ≡ 0)
unfolding join_of
join_blank l r f g z =
    let no_left : l.sum_of_processing_times_bar ≡ 0 = omega arith in
    let no_right : r.sum_of_processing_times_bar ≡ 0 = omega arith in
    let left = f.blank no_left in
    let right = g.blank no_right in
    (omega arith, omega arith)

pub additive : Additive size Fair join_of
unfolding join_of
additive = record {
  adds = λ l r f g. omega arith;
  keeps = λ l r f g. record { ect = omega arith; ect_bar_of = omega arith; sum = omega arith; blank = join_blank l r f g };
}

pub plain_additive : Additive plain_size PlainFair plain_join_of
unfolding plain_join_of
plain_additive = record {
  adds = λ l r f g. omega arith;
  keeps = λ l r f g. record { ect = omega arith };
}
