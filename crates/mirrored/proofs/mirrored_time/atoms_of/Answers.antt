-- Without an overload the atoms are those of the posts' reasons.
use mathlib.Core.Path.{sym, ◌∙◌}
use Rattle.mirrored.proofs.MirroredLoops.{reasons_countable, posts_alone}
use Rattle.mirrored.proofs.mirrored_time.atoms_of.Goals as goal

pub returns-in_default : goal.returns-in_default
returns-in_default c = λ a. c.atoms_of_posts.ensures (reasons_countable a c.posts_of.result (sym c.posts_of.ensures)) ∙ posts_alone a c.in_default.not-Overload
