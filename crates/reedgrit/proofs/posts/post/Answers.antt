-- A post whose number is 0 has its words inside the slices.
use mathlib.Core.Path.{sym, ◌∙◌}
use Rattle.post_words.proofs.PostReader.{readable}
use Rattle.reedgrit.proofs.posts.post.Goals as goal

pub accepted_post-requires : goal.accepted_post-requires
accepted_post-requires c =
    let r = (readable c.args.posts.now c.args.atoms.now c.args.post_count c.args.index).0 (sym c.post_number-number.ensures ∙ c.if-number-ne0.false) in
    (r.inside, r.from, r.many)
