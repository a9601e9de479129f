-- The outcome and the posts say how many words there are; those of the posts are mirrored first, then those of the atoms.
use Rattle.mirrored.proofs.MirroredTrace.{atoms_countable, atoms_mirrorable, post_count, words_mirrored}
use Rattle.mirrored.proofs.mirrored_time.mirror_words.Goals as goal

pub mirror_atoms-requires : goal.mirror_atoms-requires
mirror_atoms-requires c =
    atoms_mirrorable c.requires c.atoms_of-many.result (c.atoms_of-many.ensures (atoms_countable c.requires))

pub returns : goal.returns
returns c =
    let o = c.posts_of-count in
    let t = c.atoms_of-many in
    λ e. words_mirrored e o.result t.result (post_count e o.result o.ensures) (t.ensures (atoms_countable e)) c.mirror_posts.ensures
    c.mirror_atoms.ensures
