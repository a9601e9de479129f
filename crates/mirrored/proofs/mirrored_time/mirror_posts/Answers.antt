use mathlib.Core.Path.{refl, sym, ap, ◌∙◌}
use mathlib.Core.List.{List, ◌++◌}
use native.Mathlib.Omega.{arith}
use Rattle.runs.specs.Traces.{Post}
use Rattle.runs.specs.Words.{post_words}
use Rattle.runs.proofs.Mirrored.{posts_begin}
use Rattle.mirrored.proofs.MirroredLoops.{post_mirrorable, post_mirrored}
use borrow.Author.Rules.{rules}
use Rattle.mirrored.proofs.mirrored_time.mirror_posts.Goals as goal

pub loop-j-init : goal.loop-j-init
loop-j-init c = record { mirrorable = c.requires; mirrored = λ h. h.words_are ∙ ap (λ (l : List Post). post_words 0 l ++ h.tail) (sym (posts_begin h.ds h.posts)); size = refl }

pub mirror_word-requires : goal.mirror_word-requires
mirror_word-requires c =
    let l = c.loop-j in
    let v = l.invariant in
    rw (c.task_at.ensures, c.bound_at.ensures) (post_mirrorable v.mirrorable l.posts l.j (omega arith) (v.mirrored v.mirrorable))

pub loop-j-preserved : goal.loop-j-preserved
loop-j-preserved c =
    let l = c.loop-j in
    let v = l.invariant in
    record {
      mirrorable = v.mirrorable;
      mirrored = λ h. post_mirrored h l.posts l.j (omega arith) (v.mirrored h) c.task_at.ensures c.bound_at.ensures c.mirror_word.ensures;
      size = search rules;
    }
