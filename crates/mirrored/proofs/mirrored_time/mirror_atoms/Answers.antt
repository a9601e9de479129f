use mathlib.Core.Path.{refl, sym, ap, ◌∙◌}
use mathlib.Core.List.{List, ◌++◌}
use native.Mathlib.Omega.{arith}
use Rattle.scheduling.specs.Scheduling.{Atom}
use Rattle.scheduling.specs.Words.{atom_words}
use Rattle.runs.proofs.Mirrored.{atoms_begin}
use Rattle.mirrored.proofs.MirroredLoops.{kind_mirrorable, value_mirrorable, atom_mirrored}
use borrow.Author.Rules.{rules}
use Rattle.mirrored.proofs.mirrored_time.mirror_atoms.Goals as goal

pub loop-k-init : goal.loop-k-init
loop-k-init c = record { mirrorable = c.requires; mirrored = λ h. h.words_are ∙ ap (λ (l : List Atom). atom_words l ++ h.tail) (sym (atoms_begin h.ds h.atoms)); size = refl }

pub mirror_kind-requires : goal.mirror_kind-requires
mirror_kind-requires c = let l = c.loop-k in let v = l.invariant in
    rw c.kind_at.ensures (kind_mirrorable v.mirrorable l.atoms l.k (omega arith) (v.mirrored v.mirrorable))

pub mirror_word-requires : goal.mirror_word-requires
mirror_word-requires c =
    let l = c.loop-k in
    let v = l.invariant in
    rw (c.variable_at.ensures, c.value_at.ensures)
    (value_mirrorable v.mirrorable l.atoms l.k (omega arith) (v.mirrored v.mirrorable) c.kind_at.ensures c.mirror_kind.ensures)

pub loop-k-preserved : goal.loop-k-preserved
loop-k-preserved c =
    let l = c.loop-k in
    let v = l.invariant in
    record {
      mirrorable = v.mirrorable;
      mirrored = λ h. atom_mirrored h l.atoms l.k (omega arith) (v.mirrored h) c.kind_at.ensures c.mirror_kind.ensures c.variable_at.ensures
          c.value_at.ensures c.mirror_word.ensures;
      size = search rules;
    }
