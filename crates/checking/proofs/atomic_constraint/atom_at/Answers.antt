-- Right words from place i on begin with three that are an atom.
use borrow.Author.Rules.{rules}
use mathlib.Core.Path.{◌∙◌}
use Prim.Native.Nat.{◌+◌}
use lib.IntN.{pos}
use lib.ListN.{get_or}
use Rattle.checking.proofs.Atoms.{words_at}
use Rattle.checking.proofs.ReadWords.{read_right, read_atom}
use Rattle.checking.proofs.atomic_constraint.atom_at.Goals as goal

pub new-requires : goal.new-requires
new-requires c =
    read_right (record { sfits = search rules }) (record { sfits = search rules }) (record { sfits = search rules })
    ∙ (words_at c.args.words.now c.args.i c.requires.0 c.requires.1).0

pub returns : goal.returns
returns c =
    let a = c.args in
    let words = a.words.now in
    c.new.ensures ∙ read_atom {x = get_or words a.i (pos 0)} {k = get_or words (a.i + 1) (pos 0)} (record { sfits = search rules })
    (record { sfits = search rules }) (record { sfits = search rules })
