-- The domain's own answer decides: it is stored, or the state is returned unchanged.
use mathlib.Core.Path.{◌≡◌, sym, ap, ◌∙◌}
use borrow.Author.Rules.{rules}
use mir.Syntax.{w32}
use Rattle.integers.proofs.Ints.{back_of}
use Rattle.checking.specs.Atoms.{kind_of, atom_of}
use Rattle.checking.specs.Domains.{reduced}
use Rattle.checking.specs.States.{domain_at}
use Rattle.checking.proofs.States.{when_narrowed, when_emptied, when_full}
use Rattle.checking.proofs.variable_state.VariableState.apply_atom.Goals.{After-apply-reduced}
use Rattle.checking.proofs.variable_state.VariableState.apply_atom.Goals as goal

pub apply-reduced-requires : goal.apply-reduced-requires
apply-reduced-requires c =
    ((c.requires.0.each c.args.atom.identifier c.requires.1.0).tight, rw (back_of w32 c.args.atom.value (search rules)) c.requires.1.1)

-- what the call says, of the atom's own value
said : (c : After-apply-reduced) → let a = c.args in c.apply-reduced.result ≡ reduced (domain_at a.self a.atom.identifier) (kind_of a.atom.comparison) a.atom.value
said c =
    let a = c.args in
    c.apply-reduced.ensures ∙ ap (reduced (domain_at a.self a.atom.identifier) (kind_of a.atom.comparison)) (back_of w32 a.atom.value (search rules))

pub returns-in-Narrowed : goal.returns-in-Narrowed
returns-in-Narrowed c =
    let r = c.apply-reduced.result in
    sym (when_narrowed c.args.self (atom_of c.args.atom) r (said (goal.at.returns-in-Narrowed c).After-apply-reduced) c.in-Narrowed.is)

pub returns-in-Emptied : goal.returns-in-Emptied
returns-in-Emptied c =
    sym (when_emptied c.args.self (atom_of c.args.atom) c.apply-reduced.result (said (goal.at.returns-in-Emptied c).After-apply-reduced) c.in-Emptied.is)

pub returns-in-Full : goal.returns-in-Full
returns-in-Full c =
    sym (when_full c.args.self (atom_of c.args.atom) c.apply-reduced.result (said (goal.at.returns-in-Full c).After-apply-reduced) c.in-Full.is)
