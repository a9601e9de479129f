use mathlib.Core.Path.{◌≡◌, sym, ap, ◌∙◌, subst}
use mathlib.Core.List.{List}
use Prim.Native.Nat.{ℕ, ◌+◌, ◌*◌, ◌<◌}
use native.Mathlib.Omega.{arith}
use lib.IntN.{ℤ}
use lib.ListN.{length, replicate}
use borrow.Author.Rules.{rules}
use mir.Syntax.{w32}
use Rattle.integers.specs.Limits.{VARIABLES}
use Rattle.integers.proofs.Ints.{back_of}
use Rattle.scheduling.specs.Scheduling.{Atom}
use Rattle.checking.specs.Atoms.{kind_of, atom_of}
use Rattle.integers.specs.declared.refused.Refusal.TheVariants as refusal
use Rattle.checking.specs.declared.variable_state.Applied.{Applied}
use Rattle.checking.specs.Domains.{reduced}
use Rattle.checking.specs.declared.variable_state.Application.TheVariants.{Refused}
use Rattle.checking.specs.declared.variable_state.VariableState.{VariableState}
use Rattle.checking.specs.States.{AcceptedState, put, domain_at, empty_state}
use Rattle.checking.proofs.Remaining.{Remaining, threes, words_fit, all_remain, none_remains, Turn, turn}
use Rattle.checking.proofs.States.{empty_accepted, stepped_accepted, when_narrowed, when_emptied, when_full}
use Rattle.checking.proofs.variable_state.VariableState.apply_all.Goals.{After-apply-reduced, After-given_at-atom, In-loop-k}
use Rattle.checking.proofs.variable_state.VariableState.apply_all.Goals as goal

pub overflow_add-words : goal.overflow_add-words
overflow_add-words c = omega (arith, words_fit c.args.premises.now c.args.consequent.now c.requires)

pub loop-k-init : goal.loop-k-init
loop-k-init c =
    let ps = c.args.premises.now in
    let cs = c.args.consequent.now in
    let is_empty : record { domains = replicate VARIABLES c.all_integers-domains.result } ≡ empty_state = (λ i. record { domains = replicate VARIABLES (c.all_integers-domains.ensures i) }) in
    (subst AcceptedState (sym is_empty) empty_accepted, subst (Remaining ps cs 0) (sym is_empty) (all_remain ps cs c.requires))

-- the lists given, at a turn
abbrev ps : In-loop-k → List ℤ
ps c = c.args.premises.now

abbrev cs : In-loop-k → List ℤ
cs c = c.args.consequent.now

inside : (c : In-loop-k) → 3 * c.loop-k.k < length (ps c) + length (cs c)
inside c = omega arith

-- the atom that was read
module _ (c : After-given_at-atom) where
  abbrev atom : Atom
  atom = atom_of c.given_at-atom.result

  next : let l = c.loop-k in Turn (ps c.before) (cs c.before) (3 * l.k) (record { domains = l.domains }) atom
  next = let l = c.loop-k in turn (ps c.before) (cs c.before) (3 * l.k) _ l.invariant.1 (inside c.before) atom c.given_at-atom.ensures

pub apply-reduced-requires : goal.apply-reduced-requires
apply-reduced-requires c =
    let a = c.given_at-atom.result in
    let accepted = c.loop-k.invariant.0 in
    ((accepted.each a.identifier (next (goal.at.apply-reduced-requires c).After-given_at-atom).known).tight, rw (back_of w32 a.value (search rules)) (next (goal.at.apply-reduced-requires c).After-given_at-atom).value)

-- where the atom was applied: the atom, the state that it is applied to, and what the call says of them
module _ (c : After-apply-reduced) where
  abbrev s : VariableState
  s = record { domains = c.loop-k.domains }

  abbrev a : Atom
  a = atom (goal.at.After-apply-reduced c).After-given_at-atom

  said : c.apply-reduced.result ≡ reduced (domain_at s a.variable) a.kind a.value
  said =
      let b = c.given_at-atom.result in
      c.apply-reduced.ensures ∙ ap (reduced (domain_at s b.identifier) (kind_of b.comparison)) (back_of w32 b.value (search rules))

pub returns-in-Emptied : goal.returns-in-Emptied
returns-in-Emptied c =
    let b = (goal.at.returns-in-Emptied c).After-apply-reduced in
    let n = next (goal.at.returns-in-Emptied c).After-given_at-atom in
    sym (n.contradicts (a b).variable (when_emptied (s b) (a b) c.apply-reduced.result (said b) c.in-Emptied.is))

pub returns-in-Full : goal.returns-in-Full
returns-in-Full c =
    let b = (goal.at.returns-in-Full c).After-apply-reduced in
    let n = next (goal.at.returns-in-Full c).After-given_at-atom in
    (λ i. record { answer = Refused refusal.Holes; state = c.default.ensures.0 i })
    ∙ sym (n.refused refusal.Holes (when_full (s b) (a b) c.apply-reduced.result (said b) c.in-Full.is))

pub loop-k-preserved : goal.loop-k-preserved
loop-k-preserved c =
    let b = (goal.at.loop-k-preserved c).After-apply-reduced in
    let n = next (goal.at.loop-k-preserved c).After-given_at-atom in
    let step = when_narrowed (s b) (a b) c.apply-reduced.result (said b) c.in-Narrowed.is in
    let on : 3 * c.loop-k.k + 3 ≡ 3 * (c.loop-k.k + 1) = omega arith in
    let accepted = stepped_accepted (s b) (a b) c.loop-k.invariant.0 n.known in
    (subst (λ (p : Applied). AcceptedState p.state) step accepted, subst (λ (j : ℕ). Remaining c.args.premises.now c.args.consequent.now j (put (s b) (a b).variable c.apply-reduced.result.domain)) on (n.consistent _ step))

pub returns : goal.returns
returns c =
    let l = c.loop-k in
    let a = c.args in
    sym (none_remains a.premises.now a.consequent.now (3 * l.k) _ l.invariant.1 (omega (arith, threes a.premises.now a.consequent.now c.requires)))

pub given_at-atom-requires : goal.given_at-atom-requires
given_at-atom-requires c = (inside c, c.loop-k.invariant.1.right)

pub offset_bounds-domains-x : goal.offset_bounds-domains-x
offset_bounds-domains-x c = omega (arith, (next (goal.at.offset_bounds-domains-x c).After-given_at-atom).known)

pub bounds-domains-x : goal.bounds-domains-x
bounds-domains-x c = (next (goal.at.bounds-domains-x c).After-given_at-atom).known

pub offset_bounds-domains-x-in-Narrowed : goal.offset_bounds-domains-x-in-Narrowed
offset_bounds-domains-x-in-Narrowed c = omega (arith, (next (goal.at.offset_bounds-domains-x-in-Narrowed c).After-given_at-atom).known)

pub bounds-domains-x-in-Narrowed : goal.bounds-domains-x-in-Narrowed
bounds-domains-x-in-Narrowed c = (next (goal.at.bounds-domains-x-in-Narrowed c).After-given_at-atom).known
