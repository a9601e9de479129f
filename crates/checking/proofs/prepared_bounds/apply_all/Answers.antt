use mathlib.Core.Path.{◌≡◌, refl, sym, ap, ◌∙◌, subst}
use mathlib.Core.Bool.{Bool, false}
use denote.Enum.Bare.{sameb}
use Rattle.checking.specs.contracts.atomic_constraint.Comparison.{the_type}
use Rattle.checking.specs.declared.atomic_constraint.Comparison.{Comparison}
use Rattle.checking.specs.declared.atomic_constraint.Comparison.TheVariants.{GreaterEqual, LessEqual, Equal, NotEqual}
use Rattle.integers.proofs.Bools.{clash}
use mathlib.Core.List.{List}
use Prim.Native.Nat.{ℕ, ◌+◌, ◌*◌, ◌<◌}
use native.Mathlib.Omega.{arith}
use lib.IntN.{ℤ}
use lib.ListN.{length, set}
use borrow.Author.Rules.{rules}
use mir.Syntax.{w32}
use Rattle.integers.proofs.Ints.{back_of}
use Rattle.scheduling.specs.Scheduling.{Atom}
use Rattle.checking.specs.Atoms.{kind_of, atom_of}
use Rattle.checking.specs.BoundWords.{applied_words, consistent_words, words_at, HeldWords}
use Rattle.checking.proofs.HeldWords.{none_held, held_contradiction, held_next}
use Rattle.checking.proofs.Remaining.{Remaining, threes, words_fit, all_remain, none_remains, Turn, turn}
use Rattle.checking.specs.declared.bound_words.BoundWords.{BoundWords}
use Rattle.checking.specs.declared.variable_state.VariableState.{VariableState}
use Rattle.checking.specs.declared.variable_state.Applied.{Applied}
use Rattle.checking.specs.Domains.{applied}
use Rattle.checking.specs.States.{domain_at, put, empty_state}
use Rattle.checking.proofs.prepared_bounds.apply_all.Goals.{After-apply-narrowed, After-given_at-atom, After-is_consistent, In-loop-k}
use Rattle.checking.proofs.prepared_bounds.apply_all.Goals as goal

pub overflow_add-length : goal.overflow_add-length
overflow_add-length c = omega (arith, words_fit c.args.premises.now c.args.consequent.now c.requires.0)

pub loop-k-init : goal.loop-k-init
loop-k-init c =
    let a = c.args in
    (empty_state, none_held a.words.now c.requires.1, all_remain a.premises.now a.consequent.now c.requires.0)

-- the lists given, at a turn
abbrev ps : In-loop-k → List ℤ
ps c = c.args.premises.now

abbrev cs : In-loop-k → List ℤ
cs c = c.args.consequent.now

inside : (c : In-loop-k) → 3 * c.loop-k.k < length (ps c) + length (cs c)
inside c = omega arith

-- the atom that was read
module _ (c : After-given_at-atom) where
  abbrev atom : Atom
  atom = atom_of c.given_at-atom.result

  next : let l = c.loop-k in Turn (ps c.before) (cs c.before) (3 * l.k) l.invariant.0 atom
  next = let l = c.loop-k in turn (ps c.before) (cs c.before) (3 * l.k) _ l.invariant.2 (inside c.before) atom c.given_at-atom.ensures

-- a comparison that is not ≠ makes no hole
makes_none : (k : Comparison) → sameb the_type k NotEqual ≡ false → kind_of k < 3
makes_none GreaterEqual e = omega arith
makes_none LessEqual e = omega arith
makes_none Equal e = omega arith
makes_none NotEqual e = clash refl e

-- where the atom was applied: the atom, the state that the words held, and the words that the atom makes of them
module _ (c : After-apply-narrowed) where
  abbrev s : VariableState
  s = c.loop-k.invariant.0

  abbrev a : Atom
  a = atom (goal.at.After-apply-narrowed c).After-given_at-atom

  kind : a.kind < 3
  kind = makes_none c.given_at-atom.result.comparison (sym c.eq.ensures ∙ c.if-eq.false)

  abbrev made : BoundWords
  made = applied_words (words_at c.loop-k.words a.variable) a.kind a.value

  said : c.apply-narrowed.result ≡ made
  said =
      let b = c.given_at-atom.result in
      c.apply-narrowed.ensures ∙ ap (applied_words (words_at c.loop-k.words b.identifier) (kind_of b.comparison)) (back_of w32 b.value (search rules))

answered : (c : After-is_consistent) {t : Bool} → c.is_consistent.result ≡ t → consistent_words (made (goal.at.After-is_consistent c).After-apply-narrowed) ≡ t
answered c e = ap consistent_words (sym (said (goal.at.After-is_consistent c).After-apply-narrowed)) ∙ sym c.is_consistent.ensures ∙ e

pub returns-then-not-is_consistent : goal.returns-then-not-is_consistent
returns-then-not-is_consistent c =
    let b = (goal.at.returns-then-not-is_consistent c).After-apply-narrowed in
    let k = c.loop-k in
    let n = next (goal.at.returns-then-not-is_consistent c).After-given_at-atom in
    ap (λ (p : Applied). p.answer) (n.contradicts (a b).variable
    (held_contradiction (s b) k.words k.invariant.1 (a b) n.known (kind b) n.value (answered (goal.at.returns-then-not-is_consistent c).After-is_consistent c.if-not-is_consistent.true)))

pub loop-k-preserved : goal.loop-k-preserved
loop-k-preserved c =
    let b = (goal.at.loop-k-preserved c).After-apply-narrowed in
    let k = c.loop-k in
    let n = next (goal.at.loop-k-preserved c).After-given_at-atom in
    let (step, held) = held_next (s b) k.words k.invariant.1 (a b) n.known (kind b) n.value (answered (goal.at.loop-k-preserved c).After-is_consistent c.if-not-is_consistent.false) in
    let on : 3 * k.k + 3 ≡ 3 * (k.k + 1) = omega arith in
    let t : VariableState = put (s b) (a b).variable (applied (domain_at (s b) (a b).variable) (a b).kind (a b).value) in
    (t, subst (λ (w : BoundWords). HeldWords t (set k.words (a b).variable w)) (sym (said b)) held, subst (λ (j : ℕ). Remaining c.args.premises.now c.args.consequent.now j t) on (n.consistent t step))

pub returns : goal.returns
returns c =
    let k = c.loop-k in
    let a = c.args in
    let e = none_remains a.premises.now a.consequent.now (3 * k.k) k.invariant.0 k.invariant.2 (omega (arith, threes a.premises.now a.consequent.now c.requires.0)) in
    (ap (λ (p : Applied). p.answer) e, subst (λ (p : Applied). HeldWords p.state k.words) (sym e) k.invariant.1)

pub given_at-atom-requires : goal.given_at-atom-requires
given_at-atom-requires c = (inside c, c.loop-k.invariant.2.right)

pub offset_bounds-words-x : goal.offset_bounds-words-x
offset_bounds-words-x c = omega (arith, (next (goal.at.offset_bounds-words-x c).After-given_at-atom).known)

pub bounds-words-x : goal.bounds-words-x
bounds-words-x c = (next (goal.at.bounds-words-x c).After-given_at-atom).known

pub offset_bounds-words-x-in-loop-k : goal.offset_bounds-words-x-in-loop-k
offset_bounds-words-x-in-loop-k c = omega (arith, (next (goal.at.offset_bounds-words-x-in-loop-k c).After-given_at-atom).known)

pub bounds-words-x-in-loop-k : goal.bounds-words-x-in-loop-k
bounds-words-x-in-loop-k c = (next (goal.at.bounds-words-x-in-loop-k c).After-given_at-atom).known
