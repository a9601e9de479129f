-- The two tests in their order; then the bounds are those of the prepared state either way: of its words, or of its domains.
use mathlib.Core.Path.{◌≡◌, refl, sym, ap, subst, ◌∙◌}
use native.Mathlib.Omega.{arith}
use Rattle.integers.specs.declared.refused.Refusal.TheVariants as refusal
use Rattle.checking.specs.declared.prepared_bounds.OnWords.{OnWords}
use Rattle.checking.specs.declared.prepared_bounds.OnWords.TheVariants as on_words
use Rattle.checking.specs.declared.variable_state.Applied.{Applied}
use Rattle.checking.specs.declared.variable_state.Application.TheVariants.{Consistent, Contradiction, Refused}
use Rattle.std.proofs.Common.{rules, tests}
use Rattle.checking.specs.BoundWords.{AppliedToWords, bounds_of_task_in_words, words_at}
use Rattle.checking.specs.States.{Applicable, prepared}
use Rattle.checking.proofs.HeldWords.{held_bounds}
use Rattle.checking.proofs.Meaning.{differ}
use Rattle.checking.proofs.Remaining.{prepared_many, prepared_wrong}
use Rattle.checking.proofs.prepared_bounds.prepare_bounds.Goals.{After-apply_all, Else-not-lists_are_accepted}
use Rattle.checking.proofs.prepared_bounds.prepare_bounds.Goals as goal

pub returns-then-premises : goal.returns-then-premises
returns-then-premises c =
    let a = c.args in
    record { answer = ap (λ (r : Applied). r.answer) (sym (prepared_many a.premises.now a.consequent.now c.if-premises.true)); bounds = λ e. differ (Refused refusal.Premises) Consistent e (omega arith) }

pub returns-then-not-lists_are_accepted : goal.returns-then-not-lists_are_accepted
returns-then-not-lists_are_accepted c =
    let a = c.args in
    let wrong = sym c.lists_are_accepted.ensures ∙ c.if-not-lists_are_accepted.true in
    record { answer = ap (λ (r : Applied). r.answer) (sym (prepared_wrong a.premises.now a.consequent.now (omega arith) wrong)); bounds = λ e. differ (Refused refusal.Atoms) Consistent e (omega arith) }

applicable : (c : Else-not-lists_are_accepted) → Applicable c.args.premises.now c.args.consequent.now
applicable c = record { few = omega arith; right = sym c.lists_are_accepted.ensures ∙ c.if-not-lists_are_accepted.false }

pub prepare_domains-requires : goal.prepare_domains-requires
prepare_domains-requires c =
    let pre = c.requires in
    (pre.0, pre.1, applicable (goal.at.prepare_domains-requires c).Else-not-lists_are_accepted)

-- what the words answered, where the answer is known
answered : (c : After-apply_all) (r : OnWords) → c.apply_all.result ≡ r → let a = c.args in
    AppliedToWords (prepared a.premises.now a.consequent.now) c.apply_all.new.words r
answered c r e =
    let a = c.args in
    subst (λ (r : OnWords). AppliedToWords (prepared a.premises.now a.consequent.now) c.apply_all.new.words r) e c.apply_all.ensures

pub returns-in-Consistent : goal.returns-in-Consistent
returns-in-Consistent c =
    let (answer, held) = answered (goal.at.returns-in-Consistent c).After-apply_all on_words.Consistent c.in-Consistent.is in
    record { answer = sym answer; bounds = λ _. c.fill.ensures (λ k. bounds_of_task_in_words (words_at c.apply_all.new.words k)) (λ k r h q. search (rules, tests)) ∙ held_bounds _ _ _ c.requires.0 held }

pub returns-in-Contradiction : goal.returns-in-Contradiction
returns-in-Contradiction c =
    record { answer = sym (answered (goal.at.returns-in-Contradiction c).After-apply_all (on_words.Contradiction c.in-Contradiction.x) c.in-Contradiction.is); bounds = λ e. differ (Contradiction c.in-Contradiction.x) Consistent e (omega arith) }

pub apply_all-requires : goal.apply_all-requires
apply_all-requires c = (applicable (goal.at.apply_all-requires c).Else-not-lists_are_accepted, refl)
