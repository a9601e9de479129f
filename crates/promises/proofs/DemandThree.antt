-- The open run's contract says every sentence of demand 3, and the check's that a passed check is right.
use mathlib.Core.Path.{◌≡◌, subst, ◌∙◌}
use mathlib.Core.Logic.{inl, inr, ⊎_elim}
use mathlib.Core.List.{List}
use mathlib.Core.Option.{Option}
use Prim.Native.Nat.{ℕ, ◌-◌}
use native.Mathlib.Omega.{arith}
use lib.IntN.{ℤ, pos}
use lib.ListN.{get_or}
use lib.Signed.{◌<ℤ◌}
use Rattle.integers.proofs.Ints.{ints}
use Rattle.scheduling.specs.Scheduling.{whole, Tasks, EdgeFindingBound, Atom}
use Rattle.post_words.specs.Posts.{bound_of}
use Rattle.records.specs.declared.record.DisjunctivePropagator.{DisjunctivePropagator}
use Rattle.checker.specs.declared.checker.Verdict.{Verdict}
use Rattle.checker.specs.Checked.{Checked}
use Rattle.runs.specs.declared.outcome.Outcome.{Outcome}
use Rattle.runs.specs.Outcomes.{value_of}
use Rattle.ranges.specs.declared.range.Range.{Range}
use Rattle.ranges.specs.Permitted.{FirstPermitted}
use Rattle.ranges.specs.Ranges.{earliests, any_range}
use Rattle.promises.specs.Promise.{tasks_lent, Reason, Promise}
use Rattle.promises.specs.RanLent.{lent_number, RanLent}
use Rattle.promises.specs.DemandThree.{PassedMeans, GoodReason, DemandThree, NothingAltered}
use Rattle.promises.proofs.Largest.{not_past}

pub passed_means : {ds premises consequent : List ℤ} {v : Verdict} → Checked ds premises consequent v → PassedMeans ds premises consequent v
passed_means checked = checked.sound

module _ (before : DisjunctivePropagator) (ranges : List Range) (answer : Outcome) (ranges' : List Range) (posts atoms : List ℤ) (p : Promise before ranges answer ranges' posts atoms) where
  abbrev J : Tasks whole
  J = tasks_lent before ranges

  abbrev made : ℕ
  made = value_of answer 0

  good : (words : List ℤ) (consequent : Option Atom) → Reason before ranges answer ranges' posts atoms words consequent → GoodReason before ranges words consequent
  good words consequent r = record { holds = r.holds; formula = r.formula; passes = λ v checked. checked.answer ∙ r.passes }

  said : DemandThree before ranges answer ranges' posts atoms
  said = record {
    outcomes = p.ends;
    exactly = (
      λ z. (λ Ω o. p.exactly.0 z (inl (Ω, o)), λ i b e. not_past (λ y. p.exactly.0 z (inr (i, b, e, y)))),
      λ f. p.exactly.1 (λ c. ⊎_elim (λ o. f.0 o.0 o.1) (λ o. let (i, b, e, y) = o in omega (ints, f.1 i b e, y)) c),
    );
    starts = λ z k q v l. let d = p.when_done z in let w = d.done.starts k q in
        let same : d.largest k ≡ v = omega (ints, l.bounds (d.largest k) w.holds, w.bounds v l.holds) in
        subst (λ (w : ℤ). FirstPermitted (get_or ranges k any_range) w (get_or (earliests ranges') k (pos 0))) same (d.first k q);
    raised = λ z k q. let d = (p.when_done z).done in (
      λ x. (let (b, e, y) = x in d.every k q (omega (ints, (d.starts k q).bounds b (inr e), y))),
      λ x. (let (j, small, is) = x in subst (λ (i : ℕ). (b : ℤ) × EdgeFindingBound J i b × (J.earliest i <ℤ b)) is (bound_of posts j, (d.at_largest j small).holds, d.raises j small)),
    );
    once = λ z. (p.when_done z).done.once;
    at_largest = λ z. (p.when_done z).done.at_largest;
    no_others = λ j q. (let a = p.every_post j q in (a.names, a.small, a.edge, a.raises));
    no_schedule = λ f. p.otherwise (λ z. ⊎_elim (λ e. omega arith) (λ e. omega arith) f);
    emptied = λ e. (made - 1, omega (arith, p.emptied e), (p.above (made - 1) (omega (arith, p.emptied e))).1 (e, omega (arith, p.emptied e)));
    -- a post stays in its range unless it is the last of an emptied run
    kept = λ j q n. p.stands j q (not_past (λ y. n ((p.above j q).0 y)));
    others = λ k q n. p.stays k q (λ j r h. n j r (λ y. omega (ints, (p.above j r).1 y, h)));
    posts_hold = λ j q. (p.every_post j q).holds;
    posts_hold_permitted = λ j q. (p.every_post j q).holds_permitted;
    read = λ j q. (p.every_post j q).read;
    reasons = λ j q. good _ _ (p.every_post j q).reason;
    inside = λ k. (p.overload k).inside;
    overload = λ k. good _ _ (p.overload k).reason;
  }

module _ {before : DisjunctivePropagator} {ranges : List Range} {posts atoms : List ℤ} {answer : Outcome} {changed : ℕ} {after : DisjunctivePropagator} {ranges' : List Range} {posts' atoms' : List ℤ}
    (ran : RanLent before ranges posts atoms answer changed after ranges' posts' atoms') where
  pub demand_three : lent_number before ranges posts atoms ≡ 0 → DemandThree before ranges answer ranges' posts' atoms'
  demand_three z = said before ranges answer ranges' posts' atoms' (ran.accepted z).promise

  pub nothing_altered : (lent_number before ranges posts atoms ≡ 0 → ⊥) → NothingAltered before ranges posts atoms after ranges' posts' atoms'
  nothing_altered n = let r = ran.refused n in λ i. (ran.same_record i, r.same_ranges i, r.same_posts i, r.same_atoms i)
