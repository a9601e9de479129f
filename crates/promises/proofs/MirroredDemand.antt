-- The open mirrored pass's contract says every sentence of demand 3, turned to latest starts.
use mathlib.Core.Path.{◌≡◌, subst, ◌∙◌}
use mathlib.Core.Logic.{inl, inr, ⊎_elim}
use mathlib.Core.List.{List}
use mathlib.Core.Option.{Option}
use Prim.Native.Nat.{ℕ, ◌-◌}
use native.Mathlib.Omega.{arith}
use lib.IntN.{ℤ, pos}
use lib.ListN.{get_or}
use lib.Signed.{◌<ℤ◌}
use Rattle.integers.proofs.Ints.{ints}
use Rattle.scheduling.specs.Scheduling.{whole, Tasks, Atom}
use Rattle.scheduling.specs.MirroredTime.{MirroredBound}
use Rattle.post_words.specs.Posts.{bound_of}
use Rattle.records.specs.declared.record.DisjunctivePropagator.{DisjunctivePropagator}
use Rattle.checker.specs.declared.checker.Verdict.{Verdict}
use Rattle.checker.specs.Checked.{CheckedMirrored}
use Rattle.runs.specs.declared.outcome.Outcome.{Outcome}
use Rattle.runs.specs.Outcomes.{value_of}
use Rattle.ranges.specs.declared.range.Range.{Range}
use Rattle.ranges.specs.Permitted.{LastPermitted}
use Rattle.ranges.specs.Ranges.{latests, any_range}
use Rattle.promises.specs.Promise.{tasks_lent}
use Rattle.promises.specs.MirroredPromise.{MirroredReason, MirroredPromise}
use Rattle.promises.specs.RanLent.{lent_number}
use Rattle.promises.specs.RanMirroredLent.{RanMirroredLent}
use Rattle.promises.specs.DemandThree.{PassedMeans, NothingAltered}
use Rattle.promises.specs.MirroredDemand.{GoodMirroredReason, MirroredDemand}
use Rattle.promises.proofs.Largest.{not_past}

pub mirrored_passed_means : {ds premises consequent : List ℤ} {v : Verdict} → CheckedMirrored ds premises consequent v → PassedMeans ds premises consequent v
mirrored_passed_means checked = checked.sound

module _ (before : DisjunctivePropagator) (ranges : List Range) (answer : Outcome) (ranges' : List Range) (posts atoms : List ℤ) (p : MirroredPromise before ranges answer ranges' posts atoms) where
  abbrev J : Tasks whole
  J = tasks_lent before ranges

  abbrev made : ℕ
  made = value_of answer 0

  good : (words : List ℤ) (consequent : Option Atom) → MirroredReason before ranges answer ranges' posts atoms words consequent → GoodMirroredReason before ranges words consequent
  good words consequent r = record { holds = r.holds; formula = r.formula; passes = λ v checked. checked.answer ∙ r.passes }

  said : MirroredDemand before ranges answer ranges' posts atoms
  said = record {
    outcomes = p.ends;
    exactly = (
      λ z. (λ Ω o. p.exactly.0 z (inl (Ω, o)), λ i b e. not_past (λ y. p.exactly.0 z (inr (i, b, e, y)))),
      λ f. p.exactly.1 (λ c. ⊎_elim (λ o. f.0 o.0 o.1) (λ o. let (i, b, e, y) = o in omega (ints, f.1 i b e, y)) c),
    );
    starts = λ z k q v l. let d = p.when_done z in let w = d.done.starts k q in
        let same : d.smallest k ≡ v = omega (ints, l.bounds (d.smallest k) w.holds, w.bounds v l.holds) in
        subst (λ (w : ℤ). LastPermitted (get_or ranges k any_range) w (get_or (latests ranges') k (pos 0))) same (d.last k q);
    lowered = λ z k q. let d = (p.when_done z).done in (
      λ x. (let (b, e, y) = x in d.every k q (omega (ints, (d.starts k q).bounds b (inr e), y))),
      λ x. (let (j, small, is) = x in subst (λ (i : ℕ). (b : ℤ) × MirroredBound J i b × (b <ℤ J.latest i)) is (bound_of posts j, (d.at_smallest j small).holds, d.lowers j small)),
    );
    once = λ z. (p.when_done z).done.once;
    at_smallest = λ z. (p.when_done z).done.at_smallest;
    no_others = λ j q. (let a = p.every_post j q in (a.names, a.small, a.rule, a.lowers));
    no_schedule = λ f. p.otherwise (λ z. ⊎_elim (λ e. omega arith) (λ e. omega arith) f);
    emptied = λ e. (made - 1, omega (arith, p.emptied e), (p.below (made - 1) (omega (arith, p.emptied e))).1 (e, omega (arith, p.emptied e)));
    -- a post stays in its range unless it is the last of an emptied pass
    kept = λ j q n. p.stands j q (not_past (λ y. n ((p.below j q).0 y)));
    others = λ k q n. p.stays k q (λ j r h. n j r (λ y. omega (ints, (p.below j r).1 y, h)));
    posts_hold = λ j q. (p.every_post j q).holds;
    posts_hold_permitted = λ j q. (p.every_post j q).holds_permitted;
    read = λ j q. (p.every_post j q).read;
    reasons = λ j q. good _ _ (p.every_post j q).reason;
    inside = λ k. (p.overload k).inside;
    overload = λ k. good _ _ (p.overload k).reason;
  }

module _ {before : DisjunctivePropagator} {ranges : List Range} {posts atoms : List ℤ} {answer : Outcome} {ranges' : List Range} {posts' atoms' : List ℤ}
    (ran : RanMirroredLent before ranges posts atoms answer ranges' posts' atoms') where
  pub mirrored_demand : lent_number before ranges posts atoms ≡ 0 → MirroredDemand before ranges answer ranges' posts' atoms'
  mirrored_demand z = said before ranges answer ranges' posts' atoms' (ran.accepted z).promise

  pub mirrored_nothing_altered : (lent_number before ranges posts atoms ≡ 0 → ⊥) → NothingAltered before ranges posts atoms before ranges' posts' atoms'
  mirrored_nothing_altered n = let r = ran.refused n in λ i. (before, r.same_ranges i, r.same_posts i, r.same_atoms i)
