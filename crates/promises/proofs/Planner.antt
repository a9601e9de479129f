-- No plan is lost: over any passes, each on what the one before left, every plan of the first ranges is one of the last.
use mathlib.Core.Path.{◌≡◌, sym, ap, subst, ◌∙◌}
use mathlib.Core.List.{List}
use mathlib.Core.Logic.{◌⊎◌, ⊎_elim}
use Prim.Native.Nat.{ℕ, ◌<◌}
use native.Mathlib.Omega.{arith}
use native.Mathlib.Decide.{ℕ_discrete}
use lib.IntN.{ℤ, pos}
use lib.ListN.{get_or}
use lib.Signed.{◌≤ℤ◌}
use Rattle.integers.specs.Answers.{Answer}
use Rattle.records.specs.declared.record.DisjunctivePropagator.{DisjunctivePropagator}
use Rattle.runs.specs.declared.outcome.Outcome.{Outcome}
use Rattle.precedences.specs.declared.answers.Precedences.{Precedences}
use Rattle.ranges.specs.declared.range.Range.{Range}
use Rattle.ranges.specs.Ranges.{latests, counts, places}
use Rattle.ranges.proofs.StoredStarts.{latests_with, counts_with, places_with}
use Rattle.promises.specs.Promise.{tasks_lent}
use Rattle.promises.specs.RanLent.{lent_number, RanLent}
use Rattle.promises.specs.RanMirroredLent.{RanMirroredLent}
use Rattle.promises.specs.PrecedencesLent.{ranges_number, PrecedencesLent}
use Rattle.promises.specs.Planner.{Plan, Pass, run, mirrored, precedences, Fails, Passes, start, next, NoPlanLost, NoPlan}
use Rattle.promises.proofs.AcceptedCalls.{by_kind}
use Rattle.promises.proofs.NarrowedRanges.{still_plan}
use Rattle.promises.proofs.PrecedencesEnd.{pass_ends}

-- where nothing changes nothing is lost
same_plan : (tasks : DisjunctivePropagator) {ranges ranges' : List Range} → ranges' ≡ ranges → NoPlanLost tasks ranges tasks ranges'
same_plan tasks e s p = subst (λ (ys : List Range). Plan tasks ys s) (sym e) p

-- ---- one pass
module _ (before : DisjunctivePropagator) (ranges ranges' : List Range) where
  run_keeps : {posts atoms posts' atoms' : List ℤ} {answer : Outcome} {changed : ℕ} {after : DisjunctivePropagator} → RanLent before ranges posts atoms answer changed after ranges' posts' atoms'
      → NoPlanLost before ranges after ranges'
  run_keeps {posts} {atoms} ran s p = subst (λ (r : DisjunctivePropagator). Plan r ranges' s) (sym ran.same_record) (elim (ℕ_discrete (lent_number before ranges posts atoms) 0) [
    | yes z ↦
        let a = (ran.accepted z).promise in
        still_plan ranges ranges' a.same_counts a.same_places before s p (a.none_lost s p)
        (λ k q. subst (λ (ls : List ℤ). s k ≤ℤ get_or ls k (pos 0)) (sym a.same_latest) (p.schedule.to k q))
    | no n ↦ same_plan before (ran.refused n).same_ranges s p
  ])

  mirrored_keeps : {posts atoms posts' atoms' : List ℤ} {answer : Outcome} → RanMirroredLent before ranges posts atoms answer ranges' posts' atoms' → NoPlanLost before ranges before ranges'
  mirrored_keeps {posts} {atoms} ran s p = elim (ℕ_discrete (lent_number before ranges posts atoms) 0) [
    | yes z ↦
        let a = (ran.accepted z).promise in
        still_plan ranges ranges' a.same_counts a.same_places before s p (λ k q. subst (λ (es : List ℤ). get_or es k (pos 0) ≤ℤ s k) (sym a.same_earliest) (p.schedule.from k q))
        (a.none_lost s p)
    | no n ↦ same_plan before (ran.refused n).same_ranges s p
  ]

  precedences_keep : {answer : Precedences} → PrecedencesLent before ranges answer ranges' → NoPlanLost before ranges before ranges'
  precedences_keep {answer} ran s p = elim (ℕ_discrete (ranges_number before ranges) 0) [
    | yes z ↦
        let a = ran.accepted z in
        ⊎_elim
        (λ e. still_plan ranges ranges' (ap counts a.stored ∙ counts_with ranges a.raised) (ap places a.stored ∙ places_with ranges a.raised) before s p
        (a.none_lost (ap (λ (x : Answer). x.kind) e) s p)
        (λ k q. subst (λ (ls : List ℤ). s k ≤ℤ get_or ls k (pos 0)) (sym (ap latests a.stored ∙ latests_with ranges a.raised)) (p.schedule.to k q)))
        (λ x. same_plan before (a.same_emptied (ap (λ (y : Answer). y.kind) x.1)) s p)
        (pass_ends (tasks_lent before ranges) answer a.left)
    | no n ↦ same_plan before (ran.refused n).same_ranges s p
  ]

pass_keeps : {before after : DisjunctivePropagator} {ranges ranges' : List Range} → Pass before ranges after ranges' → NoPlanLost before ranges after ranges'
pass_keeps {before} {after} {ranges} {ranges'} (run posts atoms answer changed posts' atoms' ran) = run_keeps before ranges ranges' ran
pass_keeps {before} {after} {ranges} {ranges'} (mirrored posts atoms answer posts' atoms' ran) = mirrored_keeps before ranges ranges' ran
pass_keeps {before} {after} {ranges} {ranges'} (precedences answer ran) = precedences_keep before ranges ranges' ran

-- ---- any passes
pub no_plan_lost : {first : DisjunctivePropagator} {ranges : List Range} {last : DisjunctivePropagator} {ranges' : List Range} → Passes first ranges last ranges' → NoPlanLost first ranges last ranges'
no_plan_lost start s p = p
no_plan_lost (next passes pass) s p = pass_keeps pass s (no_plan_lost passes s p)

-- A pass that ends in Overload or Emptied is lent ranges that have no plan,
not_done : {kind : ℕ} → (kind ≡ 1) ⊎ (kind ≡ 2) → (kind < 3) × (kind ≡ 0 → ⊥)
not_done f = (⊎_elim (λ e. omega arith) (λ e. omega arith) f, λ z. ⊎_elim (λ e. omega arith) (λ e. omega arith) f)

failed : {before after : DisjunctivePropagator} {ranges ranges' : List Range} (pass : Pass before ranges after ranges') → Fails pass → NoPlan before ranges
failed {before} {after} {ranges} (run posts atoms answer changed posts' atoms' ran) f =
    (ran.accepted (by_kind answer (lent_number before ranges posts atoms) (λ n. (ran.refused n).number) (not_done f).0)).promise.otherwise_permitted (not_done f).1
failed {before} {after} {ranges} (mirrored posts atoms answer posts' atoms' ran) f =
    (ran.accepted (by_kind answer (lent_number before ranges posts atoms) (λ n. (ran.refused n).number) (not_done f).0)).promise.otherwise_permitted (not_done f).1
failed {before} {after} {ranges} (precedences answer ran) f = elim (ℕ_discrete (ranges_number before ranges) 0) [
  | yes z ↦ λ s p. (ran.accepted z).left.no_schedule f s p.schedule
  | no n ↦ absurd (omega (arith, f, ap (λ (x : Answer). x.kind) (ran.refused n).number))
]

-- and so, by the passes before it, did the first.
pub no_plan : {first before after : DisjunctivePropagator} {ranges ranges₁ ranges₂ : List Range} → Passes first ranges before ranges₁ → (pass : Pass before ranges₁ after ranges₂) → Fails pass
    → NoPlan first ranges
no_plan passes pass f s p = failed pass f s (no_plan_lost passes s p)
