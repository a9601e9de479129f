-- What is judged are the bounds that the state leaves, or these mirrored, by the direction.
use mathlib.Core.Path.{◌≡◌, refl, sym, ◌∙◌}
use mathlib.Core.List.{List}
use Prim.Native.Nat.{ℕ}
use lib.IntN.{ℤ}
use lib.ListN.{length}
use borrow.Author.Rules.{rules}
use Rattle.integers.specs.Tests.{refusal}
use Rattle.records.specs.Records.{creation_tests, lengths_of}
use Rattle.records.proofs.Creation.{created_lawful}
use Rattle.checking.specs.States.{prepared}
use Rattle.checking.specs.TaskBounds.{bounds_among}
use Rattle.checking.specs.declared.start_bounds.Bounds.{Bounds}
use Rattle.checking.specs.declared.variable_state.VariableState.{VariableState}
use Rattle.checking.specs.declared.variable_state.Application.TheVariants.{Consistent}
use Rattle.checker.specs.CheckArrays.{Judgeable}
use Rattle.checker.specs.declared.checker.Direction.{Direction}
use Rattle.checker.specs.declared.checker.Direction.TheVariants.{Forward}
use Rattle.checker.specs.MirroredChecks.{lower_as, upper_as}
use Rattle.checker.proofs.Answers.{is_refused, contradicted, refused_atoms, can_judge, can_judge_mirrored, consequent_right, concluded_by}
use Rattle.checker.proofs.Verdicts.{tasks_of, two_sided}
use Rattle.checker.proofs.checker.check_as.Goals.{In_default, In-Consistent, Joined-direction, in-Mirrored, in_default-direction}
use Rattle.checker.proofs.checker.check_as.Goals as goal

-- Where nothing refuses the durations: the lists given, and what creation leaves.
module _ (c : In_default) where
  abbrev direction : Direction
  direction = c.args.direction

  abbrev ds : List ℤ
  ds = c.args.durations.now

  abbrev ps : List ℤ
  ps = c.args.premises.now

  abbrev cs : List ℤ
  cs = c.args.consequent.now

  accepted : refusal (creation_tests ds) ≡ 0
  accepted = sym c.in_default.ensures.0

  lengths : c.creation_refusal.new.lengths ≡ lengths_of ds
  lengths = c.in_default.ensures.1 refl

pub prepare_bounds-requires : goal.prepare_bounds-requires
prepare_bounds-requires c = ((created_lawful (ds (goal.at.prepare_bounds-requires c).In_default) (accepted (goal.at.prepare_bounds-requires c).In_default)).few, c.none-bounds.ensures)

-- Where the lists are consistent: their state, and its bounds in the arrays.
module _ (c : In-Consistent) where
  abbrev passed : In_default
  passed = (goal.at.In-Consistent c).In_default

  abbrev s : VariableState
  s = (prepared (ps passed) (cs passed)).state

  consistent : (prepared (ps passed) (cs passed)).answer ≡ Consistent
  consistent = sym c.prepare_bounds.ensures.answer ∙ c.in-Consistent.is

  abbrev b : Bounds
  b = c.prepare_bounds.new.bounds

  bounds : b ≡ bounds_among s (length (ds passed))
  bounds = c.prepare_bounds.ensures.bounds c.in-Consistent.is

  can : Judgeable (ds passed) (lower_as Forward (ds passed) s) (upper_as Forward (ds passed) s) (length (ds passed)) b c.creation_refusal.new.lengths
  can = can_judge (ds passed) (ps passed) (cs passed) (accepted passed) consistent b _ bounds (lengths passed)

pub mirror_bounds-requires : goal.mirror_bounds-requires
mirror_bounds-requires c =
    let e = (goal.at.mirror_bounds-requires c).In-Consistent in
    let d = c.args.durations.now in
    (tasks_of d (lower_as Forward d (s e)) (upper_as Forward d (s e)), two_sided d (lower_as Forward d (s e)) (upper_as Forward d (s e)), (can e).bounding)

-- the same bounds, in the same direction
alike : {ds : List ℤ} (s : VariableState) {n : ℕ} {b b' : Bounds} {l : List ℕ} {d d' : Direction} → d ≡ d' → b ≡ b'
    → Judgeable ds (lower_as d' ds s) (upper_as d' ds s) n b' l → Judgeable ds (lower_as d ds s) (upper_as d ds s) n b l
alike s p q j = rw (p, q) j

-- where both ways meet: the bounds are those of the direction
judgeable : (c : Joined-direction) → let e = (goal.at.Joined-direction c).In-Consistent in let a = c.args in
    Judgeable a.durations.now (lower_as a.direction a.durations.now (s e)) (upper_as a.direction a.durations.now (s e)) (length a.durations.now)
    c.match-direction.bounds c.creation_refusal.new.lengths
judgeable c =
    let e = (goal.at.Joined-direction c).In-Consistent in
    let a = passed e in
    elim c.match-direction.branch [
      | in-Mirrored w ↦ alike (s e) w.in-Mirrored.is w.bounds-is (can_judge_mirrored (ds a) (ps a) (cs a) (accepted a) (consistent e) (b e) _ _ (bounds e) w.mirror_bounds.ensures (lengths a))
      | in_default-direction w ↦ alike (s e) w.in_default-direction.is w.bounds-is (can e)
    ]

pub judge-requires : goal.judge-requires
judge-requires c =
    let e = (goal.at.judge-requires c).In-Consistent in
    let a = passed e in
    let d = c.args.direction in
    ((ds a, lower_as d (ds a) (s e), upper_as d (ds a) (s e), judgeable (goal.at.judge-requires c).Joined-direction), consequent_right (ds a) (ps a) (cs a) (accepted a) (consistent e))

pub returns-after-direction : goal.returns-after-direction
returns-after-direction c =
    let e = (goal.at.returns-after-direction c).In-Consistent in
    let a = passed e in
    let d = c.args.direction in
    concluded_by (ds a) (ps a) (cs a) d c.in_default.ensures.0 (consistent e) c.judge.result
    (c.judge.ensures (ds a) (lower_as d (ds a) (s e)) (upper_as d (ds a) (s e)) (judgeable (goal.at.returns-after-direction c).Joined-direction))

pub returns-in-Err : goal.returns-in-Err
returns-in-Err c = search (is_refused, rules)

pub returns-in-Contradiction : goal.returns-in-Contradiction
returns-in-Contradiction c = search (contradicted, rules)

pub returns-in-Refused : goal.returns-in-Refused
returns-in-Refused c = search (refused_atoms, rules)
