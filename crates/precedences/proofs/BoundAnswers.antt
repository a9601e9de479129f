-- What the bound's call answers: the bound over moments is that over whole numbers, and it holds in every schedule.
use mathlib.Core.Path.{◌≡◌, refl, sym, ap, subst, ◌∙◌}
use mathlib.Core.Bool.{Bool, false, not}
use mathlib.Core.Logic.{inl, inr}
use mathlib.Core.List.{List, [], ◌∷◌}
use mathlib.Core.Option.{Option as Ect, some}
use Prim.Native.Nat.{ℕ, ◌<◌}
use native.Mathlib.Omega.{arith}
use lib.IntN.{ℤ}
use lib.ListN.{length, get_or}
use Rattle.integers.specs.declared.refused.Refusal.{Refusal}
use Rattle.integers.specs.Answers.{Answer, answered, refused_by}
use Rattle.integers.specs.Limits.{TASKS}
use Rattle.integers.specs.Moments.{moment, instant, zero_at}
use Rattle.integers.proofs.Answers.{value_at, same_kind}
use Rattle.integers.proofs.Bools.{bool, clash}
use Rattle.integers.proofs.MomentSums.{instant_moment}
use Rattle.integers.proofs.Tests.{broken}
use Rattle.scheduling.specs.Scheduling.{whole, natural, Tasks}
use Rattle.trees.specs.Ects.{exceeds}
use Rattle.trees.proofs.Ects.{some_exceeds, raised_up}
use Rattle.records.specs.declared.record.DisjunctivePropagator.{DisjunctivePropagator}
use Rattle.records.specs.Records.{tasks_in, moments_in}
use Rattle.records.specs.Refusals.{AcceptedInput}
use Rattle.records.proofs.AcceptedTasks.{proper_whole}
use Rattle.precedences.specs.PredecessorArrays.{bound_at, HoldsRanges}
use Rattle.precedences.proofs.Soundness.{bound_sound}
use Rattle.std.specs.Prelude.{Option, Some, None, Result, Ok}
use Rattle.precedences.specs.declared.range_moments.RangeMoments.{RangeMoments}
use Rattle.precedences.specs.ReasonNumbers.{numbers_of_bound}
use Rattle.precedences.specs.Bounds.{RaisesTo, Raises, BoundAnswered, bound_number, BoundGiven}
use Rattle.precedences.specs.ReasonArrays.{BoundLeft}
use Rattle.precedences.proofs.BoundAbove.{from_start, among, above_start, raises_is}

-- What the code answers of its arrays, by the bound that it has found.
module _ {J : Tasks natural} {m : RangeMoments} (f : HoldsRanges J m) (i : ℕ) (q : i < m.count) where
  pub bound_left : {v : ℕ} {x : ℤ} → some v ≡ bound_at J i → get_or m.est i 0 < v → x ≡ instant zero_at v → BoundLeft J i (Some x)
  bound_left {v} {x} b h z =
      let up : J.earliest i < v = omega (arith, f.held.start i q, h) in
      record {
        raised = λ _. ap (λ (y : ℤ). answered 0 (y ∷ [])) (z ∙ ap (instant zero_at) (sym (raised_up (J.earliest i) (bound_at J i) v (sym b) up)));
        none = λ k. clash (some_exceeds (bound_at J i) v (J.earliest i) (sym b) up) k;
      }

  pub none_left : {o : Ect ℕ} → o ≡ bound_at J i → exceeds o (get_or m.est i 0) ≡ false → BoundLeft J i None
  none_left b h = record { raised = λ k. clash k (from_start f i q b refl h); none = λ _. refl }

-- The accepted call.
module _ (r : DisjunctivePropagator) (es ls : List ℤ) (a : AcceptedInput r es ls) (long : length r.durations ≡ TASKS) (i : ℕ) (q : i < r.count) {o : Option ℤ} (left : BoundLeft (moments_in r es ls) i o) where
  abbrev Z : Tasks whole
  Z = tasks_in r es ls

  abbrev M : Tasks natural
  M = moments_in r es ls

  abbrev x : Result (Option ℤ) Refusal
  x = Ok o

  answers_bound : (b : ℤ) → RaisesTo Z i b → numbers_of_bound x ≡ answered 0 (b ∷ [])
  answers_bound b w =
      let (g, up) = above_start r es ls a long i q b w in
      left.raised ((raises_is r es ls a long i q).1 (b, w))
      ∙ ap (λ (v : ℤ). answered 0 (v ∷ [])) (ap (instant zero_at) (raised_up (M.earliest i) (bound_at M i) (moment zero_at b) g.is up) ∙ instant_moment zero_at b g.above)

  none_answered : (Raises Z i → ⊥) → numbers_of_bound x ≡ answered 1 []
  none_answered no_raise = left.none ((broken (raises_is r es ls a long i q)).1 no_raise)

  is_answered : (b : ℤ) → numbers_of_bound x ≡ answered 0 (b ∷ []) → RaisesTo Z i b
  is_answered b e = elim (bool (exceeds (bound_at M i) (M.earliest i))) [
    | inl h ↦ (let (v, w) = (raises_is r es ls a long i q).0 h in subst (RaisesTo Z i) (ap (λ (y : Answer). value_at y 0) (sym (answers_bound v w) ∙ e)) w)
    | inr h ↦ (let z = same_kind (sym e ∙ left.none h) in absurd (omega (arith, z)))
  ]

  pub bound_answered : BoundAnswered (tasks_in r es ls) i (Ok o)
  bound_answered = record {
    raised = λ b. (is_answered b, answers_bound b);
    none = (λ e w. (let z = same_kind (sym e ∙ answers_bound w.0 w.1) in omega (arith, z)), none_answered);
    sound = λ b e s h. bound_sound Z (proper_whole r es ls a long) s h i (among r es ls a long i q) b (is_answered b e).is_bound;
  }

-- The contract, by the number that the tests answer.
module _ (before : DisjunctivePropagator) (es ls : List ℤ) (bars : Bool) (task : ℕ) {m : ℕ} (e : m ≡ bound_number before es ls bars task) where
  pub bound_refused : (x : Result (Option ℤ) Refusal) → (m ≡ 0 → ⊥) → numbers_of_bound x ≡ refused_by m → BoundGiven before es ls bars task x
  bound_refused x not z = record { refused = λ _. z ∙ ap refused_by e; given = λ k. absurd (not (e ∙ k)) }

  pub bound_given : (x : Result (Option ℤ) Refusal) → m ≡ 0 → BoundAnswered (tasks_in before es ls) task x → BoundGiven before es ls bars task x
  bound_given x z t = record { refused = λ h. absurd (h (sym e ∙ z)); given = λ _. t }
