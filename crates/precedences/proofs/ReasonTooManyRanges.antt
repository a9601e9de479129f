-- More ranges than any record has tasks are refused as none are, by each call on one bound.
use mathlib.Core.Path.{refl, sym, ap, ◌∙◌}
use mathlib.Core.Bool.{Bool}
use mathlib.Core.List.{List, []}
use Prim.Native.Nat.{ℕ, ◌<◌}
use lib.IntN.{ℤ}
use lib.ListN.{length}
use Rattle.integers.specs.declared.refused.Refusal.{Refusal}
use Rattle.integers.specs.Answers.{refused_by}
use Rattle.integers.specs.Limits.{TASKS}
use Rattle.records.specs.declared.record.DisjunctivePropagator.{DisjunctivePropagator}
use Rattle.records.proofs.RefusedRuns.{input_many}
use Rattle.std.specs.Prelude.{Option, Result}
use Rattle.precedences.specs.Bounds.{BoundGiven}
use Rattle.precedences.specs.Reasons.{ReasonGiven}
use Rattle.precedences.proofs.BoundAnswers.{bound_refused}
use Rattle.precedences.proofs.ReasonContract.{is_refused}

pub too_many_reason : (before : DisjunctivePropagator) (es ls : List ℤ) (bars bars' : Bool) (task : ℕ) (ws : List ℤ) (r : Result ℕ Refusal) (ws' : List ℤ) → TASKS < length es
    → ReasonGiven before [] [] bars task ws r ws' → ReasonGiven before es ls bars' task ws r ws'
too_many_reason before es ls bars bars' task ws r ws' many a =
    let (same, not) = input_many before es ls bars bars' _ _ many in
    let k = a.refused (λ z. not (sym same ∙ z)) in
    is_refused before es ls bars' task ws refl r ws' not (k.answer ∙ ap refused_by same) k.words

pub too_many_bound : (before : DisjunctivePropagator) (es ls : List ℤ) (bars bars' : Bool) (task : ℕ) (x : Result (Option ℤ) Refusal) → TASKS < length es → BoundGiven before [] [] bars task x
    → BoundGiven before es ls bars' task x
too_many_bound before es ls bars bars' task x many a =
    let (same, not) = input_many before es ls bars bars' _ _ many in
    bound_refused before es ls bars' task refl x not (a.refused (λ z. not (sym same ∙ z)) ∙ ap refused_by same)
