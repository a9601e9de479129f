-- More ranges than any record has tasks are refused as none are: both meet the same test first.
use mathlib.Core.Path.{sym, ap, ◌∙◌}
use mathlib.Core.Bool.{Bool}
use mathlib.Core.List.{List, []}
use Prim.Native.Nat.{ℕ, ◌<◌}
use lib.IntN.{ℤ}
use lib.ListN.{length}
use Rattle.integers.specs.declared.refused.Refusal.{Refusal}
use Rattle.integers.specs.Answers.{refused_by}
use Rattle.integers.specs.Limits.{TASKS}
use Rattle.records.specs.declared.record.DisjunctivePropagator.{DisjunctivePropagator}
use Rattle.records.proofs.RefusedRuns.{input_many}
use Rattle.std.specs.Prelude.{Option, Result}
use Rattle.overload_test.specs.Tested.{OverloadTested}
use Rattle.overload_test.proofs.Answers.{is_refused}

pub too_many : (before : DisjunctivePropagator) (es ls : List ℤ) (bars bars' : Bool) (r : Result (Option ℕ) Refusal) → TASKS < length es → OverloadTested before [] [] bars r → OverloadTested before es ls bars' r
too_many before es ls bars bars' r many t =
    let (same, not) = input_many before es ls bars bars' [] [] many in
    is_refused before es ls bars' r not (t.refused (λ z. not (sym same ∙ z)) ∙ ap refused_by same)
