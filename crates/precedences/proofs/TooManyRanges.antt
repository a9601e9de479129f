-- More ranges than any record has tasks are refused as none are, by the pass.
use mathlib.Core.Path.{refl, sym, ap, ◌∙◌}
use mathlib.Core.Bool.{Bool}
use mathlib.Core.List.{List, []}
use Prim.Native.Nat.{◌<◌}
use lib.IntN.{ℤ}
use lib.ListN.{length}
use Rattle.integers.specs.Answers.{refused_by}
use Rattle.integers.specs.Limits.{TASKS}
use Rattle.records.specs.declared.record.DisjunctivePropagator.{DisjunctivePropagator}
use Rattle.records.proofs.RefusedRuns.{input_many}
use Rattle.precedences.specs.declared.answers.Precedences.{Precedences}
use Rattle.precedences.specs.Precedences.{RanPrecedences}
use Rattle.precedences.proofs.PassContract.{is_refused}

pub too_many : (before : DisjunctivePropagator) (es ls : List ℤ) (bars bars' : Bool) (r : Precedences) (es' : List ℤ) → TASKS < length es → RanPrecedences before [] [] bars r es'
    → RanPrecedences before es ls bars' r es
too_many before es ls bars bars' r es' many a =
    let (same, not) = input_many before es ls bars bars' [] [] many in
    is_refused before es ls bars' refl r es not ((a.refused (λ z. not (sym same ∙ z))).answer ∙ ap refused_by same) refl
