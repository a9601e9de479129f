-- More ranges than any record has tasks are refused as none are: both meet the same test first.
use mathlib.Core.Path.{sym, ap, ◌∙◌}
use mathlib.Core.Bool.{Bool}
use mathlib.Core.List.{List, []}
use Prim.Native.Nat.{◌<◌}
use lib.IntN.{ℤ}
use lib.ListN.{length}
use Rattle.integers.specs.Answers.{refused_by}
use Rattle.integers.specs.Limits.{TASKS}
use Rattle.records.specs.declared.record.DisjunctivePropagator.{DisjunctivePropagator}
use Rattle.records.proofs.RefusedRuns.{input_many}
use Rattle.conflicts.specs.declared.answer.Conflict.{Conflict}
use Rattle.conflicts.specs.Conflicts.{ConflictFound}
use Rattle.conflicts.proofs.FoundConflicts.{was_refused}

pub too_many : (before : DisjunctivePropagator) (es ls : List ℤ) (bars bars' : Bool) (c : Conflict) → TASKS < length es → ConflictFound before [] [] bars c → ConflictFound before es ls bars' c
too_many before es ls bars bars' c many t =
    let (same, not) = input_many before es ls bars bars' [] [] many in
    let r = t.refused (λ z. not (sym same ∙ z)) in
    was_refused before es ls bars' c not (record { answer = r.answer ∙ ap refused_by same; alone = r.alone })
