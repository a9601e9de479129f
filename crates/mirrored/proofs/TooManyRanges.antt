-- A mirrored pass that is lent more ranges than any record has tasks is refused as one that is lent none.
use mathlib.Core.Path.{refl, sym, ap, ◌∙◌}
use mathlib.Core.Bool.{Bool}
use mathlib.Core.List.{List, []}
use Prim.Native.Nat.{◌<◌}
use lib.IntN.{ℤ}
use lib.ListN.{length}
use Rattle.integers.specs.Answers.{refused_by}
use Rattle.integers.specs.Limits.{TASKS}
use Rattle.records.specs.declared.record.DisjunctivePropagator.{DisjunctivePropagator}
use Rattle.records.proofs.RefusedRuns.{input_many}
use Rattle.runs.specs.declared.outcome.Outcome.{Outcome}
use Rattle.mirrored.specs.RanMirrored.{RanMirrored}

pub too_many_mirrored : (before : DisjunctivePropagator) (es ls : List ℤ) (bars bars' : Bool) (posts atoms : List ℤ) (r : Outcome) (ls' posts' atoms' : List ℤ) → TASKS < length es
    → RanMirrored before [] [] bars posts atoms r ls' posts' atoms' → RanMirrored before es ls bars' posts atoms r ls posts' atoms'
too_many_mirrored before es ls bars bars' posts atoms r ls' posts' atoms' many a =
    let (same, not) = input_many before es ls bars bars' _ _ many in
    let k = a.refused (λ z. not (sym same ∙ z)) in
    record {
      refused = λ n. record { answer = k.answer ∙ ap refused_by same; starts = refl; post_words_are = k.post_words_are; atom_words_are = k.atom_words_are };
      accepted = λ z. absurd (not z);
    }
