-- A run that is refused; one that is lent more ranges than any record has tasks is refused as one that is lent none.
use mathlib.Core.Path.{◌≡◌, refl, sym, ap, ◌∙◌}
use mathlib.Core.Bool.{Bool}
use mathlib.Core.List.{List, []}
use Prim.Native.Nat.{◌<◌}
use lib.IntN.{ℤ}
use lib.ListN.{length}
use Rattle.integers.specs.Answers.{refused_by}
use Rattle.integers.specs.Limits.{TASKS}
use Rattle.records.specs.declared.record.DisjunctivePropagator.{DisjunctivePropagator}
use Rattle.records.specs.Refusals.{run_number}
use Rattle.records.proofs.RefusedRuns.{input_many}
use Rattle.propagator.specs.declared.disjunctive_propagator.Run.{Run}
use Rattle.propagator.specs.Ran.{RunRefused, Ran}

-- what is said of an accepted run is not said of it
pub is_refused : (before : DisjunctivePropagator) (es ls : List ℤ) (bars : Bool) (posts atoms : List ℤ) (r : Run) (es' posts' atoms' : List ℤ) → r.«record» ≡ before
    → (run_number before es ls bars (length posts) (length atoms) ≡ 0 → ⊥)
    → RunRefused before es ls (run_number before es ls bars (length posts) (length atoms)) posts atoms r.outcome r.changes es' posts' atoms'
    → Ran before es ls bars posts atoms r es' posts' atoms'
is_refused before es ls bars posts atoms r es' posts' atoms' e not k = record { keeps = e; refused = λ n. k; accepted = λ z. absurd (not z) }

pub too_many : (before : DisjunctivePropagator) (es ls : List ℤ) (bars bars' : Bool) (posts atoms : List ℤ) (r : Run) (es' posts' atoms' : List ℤ) → TASKS < length es
    → Ran before [] [] bars posts atoms r es' posts' atoms' → Ran before es ls bars' posts atoms r es posts' atoms'
too_many before es ls bars bars' posts atoms r es' posts' atoms' many a =
    let (same, not) = input_many before es ls bars bars' _ _ many in
    let k = a.refused (λ z. not (sym same ∙ z)) in
    is_refused before es ls bars' posts atoms r es posts' atoms' a.keeps not
    (record { answer = k.answer ∙ ap refused_by same; changes = k.changes; starts = refl; post_words_are = k.post_words_are; atom_words_are = k.atom_words_are })
