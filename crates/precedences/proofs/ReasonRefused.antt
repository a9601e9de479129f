-- What refuses the reason's call: what holds where nothing does, and the sole ground for each number.
use mathlib.Core.Path.{◌≡◌, refl, sym, ◌∙◌}
use mathlib.Core.Bool.{Bool, true}
use mathlib.Core.Logic.{◌↔◌}
use mathlib.Core.List.{List, [], ◌∷◌}
use Prim.Native.Nat.{ℕ, ◌*◌, ◌≤◌, ◌<◌}
use lib.Dec.{leb, ltb}
use lib.IntN.{ℤ}
use borrow.Author.Tests.{leb-true, le-leb}
use Rattle.integers.specs.Tests.{Test, test, AllPassed}
use Rattle.integers.proofs.Tests.{accepted, first_refuses, first_holds, behind}
use Rattle.records.specs.declared.record.DisjunctivePropagator.{DisjunctivePropagator}
use Rattle.records.specs.Refusals.{input_tests, AcceptedInput}
use Rattle.records.proofs.RefusedRuns.{passed_input}
use Rattle.records.proofs.InputGrounds.{InputGrounds, input_grounds}
use Rattle.precedences.specs.Reasons.{reason_tests, reason_number, AcceptedReason}
use Rattle.precedences.proofs.BoundRefused.{small_is, passed_bound}

room_is : (n words : ℕ) → leb (6 * n) words ≡ true ↔ (6 * n ≤ words)
room_is n words = (λ h. leb-true (6 * n) words h, λ h. le-leb (6 * n) words h)

module _ (r : DisjunctivePropagator) (es ls : List ℤ) (bars : Bool) (task words : ℕ) where
  abbrev t17 : Test
  t17 = test 17 (ltb task r.count)

  abbrev t16 : Test
  t16 = test 16 (leb (6 * r.count) words)

  -- nothing refuses the call
  pub accepted_reason : {m : ℕ} → m ≡ reason_number r es ls bars task words → m ≡ 0 → AcceptedInput r es ls × AcceptedReason r task words
  accepted_reason e z = facts (accepted (reason_tests r es ls bars task words) refl (sym e ∙ z))
    where
      facts : AllPassed (reason_tests r es ls bars task words) → AcceptedInput r es ls × AcceptedReason r task words
      facts (a, (b, (c, (d, (e, (p, (q, _))))))) =
          let ((input, _), small) = passed_bound r es ls bars task (a, (b, (c, (d, (e, (p, tt)))))) in
          (input, record { small = small; room = (room_is r.count words).0 q })

  -- The sole ground for each number: those of the record and its ranges, and the call's own.
  pub sole_grounds : InputGrounds r es ls bars (reason_number r es ls bars task words)
  sole_grounds = input_grounds r es ls bars (t17 ∷ t16 ∷ []) refl refl refl refl refl

  pub refused_17 : reason_number r es ls bars task words ≡ 17 ↔ ((AcceptedInput r es ls × (bars ≡ true)) × (task < r.count → ⊥))
  refused_17 = behind (input_tests r es ls bars) (t17 ∷ t16 ∷ []) (passed_input r es ls bars) refl (λ _. first_refuses t17 (t16 ∷ []) (small_is task r.count) refl)

  pub refused_16 : reason_number r es ls bars task words ≡ 16 ↔ ((AcceptedInput r es ls × (bars ≡ true)) × ((task < r.count) × (6 * r.count ≤ words → ⊥)))
  refused_16 = behind (input_tests r es ls bars) (t17 ∷ t16 ∷ []) (passed_input r es ls bars) refl
      (λ _. first_holds t17 (t16 ∷ []) (small_is task r.count) refl (λ _. first_refuses t16 [] (room_is r.count words) refl))
