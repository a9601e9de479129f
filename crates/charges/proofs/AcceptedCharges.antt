-- What a task is charged, the charges of an accepted call, and what the call answers.
use mathlib.Core.Path.{◌≡◌, sym, ap, ap₂, ◌∙◌}
use mathlib.Core.List.{List, [], ◌∷◌}
use Prim.Native.Nat.{ℕ, ◌≤◌, ◌<◌}
use native.Mathlib.Omega.{arith}
use lib.IntN.{ℤ, pos, ◌+ℤ◌}
use lib.ListN.{length, get_or, length-replicate}
use Rattle.integers.specs.FilledLists.{no_tasks}
use Rattle.std.specs.Prelude.{Ok, Err}
use Rattle.integers.specs.declared.refused.Refusal.{Refusal}
use Rattle.integers.specs.Refused.{number_of}
use Rattle.integers.specs.Answers.{answered, refused_by}
use Rattle.integers.proofs.RefusalNumbers.{never_zero}
use Rattle.integers.specs.Limits.{TASKS}
use Rattle.integers.proofs.FilledLists.{filled_at, filled_past, filled_length, get_d_fresh}
use Rattle.scheduling.specs.Scheduling.{total}
use Rattle.records.specs.declared.record.DisjunctivePropagator.{DisjunctivePropagator}
use Rattle.fixed_schedules.specs.FixedSchedules.{start_at}
use Rattle.fixed_schedules.proofs.AcceptedSchedules.{input_of, sortable, short}
use Rattle.charges.specs.declared.answer.TaskCharges.{TaskCharges}
use Rattle.charges.specs.declared.answer.Charges.{Charges}
use Rattle.charges.specs.Tariff.{late_minutes, cost_of_minutes}
use Rattle.charges.specs.Charges.{charge_at, without_charges, charges_number, AcceptedCharges, ChargesRight, Charged}
use Rattle.charges.specs.ChargeLoop.{Chargeable, Summed}
use Rattle.charges.proofs.Costs.{cost_most}
use Rattle.charges.proofs.ChargesRefused.{accepted_charges, charges_many}

-- what a call charges for a task, whose start u and due moment v it reads from bits
module _ (ds : List ℕ) (es due : List ℤ) (i : ℕ) {cost : ℕ} {u v : ℤ} (e : cost ≡ cost_of_minutes (late_minutes (u +ℤ pos (get_or ds i 0)) v)) (a : u ≡ start_at es i) (b : v ≡ get_or due i (pos 0)) where
  pub charge_is : cost ≡ charge_at ds es due i
  charge_is = e ∙ ap₂ (λ (x y : ℤ). cost_of_minutes (late_minutes (x +ℤ pos (get_or ds i 0)) y)) a b

  pub charge_small : cost ≤ 2000
  charge_small = omega (arith, e, cost_most (late_minutes (u +ℤ pos (get_or ds i 0)) v))

module _ (r : DisjunctivePropagator) (es ls due : List ℤ) where
  pub refused : (why : Refusal) (b : TaskCharges) → number_of why ≡ charges_number r es ls due → b ≡ without_charges → Charged r es ls due (record { charged = b; answer = Err why })
  refused why b e none = record { refused = λ _. (ap refused_by e, none); made = λ z. absurd (never_zero why (e ∙ z)) }

  -- no test failed
  module _ (e : 0 ≡ charges_number r es ls due) where
    a : AcceptedCharges r es ls due
    a = (accepted_charges r es ls due).0 (sym e)

    pub chargeable : Chargeable r.durations es due
    chargeable = record {
      sortable = sortable r es ls (input_of a.schedule);
      durations = short r es ls (input_of a.schedule);
      dues = record { long = a.dues.long ∙ sym a.schedule.counts.earliest; within = a.dues.within };
    }

    pub made : (b : TaskCharges) → Summed r.durations es due b → Charged r es ls due (record { charged = b; answer = Ok tt })
    made b s = record { refused = λ not. absurd (not (sym e)); made = λ _. (ap (λ (n : ℕ). answered 0 (pos n ∷ [])) right.total, right) }
      where
        f : ℕ → ℕ
        f = charge_at r.durations es due

        count : length es ≡ r.count
        count = a.schedule.counts.earliest

        long : length no_tasks ≡ TASKS
        long = length-replicate {A = ℕ} TASKS 0

        right : ChargesRight r es due b
        right = record {
          long = ap length s.charges ∙ filled_length f (length es) no_tasks ∙ long;
          charge = λ k q. ap (λ (l : List ℕ). get_or l k 0) s.charges ∙ filled_at f (length es) no_tasks 0 k (omega (arith, count)) (omega (arith, count, long, a.schedule.lawful.few));
          unused = λ k q. ap (λ (l : List ℕ). get_or l k 0) s.charges ∙ filled_past f (length es) no_tasks 0 k (omega (arith, count)) ∙ get_d_fresh 0 TASKS k;
          total = s.sum ∙ ap (total f) count;
        }

-- too many ranges are refused as none are
pub too_many : (r : DisjunctivePropagator) (es ls due : List ℤ) (c : Charges) → TASKS < length es
    → Charged r [] [] due c → Charged r es ls due c
too_many r es ls due c many p =
    let (same, not) = charges_many r es ls due many in
    let (answer, none) = p.refused (λ z. not (sym same ∙ z)) in
    record { refused = λ _. (answer ∙ ap refused_by same, none); made = λ z. absurd (not z) }
