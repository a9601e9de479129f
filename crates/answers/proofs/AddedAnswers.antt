-- A struct of the calls beside the run gives its answer back, so different answers are different structs.
use Rattle.answers.specs.declared.added_calls.BusiestAnswer.{BusiestAnswer}
use Rattle.answers.specs.declared.added_calls.ChangeAnswer.{ChangeAnswer}
use Rattle.answers.specs.declared.added_calls.CountAnswer.{CountAnswer}
use Rattle.answers.specs.declared.added_calls.StartAnswer.{StartAnswer}
use Rattle.std.specs.Prelude.{Result, Ok, Err, Option, Some, None}
use mathlib.Core.Path.{◌≡◌, refl, ap}
use Prim.Native.Nat.{ℕ, zero, suc}
use lib.IntN.{ℤ}
use Rattle.integers.proofs.Answers.{told_apart}
use Rattle.integers.specs.declared.refused.Refusal.{Refusal}
use Rattle.integers.specs.Reasons.{reason_of}
use Rattle.integers.proofs.RefusalNumbers.{reason_is}
use Rattle.charges.specs.declared.answer.TaskCharges.{TaskCharges}
use Rattle.charges.specs.declared.answer.Charges.{Charges}
use Rattle.conflicts.specs.declared.answer.Found.{Found}
use Rattle.conflicts.specs.declared.answer.Found.TheVariants as found
use Rattle.conflicts.specs.declared.answer.Conflict.{Conflict}
use Rattle.conflicts.specs.Numbers.{found_numbers}
use Rattle.conflict_pages.specs.Numbers.{numbers_of_conflict_page}
use Rattle.charges.specs.Numbers.{charges_numbers}
use Rattle.overload_test.specs.Numbers.{numbers_of_overload}
use Rattle.task_changes.specs.Numbers.{numbers_of_change}
use Rattle.free_starts.specs.Numbers.{free_start_numbers}
use Rattle.pages.specs.Numbers.{numbers_of_page}
use Rattle.precedences.specs.declared.answers.Precedences.{Precedences}
use Rattle.precedences.specs.declared.answers.Precedences.TheVariants as pass
use Rattle.precedences.specs.Numbers.{numbers_of_precedences}
use Rattle.precedences.specs.ReasonNumbers.{numbers_of_reason, numbers_of_bound}
use Rattle.runs.specs.declared.outcome.Outcome.{Outcome}
use Rattle.runs.specs.Outcomes.{outcome_numbers}
use Rattle.busiest_stretch.specs.declared.answer.Stretch.{Stretch}
use Rattle.busiest_stretch.specs.Numbers.{numbers_of_busiest}
use Rattle.answers.specs.AddedAnswers.{answer_of_mirrored, answer_of_count, change_answer, answer_of_start, busiest_answer, answer_of_charges, answer_of_conflict}
use Rattle.answers.specs.SourceAnswers.{value_at, nat_at}
use Rattle.answers.proofs.SourceAnswers.{outcome_from, outcome_back, err_back}

-- The mirrored pass
pub mirrored_apart : (r r' : Outcome) → answer_of_mirrored (outcome_numbers r) ≡ answer_of_mirrored (outcome_numbers r') → r ≡ r'
mirrored_apart = told_apart (λ r. answer_of_mirrored (outcome_numbers r)) (λ a. outcome_from a.kind a.number a.posts a.first a.count) outcome_back

-- The overload test
abbrev overload_from : CountAnswer → Result (Option ℕ) Refusal
overload_from a = elim a.kind [ zero ↦ Ok (Some a.count) | suc zero ↦ Ok None | suc (suc k) ↦ Err (reason_of a.number) ]

pub overloads_apart : (r r' : Result (Option ℕ) Refusal) → answer_of_count (numbers_of_overload r) ≡ answer_of_count (numbers_of_overload r') → r ≡ r'
overloads_apart = told_apart (λ r. answer_of_count (numbers_of_overload r))
    overload_from (λ r. elim r as (λ k. overload_from (answer_of_count (numbers_of_overload k)) ≡ k) [ Ok (Some k) ↦ refl | Ok None ↦ refl | Err why ↦ err_back why ])

-- A change
abbrev change_from : ChangeAnswer → Result Unit Refusal
change_from a = elim a.kind [ zero ↦ Ok tt | suc k ↦ Err (reason_of a.number) ]

pub changes_apart : (r r' : Result Unit Refusal) → change_answer (numbers_of_change r) ≡ change_answer (numbers_of_change r') → r ≡ r'
changes_apart = told_apart (λ r. change_answer (numbers_of_change r))
    change_from (λ r. elim r as (λ k. change_from (change_answer (numbers_of_change k)) ≡ k) [ Ok made ↦ refl | Err why ↦ err_back why ])

-- A page
abbrev page_from : CountAnswer → Result ℕ Refusal
page_from a = elim a.kind [ zero ↦ Ok a.count | suc k ↦ Err (reason_of a.number) ]

pub pages_apart : (r r' : Result ℕ Refusal) → answer_of_count (numbers_of_page r) ≡ answer_of_count (numbers_of_page r') → r ≡ r'
pages_apart = told_apart (λ r. answer_of_count (numbers_of_page r))
    page_from (λ r. elim r as (λ k. page_from (answer_of_count (numbers_of_page k)) ≡ k) [ Ok bytes ↦ refl | Err why ↦ err_back why ])

-- Charges
abbrev charges_from : TaskCharges → ℕ → ℕ → Charges
charges_from b kind number = record { charged = b; answer = elim kind [ zero ↦ Ok tt | suc k ↦ Err (reason_of number) ] }

pub charges_apart : (c c' : Charges) → answer_of_charges c ≡ answer_of_charges c' → c ≡ c'
charges_apart = told_apart answer_of_charges (λ a. charges_from (record { charges = a.charges; total = a.total }) a.kind a.number) (λ c. by c.charged c.answer)
  where
    by : (b : TaskCharges) (r : Result Unit Refusal) → charges_from b (charges_numbers (record { charged = b; answer = r })).kind (charges_numbers (record { charged = b; answer = r })).number
        ≡ record { charged = b; answer = r }
    by b (Ok made) = refl
    by b (Err why) = ap (λ (w : Refusal). record { charged = b; answer = Err w }) (reason_is why)

-- A conflict, and its page
abbrev found_from : ℕ → ℕ → ℕ → ℤ → ℤ → Found
found_from zero number task latest bound = found.NothingFound
found_from (suc zero) number task latest bound = found.Overload
found_from (suc (suc zero)) number task latest bound = found.Late task latest bound
found_from (suc (suc (suc k))) number task latest bound = found.Refused (reason_of number)

-- the conflict with something else found
abbrev pub finding : Conflict → Found → Conflict
finding c f = record { found = f; set = c.set; lct = c.lct; excess = c.excess; before = c.before }

pub conflicts_apart : (c c' : Conflict) → answer_of_conflict c ≡ answer_of_conflict c' → c ≡ c'
conflicts_apart = told_apart answer_of_conflict
    (λ a. record { found = found_from a.kind a.number a.task a.latest_start a.bound; set = a.set; lct = a.lct; excess = a.excess; before = a.before })
    (λ c i. finding c (by c.found i))
  where
    by : (f : Found) → found_from (found_numbers f).kind (found_numbers f).number (nat_at 0 (found_numbers f)) (value_at 1 (found_numbers f)) (value_at 2 (found_numbers f)) ≡ f
    by found.NothingFound = refl
    by found.Overload = refl
    by (found.Late task latest bound) = refl
    by (found.Refused why) = ap found.Refused (reason_is why)

pub conflict_pages_apart : (r r' : Result (Option ℕ) Refusal) → answer_of_count (numbers_of_conflict_page r) ≡ answer_of_count (numbers_of_conflict_page r') → r ≡ r'
conflict_pages_apart = told_apart (λ r. answer_of_count (numbers_of_conflict_page r))
    overload_from (λ r. elim r as (λ k. overload_from (answer_of_count (numbers_of_conflict_page k)) ≡ k) [ Ok (Some bytes) ↦ refl | Ok None ↦ refl | Err why ↦ err_back why ])

-- A free start
abbrev free_start_from : StartAnswer → Result ℤ Refusal
free_start_from a = elim a.kind [ zero ↦ Ok a.start | suc k ↦ Err (reason_of a.number) ]

pub free_starts_apart : (r r' : Result ℤ Refusal) → answer_of_start (free_start_numbers r) ≡ answer_of_start (free_start_numbers r') → r ≡ r'
free_starts_apart = told_apart (λ r. answer_of_start (free_start_numbers r))
    free_start_from (λ r. elim r as (λ k. free_start_from (answer_of_start (free_start_numbers k)) ≡ k) [ Ok start ↦ refl | Err why ↦ err_back why ])

-- The busiest stretch
abbrev busiest_from : BusiestAnswer → Result Stretch Refusal
busiest_from a = elim a.kind [ zero ↦ Ok (record { covered = a.time; start = a.start }) | suc k ↦ Err (reason_of a.number) ]

pub busiest_apart : (r r' : Result Stretch Refusal) → busiest_answer (numbers_of_busiest r) ≡ busiest_answer (numbers_of_busiest r') → r ≡ r'
busiest_apart = told_apart (λ r. busiest_answer (numbers_of_busiest r))
    busiest_from (λ r. elim r as (λ k. busiest_from (busiest_answer (numbers_of_busiest k)) ≡ k) [ Ok stretch ↦ refl | Err why ↦ err_back why ])

-- The pass by precedences, one task's bound, and its reason
abbrev precedences_from : CountAnswer → Precedences
precedences_from a = elim a.kind [ zero ↦ pass.Done | suc zero ↦ pass.Emptied a.count | suc (suc k) ↦ pass.Refused (reason_of a.number) ]

pub precedences_apart : (r r' : Precedences) → answer_of_count (numbers_of_precedences r) ≡ answer_of_count (numbers_of_precedences r') → r ≡ r'
precedences_apart = told_apart (λ r. answer_of_count (numbers_of_precedences r))
    precedences_from (λ r. elim r as (λ k. precedences_from (answer_of_count (numbers_of_precedences k)) ≡ k) [ pass.Done ↦ refl | pass.Emptied i ↦ refl | pass.Refused why ↦ ap pass.Refused (reason_is why) ])

abbrev bound_from : StartAnswer → Result (Option ℤ) Refusal
bound_from a = elim a.kind [ zero ↦ Ok (Some a.start) | suc zero ↦ Ok None | suc (suc k) ↦ Err (reason_of a.number) ]

pub bounds_apart : (r r' : Result (Option ℤ) Refusal) → answer_of_start (numbers_of_bound r) ≡ answer_of_start (numbers_of_bound r') → r ≡ r'
bounds_apart = told_apart (λ r. answer_of_start (numbers_of_bound r))
    bound_from (λ r. elim r as (λ k. bound_from (answer_of_start (numbers_of_bound k)) ≡ k) [ Ok (Some b) ↦ refl | Ok None ↦ refl | Err why ↦ err_back why ])

pub reasons_apart : (r r' : Result ℕ Refusal) → answer_of_count (numbers_of_reason r) ≡ answer_of_count (numbers_of_reason r') → r ≡ r'
reasons_apart = told_apart (λ r. answer_of_count (numbers_of_reason r))
    page_from (λ r. elim r as (λ k. page_from (answer_of_count (numbers_of_reason k)) ≡ k) [ Ok count ↦ refl | Err why ↦ err_back why ])
