-- A record after either change: that it stays lawful, and which durations it holds.
use mathlib.Core.Path.{◌≡◌, refl, sym, ap, ap₂, subst, ◌∙◌}
use mathlib.Core.Bool.{true, false}
use Rattle.std.specs.Prelude.{Result, Ok, Err}
use Rattle.std.specs.Result.{is_err}
use mathlib.Core.List.{List, [], ◌∷◌, ◌++◌}
use Prim.Native.Nat.{ℕ, ◌+◌, ◌-◌, ◌≤◌, ◌<◌}
use native.Mathlib.Omega.{arith}
use native.Mathlib.Decide.{dec_lt}
use lib.IntN.{ℤ, pos, negsuc}
use lib.Signed.{◌≤ℤ◌}
use lib.ListN.{length, get_or, take, set, length-append, get_or-append}
use lib.Seq.{length-take-le, get_or-take, get_or-append_seam}
use borrow.Author.Tests.{leb-true}
use Rattle.integers.specs.Limits.{TASKS, DURATIONS}
use Rattle.integers.specs.Answers.{answered, refused_by}
use Rattle.integers.specs.Refused.{number_in}
use Rattle.integers.specs.declared.refused.Refusal.{Refusal}
use Rattle.integers.proofs.Bools.{clash}
use Rattle.integers.proofs.Ints.{le_le_z}
use Rattle.integers.proofs.Tests.{accepted}
use Rattle.scheduling.specs.Scheduling.{total}
use Rattle.scheduling.proofs.Sets.{total_ext, total_part}
use Rattle.records.specs.declared.record.DisjunctivePropagator.{DisjunctivePropagator}
use Rattle.records.specs.Records.{Lawful, duration_for, record_of}
use Rattle.records.proofs.Lawful.{lawful_is}
use Rattle.records.proofs.TestsInOrder.{as_facts}
use Rattle.records.proofs.Reasons.{some_refused, none_refused}
use Rattle.task_changes.specs.Numbers.{numbers_of_change}
use Rattle.task_changes.specs.Lists.{placed, sum_of, without}
use Rattle.task_changes.specs.Changes.{durations_of, added, removed, add_tests, add_number, remove_tests, remove_number, TaskAdded, TaskRemoved}
use Rattle.task_changes.proofs.PlacedLists.{placed_length, placed_front, placed_at, placed_past, front_placed, last_stored}
use Rattle.task_changes.proofs.LeftOut.{without_length, without_all}
use Rattle.task_changes.proofs.RefusedChanges.{more_room, less_room}
use Rattle.task_changes.proofs.Sums.{sum_more, sum_without, sum_placed}

-- A record is that of these durations: they are in its first places, beside their sum.
pub record Holds (r : DisjunctivePropagator) (ds : List ℕ) : Type 0 where
  pub count : r.count ≡ length ds
  pub array : r.durations ≡ placed ds
  pub sum : r.total ≡ sum_of ds
  pub few : length ds ≤ TASKS

module _ {r : DisjunctivePropagator} {ds : List ℕ} (h : Holds r ds) where
  pub long : length r.durations ≡ TASKS
  long = ap length h.array ∙ placed_length ds h.few

  pub tasks : durations_of r ≡ ds
  tasks = ap₂ (λ (n : ℕ) (l : List ℕ). take n l) h.count h.array ∙ placed_front ds

  -- the record is lawful where its durations are
  holds_lawful : 1 ≤ length ds → ((k : ℕ) → k < length ds → 1 ≤ get_or ds k 0) → sum_of ds ≤ DURATIONS → Lawful r
  holds_lawful some lasts fits = record {
    some = omega (arith, h.count);
    few = omega (arith, h.count, h.few);
    lasts = λ k q. subst (λ (x : ℕ). 1 ≤ x) (sym (at k ∙ placed_at ds k (omega (arith, h.count)))) (lasts k (omega (arith, h.count)));
    sum = omega (arith, same, fits);
    stored = h.sum ∙ sym same;
    unused = λ k q s. at k ∙ placed_past ds k (omega (arith, h.count));
  }
    where
      at : (k : ℕ) → get_or r.durations k 0 ≡ get_or (placed ds) k 0
      at k = ap (λ (l : List ℕ). get_or l k 0) h.array

      same : total (λ k. get_or r.durations k 0) r.count ≡ sum_of ds
      same = ap₂ (λ (l : List ℕ) (n : ℕ). total (λ k. get_or l k 0) n) h.array h.count ∙ sum_placed ds

  -- the record with a task more, and with one less
  pub added_holds : (d : ℕ) → r.count < TASKS → Holds (added r d) (ds ++ (d ∷ []))
  added_holds d room =
      let size : length (ds ++ (d ∷ [])) ≡ r.count + 1 = omega (arith, length-append ds (d ∷ []), h.count) in
      record {
        count = sym size;
        array = ap (λ (l : List ℕ). placed (l ++ (d ∷ []))) tasks;
        sum = ap (λ (s : ℕ). s + d) h.sum ∙ sym (sum_more ds d);
        few = omega (arith, size, room);
      }

  pub removed_holds : (t : ℕ) → t < r.count → Holds (removed r t) (without ds t)
  removed_holds t there =
      let here : get_or ds t 0 ≡ get_or r.durations t 0 = ap (λ (l : List ℕ). get_or l t 0) (sym tasks) ∙ get_or-take r.count r.durations t 0 there in
      let shorter = without_length ds t (omega (arith, h.count)) in
      record {
        count = omega (arith, shorter, h.count);
        array = ap (λ (l : List ℕ). placed (without l t)) tasks;
        sum = omega (arith, h.sum, sum_without ds t (omega (arith, h.count)), here);
        few = omega (arith, shorter, h.few);
      }

module _ (r : DisjunctivePropagator) (l : Lawful r) (long : length r.durations ≡ TASKS) where
  abbrev ds : List ℕ
  ds = durations_of r

  -- a lawful record is that of its tasks' durations
  pub own_holds : Holds r (durations_of r)
  own_holds = record {
    count = sym size;
    array = front_placed r.count r.durations long l.few l.unused;
    sum = l.stored ∙ total_ext (λ k. get_or r.durations k 0) (λ k. get_or ds k 0) r.count (λ k q. sym (get_or-take r.count r.durations k 0 q)) ∙ ap (total (λ k. get_or ds k 0)) (sym size);
    few = omega (arith, size, l.few);
  }
    where
      size : length (durations_of r) ≡ r.count
      size = length-take-le r.count r.durations (omega (arith, l.few, long))

  pub lasts : (k : ℕ) → k < length (durations_of r) → 1 ≤ get_or (durations_of r) k 0
  lasts k q = subst (λ (x : ℕ). 1 ≤ x) (sym (get_or-take r.count r.durations k 0 (omega (arith, own_holds.count)))) (l.lasts k (omega (arith, own_holds.count)))

  pub added_lawful : (d : ℕ) → r.count < TASKS → 1 ≤ d → r.total + d ≤ DURATIONS → Lawful (added r d)
  added_lawful d few last fits = holds_lawful (added_holds own_holds d few) (omega (arith, length-append ds (d ∷ []))) each (omega (arith, sum_more ds d, own_holds.sum, fits))
    where
      each : (k : ℕ) → k < length (ds ++ (d ∷ [])) → 1 ≤ get_or (ds ++ (d ∷ [])) k 0
      each k q = elim (dec_lt k (length ds)) [
        | yes h ↦ subst (λ (x : ℕ). 1 ≤ x) (sym (get_or-append ds (d ∷ []) 0 k h)) (lasts k h)
        | no h ↦ (let e : k ≡ length ds = omega (arith, length-append ds (d ∷ [])) in subst (λ (x : ℕ). 1 ≤ x) (sym (ap (λ (j : ℕ). get_or (ds ++ (d ∷ [])) j 0) e ∙ get_or-append_seam ds d [] 0)) last)
      ]

  -- a task's duration is part of the sum
  pub part : (t : ℕ) → t < r.count → get_or r.durations t 0 ≤ r.total
  part t q = omega (arith, l.stored, total_part (λ k. get_or r.durations k 0) r.count t q)

  pub removed_lawful : (t : ℕ) → t < r.count → 2 ≤ r.count → Lawful (removed r t)
  removed_lawful t q many =
      let there : t < length ds = omega (arith, own_holds.count) in
      holds_lawful (removed_holds own_holds t q) (omega (arith, without_length ds t there, own_holds.count)) (without_all (λ x. 1 ≤ x) ds t lasts)
      (omega (arith, sum_without ds t there, own_holds.sum, l.sum, l.stored))

-- What holds where nothing refuses a call.
pub record Addable (r : DisjunctivePropagator) (d : ℤ) : Type 0 where
  pub lawful : Lawful r
  pub room : r.count < TASKS
  pub lasts : pos 1 ≤ℤ d
  pub fits : r.total + duration_for d ≤ DURATIONS

pub record Removable (r : DisjunctivePropagator) (t : ℕ) : Type 0 where
  pub lawful : Lawful r
  pub there : t < r.count
  pub many : 2 ≤ r.count

-- a duration of 1 or more, as a natural number
pub lasting : (z : ℤ) → pos 1 ≤ℤ z → 1 ≤ duration_for z
lasting (pos n) h = leb-true 1 n (le_le_z (pos 1) (pos n) h)
lasting (negsuc n) h = clash (le_le_z (pos 1) (negsuc n) h) refl

pub addable : (r : DisjunctivePropagator) (d : ℤ) → add_number r d ≡ 0 → Addable r d
addable r d h = let t = accepted (add_tests r d) refl h in search (as_facts, (lawful_is r).0, more_room)

pub removable : (r : DisjunctivePropagator) (t : ℕ) → remove_number r t ≡ 0 → Removable r t
removable r t h = let f = accepted (remove_tests r t) refl h in search (as_facts, (lawful_is r).0, less_room)

-- The record with a task more and with one less, as the code stores it.
pub stored_more : (r : DisjunctivePropagator) → Lawful r → length r.durations ≡ TASKS → r.count < TASKS → (d : ℕ) {more : ℕ} → more ≡ d
    → ◌≡◌ {A = DisjunctivePropagator} (record { count = r.count + 1; durations = set r.durations r.count more; total = r.total + more }) (added r d)
stored_more r l long room d {more} e = let last = last_stored r.count r.durations more long room l.unused in cc (last, e)

pub stored_less : (r : DisjunctivePropagator) (t : ℕ) (left : List ℕ) → left ≡ (removed r t).durations
    → ◌≡◌ {A = DisjunctivePropagator} (record { count = r.count - 1; durations = left; total = r.total - get_or r.durations t 0 }) (removed r t)
stored_less r t left e = ap (λ (l : List ℕ). record_of (r.count - 1) l (r.total - get_or r.durations t 0)) e

-- The contracts that the calls meet, by the answer that the tests gave.
refused_numbers : (answer : Result Unit Refusal) → is_err answer ≡ true → numbers_of_change answer ≡ refused_by (number_in answer)
refused_numbers (Ok made) h = clash h refl
refused_numbers (Err why) h = refl

made_numbers : (answer : Result Unit Refusal) → is_err answer ≡ false → numbers_of_change answer ≡ answered 0 []
made_numbers (Ok made) h = refl
made_numbers (Err why) h = clash refl h

module _ (r : DisjunctivePropagator) (d : ℤ) (answer : Result Unit Refusal) (e : number_in answer ≡ add_number r d) where
  pub add_refused : is_err answer ≡ true → TaskAdded r d (record { «record» = r; answer = answer })
  add_refused h =
      let not = some_refused answer h in
      record {
        refused = λ _. record { answer = refused_numbers answer h ∙ ap refused_by e; stands = refl };
        made = λ z. absurd (not (e ∙ z));
        lawful = λ z. absurd (not (e ∙ z));
      }

  module _ (h : is_err answer ≡ false) where
    pub may_add : Addable r d
    may_add = addable r d (sym e ∙ none_refused answer h)

    pub add_made : (after : DisjunctivePropagator) → after ≡ added r (duration_for d) → length r.durations ≡ TASKS → TaskAdded r d (record { «record» = after; answer = answer })
    add_made after stored long = record {
      refused = λ not. absurd (not (sym e ∙ none_refused answer h));
      made = λ _. record { answer = made_numbers answer h; stands = stored };
      lawful = λ _. subst Lawful (sym stored) (added_lawful r may_add.lawful long (duration_for d) may_add.room (lasting d may_add.lasts) may_add.fits);
    }

module _ (r : DisjunctivePropagator) (t : ℕ) (answer : Result Unit Refusal) (e : number_in answer ≡ remove_number r t) where
  pub remove_refused : is_err answer ≡ true → TaskRemoved r t (record { «record» = r; answer = answer })
  remove_refused h =
      let not = some_refused answer h in
      record {
        refused = λ _. record { answer = refused_numbers answer h ∙ ap refused_by e; stands = refl };
        made = λ z. absurd (not (e ∙ z));
        lawful = λ z. absurd (not (e ∙ z));
      }

  module _ (h : is_err answer ≡ false) where
    pub may_remove : Removable r t
    may_remove = removable r t (sym e ∙ none_refused answer h)

    pub remove_made : (after : DisjunctivePropagator) → after ≡ removed r t → length r.durations ≡ TASKS → TaskRemoved r t (record { «record» = after; answer = answer })
    remove_made after stored long = let a = may_remove in record {
      refused = λ not. absurd (not (sym e ∙ none_refused answer h));
      made = λ _. record { answer = made_numbers answer h; stands = stored };
      lawful = λ _. subst Lawful (sym stored) (removed_lawful r a.lawful long t a.there a.many);
    }
