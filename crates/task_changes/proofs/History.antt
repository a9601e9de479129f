-- After any history the record's durations are those of the tasks that it leaves, and the stored total is their sum. A creation, an add and a removal are its steps.
use mathlib.Core.Path.{◌≡◌, refl, sym, ap, subst, ◌∙◌}
use mathlib.Core.List.{List, [], ◌∷◌, map}
use Prim.Native.Nat.{ℕ, zero, suc, ◌≤◌, ◌<◌}
use native.Mathlib.Omega.{arith}
use lib.IntN.{ℤ, pos}
use lib.ListN.{length, get_or, length-map, length-replicate, get_or-map}
use lib.Seq.{length-take-le, get_or-take, ext_get_or}
use Rattle.integers.specs.Limits.{TASKS}
use Rattle.integers.specs.FilledLists.{filled, no_tasks}
use Rattle.integers.specs.Tests.{refusal}
use Rattle.integers.proofs.FilledLists.{filled_at, filled_length}
use Rattle.scheduling.proofs.Sets.{total_none}
use Rattle.records.specs.declared.record.DisjunctivePropagator.{DisjunctivePropagator}
use Rattle.records.specs.Records.{Lawful, record_of, duration_for, duration_at, creation_tests, new_record, created_at, created}
use Rattle.records.specs.declared.record.Created.{Created}
use Rattle.records.proofs.Creation.{created_lawful, created_new, natural_accepted}
use Rattle.task_changes.specs.declared.changes.Changed.{Changed}
use Rattle.task_changes.specs.Lists.{placed, sum_of}
use Rattle.task_changes.specs.Changes.{durations_of, add_number, remove_number, TaskAdded, TaskRemoved}
use Rattle.task_changes.specs.Histories.{leaves, History, creation, adding, removing, start_of, record_after, durations_after}
use Rattle.task_changes.proofs.ChangedRecords.{Holds, long, tasks, added_holds, removed_holds, own_holds, lasts, lasting, added_lawful, removed_lawful, addable, removable}

-- a step that is made and one that is refused
either : (P : DisjunctivePropagator → Type 0) (k : ℕ) {r r' : DisjunctivePropagator} → (k ≡ 0 → P r') → ((k ≡ 0 → ⊥) → P r) → P (leaves k r' r)
either P zero new old = new refl
either P (suc k) new old = old (λ e. omega arith)

made_or_not : (k : ℕ) {r r' : DisjunctivePropagator} {ds ds' : List ℕ} → (k ≡ 0 → Holds r' ds') → Holds r ds → Holds (leaves k r' r) (leaves k ds' ds)
made_or_not zero new old = new refl
made_or_not (suc k) new old = old

created_or_not : (k : ℕ) (ds : List ℤ) → (k ≡ 0 → Holds (new_record ds) (map duration_for ds)) → Holds (created_at k ds).«record» (leaves k (map duration_for ds) [])
created_or_not zero ds new = new refl
created_or_not (suc k) ds new = record { count = refl; array = refl; sum = sym (total_none _); few = omega arith }

new_holds : (ds : List ℤ) → refusal (creation_tests ds) ≡ 0 → Holds (new_record ds) (map duration_for ds)
new_holds ds h = subst (Holds (new_record ds)) (ext_get_or 0 (durations_of (new_record ds)) (map duration_for ds) (size ∙ sym (length-map ds duration_for)) same)
    (own_holds (new_record ds) (created_lawful ds h) full)
  where
    few : length ds ≤ TASKS
    few = (created_lawful ds h).few

    full : length (filled (duration_at ds) (length ds) no_tasks) ≡ TASKS
    full = filled_length (duration_at ds) (length ds) no_tasks ∙ length-replicate {A = ℕ} TASKS 0

    size : length (durations_of (new_record ds)) ≡ length ds
    size = length-take-le (length ds) (filled (duration_at ds) (length ds) no_tasks) (omega (arith, few, full))

    same : (k : ℕ) → k < length (durations_of (new_record ds)) → get_or (durations_of (new_record ds)) k 0 ≡ get_or (map duration_for ds) k 0
    same k q =
        let s : k < length ds = omega (arith, size) in
        get_or-take (length ds) (filled (duration_at ds) (length ds) no_tasks) k 0 s ∙ filled_at (duration_at ds) (length ds) no_tasks 0 k s few ∙ sym (get_or-map duration_for ds k (pos 0))

holds : (h : History) → Holds (record_after h) (durations_after h)
unfolding record_after durations_after
holds (creation ds) = created_or_not (refusal (creation_tests ds)) ds (new_holds ds)
holds (adding h d) = made_or_not (add_number (record_after h) d) (λ e. added_holds (holds h) (duration_for d) (addable (record_after h) d e).room) (holds h)
holds (removing h t) = made_or_not (remove_number (record_after h) t) (λ e. removed_holds (holds h) t (removable (record_after h) t e).there) (holds h)

-- The stored total is the sum over the tasks that the history leaves, and the record's durations are theirs.
pub total_true : (h : History) → ((record_after h).total ≡ sum_of (durations_after h)) × (durations_of (record_after h) ≡ durations_after h)
total_true h = ((holds h).sum, tasks (holds h))

-- From an accepted creation on, every record is lawful, so that 20 refuses no change.
pub lawful_after : (h : History) → refusal (creation_tests (start_of h)) ≡ 0 → Lawful (record_after h)
unfolding record_after
lawful_after (creation ds) z = subst (λ (k : ℕ). Lawful (created_at k ds).«record») (sym z) (created_lawful ds z)
lawful_after (adding h d) z =
    let r = record_after h in
    either Lawful (add_number r d) (λ e. (let a = addable r d e in added_lawful r a.lawful (long (holds h)) (duration_for d) a.room (lasting d a.lasts) a.fits)) (λ _. lawful_after h z)
lawful_after (removing h t) z =
    let r = record_after h in
    either Lawful (remove_number r t) (λ e. (let a = removable r t e in removed_lawful r a.lawful (long (holds h)) t a.there a.many)) (λ _. lawful_after h z)

-- Each call leaves what its step in a history does.
pub create_step : (ds : List ℤ) (c : Created) → c ≡ created ds → c.«record» ≡ record_after (creation ds)
unfolding record_after
create_step ds c e = ap (λ (x : Created). x.«record») e

pub add_step : (h : History) (d : ℤ) (c : Changed) → TaskAdded (record_after h) d c → c.«record» ≡ record_after (adding h d)
unfolding record_after
add_step h d c a = either (λ x. c.«record» ≡ x) (add_number (record_after h) d) (λ e. (a.made e).stands) (λ e. (a.refused e).stands)

pub remove_step : (h : History) (t : ℕ) (c : Changed) → TaskRemoved (record_after h) t c → c.«record» ≡ record_after (removing h t)
unfolding record_after
remove_step h t c a = either (λ x. c.«record» ≡ x) (remove_number (record_after h) t) (λ e. (a.made e).stands) (λ e. (a.refused e).stands)

given_back : (l : List ℕ) → map duration_for (map pos l) ≡ l
given_back [] = refl
given_back (x ∷ xs) = ap (λ (m : List ℕ). x ∷ m) (given_back xs)

-- The record is that of the durations which the history leaves, so two histories that leave the same durations leave the same record,
pub record_is : (h : History) → record_after h ≡ record_of (length (durations_after h)) (placed (durations_after h)) (sum_of (durations_after h))
record_is h = let a = holds h in λ i. record_of (a.count i) (a.array i) (a.sum i)

pub same_record : (h h' : History) → durations_after h ≡ durations_after h' → record_after h ≡ record_after h'
same_record h h' e = record_is h ∙ ap (λ (ds : List ℕ). record_of (length ds) (placed ds) (sum_of ds)) e ∙ sym (record_is h')

-- and it is the one that creation makes of them.
pub as_created : (h : History) → refusal (creation_tests (start_of h)) ≡ 0 → record_after h ≡ (created (map pos (durations_after h))).«record»
as_created h z = record_is h ∙ sym (ap (λ (c : Created). c.«record») (created_new (map pos ds) accepted) ∙ made (new_holds (map pos ds) accepted))
  where
    ds : List ℕ
    ds = durations_after h

    r : DisjunctivePropagator
    r = record_after h

    l : Lawful (record_after h)
    l = lawful_after h z

    accepted : refusal (creation_tests (map pos (durations_after h))) ≡ 0
    accepted = natural_accepted (durations_after h) (omega (arith, (holds h).count, l.some)) (holds h).few
        (subst (λ (xs : List ℕ). (k : ℕ) → k < length xs → 1 ≤ get_or xs k 0) (tasks (holds h)) (lasts (record_after h) l (long (holds h)))) (omega (arith, (holds h).sum, l.stored, l.sum))

    made : Holds (new_record (map pos (durations_after h))) (map duration_for (map pos (durations_after h)))
        → new_record (map pos (durations_after h)) ≡ record_of (length (durations_after h)) (placed (durations_after h)) (sum_of (durations_after h))
    made a = subst (λ (xs : List ℕ). new_record (map pos (durations_after h)) ≡ record_of (length xs) (placed xs) (sum_of xs)) (given_back (durations_after h))
        (λ i. record_of (a.count i) (a.array i) (a.sum i))
