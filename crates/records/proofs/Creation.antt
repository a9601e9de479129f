-- Creation: what each number is for, and that what is accepted makes a lawful record.
use mathlib.Core.Path.{◌≡◌, refl, sym, ap, subst, ◌∙◌}
use mathlib.Core.Bool.{Bool, true, false, not}
use mathlib.Core.Logic.{◌↔◌}
use mathlib.Core.List.{List, [], ◌∷◌, map}
use Prim.Native.Nat.{ℕ, zero, suc, ◌≤◌, ◌<◌}
use native.Mathlib.Omega.{arith}
use lib.Dec.{leb}
use lib.IntN.{ℤ, pos, negsuc}
use lib.Signed.{le_z, ◌≤ℤ◌}
use lib.ListN.{length, get_or, take, length-map}
use mir.Syntax.{w32}
use mir.Val.{SFits, to_z, of_z}
use borrow.Author.Tests.{leb-true, le-leb}
use Rattle.integers.specs.Limits.{TASKS, DURATIONS}
use Rattle.integers.specs.FilledLists.{filled, no_tasks}
use Rattle.integers.specs.Tests.{test, all_below, refusal, AllPassed}
use Rattle.integers.proofs.Bools.{clash}
use Rattle.integers.proofs.FilledLists.{filled_at, filled_past, get_d_fresh}
use Rattle.integers.proofs.Ints.{le_z_true, back}
use Rattle.integers.proofs.Tests.{all_at, all_show, all_ext, accepts, accepted, first_refuses, first_holds}
use Rattle.scheduling.specs.Scheduling.{total}
use Rattle.scheduling.proofs.Sets.{total_ext}
use Rattle.std.specs.Prelude.{Result, Ok, Err}
use Rattle.std.specs.Result.{is_err}
use Rattle.integers.specs.declared.refused.Refusal.{Refusal}
use Rattle.integers.specs.Refused.{TASK_COUNT, DURATION, DURATION_SUM, number_of, number_in}
use Rattle.integers.proofs.RefusalNumbers.{never_zero, reason_is}
use Rattle.records.specs.Records.{count_within, sum_within, lasts_at, lengths_of, Lawful, duration_for, duration_at, positive_at, creation_tests, new_record, zero_record, creation_numbers, number_of_creation, created, created_at, Creates}
use Rattle.records.specs.declared.record.Created.{Created}
use Rattle.integers.specs.Reasons.{reason_of}
use Rattle.records.proofs.Reasons.{none_refused}
use Rattle.records.proofs.Slices.{front_lasts, front_total}
use Rattle.records.proofs.Lawful.{count_is, few_said}
use Rattle.records.proofs.TestsInOrder.{as_tests}

pub duration_word : (z : ℤ) {r : ℕ} → SFits w32 z → r ≡ duration_for (to_z w32 (of_z w32 z)) → r ≡ duration_for z
duration_word z f e = e ∙ ap duration_for (back f)

-- a record's durations are 1 or more where the caller's are
lasts_same : (z : ℤ) → leb 1 (duration_for z) ≡ le_z (pos 1) z
lasts_same (pos n) = refl
lasts_same (negsuc n) = refl

pub same_lasts : (ds : List ℤ) → length ds ≤ TASKS
    → all_below (lasts_at (filled (duration_at ds) (length ds) no_tasks)) (length ds) ≡ all_below (positive_at ds) (length ds)
same_lasts ds few = all_ext (lasts_at (filled (duration_at ds) (length ds) no_tasks)) (positive_at ds) (length ds)
    (λ k q. ap (leb 1) (filled_at (duration_at ds) (length ds) no_tasks 0 k q few) ∙ lasts_same (get_or ds k (pos 0)))

-- the sum of a record's durations is that of the caller's
pub same_sum : (ds : List ℤ) → length ds ≤ TASKS
    → total (λ k. get_or (filled (duration_at ds) (length ds) no_tasks) k 0) (length ds) ≡ total (duration_at ds) (length ds)
same_sum ds few = total_ext (λ k. get_or (filled (duration_at ds) (length ds) no_tasks) k 0) (duration_at ds) (length ds) (λ k q. filled_at (duration_at ds) (length ds) no_tasks 0 k q few)

-- what the tests of a record's durations say of the caller's
module _ (ds : List ℤ) (l : List ℕ) (e : l ≡ lengths_of ds) (long : length l ≡ TASKS) {c : Bool} (n : c ≡ count_within (length ds)) (q : not c ≡ false) {r : Bool} where
  pub lasts_said : r ≡ all_below (lasts_at (take (length ds) l)) (length (take (length ds) l)) → r ≡ all_below (positive_at ds) (length ds)
  lasts_said h = h ∙ front_lasts l (length ds) (omega (arith, few_said {n = length ds} n q, long)) ∙ ap (λ (l : List ℕ). all_below (lasts_at l) (length ds)) e ∙ same_lasts ds (few_said n q)

  pub sum_said : r ≡ sum_within (λ k. get_or (take (length ds) l) k 0) (length (take (length ds) l)) → r ≡ sum_within (duration_at ds) (length ds)
  sum_said h = h
      ∙ ap (λ (s : ℕ). leb s DURATIONS) (front_total l (length ds) (omega (arith, few_said {n = length ds} n q, long)) ∙ ap (λ (l : List ℕ). total (λ k. get_or l k 0) (length ds)) e ∙ same_sum ds (few_said n q))

-- what creation answers, by its number
pub created_new : (ds : List ℤ) → refusal (creation_tests ds) ≡ 0 → created ds ≡ record { «record» = new_record ds; answer = Ok tt }
created_new ds h = ap (λ (n : ℕ). created_at n ds) h

created_some : (ds : List ℤ) (n : ℕ) → (n ≡ 0 → ⊥) → created_at n ds ≡ record { «record» = zero_record; answer = Err (reason_of n) }
created_some ds zero h = absurd (h refl)
created_some ds (suc n) h = refl

pub created_not : (ds : List ℤ) (why : Refusal) → refusal (creation_tests ds) ≡ number_of why → created ds ≡ record { «record» = zero_record; answer = Err why }
created_not ds why h =
    ap (λ (n : ℕ). created_at n ds) h
    ∙ created_some ds (number_of why) (never_zero why)
    ∙ (λ i. record { «record» = zero_record; answer = Err (reason_is why i) })

pub answer_number : (ds : List ℤ) → number_of_creation (created ds).answer ≡ refusal (creation_tests ds)
unfolding refusal
answer_number ds = at (count_within (length ds)) (all_below (positive_at ds) (length ds)) (sum_within (duration_at ds) (length ds))
  where
    at : (a b c : Bool) → let ts = test TASK_COUNT a ∷ test DURATION b ∷ test DURATION_SUM c ∷ [] in number_of_creation (created_at (refusal ts) ds).answer ≡ refusal ts
    at false b c = refl
    at true false c = refl
    at true true false = refl
    at true true true = refl

-- A created record is lawful, so that no run refuses it with 20.
pub created_lawful : (ds : List ℤ) → refusal (creation_tests ds) ≡ 0 → Lawful (new_record ds)
created_lawful ds h = made (accepted (creation_tests ds) refl h)
  where
    n : ℕ
    n = length ds

    made : AllPassed (creation_tests ds) → Lawful (new_record ds)
    made (a, (b, (c, _))) =
        let count = (count_is n).0 a in
        let few : n ≤ TASKS = count.1 in
        record {
          some = count.0;
          few = few;
          lasts = λ k q. leb-true 1 (get_or (filled (duration_at ds) n no_tasks) k 0) (all_at (lasts_at (filled (duration_at ds) n no_tasks)) n (same_lasts ds few ∙ b) k q);
          sum = subst (λ (s : ℕ). s ≤ DURATIONS) (sym (same_sum ds few)) (leb-true (total (duration_at ds) n) DURATIONS c);
          stored = sym (same_sum ds few);
          unused = λ k q s. filled_past (duration_at ds) n no_tasks 0 k q ∙ get_d_fresh 0 TASKS k;
        }

-- what equals the definition has its numbers
numbered : (ds : List ℤ) (r : Created) → r ≡ created ds → Creates ds r
numbered ds r e = record {
  answer = ap (λ (x : Created). creation_numbers x.answer) e;
  number = ap (λ (x : Created). number_of_creation x.answer) e ∙ answer_number ds;
  made = ap (λ (x : Created). x.«record») e;
}

-- What is made, by the answer that the tests gave. Where they refuse, it is the record of zeros.
pub refused_made : (ds : List ℤ) (answer : Result Unit Refusal) → number_in answer ≡ refusal (creation_tests ds) → is_err answer ≡ true
    → Creates ds (record { «record» = zero_record; answer = answer })
refused_made ds (Ok made) e h = clash h refl
refused_made ds (Err why) e h = numbered ds _ (sym (created_not ds why (sym e)))

nothing_beside : (answer : Result Unit Refusal) → is_err answer ≡ false → answer ≡ Ok tt
nothing_beside (Ok made) h = refl
nothing_beside (Err why) h = clash refl h

-- Where they do not, the record is lawful, so that its sum is within the limit.
module _ (ds : List ℤ) (answer : Result Unit Refusal) (e : number_in answer ≡ refusal (creation_tests ds)) (h : is_err answer ≡ false) where
  lawful_made : Lawful (new_record ds)
  lawful_made = created_lawful ds (sym e ∙ none_refused answer h)

  pub few_made : length ds ≤ TASKS
  few_made = lawful_made.few

  module _ (lengths : List ℕ) (long : length lengths ≡ TASKS) (f : number_in answer ≡ 0 → lengths ≡ lengths_of ds) (stored : ℕ)
      (t : stored ≡ total (λ k. get_or (take (length ds) lengths) k 0) (length (take (length ds) lengths))) where
    stored_is : stored ≡ total (duration_at ds) (length ds)
    stored_is = t ∙ front_total lengths (length ds) (omega (arith, few_made, long)) ∙ ap (λ (l : List ℕ). total (λ k. get_or l k 0) (length ds)) (f (none_refused answer h)) ∙ same_sum ds few_made

    pub stored_small : stored ≤ DURATIONS
    stored_small = omega (arith, lawful_made.sum, lawful_made.stored, stored_is)

    pub accepted_made : Creates ds (record { «record» = record { count = length ds; durations = lengths; total = stored }; answer = answer })
    accepted_made = numbered ds _ (cc (f (none_refused answer h), stored_is, nothing_beside answer h, created_new ds (sym e ∙ none_refused answer h)))

-- The sole ground for each number: all before it hold, and its own does not.
module _ (ds : List ℤ) where
  durations_are : all_below (positive_at ds) (length ds) ≡ true ↔ ((k : ℕ) → k < length ds → pos 1 ≤ℤ get_or ds k (pos 0))
  durations_are = (λ h k q. le_z_true _ _ (all_at (positive_at ds) (length ds) h k q), λ f. search (as_tests, all_show, f))

  sum_is : sum_within (duration_at ds) (length ds) ≡ true ↔ (total (duration_at ds) (length ds) ≤ DURATIONS)
  sum_is = (leb-true (total (duration_at ds) (length ds)) DURATIONS, le-leb (total (duration_at ds) (length ds)) DURATIONS)

  pub refused_1 : refusal (creation_tests ds) ≡ 1 ↔ ((1 ≤ length ds) × (length ds ≤ TASKS) → ⊥)
  refused_1 = first_refuses _ _ (count_is (length ds)) refl

  pub refused_2 : refusal (creation_tests ds) ≡ 2 ↔ (((1 ≤ length ds) × (length ds ≤ TASKS)) × (((k : ℕ) → k < length ds → pos 1 ≤ℤ get_or ds k (pos 0)) → ⊥))
  refused_2 = first_holds _ _ (count_is (length ds)) refl (λ _. first_refuses _ _ durations_are refl)

  pub refused_5 : refusal (creation_tests ds) ≡ 5
      ↔ (((1 ≤ length ds) × (length ds ≤ TASKS)) × (((k : ℕ) → k < length ds → pos 1 ≤ℤ get_or ds k (pos 0)) × (total (duration_at ds) (length ds) ≤ DURATIONS → ⊥)))
  refused_5 = first_holds _ _ (count_is (length ds)) refl (λ _. first_holds _ _ durations_are refl (λ _. first_refuses _ _ sum_is refl))

-- Natural numbers as durations: task k's is the k-th, and they are accepted where they are 1 or more and sum to at most DURATIONS.
module _ (l : List ℕ) where
  pub natural_count : length (map pos l) ≡ length l
  natural_count = length-map l pos

  pub natural_duration : (k : ℕ) → duration_at (map pos l) k ≡ get_or l k 0
  natural_duration = at l
    where
      at : (l : List ℕ) (k : ℕ) → duration_at (map pos l) k ≡ get_or l k 0
      at [] k = refl
      at (x ∷ xs) zero = refl
      at (x ∷ xs) (suc k) = at xs k

  pub natural_accepted : 1 ≤ length l → length l ≤ TASKS → ((k : ℕ) → k < length l → 1 ≤ get_or l k 0)
      → total (λ k. get_or l k 0) (length l) ≤ DURATIONS → refusal (creation_tests (map pos l)) ≡ 0
  natural_accepted some few lasts sum = accepts (creation_tests (map pos l)) (
    (count_is (length (map pos l))).1 (omega (arith, natural_count, some), omega (arith, natural_count, few)),
    (
      all_show (positive_at (map pos l)) (length (map pos l))
          (λ k q. sym (lasts_same (get_or (map pos l) k (pos 0))) ∙ le-leb 1 (duration_at (map pos l) k) (omega (arith, natural_duration k, lasts k (omega (arith, natural_count))))),
      (le-leb (total (duration_at (map pos l)) (length (map pos l))) DURATIONS (subst (λ (s : ℕ). s ≤ DURATIONS) (sym same) sum), tt),
    ),
  )
    where
      same : total (duration_at (map pos l)) (length (map pos l)) ≡ total (λ k. get_or l k 0) (length l)
      same = ap (total (duration_at (map pos l))) natural_count ∙ total_ext (duration_at (map pos l)) (λ k. get_or l k 0) (length l) (λ k q. natural_duration k)
