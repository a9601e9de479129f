-- What refuses a call: what holds where nothing does, and the sole ground for each number of a run.
use mathlib.Core.Path.{◌≡◌, refl, sym, ◌∙◌}
use mathlib.Core.Bool.{Bool, true, false, not, ◌&&◌}
use mathlib.Core.Logic.{◌↔◌, inl, inr}
use mathlib.Core.List.{List, [], ◌∷◌, ◌++◌}
use Prim.Native.Nat.{ℕ, ◌*◌, ◌≤◌, ◌<◌}
use native.Mathlib.Omega.{arith}
use native.Mathlib.Nat.{mul-le-mul_left}
use lib.Dec.{leb, eqb}
use lib.IntN.{ℤ, pos}
use lib.Signed.{le_z, ◌≤ℤ◌}
use lib.ListN.{length, get_or}
use borrow.Author.Tests.{not-true, not-false}
use Rattle.integers.specs.Limits.{TASKS}
use Rattle.integers.specs.Tests.{Test, test, all_below, refusal, AllPassed}
use Rattle.integers.proofs.Bools.{bool}
use Rattle.integers.proofs.Ints.{le_z_true}
use Rattle.integers.proofs.Tests.{all_at, all_show, other, unused, accepts, accepted, refuses, broken, first_refuses, first_holds, behind, more_accepted}
use Rattle.records.specs.declared.record.DisjunctivePropagator.{DisjunctivePropagator}
use Rattle.records.specs.Records.{lawful_record, Lawful}
use Rattle.records.specs.Refusals.{start_fits_at, range_fits_at, range_tests, range_number, input_tests, input_number, run_number, StartFits, CountsFit, StartsFit, RangesFit, WordsFit, AcceptedInput}
use Rattle.records.specs.Refusals.{AcceptedRun}
use Rattle.records.proofs.LastTests.{tests_first, last_refuses, last_passes}
use Rattle.records.proofs.Lawful.{lawful_is}
use Rattle.records.proofs.TestsInOrder.{as_facts, as_tests}

-- a number from low to high, tested and as a fact
pub within_is : (low high z : ℤ) → le_z low z && le_z z high ≡ true ↔ ((low ≤ℤ z) × (z ≤ℤ high))
within_is low high z = (λ h. search as_facts, λ f. search as_tests)

starts_in : (xs : List ℤ) → all_below (start_fits_at xs) (length xs) ≡ true ↔ ((k : ℕ) → k < length xs → StartFits (get_or xs k (pos 0)))
starts_in xs = (facts, λ f. all_show (start_fits_at xs) (length xs) (λ k q. (let g = f k q in search as_tests)))
  where
    facts : all_below (start_fits_at xs) (length xs) ≡ true → (k : ℕ) → k < length xs → StartFits (get_or xs k (pos 0))
    facts h k q = let g = all_at (start_fits_at xs) (length xs) h k q in search as_facts

module _ (n : ℕ) (es ls : List ℤ) where
  pub counts_are : eqb (length es) n && eqb (length ls) n ≡ true ↔ CountsFit n es ls
  counts_are = (λ h. search as_facts, λ f. search as_tests)

  pub starts_are : all_below (start_fits_at es) (length es) && all_below (start_fits_at ls) (length ls) ≡ true ↔ StartsFit es ls
  starts_are = (λ h. search (as_facts, (starts_in es).0, (starts_in ls).0), λ f. search (as_tests, (starts_in es).1, (starts_in ls).1))

  pub ranges_are : all_below (range_fits_at es ls) (length es) ≡ true ↔ RangesFit es ls
  ranges_are = (λ h k q. le_z_true _ _ (all_at (range_fits_at es ls) (length es) h k q), λ f. search (as_tests, all_show, f))

words_are : (n posts atoms : ℕ) → leb (4 * n) posts && leb (6 * (n * n)) atoms ≡ true ↔ WordsFit n posts atoms
words_are n posts atoms = (λ h. search as_facts, λ f. search as_tests)

-- all tests of the record and its ranges are passed
pub passed_ranges : (r : DisjunctivePropagator) (es ls : List ℤ)
    → AllPassed (range_tests r es ls) ↔ AcceptedInput r es ls
passed_ranges r es ls = let n = r.count in (
  λ h. search ((lawful_is r).0, (counts_are n es ls).0, (starts_are n es ls).0, (ranges_are n es ls).0),
  λ f. search ((lawful_is r).1, (counts_are n es ls).1, (starts_are n es ls).1, (ranges_are n es ls).1),
)

-- and that of the bars
pub passed_input : (r : DisjunctivePropagator) (es ls : List ℤ) (bars : Bool)
    → AllPassed (input_tests r es ls bars) ↔ (AcceptedInput r es ls × (bars ≡ true))
passed_input r es ls bars = (λ h. search (passed_ranges r es ls).0, λ f. (let g = (passed_ranges r es ls).1 f.0 in search))

-- nothing is wrong with them
pub ranges_passed : (r : DisjunctivePropagator) (es ls : List ℤ) → range_number r es ls ≡ 0
    → AllPassed (range_tests r es ls)
ranges_passed r es ls h = accepted (range_tests r es ls) refl h

pub input_passed : (r : DisjunctivePropagator) (es ls : List ℤ) (bars : Bool) → input_number r es ls bars ≡ 0
    → AllPassed (input_tests r es ls bars)
input_passed r es ls bars h = accepted (input_tests r es ls bars) refl h

pub accepted_ranges : (r : DisjunctivePropagator) (es ls : List ℤ) → range_number r es ls ≡ 0 ↔ AcceptedInput r es ls
accepted_ranges r es ls = (λ h. (passed_ranges r es ls).0 (ranges_passed r es ls h), λ f. accepts (range_tests r es ls) ((passed_ranges r es ls).1 f))

pub accepted_input : (r : DisjunctivePropagator) (es ls : List ℤ) (bars : Bool)
    → input_number r es ls bars ≡ 0 ↔ (AcceptedInput r es ls × (bars ≡ true))
accepted_input r es ls bars = (λ h. (passed_input r es ls bars).0 (input_passed r es ls bars h), λ f. accepts (input_tests r es ls bars) ((passed_input r es ls bars).1 f))

-- The sole ground for each number of a record and its ranges, where other tests follow that do not have it: all before it hold, and its own does not.
module _ (r : DisjunctivePropagator) (es ls : List ℤ) (after : List Test) where
  pub range_20 : unused after 20 ≡ true → refusal (range_tests r es ls ++ after) ≡ 20 ↔ (Lawful r → ⊥)
  range_20 other = first_refuses _ _ (lawful_is r) other

  pub range_10 : unused after 10 ≡ true → refusal (range_tests r es ls ++ after) ≡ 10 ↔ (Lawful r × (CountsFit r.count es ls → ⊥))
  range_10 other = first_holds _ _ (lawful_is r) refl (λ _. first_refuses _ _ (counts_are r.count es ls) other)

  pub range_3 : unused after 3 ≡ true → refusal (range_tests r es ls ++ after) ≡ 3 ↔ (Lawful r × (CountsFit r.count es ls × (StartsFit es ls → ⊥)))
  range_3 other = first_holds _ _ (lawful_is r) refl (λ _. first_holds _ _ (counts_are r.count es ls) refl (λ _. first_refuses _ _ (starts_are r.count es ls) other))

  pub range_4 : unused after 4 ≡ true → refusal (range_tests r es ls ++ after) ≡ 4 ↔ (Lawful r × (CountsFit r.count es ls × (StartsFit es ls × (RangesFit es ls → ⊥))))
  range_4 other = first_holds _ _ (lawful_is r) refl
      (λ _. first_holds _ _ (counts_are r.count es ls) refl (λ _. first_holds _ _ (starts_are r.count es ls) refl (λ _. first_refuses _ _ (ranges_are r.count es ls) other)))

  -- a number that is none of theirs: all of them hold, and the tests after them give it
  pub range_holds : {n : ℕ} {G : Type 0} → other (range_tests r es ls) n ≡ true
      → (CountsFit r.count es ls → refusal after ≡ n ↔ G)
      → refusal (range_tests r es ls ++ after) ≡ n ↔ (Lawful r × (CountsFit r.count es ls × (StartsFit es ls × (RangesFit es ls × G))))
  range_holds d rest = let w = behind (range_tests r es ls) after (passed_ranges r es ls) d (λ a. rest a.counts) in (λ h. (let g = w.0 h in search), λ f. w.1 (search))

-- The same with the bars. Theirs is the only new number: 20, 10, 3 and 4 have the grounds above, with the test of the bars among those that follow.
module _ (r : DisjunctivePropagator) (es ls : List ℤ) (bars : Bool) (after : List Test) where
  pub input_13 : unused after 13 ≡ true → refusal (input_tests r es ls bars ++ after) ≡ 13 ↔ (Lawful r × (CountsFit r.count es ls × (StartsFit es ls × (RangesFit es ls × (bars ≡ false)))))
  input_13 other = range_holds r es ls (test 13 bars ∷ after) refl (λ _. (λ h. (broken same).1 (alone.0 h), λ f. alone.1 ((broken same).0 f)))
    where
      same : bars ≡ true ↔ bars ≡ true
      same = (λ h. h, λ h. h)

      alone : refusal (test 13 bars ∷ after) ≡ 13 ↔ (bars ≡ true → ⊥)
      alone = first_refuses (test 13 bars) after same other

  pub input_holds : {n : ℕ} {G : Type 0} → other (input_tests r es ls bars) n ≡ true
      → (CountsFit r.count es ls → refusal after ≡ n ↔ G)
      → refusal (input_tests r es ls bars ++ after) ≡ n ↔ (Lawful r × (CountsFit r.count es ls × (StartsFit es ls × (RangesFit es ls × ((bars ≡ true) × G)))))
  input_holds d rest = let w = behind (input_tests r es ls bars) after (passed_input r es ls bars) d (λ a. rest a.0.counts) in (λ h. (let g = w.0 h in search), λ f. w.1 (search))

-- More ranges than any record has tasks are refused by the number that refuses none, 20 or 10, whatever tests follow.
pub range_many : (r : DisjunctivePropagator) (es ls : List ℤ) (after after' : List Test) → TASKS < length es
    → (refusal (range_tests r [] [] ++ after) ≡ refusal (range_tests r es ls ++ after')) × (refusal (range_tests r es ls ++ after') ≡ 0 → ⊥)
range_many r es ls after after' many = elim (bool (lawful_record r)) [
  | inl y ↦
      (let w = (lawful_is r).0 y in
      let b = by_10 es ls after' y (λ c. omega (arith, many, c.earliest, w.few)) in
      (by_10 [] [] after y (λ c. omega (arith, c.earliest, w.some)) ∙ sym b, λ z. omega arith))
  | inr y ↦ (let b = by_20 es ls after' y in (by_20 [] [] after y ∙ sym b, λ z. omega arith))
]
  where
    by_20 : (xs zs : List ℤ) (rest : List Test) → lawful_record r ≡ false → refusal (range_tests r xs zs ++ rest) ≡ 20
    by_20 xs zs rest y = refuses [] (test 20 _) _ tt y

    by_10 : (xs zs : List ℤ) (rest : List Test) → lawful_record r ≡ true → (CountsFit r.count xs zs → ⊥)
        → refusal (range_tests r xs zs ++ rest) ≡ 10
    by_10 xs zs rest y not = refuses (test 20 _ ∷ []) (test 10 _) _ (y, tt) ((broken (counts_are r.count xs zs)).1 not)

-- and whether or not the bars of either fit
pub input_many : (r : DisjunctivePropagator) (es ls : List ℤ) (bars bars' : Bool) (after after' : List Test)
    → TASKS < length es
    → (refusal (input_tests r [] [] bars ++ after) ≡ refusal (input_tests r es ls bars' ++ after')) × (refusal (input_tests r es ls bars' ++ after') ≡ 0 → ⊥)
input_many r es ls bars bars' after after' many = range_many r es ls (test 13 bars ∷ after) (test 13 bars' ∷ after') many

module _ (r : DisjunctivePropagator) (es ls : List ℤ) (bars : Bool) (posts atoms : ℕ) where
  abbrev pub t9 : Test
  t9 = test 9 (leb (4 * r.count) posts && leb (6 * (r.count * r.count)) atoms)

  -- nothing refuses the run
  pub accepted_run : run_number r es ls bars posts atoms ≡ 0 ↔ (AcceptedRun r es ls posts atoms × (bars ≡ true))
  accepted_run = let w = more_accepted (input_tests r es ls bars) t9 (passed_input r es ls bars) (words_are r.count posts atoms) refl refl in (λ h. (let g = w.0 h in search), λ f. w.1 (search))

  -- the sole ground for the words' number: all before it hold, and its own does not
  pub refused_9 : run_number r es ls bars posts atoms ≡ 9 ↔ (Lawful r × (CountsFit r.count es ls × (StartsFit es ls × (RangesFit es ls × ((bars ≡ true) × (WordsFit r.count posts atoms → ⊥))))))
  refused_9 = input_holds r es ls bars (t9 ∷ []) refl (λ _. first_refuses t9 [] (words_are r.count posts atoms) refl)

-- What a call has answered goes before: the number of the record and its ranges before the bars, and that of these three before the words.
module _ (r : DisjunctivePropagator) (es ls : List ℤ) (bars : Bool) {m : ℕ} where
  pub ranges_first : m ≡ range_number r es ls → (m ≡ 0 → ⊥) → m ≡ input_number r es ls bars
  ranges_first e not = tests_first (range_tests r es ls) e (test 13 bars ∷ []) not

  pub bars_refuse : m ≡ range_number r es ls → m ≡ 0 → not bars ≡ true → 13 ≡ input_number r es ls bars
  bars_refuse e z h = last_refuses (range_tests r es ls) e refl z 13 bars (not-true bars h)

  pub bars_pass : m ≡ range_number r es ls → m ≡ 0 → not bars ≡ false → m ≡ input_number r es ls bars
  bars_pass e z h = z ∙ last_passes (range_tests r es ls) e refl z 13 bars (not-false bars h)

  module _ (posts atoms : ℕ) (e : m ≡ input_number r es ls bars) where
    pub input_first : (m ≡ 0 → ⊥) → m ≡ run_number r es ls bars posts atoms
    input_first not = tests_first (input_tests r es ls bars) e (t9 r es ls bars posts atoms ∷ []) not

    pub words_short : m ≡ 0 → (t9 r es ls bars posts atoms).passed ≡ false → 9 ≡ run_number r es ls bars posts atoms
    words_short z q = last_refuses (input_tests r es ls bars) e refl z 9 _ q

    pub words_enough : m ≡ 0 → (t9 r es ls bars posts atoms).passed ≡ true → 0 ≡ run_number r es ls bars posts atoms
    words_enough z q = last_passes (input_tests r es ls bars) e refl z 9 _ q

-- where those are passed there are few tasks, whose square is small
pub few_tasks : (r : DisjunctivePropagator) (es ls : List ℤ) (bars : Bool) {m : ℕ}
    → m ≡ input_number r es ls bars → m ≡ 0 → (r.count ≤ TASKS) × (r.count * r.count ≤ r.count * TASKS)
few_tasks r es ls bars e z = let few = ((accepted_input r es ls bars).0 (sym e ∙ z)).0.lawful.few in (few, mul-le-mul_left r.count few)
