-- The tasks of an input whose count is known, and what follows from them.
use mathlib.Core.Path.{◌≡◌, refl, sym, ap, ◌∙◌}
use mathlib.Core.Bool.{true, false}
use mathlib.Core.List.{List, [], ◌∷◌, map}
use mathlib.Core.Logic.{◌⊎◌, inl, inr}
use mathlib.Core.Option.{Option, none, some}
use Prim.Native.Nat.{ℕ, zero, suc, ◌+◌, ◌*◌, ◌≤◌, ◌<◌}
use native.Mathlib.Omega.{arith}
use Rattle.std.specs.Prelude.{None, Some, Result, Ok, Err}
use lib.Dec.{eqb, leb}
use lib.IntN.{ℤ, pos, negsuc}
use lib.ListN.{length, get_or, take, replicate, length-map, length-replicate}
use lib.Seq.{ext_get_or, get_or-take, length-take-le}
use borrow.Author.Tests.{eq-eqb, le-leb, lt-leb, leb-false}
use Rattle.integers.specs.Limits.{TASKS}
use Rattle.integers.specs.Tests.{refusal}
use Rattle.integers.proofs.Bools.{bool}
use Rattle.integers.proofs.FilledLists.{filled_at, filled_length}
use Rattle.integers.proofs.Lists.{get_d_map_in}
use Rattle.records.specs.Records.{creation_tests}
use Rattle.records.proofs.Creation.{refused_1}
use Rattle.text.specs.Scanner.{gathered}
use Rattle.text.specs.declared.reading.Numbers.{Numbers}
use Rattle.text.proofs.ScannedNumbers.{kept_at}
use Rattle.plan_cli.specs.InputCount.{count_in, column}
use Rattle.plan_cli.proofs.InputCount.{CountedTriples, listed}
use Rattle.plan_cli.specs.declared.input.Unread.{Unread}
use Rattle.plan_cli.specs.declared.input.Unread.TheVariants as unread
use Rattle.plan_cli.specs.Printed.{Triple, triples, input_tasks, listed_tasks}
use Rattle.plan_cli.specs.Columns.{Columns, columns_of, of_columns}
use Rattle.plan_cli.specs.InputTasks.{read_of}
use Rattle.plan_cli.specs.Unread.{number_of_unread}

-- ---- what the count says of the input
not_listed : (xs : Option (List ℤ)) → None ≡ count_in xs → listed_tasks xs ≡ none
unfolding input_tasks count_in
not_listed none h = refl
not_listed (some []) h = refl
not_listed (some (negsuc n ∷ xs)) h = refl
not_listed (some (pos n ∷ xs)) h = by (bool (eqb (length xs) (3 * n)))
  where
    by : (eqb (length xs) (3 * n) ≡ true) ⊎ (eqb (length xs) (3 * n) ≡ false) → listed_tasks (some (pos n ∷ xs)) ≡ none
    by (inl z) = let e : None ≡ Some n = h ∙ rw (z, count_in) in cc
    by (inr z) = rw (z, input_tasks)

tasks_listed : (xs : Option (List ℤ)) (n : ℕ) (l : CountedTriples xs n) → listed_tasks xs ≡ some (triples l.rest)
unfolding input_tasks
tasks_listed xs n l = ap listed_tasks l.whole ∙ rw (eq-eqb (length l.rest) (3 * n) l.long, input_tasks)

-- ---- the triples
abbrev no_triple : Triple
no_triple = record { earliest = pos 0; latest = pos 0; duration = pos 0 }

triples_long : (n : ℕ) (xs : List ℤ) → length xs ≡ 3 * n → length (triples xs) ≡ n
unfolding triples
triples_long zero [] h = refl
triples_long zero (e ∷ xs) h = absurd (omega arith)
triples_long (suc n) [] h = absurd (omega arith)
triples_long (suc n) (e ∷ []) h = absurd (omega arith)
triples_long (suc n) (e ∷ l ∷ []) h = absurd (omega arith)
triples_long (suc n) (e ∷ l ∷ d ∷ xs) h = ap suc (triples_long n xs (omega arith))

record At (xs : List ℤ) (k : ℕ) (t : Triple) : Type 0 where
  earliest : get_or xs (3 * k) (pos 0) ≡ t.earliest
  latest : get_or xs (3 * k + 1) (pos 0) ≡ t.latest
  duration : get_or xs (3 * k + 2) (pos 0) ≡ t.duration

triple_at : (n : ℕ) (xs : List ℤ) → length xs ≡ 3 * n → (k : ℕ) → k < n → At xs k (get_or (triples xs) k no_triple)
unfolding triples
triple_at zero xs h k q = absurd (omega arith)
triple_at (suc n) [] h k q = absurd (omega arith)
triple_at (suc n) (e ∷ []) h k q = absurd (omega arith)
triple_at (suc n) (e ∷ l ∷ []) h k q = absurd (omega arith)
triple_at (suc n) (e ∷ l ∷ d ∷ xs) h zero q = record { earliest = refl; latest = refl; duration = refl }
triple_at (suc n) (e ∷ l ∷ d ∷ xs) h (suc k) q =
    let r = triple_at n xs (omega arith) k (omega arith) in
    let a : 3 * suc k ≡ suc (suc (suc (3 * k))) = omega arith in
    let b : 3 * suc k + 1 ≡ suc (suc (suc (3 * k + 1))) = omega arith in
    let c : 3 * suc k + 2 ≡ suc (suc (suc (3 * k + 2))) = omega arith in
    record { earliest = rw a r.earliest; latest = rw b r.latest; duration = rw c r.duration }

-- the columns of the kept numbers are the tasks' starts and durations
module _ (ns : Numbers) (n : ℕ) (rest : List ℤ) (h : ns ≡ gathered (some (pos n ∷ rest))) (long : length rest ≡ 3 * n) (few : n ≤ TASKS) where
  kept_third : (from k : ℕ) → from < 3 → k < n → get_or ns.kept (3 * k + suc from) (pos 0) ≡ get_or rest (3 * k + from) (pos 0)
  kept_third from k q r =
      let z : 3 * k + suc from ≡ suc (3 * k + from) = omega arith in
      ap (λ (m : Numbers). get_or m.kept (3 * k + suc from) (pos 0)) h ∙ kept_at (pos n ∷ rest) (3 * k + suc from) (omega arith) ∙ ap (λ (j : ℕ). get_or (pos n ∷ rest) j (pos 0)) z

  column_long : (from : ℕ) → length (column ns.kept n from) ≡ TASKS
  column_long from = filled_length (λ k. get_or ns.kept (3 * k + from) (pos 0)) n (replicate TASKS (pos 0)) ∙ length-replicate TASKS (pos 0)

  column_is : (f : Triple → ℤ) (from : ℕ) → from < 3 → ((k : ℕ) → k < n → get_or rest (3 * k + from) (pos 0) ≡ f (get_or (triples rest) k no_triple))
      → take n (column ns.kept n (suc from)) ≡ map f (triples rest)
  column_is f from q at =
      let c = column ns.kept n (suc from) in
      let l = length-take-le n c (omega (arith, column_long (suc from))) in
      let m = triples_long n rest long in
      ext_get_or (pos 0) (take n c) (map f (triples rest)) (l ∙ sym (length-map (triples rest) f ∙ m))
      (λ k r. let s : k < n = omega arith in
      get_or-take n c k (pos 0) s
      ∙ filled_at (λ k. get_or ns.kept (3 * k + suc from) (pos 0)) n (replicate TASKS (pos 0)) (pos 0) k s (omega (arith, length-replicate {A = ℤ} TASKS (pos 0)))
      ∙ kept_third from k q s
      ∙ at k s
      ∙ sym (get_d_map_in f (triples rest) k no_triple (pos 0) (omega arith)))

  -- the earliest starts, the latest starts and the durations
  columns : (take n (column ns.kept n 1) ≡ map (λ (t : Triple). t.earliest) (triples rest)) × (take n (column ns.kept n 2) ≡ map (λ (t : Triple). t.latest) (triples rest))
      × (take n (column ns.kept n 3) ≡ map (λ (t : Triple). t.duration) (triples rest))
  columns =
      let zero_more : (k : ℕ) → 3 * k + 0 ≡ 3 * k = λ k. omega arith in (
        column_is (λ t. t.earliest) 0 (omega arith) (λ k q. ap (λ (j : ℕ). get_or rest j (pos 0)) (zero_more k) ∙ (triple_at n rest long k q).earliest),
        column_is (λ t. t.latest) 1 (omega arith) (λ k q. (triple_at n rest long k q).latest),
        column_is (λ t. t.duration) 2 (omega arith) (λ k q. (triple_at n rest long k q).duration),
      )

-- ---- what is read of an input, by its count
pub read_none : (xs : Option (List ℤ)) → None ≡ count_in xs → Err unread.NoTasks ≡ read_of (listed_tasks xs)
unfolding read_of
read_none xs h = ap read_of (sym (not_listed xs h))

pub read_many : (xs : Option (List ℤ)) (n : ℕ) → Some n ≡ count_in xs → TASKS < n → Err unread.TooMany ≡ read_of (listed_tasks xs)
unfolding read_of
read_many xs n h q =
    let l = listed xs n h in
    let m = triples_long n l.rest l.long in
    rw (tasks_listed xs n l, lt-leb (length (triples l.rest)) TASKS (omega arith), read_of) refl

pub read_few : (ns : Numbers) (xs : Option (List ℤ)) (n : ℕ) {es ls ds : List ℤ} → ns ≡ gathered xs → Some n ≡ count_in xs → n ≤ TASKS → es ≡ column ns.kept n 1
    → ls ≡ column ns.kept n 2 → ds ≡ column ns.kept n 3
    → Ok (record { earliest = take n es; latest = take n ls; durations = take n ds }) ≡ read_of (listed_tasks xs)
unfolding read_of
read_few ns xs n h k q e e' e'' =
    let l = listed xs n k in
    let m = triples_long n l.rest l.long in
    let (c, c', c'') = columns ns n l.rest (h ∙ ap gathered l.whole) l.long q in
    rw (tasks_listed xs n l, le-leb (length (triples l.rest)) TASKS (omega arith), read_of)
    (λ i. Ok (record { earliest = (ap (take n) e ∙ c) i; latest = (ap (take n) e' ∙ c') i; durations = (ap (take n) e'' ∙ c'') i }))

-- ---- what is answered to it: g of the tasks, which is f of their starts and durations
module _ {A : Type 0} (g : Option (List Triple) → A) (f : List ℤ → List ℤ → List ℤ → A) (given : (ts : List Triple) → g (some ts) ≡ of_columns f (columns_of ts)) where
  pub answered_tasks : (l : Option (List Triple)) (t : Columns) → Ok t ≡ read_of l → of_columns f t ≡ g l
  unfolding read_of
  answered_tasks none t h = cc
  answered_tasks (some ts) t h = by (bool (leb (length ts) TASKS))
    where
      by : (leb (length ts) TASKS ≡ true) ⊎ (leb (length ts) TASKS ≡ false) → of_columns f t ≡ g (some ts)
      by (inl z) =
          let e : ◌≡◌ {A = Result Columns Unread} (Ok t) (Ok (columns_of ts)) = h ∙ rw (z, read_of) in
          let same : t ≡ columns_of ts = cc in
          ap (of_columns f) same ∙ sym (given ts)
      by (inr z) = let e : ◌≡◌ {A = Result Columns Unread} (Ok t) (Err unread.TooMany) = h ∙ rw (z, read_of) in cc

  -- or what refuses it: creation, where there are too many
  module _ (refused : ℕ → A) (none_refused : g none ≡ refused 0) (told : (es ls ds : List ℤ) → refusal (creation_tests ds) ≡ 1 → f es ls ds ≡ refused 1) where
    pub answered_unread : (l : Option (List Triple)) (why : Unread) → Err why ≡ read_of l → refused (number_of_unread why) ≡ g l
    unfolding read_of
    answered_unread none why h =
        let e : why ≡ unread.NoTasks = cc in
        ap (λ (w : Unread). refused (number_of_unread w)) e ∙ sym none_refused
    answered_unread (some ts) why h = by (bool (leb (length ts) TASKS))
      where
        by : (leb (length ts) TASKS ≡ true) ⊎ (leb (length ts) TASKS ≡ false) → refused (number_of_unread why) ≡ g (some ts)
        by (inl z) = let e : ◌≡◌ {A = Result Columns Unread} (Err why) (Ok (columns_of ts)) = h ∙ rw (z, read_of) in cc
        by (inr z) =
            let e : ◌≡◌ {A = Result Columns Unread} (Err why) (Err unread.TooMany) = h ∙ rw (z, read_of) in
            let same : why ≡ unread.TooMany = cc in
            let ds = (columns_of ts).durations in
            let m : length ds ≡ length ts = length-map ts (λ t. t.duration) in
            let few : length ds ≤ TASKS → ⊥ = λ q. omega (arith, leb-false (length ts) TASKS z) in
            ap (λ (w : Unread). refused (number_of_unread w)) same ∙ sym (told _ _ ds ((refused_1 ds).1 (λ q. few q.1))) ∙ sym (given ts)
