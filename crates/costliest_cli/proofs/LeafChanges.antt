-- The program `plan`, reading the n tasks that are written, makes a run of 4n − 3 leaf changes.
use mathlib.Core.Path.{◌≡◌, refl, sym, ap, subst, ◌∙◌}
use mathlib.Core.Bool.{true}
use mathlib.Core.List.{List, [], ◌∷◌, map}
use mathlib.Core.Logic.{◌⊎◌, inr}
use Prim.Native.Nat.{ℕ, zero, suc, ◌+◌, ◌-◌, ◌*◌, ◌≤◌, ◌<◌}
use native.Mathlib.Nat.{mul-le-mul}
use native.Mathlib.Omega.{arith}
use lib.IntN.{ℤ, pos}
use lib.ListN.{length, get_or, take, replicate, length-replicate, get_or-replicate}
use lib.Seq.{ext_get_or, get_or-take, length-take-le}
use Rattle.integers.specs.Limits.{TASKS, START, ATOMS}
use Rattle.integers.specs.Tests.{refusal}
use Rattle.integers.specs.FilledLists.{filled, no_tasks}
use Rattle.integers.proofs.FilledLists.{filled_at, filled_length}
use Rattle.integers.proofs.Ints.{ints, up, dn, up_neg, dn_neg}
use Rattle.scheduling.specs.Scheduling.{total}
use Rattle.scheduling.proofs.Sets.{total_none, total_suc}
use Rattle.runs.specs.Traces.{done, Trace}
use Rattle.runs.specs.Runs.{tabulate, propagate}
use Rattle.runs.specs.Costliest.{costliest_starts, costliest_durations}
use Rattle.runs.proofs.TaskLists.{tab_length, tab_at, tab_map}
use Rattle.runs.proofs.Costliest.{costliest_run}
use Rattle.records.specs.Records.{Lawful, duration_at, creation_tests, new_record}
use Rattle.records.specs.Refusals.{run_number, StartFits}
use Rattle.records.proofs.Creation.{created_lawful, natural_count, natural_duration, natural_accepted}
use Rattle.records.proofs.RefusedRuns.{accepted_run}
use Rattle.propagator.specs.Ran.{trace_of}
use Rattle.text.specs.Numbers.{numbers_in}
use Rattle.plan_cli.specs.Lines.{lines, done_line}
use Rattle.plan_cli.specs.RunLines.{run_lines, answer_lines}
use Rattle.plan_cli.specs.Printed.{Triple, numbered, ran_on, planned, planned_of, answered, printed}
use Rattle.costliest_cli.specs.Tasks.{instance_lines, costliest_task, costliest}
use Rattle.costliest_cli.proofs.TasksReadBack.{costliest_answered}

-- an answer that is a run
abbrev ran : Trace → ℕ ⊎ Trace
ran t = inr t

-- ---- the lists of their starts and durations
module _ (n : ℕ) where
  abbrev es : List ℤ
  es = costliest_starts n

  abbrev ds : List ℤ
  ds = map pos (costliest_durations n)

  tens : (a d : ℕ) → map (λ (t : Triple). t.duration) (tabulate costliest_task a d) ≡ map pos (replicate d 10)
  unfolding tabulate
  tens a zero = refl
  tens a (suc d) = ap (λ (l : List ℤ). pos 10 ∷ l) (tens (suc a) d)

  starts_long : length es ≡ n
  starts_long = tab_length (λ k. pos (10 * k)) 0 n

  start_at_is : (k : ℕ) → k < n → get_or es k (pos 0) ≡ pos (10 * k)
  start_at_is k q = let e : 0 + k ≡ k = omega arith in tab_at (λ k. pos (10 * k)) 0 n k (pos 0) q ∙ ap (λ (j : ℕ). pos (10 * j)) e

  durations_long : length ds ≡ n
  durations_long = natural_count (costliest_durations n) ∙ length-replicate n 10

  -- ---- no number refuses them
  total_most : (f : ℕ → ℕ) (m : ℕ) → ((k : ℕ) → k < m → f k ≤ 10) → total f m ≤ 10 * m
  total_most f zero h = omega (arith, total_none f)
  total_most f (suc m) h = omega (arith, total_suc f m, total_most f m (λ k q. h k (omega arith)), h m (omega arith))

  module _ (one : 1 ≤ n) (few : n ≤ TASKS) where
    long : length (costliest_durations n) ≡ n
    long = length-replicate n 10

    lasts : (k : ℕ) → k < length (costliest_durations n) → get_or (costliest_durations n) k 0 ≡ 10
    lasts k q = get_or-replicate n k 10 0 (omega (arith, long))

    created : refusal (creation_tests ds) ≡ 0
    created = natural_accepted (costliest_durations n) (omega (arith, long)) (omega (arith, long)) (λ k q. omega (arith, lasts k q))
        (omega (arith, long, total_most (λ k. get_or (costliest_durations n) k 0) (length (costliest_durations n)) (λ k q. omega (arith, lasts k q))))

    near : (k : ℕ) → k < length es → StartFits (get_or es k (pos 0))
    unfolding up dn
    near k q = let small : k < n = omega (arith, starts_long) in
        subst StartFits (sym (start_at_is k small)) (record { low = omega (ints, up_neg (pos START), dn_neg (pos START)); high = omega ints })

    same_long : length es ≡ length ds
    same_long = starts_long ∙ sym durations_long

    lawful : Lawful (new_record ds)
    lawful = created_lawful ds created

    accepted : run_number (new_record ds) es es true (4 * TASKS) (3 * ATOMS) ≡ 0
    unfolding up dn
    accepted = (accepted_run (new_record ds) es es true (4 * TASKS) (3 * ATOMS)).1 (
      record {
        lawful = lawful;
        counts = record { earliest = same_long; latest = same_long };
        starts = record { earliest = near; latest = near };
        ranges = λ k q. omega ints;
        words = record { posts = omega (arith, lawful.few); atoms = omega (arith, mul-le-mul {n₁ = length ds} {m₁ = length ds} {n₂ = TASKS} {m₂ = TASKS} lawful.few lawful.few) };
      },
      refl,
    )

    -- ---- the run that follows
    durations_are : take (new_record ds).count (new_record ds).durations ≡ costliest_durations n
    durations_are = ext_get_or 0 (take (length ds) (filled (duration_at ds) (length ds) no_tasks)) (costliest_durations n) (size ∙ durations_long ∙ sym long) same
      where
        room : length ds ≤ length no_tasks
        room = omega (arith, durations_long, length-replicate {A = ℕ} TASKS 0)

        size : length (take (length ds) (filled (duration_at ds) (length ds) no_tasks)) ≡ length ds
        size = length-take-le (length ds) (filled (duration_at ds) (length ds) no_tasks) (omega (arith, filled_length (duration_at ds) (length ds) no_tasks, room))

        same : (k : ℕ) → k < length (take (length ds) (filled (duration_at ds) (length ds) no_tasks))
            → get_or (take (length ds) (filled (duration_at ds) (length ds) no_tasks)) k 0 ≡ get_or (costliest_durations n) k 0
        same k q = let s : k < length ds = omega (arith, size) in
            get_or-take (length ds) (filled (duration_at ds) (length ds) no_tasks) k 0 s ∙ filled_at (duration_at ds) (length ds) no_tasks 0 k s room ∙ natural_duration (costliest_durations n) k

    planned_is : planned_of (costliest n) ≡ ran (propagate (costliest_durations n) es es)
    planned_is =
        (λ i. planned (tab_map (λ (t : Triple). t.earliest) costliest_task 0 n i) (tab_map (λ (t : Triple). t.latest) costliest_task 0 n i) (tens 0 n i))
        ∙ ap (λ (k : ℕ). numbered k (ran_on (new_record ds) es es)) created
        ∙ ap (λ (k : ℕ). numbered k (ran (trace_of (new_record ds) es es))) accepted
        ∙ ap (λ (l : List ℕ). ran (propagate l es es)) durations_are

    -- The run that `plan` makes of the lines: no post, the starts unchanged, and 4n − 3 leaf changes.
    pub costliest_reaches : answered (numbers_in (instance_lines (costliest n))) ≡ inr (record { posts = []; end = done; starts = es; changes = 4 * n - 3 })
    costliest_reaches = costliest_answered n few ∙ planned_is ∙ ap ran (costliest_run n one)

    -- And what it prints: `done` with the starts.
    pub costliest_printed : printed (instance_lines (costliest n)) ≡ done_line es
    unfolding printed run_lines lines
    costliest_printed = ap answer_lines costliest_reaches
