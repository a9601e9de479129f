-- What the program prints for an input: the whole promise.
use Rattle.std.specs.Prelude.{true, false, List, [], ◌∷◌, map, ◌≡◌, ◌⊎◌, ℕ, zero, suc, ◌*◌, ◌≤◌, eqb, ℤ, pos, negsuc, length, take}
use Rattle.std.proofs.Common.{inl, inr}
use Rattle.std.proofs.Math.Option.{Option, none, some}
use Rattle.integers.specs.Limits.{TASKS, ATOMS}
use Rattle.integers.specs.Tests.{refusal}
use Rattle.runs.specs.Traces.{Trace}
use Rattle.records.specs.declared.record.DisjunctivePropagator.{DisjunctivePropagator}
use Rattle.records.specs.Records.{creation_tests, new_record}
use Rattle.records.specs.Refusals.{run_number}
use Rattle.propagator.specs.Ran.{trace_of}
use Rattle.text.specs.Numbers.{numbers_in}
use Rattle.plan_cli.specs.RunLines.{answer_lines}

-- a task of the input
pub record Triple : Type 0 where
  pub earliest : ℤ
  pub latest : ℤ
  pub duration : ℤ

-- numbers, three by three
unfoldable pub triples : List ℤ → List Triple
triples [] = []
triples (e ∷ []) = []
triples (e ∷ l ∷ []) = []
triples (e ∷ l ∷ d ∷ xs) = record { earliest = e; latest = l; duration = d } ∷ triples xs

-- the tasks of an input that is one count and that many triples
unfoldable pub input_tasks : List ℤ → Option (List Triple)
input_tasks [] = none
input_tasks (negsuc n ∷ xs) = none
input_tasks (pos n ∷ xs) = elim (eqb (length xs) (3 * n)) [ true ↦ some (triples xs) | false ↦ none ]

-- the tasks of an input of which the numbers are read, if it has some
abbrev pub listed_tasks : Option (List ℤ) → Option (List Triple)
listed_tasks none = none
listed_tasks (some xs) = input_tasks xs

-- the first number that refuses an input, and what else follows where none does
abbrev pub numbered : ℕ → ℕ ⊎ Trace → ℕ ⊎ Trace
numbered zero otherwise = otherwise
numbered (suc n) otherwise = inl (suc n)

-- a run on a record and ranges without bars, with slices for the posts and the reasons of any run
abbrev pub ran_on : DisjunctivePropagator → List ℤ → List ℤ → ℕ ⊎ Trace
ran_on r es ls = numbered (run_number r es ls true (4 * TASKS) (3 * ATOMS)) (inr (trace_of r es ls))

-- creation, and a run on the new record
abbrev pub planned : List ℤ → List ℤ → List ℤ → ℕ ⊎ Trace
planned es ls ds = numbered (refusal (creation_tests ds)) (ran_on (new_record ds) es ls)

abbrev pub planned_of : List Triple → ℕ ⊎ Trace
planned_of ts = planned (map (λ (t : Triple). t.earliest) ts) (map (λ (t : Triple). t.latest) ts) (map (λ (t : Triple). t.duration) ts)

-- 0 refuses what is no list of tasks
abbrev pub or_zero : Option (List Triple) → ℕ ⊎ Trace
or_zero none = inl 0
or_zero (some ts) = planned_of ts

unfoldable pub answered : Option (List ℤ) → ℕ ⊎ Trace
answered xs = or_zero (listed_tasks xs)

-- the bytes that are printed for the bytes that are read
unfoldable pub printed : List ℕ → List ℕ
printed text = answer_lines (answered (numbers_in text))

-- The first n bytes of a buffer are the text, and no more.
pub record TextWritten (out : List ℕ) (n : ℕ) (text : List ℕ) : Type 0 where
  pub count : n ≡ length text
  pub bytes : take n out ≡ text
  pub inside : n ≤ length out
