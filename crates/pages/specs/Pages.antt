-- A page of a fixed schedule: what refuses it, its bytes, and what the call leaves.
use Rattle.std.specs.Prelude.{◌≡◌, ℕ, ◌+◌, ◌*◌, ◌≤◌, ◌<◌, leb, ℤ, pos, ◌≤ℤ◌, length, get_or, take, drop, Result}
use mathlib.Core.List.{List, [], ◌∷◌, ◌++◌, flat_map}
use Rattle.integers.specs.Refused as refused
use Rattle.integers.specs.declared.refused.Refusal.{Refusal}
use Rattle.integers.specs.Answers.{answered, refused_by}
use Rattle.integers.specs.Words.{overwritten}
use Rattle.integers.specs.Orders.{index, Ordered}
use Rattle.integers.specs.Tests.{Test, test, refusal}
use Rattle.records.specs.declared.record.DisjunctivePropagator.{DisjunctivePropagator}
use Rattle.fixed_schedules.specs.FixedSchedules.{start_at, end_at, fixed_tests, AcceptedFixed, order_of}
use Rattle.pages.specs.Lines.{LINE, heading, line_of}
use Rattle.pages.specs.Numbers.{numbers_of_page}

-- The tests ---------------------------------------------------------------------------------------------------------------------

-- those of a fixed schedule; then 15: a buffer with no room for the page
abbrev pub page_tests : DisjunctivePropagator → List ℤ → List ℤ → ℕ → List Test
page_tests r es ls room = fixed_tests r es ls ++ (test refused.PAGE_ROOM (leb (LINE * (r.count + 1)) room) ∷ [])

abbrev pub page_number : DisjunctivePropagator → List ℤ → List ℤ → ℕ → ℕ
page_number r es ls room = refusal (page_tests r es ls room)

-- What holds of a page that is written.
pub record AcceptedPage (r : DisjunctivePropagator) (es ls : List ℤ) (bytes : ℕ) : Type 0 where
  pub schedule : AcceptedFixed r es ls
  pub room : LINE * (r.count + 1) ≤ bytes

-- The page ----------------------------------------------------------------------------------------------------------------------

-- task k's line
abbrev pub line_at : List ℕ → List ℤ → ℕ → List ℕ
line_at ds es k = line_of k (start_at es k) (end_at ds es k)

-- the heading, and the tasks' lines in that order
abbrev pub page_of : List ℕ → List ℤ → List ℕ
page_of ds es = heading ++ flat_map (line_at ds es) (order_of es)

-- A page has the heading and one line for each task, by start, least first. `order_of` orders the tasks 0 to n − 1. Line t is that of the task at place t,
-- and no two tasks share a line.
pub record OneLineEach (ds : List ℕ) (es : List ℤ) (page : List ℕ) : Type 0 where
  pub long : length page ≡ LINE * (length es + 1)
  pub first : take LINE page ≡ heading
  pub line : (t : ℕ) → t < length es → take LINE (drop (LINE * (t + 1)) page) ≡ line_at ds es (get_or (order_of es) t 0)
  pub once : (j k : ℕ) → j < length es → k < length es → line_at ds es j ≡ line_at ds es k → j ≡ k
  pub order : Ordered (length es) (λ t. get_or (order_of es) t 0) (index (order_of es)) (λ j k. start_at es j ≤ℤ start_at es k)

-- What the call leaves -----------------------------------------------------------------------------------------------------------

-- A refused page leaves the buffer unchanged.
pub record PageKept (number : ℕ) (bytes : List ℕ) (p : Result ℕ Refusal) (bytes' : List ℕ) : Type 0 where
  pub answer : numbers_of_page p ≡ refused_by number
  pub keeps : bytes' ≡ bytes

-- A page is written at the front of the buffer, and the bytes after it are unchanged.
pub record PageLeft (r : DisjunctivePropagator) (es : List ℤ) (bytes : List ℕ) (p : Result ℕ Refusal) (bytes' : List ℕ) : Type 0 where
  pub answer : numbers_of_page p ≡ answered 0 (pos (LINE * (r.count + 1)) ∷ [])
  pub text : bytes' ≡ overwritten bytes (page_of r.durations es)

-- A page: the first test that fails refuses it; else the page is written, which has one line for each task.
pub record Paged (r : DisjunctivePropagator) (es ls : List ℤ) (bytes : List ℕ) (p : Result ℕ Refusal) (bytes' : List ℕ) : Type 0 where
  pub refused : (page_number r es ls (length bytes) ≡ 0 → ⊥) → PageKept (page_number r es ls (length bytes)) bytes p bytes'
  pub written : page_number r es ls (length bytes) ≡ 0 → PageLeft r es bytes p bytes'
  pub lines : page_number r es ls (length bytes) ≡ 0 → OneLineEach r.durations es (page_of r.durations es)
