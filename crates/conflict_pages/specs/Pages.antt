-- A conflict's page: what refuses it, its bytes, and what the call leaves.
use Rattle.std.specs.Prelude.{◌≡◌, Bool, true, Option, Result, List, [], ◌∷◌, ◌++◌, ℕ, ◌+◌, ◌*◌, ◌<◌, leb, ℤ, pos, length, get_or, take, drop}
use Rattle.integers.specs.declared.refused.Refusal.{Refusal}
use Rattle.integers.specs.Refused as refused
use Rattle.integers.specs.Answers.{Answer, answered, refused_by}
use Rattle.integers.specs.Words.{overwritten}
use Rattle.integers.specs.Tests.{Test, test, refusal}
use Rattle.records.specs.declared.record.DisjunctivePropagator.{DisjunctivePropagator}
use Rattle.records.specs.Refusals.{input_tests}
use Rattle.conflicts.specs.declared.answer.Found.{Found}
use Rattle.conflicts.specs.declared.answer.Found.TheVariants.{NothingFound, Overload, Late, Refused}
use Rattle.conflicts.specs.declared.answer.Conflict.{Conflict}
use Rattle.conflicts.specs.Answers.{flagged}
use Rattle.conflicts.specs.ConflictOf.{conflict_of}
use Rattle.conflicts.specs.Conflicts.{ConflictFound}
use Rattle.conflict_pages.specs.Numbers.{numbers_of_conflict_page}
use Rattle.conflict_pages.specs.Lines.{LINE, heading}
use Rattle.conflict_pages.specs.TaskLines.{tasks_of, line_at, task_lines}
use Rattle.conflict_pages.specs.Sentences.{overload_sentences, comes_after, starts_after}

-- The tests ---------------------------------------------------------------------------------------------------------------------

-- those of the call; then 15: a buffer with no room for a heading, a line for each task of the record, and four more
abbrev pub conflict_page_tests : DisjunctivePropagator → List ℤ → List ℤ → Bool → ℕ → List Test
conflict_page_tests r es ls bars room = input_tests r es ls bars ++ (test refused.PAGE_ROOM (leb (LINE * (r.count + 5)) room) ∷ [])

abbrev pub conflict_page_number : DisjunctivePropagator → List ℤ → List ℤ → Bool → ℕ → ℕ
conflict_page_number r es ls bars room = refusal (conflict_page_tests r es ls bars room)

-- The page ----------------------------------------------------------------------------------------------------------------------

-- what the page says of the conflict
abbrev pub sentences_of : Conflict → Found → List ℕ
sentences_of c NothingFound = []
sentences_of c Overload = overload_sentences c.set.est c.set.p c.lct c.excess
sentences_of c (Late task latest bound) = comes_after task c.set.est c.set.p c.lct ++ starts_after task c.before.est c.before.p latest
sentences_of c (Refused why) = []

module _ (r : DisjunctivePropagator) (es ls : List ℤ) (c : Conflict) where
  -- the heading, the lines of the set's tasks, those of `before` with a mark, and the sentences
  abbrev pub page_of : List ℕ
  page_of = heading ++ task_lines c.set.tasks c.before.tasks es ls r.durations ++ sentences_of c c.found

  -- After the heading the page has a line for each task of the set and for no other, by number, least first.
  pub record OneLineEach (tasks : List ℕ) : Type 0 where
    pub first : take LINE page_of ≡ heading
    pub line : (t : ℕ) → t < length tasks → take LINE (drop (LINE * (t + 1)) page_of) ≡ line_at c.before.tasks es ls r.durations (get_or tasks t 0)
    pub chosen : (t : ℕ) → t < length tasks → (get_or tasks t 0 < length es) × (flagged c.set.tasks (get_or tasks t 0) ≡ true)
    pub every : (k : ℕ) → k < length es → flagged c.set.tasks k ≡ true → (t : ℕ) × (t < length tasks) × (get_or tasks t 0 ≡ k)
    pub rising : (s t : ℕ) → s < t → t < length tasks → get_or tasks s 0 < get_or tasks t 0

-- the page of the input's conflict
abbrev pub conflict_page_of : DisjunctivePropagator → List ℤ → List ℤ → List ℕ
conflict_page_of r es ls = page_of r es ls (conflict_of r es ls)

-- What the call leaves -----------------------------------------------------------------------------------------------------------

-- Nothing is written, and the buffer is unchanged.
pub record PageKept (a : Answer) (bytes : List ℕ) (p : Result (Option ℕ) Refusal) (bytes' : List ℕ) : Type 0 where
  pub answer : numbers_of_conflict_page p ≡ a
  pub keeps : bytes' ≡ bytes

-- The page stands at the front of the buffer, and the bytes after it are unchanged.
pub record PageLeft (page bytes : List ℕ) (p : Result (Option ℕ) Refusal) (bytes' : List ℕ) : Type 0 where
  pub answer : numbers_of_conflict_page p ≡ answered 0 (pos (length page) ∷ [])
  pub text : bytes' ≡ overwritten bytes page

-- A conflict's page, on ranges whose bars fit if `bars`: the first test that fails refuses it. Else the conflict is the call's: where nothing is found, nothing
-- is written; where one is found, its page is.
pub record ConflictPaged (r : DisjunctivePropagator) (es ls : List ℤ) (bars : Bool) (bytes : List ℕ) (p : Result (Option ℕ) Refusal) (bytes' : List ℕ) : Type 0 where
  pub refused : (conflict_page_number r es ls bars (length bytes) ≡ 0 → ⊥)
      → PageKept (refused_by (conflict_page_number r es ls bars (length bytes))) bytes p bytes'
  pub right : conflict_page_number r es ls bars (length bytes) ≡ 0 → ConflictFound r es ls bars (conflict_of r es ls)
  pub nothing : conflict_page_number r es ls bars (length bytes) ≡ 0 → (conflict_of r es ls).found ≡ NothingFound
      → PageKept (answered 1 []) bytes p bytes'
  pub written : conflict_page_number r es ls bars (length bytes) ≡ 0 → ((conflict_of r es ls).found ≡ NothingFound → ⊥)
      → PageLeft (conflict_page_of r es ls) bytes p bytes'
  pub lines : conflict_page_number r es ls bars (length bytes) ≡ 0
      → OneLineEach r es ls (conflict_of r es ls) (tasks_of (conflict_of r es ls).set.tasks (length es))
