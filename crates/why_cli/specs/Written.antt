-- What the program writes for an input: the whole promise.
use Rattle.std.specs.Prelude.{List, map, true, ℕ, zero, suc, ℤ}
use Rattle.std.proofs.Math.Option.{Option, none, some}
use Rattle.integers.specs.Tests.{refusal}
use Rattle.integers.specs.Texts.{bytes_of}
use Rattle.records.specs.declared.record.DisjunctivePropagator.{DisjunctivePropagator}
use Rattle.records.specs.Records.{creation_tests, new_record}
use Rattle.records.specs.Refusals.{input_number}
use Rattle.text.specs.Numbers.{numbers_in}
use Rattle.conflicts.specs.declared.answer.Found.{Found}
use Rattle.conflicts.specs.declared.answer.Found.TheVariants.{NothingFound, Overload, Late, Refused}
use Rattle.conflicts.specs.ConflictOf.{conflict_of}
use Rattle.conflict_pages.specs.Pages.{conflict_page_of}
use Rattle.plan_cli.specs.Lines.{refused_line}
use Rattle.plan_cli.specs.Printed.{Triple, listed_tasks}

-- bytes for the page of any instance: 43 for each of 53 lines
abbrev pub ROOM : ℕ
ROOM = 4096

-- the page, or a line of its own where nothing is found
abbrev pub found_text : Found → List ℕ → List ℕ
found_text NothingFound page = bytes_of "nothing found\n"
found_text Overload page = page
found_text (Late task latest bound) page = page
found_text (Refused number) page = page

-- the first number that refuses an input, and what else follows where none does
abbrev pub refused_or : ℕ → List ℕ → List ℕ
refused_or zero text = text
refused_or (suc n) text = refused_line (suc n)

-- a record, on ranges without bars
abbrev pub why_on : DisjunctivePropagator → List ℤ → List ℤ → List ℕ
why_on r es ls = refused_or (input_number r es ls true) (found_text (conflict_of r es ls).found (conflict_page_of r es ls))

-- creation, and the new record
abbrev pub why_of : List ℤ → List ℤ → List ℤ → List ℕ
why_of es ls ds = refused_or (refusal (creation_tests ds)) (why_on (new_record ds) es ls)

-- 0 refuses what is no list of tasks
abbrev pub why_of_tasks : Option (List Triple) → List ℕ
why_of_tasks none = refused_line 0
why_of_tasks (some ts) = why_of (map (λ (t : Triple). t.earliest) ts) (map (λ (t : Triple). t.latest) ts) (map (λ (t : Triple). t.duration) ts)

-- the bytes that are written for the bytes that are read
unfoldable pub written : List ℕ → List ℕ
written text = why_of_tasks (listed_tasks (numbers_in text))
