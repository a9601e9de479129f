-- The definitions at the paper's instances.
use Rattle.std.specs.Prelude.{◌≡◌, refl, true, false, pos}
use mathlib.Core.List.{[], ◌∷◌, ◌++◌, flat_map}
use Rattle.integers.specs.FilledLists.{filled}
use Rattle.integers.specs.Orders.{picked, numbers}
use Rattle.integers.specs.Tests.{all_below, refusal}
use Rattle.integers.specs.Texts.{bytes_of}
use Rattle.scheduling.specs.Scheduling.{total}
use Rattle.records.specs.declared.record.DisjunctivePropagator.{DisjunctivePropagator}
use Rattle.records.specs.Records.{unused_at, lawful_record, new_record}
use Rattle.text.specs.DecimalText.{figures, natural, decimal}
use Rattle.pages.specs.Lines.{pad_left}
use Rattle.conflicts.specs.declared.answer.Found.TheVariants.{Overload, Late}
use Rattle.conflicts.specs.declared.answer.Conflict.{Conflict}
use Rattle.conflicts.specs.Answers.{without_work}
use Rattle.conflict_pages.specs.Lines.{columns, line_end, heading}
use Rattle.conflict_pages.specs.Sentences.{phrase}
use Rattle.conflict_pages.specs.Pages.{page_of, conflict_page_number}

-- the four names stand in the heading's columns
heading_columns : columns (bytes_of "NR") (bytes_of "FROM") (bytes_of "UNTIL") (bytes_of "TAKES") ++ line_end false ≡ heading
unfolding columns pad_left bytes_of
heading_columns = refl

-- B: both tasks overload the span from 0 to 6
B : DisjunctivePropagator
B = new_record (pos 4 ∷ pos 4 ∷ [])

overload_B : Conflict
overload_B = record { found = Overload; set = record { tasks = true ∷ true ∷ []; est = pos 0; p = 8 }; lct = pos 6; excess = 2; before = without_work }

page_B : page_of B (pos 0 ∷ pos 1 ∷ []) (pos 2 ∷ pos 2 ∷ []) overload_B ≡
    bytes_of "  NR        FROM       UNTIL       TAKES  \n"
    ++ bytes_of "   0           0           6           4  \n"
    ++ bytes_of "   1           1           6           4  \n"
    ++ bytes_of "6 units from 0 to 6, and they take 8\n"
    ++ bytes_of "2 too many\n"
unfolding B overload_B filled columns pad_left bytes_of figures natural decimal flat_map picked numbers phrase
page_B = refl

-- E: task 0 comes after task 1, which ends at 6 or later
E : DisjunctivePropagator
E = new_record (pos 3 ∷ pos 5 ∷ [])

late_E : Conflict
late_E = record {
  found = Late 0 (pos 5) (pos 6);
  set = record { tasks = true ∷ true ∷ []; est = pos 0; p = 8 };
  lct = pos 6;
  excess = 2;
  before = record { tasks = false ∷ true ∷ []; est = pos 1; p = 5 };
}

page_E : page_of E (pos 0 ∷ pos 1 ∷ []) (pos 5 ∷ pos 1 ∷ []) late_E ≡
    bytes_of "  NR        FROM       UNTIL       TAKES  \n"
    ++ bytes_of "   0           0           8           3  \n"
    ++ bytes_of "   1           1           6           5 *\n"
    ++ bytes_of "0 comes after the others: 0 + 8 = 8 is past 6\n"
    ++ bytes_of "0 starts after those marked *: 1 + 5 = 6 is past 5\n"
unfolding E late_E filled columns pad_left bytes_of figures natural decimal flat_map picked numbers phrase
page_E = refl

-- 301 bytes are enough for the page of two tasks, and 300 are not
just_room : conflict_page_number B (pos 0 ∷ pos 1 ∷ []) (pos 2 ∷ pos 2 ∷ []) true 301 ≡ 0
unfolding B refusal lawful_record all_below unused_at filled total
just_room = refl

no_room : conflict_page_number B (pos 0 ∷ pos 1 ∷ []) (pos 2 ∷ pos 2 ∷ []) true 300 ≡ 15
unfolding B refusal lawful_record all_below unused_at filled total
no_room = refl
