-- The definitions at small inputs.
use Rattle.std.specs.Prelude.{◌≡◌, refl, pos, negsuc}
use mathlib.Core.List.{[], ◌∷◌, ◌++◌, flat_map}
use Rattle.integers.specs.FilledLists.{filled}
use Rattle.integers.specs.Orders.{insert, sort, numbers}
use Rattle.integers.specs.Tests.{all_below, refusal}
use Rattle.integers.specs.Texts.{bytes_of}
use Rattle.scheduling.specs.Scheduling.{total}
use Rattle.records.specs.declared.record.DisjunctivePropagator.{DisjunctivePropagator}
use Rattle.records.specs.Records.{unused_at, lawful_record, new_record}
use Rattle.text.specs.DecimalText.{figures, natural, decimal}
use Rattle.pages.specs.Lines.{pad_left, columns, heading}
use Rattle.pages.specs.Pages.{page_of, page_number}

-- the three names are in the heading's columns
heading_columns : columns (bytes_of "NR") (bytes_of "START") (bytes_of "END") ≡ heading
unfolding columns pad_left bytes_of
heading_columns = refl

-- task 0 starts at 3 and lasts 4, task 1 starts at −12 and lasts 15: its line is the first
two_tasks : page_of (4 ∷ 15 ∷ []) (pos 3 ∷ negsuc 11 ∷ []) ≡
    heading
    ++ bytes_of " 1         -12           3    \n"
    ++ bytes_of " 0           3           7    \n"
unfolding columns pad_left bytes_of figures natural decimal flat_map sort insert numbers
two_tasks = refl

-- the record of those tasks
two : DisjunctivePropagator
two = new_record (pos 4 ∷ pos 15 ∷ [])

-- 93 bytes hold the page, and 92 do not
just_room : page_number two (pos 3 ∷ negsuc 11 ∷ []) (pos 3 ∷ negsuc 11 ∷ []) 93 ≡ 0
unfolding two refusal lawful_record all_below unused_at filled total
just_room = refl

no_room : page_number two (pos 3 ∷ negsuc 11 ∷ []) (pos 3 ∷ negsuc 11 ∷ []) 92 ≡ 15
unfolding two refusal lawful_record all_below unused_at filled total
no_room = refl

-- 14 is tried before 15
overlap : page_number two (pos 2 ∷ negsuc 11 ∷ []) (pos 2 ∷ negsuc 11 ∷ []) 0 ≡ 14
unfolding two refusal lawful_record all_below unused_at filled total
overlap = refl
