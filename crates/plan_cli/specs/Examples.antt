-- The definition at instance A, to the byte, and at an empty input; and where an input ends.
use Rattle.std.specs.Prelude.{◌≡◌, refl, List, [], ℕ}
use Rattle.integers.specs.FilledLists.{filled}
use Rattle.integers.specs.Orders.{numbers as up_to, sort, insert, index}
use Rattle.integers.specs.Tests.{all_below, refusal}
use Rattle.integers.specs.Texts.{bytes_of}
use Rattle.scheduling.specs.Scheduling.{total}
use Rattle.trees.specs.Ects.{decoded}
use Rattle.trees.specs.Leaves.{root, responsible, theta}
use Rattle.trees.specs.Nodes.{join_of, is_empty}
use Rattle.trees.specs.Descents.{gray, tested, descent_by_p, descent_by_ect}
use Rattle.trees.specs.Searches.{step_p, step_ect, search_p, search_ect, theta_of}
use Rattle.trees.specs.Shapes.{width, height_from, node_over}
use Rattle.runs.specs.Runs.{propagate, run, outer, inner, conflict, propagation, bounds, within, tabulate}
use Rattle.records.specs.Records.{unused_at, lawful_record}
use Rattle.text.specs.DecimalText.{figures, natural, decimal}
use Rattle.text.specs.Numbers.{space, pieces, filled as non_empty, tokens, digit, digits, value, ranged, unsigned, number_of, before, numbers, numbers_in}
use Rattle.plan_cli.specs.Lines.{sign, post_line, why_line, lines, done_line, overload_lines, refused_line}
use Rattle.plan_cli.specs.RunLines.{run_lines}
use Rattle.plan_cli.specs.Printed.{triples, input_tasks, answered, printed}
use Rattle.plan_cli.specs.Inputs.{first_mark}

-- a count and three tasks, a line each
abbrev input : List ℕ
input = bytes_of "3\n0 6 4\n1 5 5\n0 20 3\n"

-- a post, the atoms of its reason, and the starts that it leaves
abbrev output : List ℕ
output = bytes_of "post 2 9\nwhy 0 >= 0\nwhy 0 <= 7\nwhy 1 >= 0\nwhy 1 <= 6\nwhy 2 >= 0\ndone 0 1 9\n"

instance_A : printed input ≡ output
unfolding bytes_of printed answered input_tasks triples sign post_line why_line lines done_line overload_lines run_lines refused_line figures natural decimal space
    pieces non_empty tokens digit digits value ranged unsigned number_of before numbers numbers_in unused_at lawful_record propagate run outer inner decoded conflict
    propagation bounds within tabulate width height_from node_over gray tested descent_by_p descent_by_ect step_p step_ect search_p search_ect theta_of join_of is_empty root
    responsible theta total all_below refusal up_to sort insert index filled
instance_A = refl

empty_input : printed [] ≡ bytes_of "refused 0\n"
unfolding bytes_of printed answered input_tasks pieces non_empty tokens numbers numbers_in refused_line figures natural
empty_input = refl

-- the first input ends at its '%', or where the text ends
mark : first_mark (bytes_of "0\n%1%") ≡ 2
unfolding first_mark bytes_of
mark = refl

no_mark : first_mark (bytes_of "0\n") ≡ 2
unfolding first_mark bytes_of
no_mark = refl
