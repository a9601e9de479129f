-- The definition at two tasks, to the byte, and at inputs that are refused.
use Rattle.std.specs.Prelude.{◌≡◌, refl, List, [], ℕ}
use Rattle.integers.specs.Texts.{bytes_of}
use Rattle.runs.specs.Runs.{tabulate}
use Rattle.text.specs.DecimalText.{figures, natural, decimal}
use Rattle.text.specs.Numbers.{space, pieces, filled, tokens, digit, digits, value, ranged, unsigned, number_of, before, numbers, numbers_in}
use Rattle.plan_cli.specs.Lines.{lines, refused_line}
use Rattle.costliest_cli.specs.Asked.{asked_in}
use Rattle.costliest_cli.specs.Tasks.{task_line, instance_lines}
use Rattle.costliest_cli.specs.Written.{written}

two_tasks : written (bytes_of "2") ≡ bytes_of "2\n0 0 10\n10 10 10\n"
unfolding bytes_of written asked_in task_line instance_lines tabulate lines refused_line figures natural decimal space pieces filled tokens digit digits value ranged
    unsigned number_of before numbers numbers_in
two_tasks = refl

abbrev refused : List ℕ
refused = bytes_of "refused 0\n"

others : (written [] ≡ refused) × (written (bytes_of "0") ≡ refused) × (written (bytes_of "49") ≡ refused) × (written (bytes_of "1 2") ≡ refused)
    × (written (bytes_of "-1") ≡ refused) × (written (bytes_of "x") ≡ refused)
unfolding bytes_of written asked_in refused_line figures natural space pieces filled tokens digit digits value ranged unsigned number_of before numbers numbers_in
others = (refl, refl, refl, refl, refl, refl)
