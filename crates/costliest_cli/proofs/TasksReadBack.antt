-- The program `plan` reads back the costliest tasks as they are written.
use mathlib.Core.Path.{◌≡◌, refl, sym, ap, ◌∙◌}
use mathlib.Core.Bool.{true}
use mathlib.Core.List.{List, [], ◌∷◌, ◌++◌, append_assoc}
use mathlib.Core.Option.{some}
use Prim.Native.Nat.{ℕ, zero, suc, ◌+◌, ◌*◌, ◌≤◌}
use native.Mathlib.Omega.{arith}
use lib.IntN.{ℤ, pos}
use lib.ListN.{length}
use borrow.Author.Tests.{eq-eqb}
use Rattle.integers.specs.Limits.{TASKS}
use Rattle.integers.proofs.Ints.{ints, up, dn}
use Rattle.integers.specs.Texts.{bytes_of}
use Rattle.runs.specs.Runs.{tabulate}
use Rattle.text.specs.DecimalText.{natural, decimal}
use Rattle.text.specs.Numbers.{numbers_in, space as is_space}
use Rattle.text.proofs.ReadBack.{no_numbers, number_back}
use Rattle.plan_cli.specs.Lines.{newline, space, lines}
use Rattle.plan_cli.specs.Printed.{Triple, triples, input_tasks, planned_of, or_zero, answered}
use Rattle.costliest_cli.specs.Tasks.{task_line, instance_lines, costliest_task, costliest}
use Rattle.costliest_cli.proofs.TaskLines.{costliest_length}

-- ---- the numbers of tasks in a row
unfoldable pub row : List Triple → List ℤ
row [] = []
row (t ∷ ts) = t.earliest ∷ t.latest ∷ t.duration ∷ row ts

row_length : (ts : List Triple) → length (row ts) ≡ 3 * length ts
unfolding row
row_length [] = refl
row_length (t ∷ ts) = omega (arith, row_length ts)

row_triples : (ts : List Triple) → triples (row ts) ≡ ts
unfolding row triples
row_triples [] = refl
row_triples (t ∷ ts) = ap (λ (l : List Triple). t ∷ l) (row_triples ts)

-- a count before them makes them an input
pub row_input : (ts : List Triple) → input_tasks (pos (length ts) ∷ row ts) ≡ some ts
unfolding input_tasks
row_input ts = rw (eq-eqb (length (row ts)) (3 * length ts) (row_length ts), input_tasks) (ap some (row_triples ts))

-- ---- what is written is read back
parts : (is_space 10 ≡ true) × (is_space 32 ≡ true)
unfolding is_space
parts = (refl, refl)

natural_back : (n b : ℕ) (bs : List ℕ) (xs : List ℤ) → n ≤ 2147483647 → is_space b ≡ true → numbers_in bs ≡ some xs → numbers_in (decimal (pos n) ++ b ∷ bs) ≡ some (pos n ∷ xs)
unfolding up dn
natural_back n b bs xs h = number_back (pos n) b bs xs (omega ints) (omega ints)

spread : (a b c bs : List ℕ) → (a ++ space ++ b ++ space ++ c ++ newline) ++ bs ≡ a ++ 32 ∷ (b ++ 32 ∷ (c ++ 10 ∷ bs))
unfolding bytes_of
spread a b c bs =
    append_assoc (a ++ space ++ b ++ space ++ c) newline bs
    ∙ append_assoc (a ++ space ++ b ++ space) c (10 ∷ bs)
    ∙ append_assoc (a ++ space ++ b) space (c ++ 10 ∷ bs)
    ∙ append_assoc (a ++ space) b (32 ∷ (c ++ 10 ∷ bs))
    ∙ append_assoc a space (b ++ 32 ∷ (c ++ 10 ∷ bs))

line_back : (k : ℕ) → k ≤ TASKS → (bs : List ℕ) (xs : List ℤ) → numbers_in bs ≡ some xs → numbers_in (task_line (costliest_task k) ++ bs) ≡ some (pos (10 * k) ∷ pos (10 * k) ∷ pos 10 ∷ xs)
unfolding task_line
line_back k h bs xs e =
    let start = decimal (pos (10 * k)) in
    let rest = decimal (pos 10) ++ 10 ∷ bs in
    ap numbers_in (spread start start (decimal (pos 10)) bs)
    ∙ natural_back (10 * k) 32 (start ++ 32 ∷ rest) (pos (10 * k) ∷ pos 10 ∷ xs) (omega arith) parts.1
    (natural_back (10 * k) 32 rest (pos 10 ∷ xs) (omega arith) parts.1 (natural_back 10 10 bs xs (omega arith) parts.0 e))

lines_back : (a d : ℕ) → a + d ≤ TASKS → numbers_in (lines task_line (tabulate costliest_task a d)) ≡ some (row (tabulate costliest_task a d))
unfolding lines row tabulate
lines_back a zero h = no_numbers
lines_back a (suc d) h =
    line_back a (omega arith) (lines task_line (tabulate costliest_task (suc a) d)) (row (tabulate costliest_task (suc a) d)) (lines_back (suc a) d (omega arith))

-- Reading the lines of n of them gives the count n and n triples, and these are the tasks.
pub costliest_back : (n : ℕ) → n ≤ TASKS → numbers_in (instance_lines (costliest n)) ≡ some (pos n ∷ row (costliest n))
unfolding instance_lines decimal bytes_of
costliest_back n few =
    let long = costliest_length n in
    ap numbers_in (append_assoc (natural (length (costliest n))) newline (lines task_line (costliest n)))
    ∙ natural_back (length (costliest n)) 10 (lines task_line (costliest n)) (row (costliest n)) (omega arith) parts.0 (lines_back 0 n (omega arith))
    ∙ ap (λ (m : ℕ). some (pos m ∷ row (costliest n))) long

pub costliest_input : (n : ℕ) → input_tasks (pos n ∷ row (costliest n)) ≡ some (costliest n)
costliest_input n = ap (λ (m : ℕ). input_tasks (pos m ∷ row (costliest n))) (sym (costliest_length n)) ∙ row_input (costliest n)

-- So the program `plan` answers to them as to these tasks.
pub costliest_answered : (n : ℕ) → n ≤ TASKS → answered (numbers_in (instance_lines (costliest n))) ≡ planned_of (costliest n)
unfolding answered
costliest_answered n few = ap answered (costliest_back n few) ∙ ap or_zero (costliest_input n)
