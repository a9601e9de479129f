-- The lines of tasks, one by one.
use mathlib.Core.Path.{◌≡◌, sym, ap, ◌∙◌}
use mathlib.Core.List.{List}
use Prim.Native.Nat.{ℕ, ◌+◌, ◌<◌}
use native.Mathlib.Omega.{arith}
use lib.ListN.{length, take}
use Rattle.runs.proofs.TaskLists.{tab_length, tab_at}
use Rattle.text.specs.DecimalText.{Puts}
use Rattle.plan_cli.specs.Lines.{lines}
use Rattle.plan_cli.proofs.RunLines.{puts_as, puts_next}
use Rattle.costliest_cli.specs.Tasks.{task_line, costliest_task, costliest}

pub costliest_length : (n : ℕ) → length (costliest n) ≡ n
costliest_length n = tab_length costliest_task 0 n

-- the buffer with the line of task k after those before it
pub puts_one_more : {o₀ o₁ o₂ : List ℕ} {a₀ a₁ a₂ : ℕ} (n k : ℕ) → k < n → Puts o₀ o₁ a₀ (lines task_line (take k (costliest n))) a₁ → Puts o₁ o₂ a₁ (task_line (costliest_task k)) a₂
    → Puts o₀ o₂ a₀ (lines task_line (take (k + 1) (costliest n))) a₂
puts_one_more n k q p r =
    let e : 0 + k ≡ k = omega arith in
    puts_next task_line (costliest_task 0) (costliest n) k (omega (arith, costliest_length n)) p
    (puts_as (ap (λ (j : ℕ). task_line (costliest_task j)) (sym e) ∙ ap task_line (sym (tab_at costliest_task 0 n k (costliest_task 0) q))) r)
