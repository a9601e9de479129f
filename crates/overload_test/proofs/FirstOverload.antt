-- A yes of the test stands at a task with which those read overload.
use mathlib.Core.Path.{◌≡◌, sym, ap, ◌∙◌}
use mathlib.Core.Bool.{true}
use mathlib.Core.Logic.{inl, inr}
use Prim.Native.Nat.{ℕ, suc, ◌+◌, ◌-◌, ◌≤◌, ◌<◌}
use native.Mathlib.Omega.{arith}
use Rattle.scheduling.specs.Scheduling.{natural, Tasks}
use Rattle.std.specs.Prelude.{Some, None}
use Rattle.overload_test.proofs.Answers.{stopped_or_passed}
use Rattle.overload_test.specs.ReadTasks.{overloads_at, answer_from}

module _ (J : Tasks natural) where
  -- a yes stands where the tasks read overload
  pub yes_at : (k d m : ℕ) → answer_from J k d ≡ Some m → (k < m) × (m ≤ k + d) × (overloads_at J (m - 1) ≡ true)
  yes_at k d m e = elim (stopped_or_passed J k d) [
    | inl s ↦ (let p : Some (suc s.at) ≡ Some m = sym s.is ∙ e in
        let z : suc s.at ≡ m = cc in
        let w : m - 1 ≡ s.at = omega arith in (omega (arith, s.from), omega (arith, s.small), ap (overloads_at J) w ∙ s.over))
    | inr p ↦ (let q : None ≡ Some m = sym p.is ∙ e in cc)
  ]
