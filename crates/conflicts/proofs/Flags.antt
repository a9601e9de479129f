-- The flags of a set: what stands at each place, and one flag changed.
use mathlib.Core.Path.{◌≡◌, sym, ◌∙◌}
use mathlib.Core.Bool.{Bool, true, false}
use mathlib.Core.List.{List}
use Prim.Native.Nat.{ℕ, ◌≤◌, ◌<◌}
use native.Mathlib.Omega.{arith}
use native.Mathlib.Decide.{dec_lt, ℕ_discrete}
use lib.ListN.{length, set, length-set, length-replicate}
use lib.Seq.{ext_get_or, get_or-set_same, get_or-set_other}
use Rattle.integers.specs.Limits.{TASKS}
use Rattle.integers.proofs.Bools.{clash}
use Rattle.integers.proofs.FilledLists.{filled_length, filled_past, filled_at, get_d_fresh}
use Rattle.scheduling.specs.Scheduling.{TaskSet}
use Rattle.conflicts.specs.Answers.{no_flags, flags_of, flagged}

module _ (n : ℕ) (few : n ≤ TASKS) (Ω : TaskSet) where
  pub flags_long : length (flags_of n Ω) ≡ TASKS
  flags_long = filled_length Ω n no_flags ∙ length-replicate TASKS false

  pub flag_at : (k : ℕ) → k < n → flagged (flags_of n Ω) k ≡ Ω k
  flag_at k q = filled_at Ω n no_flags false k q (omega (arith, length-replicate TASKS false))

  flag_past : (k : ℕ) → n ≤ k → flagged (flags_of n Ω) k ≡ false
  flag_past k q = filled_past Ω n no_flags false k q ∙ get_d_fresh false TASKS k

  -- a flag is a task's
  pub flag_small : (k : ℕ) → flagged (flags_of n Ω) k ≡ true → k < n
  flag_small k y = elim (dec_lt k n) [ yes q ↦ q | no q ↦ clash y (flag_past k (omega arith)) ]

  -- a list that holds the same is this one
  pub flags_are : (l : List Bool) → length l ≡ TASKS → ((k : ℕ) → k < n → flagged l k ≡ Ω k) → ((k : ℕ) → n ≤ k → k < TASKS → flagged l k ≡ false) → l ≡ flags_of n Ω
  flags_are l long at past = ext_get_or false l (flags_of n Ω) (long ∙ sym flags_long) (λ k q. elim (dec_lt k n) [
    | yes r ↦ at k r ∙ sym (flag_at k r)
    | no r ↦ past k (omega arith) (omega (arith, long)) ∙ sym (flag_past k (omega arith))
  ])

-- the flag of i becomes b
pub flag_set : (n : ℕ) → n ≤ TASKS → (Ω Ω' : TaskSet) (i : ℕ) (b : Bool) → i < n → Ω' i ≡ b → ((k : ℕ) → k < n → (k ≡ i → ⊥) → Ω' k ≡ Ω k) → set (flags_of n Ω) i b ≡ flags_of n Ω'
flag_set n few Ω Ω' i b q here there = flags_are n few Ω' (set (flags_of n Ω) i b) (length-set (flags_of n Ω) i b ∙ flags_long n few Ω)
    (λ k r. elim (ℕ_discrete k i) [
      | yes z ↦ rw z (get_or-set_same (flags_of n Ω) i b false (omega (arith, flags_long n few Ω)) ∙ sym here)
      | no z ↦ get_or-set_other (flags_of n Ω) i k b false z ∙ flag_at n few Ω k r ∙ sym (there k r z)
    ])
    (λ k r t. get_or-set_other (flags_of n Ω) i k b false (omega arith) ∙ flag_past n few Ω k r)

-- sets that agree have the same flags; no flag stands past the last task of a set
pub flags_agree : (m n : ℕ) → m ≤ n → n ≤ TASKS → (Ω Ω' : TaskSet) → ((k : ℕ) → k < m → Ω k ≡ Ω' k) → ((k : ℕ) → m ≤ k → k < n → Ω' k ≡ false) → flags_of m Ω ≡ flags_of n Ω'
flags_agree m n le few Ω Ω' same none = flags_are n few Ω' (flags_of m Ω) (flags_long m (omega arith) Ω)
    (λ k q. elim (dec_lt k m) [ yes r ↦ flag_at m (omega arith) Ω k r ∙ same k r | no r ↦ flag_past m (omega arith) Ω k (omega arith) ∙ sym (none k (omega arith) q) ])
    (λ k q t. flag_past m (omega arith) Ω k (omega arith))
