-- A lent slice that is written from the front: stores one after the other, and what they leave.
use mathlib.Core.Path.{◌≡◌, sym, ap, ◌∙◌}
use mathlib.Core.List.{List, [], ◌∷◌, ◌++◌}
use Prim.Native.Nat.{ℕ, suc, ◌+◌, ◌≤◌}
use native.Mathlib.Omega.{arith}
use native.Mathlib.Nat.{zero-add, add-zero}
use lib.ListN.{length, drop, set}
use lib.Seq.{sets, sets-eq, length-sets}
use Rattle.integers.specs.Words.{overwritten}

module _ {A : Type 0} where
  pub sets_append : (vs us l : List A) (i : ℕ) → sets l i (vs ++ us) ≡ sets (sets l i vs) (i + length vs) us
  sets_append [] us l i = ap (λ (k : ℕ). sets l k us) (sym (add-zero i))
  sets_append (v ∷ vs) us l i =
      let z : suc i + length vs ≡ i + suc (length vs) = omega arith in
      sets_append vs us (set l i v) (suc i) ∙ ap (λ (k : ℕ). sets (sets (set l i v) (suc i) vs) k us) z

  -- stores from the front, and `overwritten`
  pub overwrites : (entry ws : List A) → length ws ≤ length entry → sets entry 0 ws ≡ overwritten entry ws
  overwrites entry ws h = sets-eq ws entry 0 (omega arith) ∙ ap (λ (k : ℕ). ws ++ drop k entry) (zero-add (length ws))

  pub overwritten_length : (entry ws : List A) → length ws ≤ length entry → length (overwritten entry ws) ≡ length entry
  overwritten_length entry ws h = ap length (sym (overwrites entry ws h)) ∙ length-sets entry 0 ws
