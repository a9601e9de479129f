-- Tests, and others after them. Where the first tests refuse, their number is that of all; where they pass and one test follows, that one decides.
use mathlib.Core.Path.{◌≡◌, sym, ◌∙◌}
use mathlib.Core.Bool.{Bool, true, false}
use mathlib.Core.List.{List, [], ◌∷◌, ◌++◌}
use Prim.Native.Nat.{ℕ}
use Rattle.integers.specs.Tests.{Test, test, refusal}
use Rattle.integers.proofs.Tests.{refusal_here, refusal_before, refusal_after, other, accepts, accepted}

-- m is the number of the first tests, as a call has answered it
module _ (ts : List Test) {m : ℕ} (e : m ≡ refusal ts) where
  pub tests_first : (us : List Test) → (m ≡ 0 → ⊥) → m ≡ refusal (ts ++ us)
  tests_first us not = e ∙ sym (refusal_before ts us (λ z. not (e ∙ z)))

  module _ (d : other ts 0 ≡ true) (z : m ≡ 0) (n : ℕ) (p : Bool) where
    after : refusal (ts ++ (test n p ∷ [])) ≡ refusal (test n p ∷ [])
    after = refusal_after ts (test n p ∷ []) (accepted ts d (sym e ∙ z))

    pub last_refuses : p ≡ false → n ≡ refusal (ts ++ (test n p ∷ []))
    last_refuses h = sym (after ∙ refusal_here (test n p) [] h)

    pub last_passes : p ≡ true → 0 ≡ refusal (ts ++ (test n p ∷ []))
    last_passes h = sym (after ∙ accepts (test n p ∷ []) (h, tt))
