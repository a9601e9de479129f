-- Bytes put into a buffer one after the other.
use mathlib.Core.Path.{◌≡◌, refl, sym, ap, ◌∙◌}
use mathlib.Core.List.{List, [], ◌∷◌, ◌++◌}
use Prim.Native.Nat.{ℕ, ◌+◌, ◌<◌}
use native.Mathlib.Numerals.{add-one}
use native.Mathlib.Omega.{arith}
use lib.ListN.{length, take, set, get_or, length-append}
use lib.Seq.{sets, length-sets, take-suc, length-take-le}
use Rattle.integers.proofs.Words.{sets_append}
use Rattle.text.specs.DecimalText.{Puts}

-- the buffer keeps its length
pub puts_length : {before after bytes : List ℕ} {at next : ℕ} → Puts before after at bytes next → length after ≡ length before
puts_length {before} {after} {bytes} {at} p = ap length p.text ∙ length-sets before at bytes

-- one byte
pub puts_one : (before : List ℕ) (at b : ℕ) → Puts before (set before at b) at (b ∷ []) (at + 1)
puts_one before at b = record { text = refl; end = refl }

-- bytes, and bytes after them
pub puts_append : {first second third us vs : List ℕ} {at middle next : ℕ} → Puts first second at us middle → Puts second third middle vs next → Puts first third at (us ++ vs) next
puts_append {first} {second} {third} {us} {vs} {at} {middle} {next} p q = record {
  text = q.text ∙ ap (λ (l : List ℕ). sets l middle vs) p.text ∙ ap (λ (k : ℕ). sets (sets first at us) k vs) p.end ∙ sym (sets_append us vs first at);
  end = omega (arith, p.end, q.end, length-append us vs);
}

-- the bytes of a slice, one more of them
pub puts_more : (before bs : List ℕ) (at i : ℕ) → i < length bs → set (sets before at (take i bs)) (at + i) (get_or bs i 0) ≡ sets before at (take (i + 1) bs)
puts_more before bs at i h =
    let n = length-take-le i bs (omega arith) in
    rw (add-one i, take-suc bs i 0 h, sets_append (take i bs) (get_or bs i 0 ∷ []) before at, n)
