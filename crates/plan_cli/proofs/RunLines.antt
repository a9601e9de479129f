-- The lines of a run from their parts.
use mathlib.Core.Path.{◌≡◌, refl, sym, ap, subst, ◌∙◌}
use mathlib.Core.Bool.{true, false}
use mathlib.Core.List.{List, [], ◌∷◌, ◌++◌, append-nil, append_assoc}
use Prim.Native.Nat.{ℕ, zero, suc, ◌+◌, ◌*◌, ◌/◌, ◌≤◌, ◌<◌}
use native.Mathlib.Omega.{arith}
use native.Mathlib.Numerals.{add-one}
use lib.ListN.{length, get_or, take}
use lib.Seq.{take_all}
use lib.IntN.{ℤ, pos}
use lib.Signed.{le_z}
use Rattle.integers.specs.Texts.{bytes_of}
use Rattle.text.specs.DecimalText.{decimal, Puts}
use Rattle.text.proofs.PutBytes.{puts_append}
use Rattle.scheduling.specs.Scheduling.{Atom}
use Rattle.scheduling.specs.Words.{atom_words, no_atom}
use Rattle.scheduling.proofs.Words.{atoms_length, three_alone}
use Rattle.plan_cli.specs.Lines.{sign, why_line, lines, why_of, why_lines}

pub sign_low : (kind : ℤ) → le_z kind (pos 0) ≡ true → bytes_of " >= " ≡ sign kind
unfolding sign
sign_low kind h = rw (h, sign)

pub sign_high : (kind : ℤ) → le_z kind (pos 0) ≡ false → bytes_of " <= " ≡ sign kind
unfolding sign
sign_high kind h = rw (h, sign)

-- bytes that are known to be others
pub puts_as : {before after us vs : List ℕ} {at next : ℕ} → us ≡ vs → Puts before after at us next → Puts before after at vs next
puts_as {before} {after} {us} {vs} {at} {next} e p = subst (λ (l : List ℕ). Puts before after at l next) e p

-- a number that came back from its bits
pub puts_number : {before after : List ℕ} {at next : ℕ} {x y : ℤ} → x ≡ y → Puts before after at (decimal x) next → Puts before after at (decimal y) next
puts_number e p = puts_as (ap decimal e) p

-- ---- lines of a list, one by one
module _ {A : Type 0} (f : A → List ℕ) (d : A) where
  lines_suc : (xs : List A) (k : ℕ) → k < length xs → lines f (take (suc k) xs) ≡ lines f (take k xs) ++ f (get_or xs k d)
  unfolding lines
  lines_suc [] k h = absurd (omega arith)
  lines_suc (x ∷ xs) zero h = append-nil (f x)
  lines_suc (x ∷ xs) (suc k) h = ap (λ (l : List ℕ). f x ++ l) (lines_suc xs k (omega arith)) ∙ sym (append_assoc (f x) (lines f (take k xs)) (f (get_or xs k d)))

  -- the buffer with one more of them
  pub puts_first : (before : List ℕ) (at : ℕ) (xs : List A) → Puts before before at (lines f (take 0 xs)) at
  unfolding lines
  puts_first before at xs = record { text = refl; end = omega arith }

  pub puts_next : {o₀ o₁ o₂ : List ℕ} {a₀ a₁ a₂ : ℕ} (xs : List A) (k : ℕ) → k < length xs → Puts o₀ o₁ a₀ (lines f (take k xs)) a₁ → Puts o₁ o₂ a₁ (f (get_or xs k d)) a₂
      → Puts o₀ o₂ a₀ (lines f (take (k + 1) xs)) a₂
  puts_next xs k h p q = rw (add-one k) (puts_as (sym (lines_suc xs k h)) (puts_append p q))

  pub puts_all : {o₀ o₁ : List ℕ} {a₀ a₁ : ℕ} (xs : List A) (k : ℕ) → length xs ≤ k → Puts o₀ o₁ a₀ (lines f (take k xs)) a₁ → Puts o₀ o₁ a₀ (lines f xs) a₁
  puts_all xs k h p = puts_as (ap (lines f) (take_all k xs h)) p

-- ---- a reason's lines from its words
-- the buffer with all of them
pub puts_why_all : {o₀ o₁ : List ℕ} {a₀ a₁ : ℕ} (words : List ℤ) (k : ℕ) → length words / 3 ≤ k
    → ((atoms : List Atom) → words ≡ atom_words atoms → Puts o₀ o₁ a₀ (why_lines (take k atoms)) a₁)
    → (atoms : List Atom) → words ≡ atom_words atoms → Puts o₀ o₁ a₀ (why_lines atoms) a₁
puts_why_all words k h p atoms w =
    let l = atoms_length atoms in
    let m = ap length w in
    puts_all why_of no_atom atoms k (omega arith) (p atoms w)

-- the buffer with one more line of a reason, whose words come back from their bits
pub puts_why_next : {o₀ o₁ o₂ : List ℕ} {a₀ a₁ a₂ : ℕ} {x y z : ℤ} (words : List ℤ) (k : ℕ) → 3 * k + 3 ≤ length words
    → x ≡ get_or words (3 * k) (pos 0) → y ≡ get_or words (3 * k + 1) (pos 0) → z ≡ get_or words (3 * k + 2) (pos 0)
    → Puts o₁ o₂ a₁ (why_line x y z) a₂
    → ((atoms : List Atom) → words ≡ atom_words atoms → Puts o₀ o₁ a₀ (why_lines (take k atoms)) a₁)
    → (atoms : List Atom) → words ≡ atom_words atoms → Puts o₀ o₂ a₀ (why_lines (take (k + 1) atoms)) a₂
puts_why_next words k h e f g q p atoms w =
    let l = atoms_length atoms in
    let m = ap length w in
    let t = three_alone atoms k (omega arith) in
    let same : (j : ℕ) → get_or words j (pos 0) ≡ get_or (atom_words atoms) j (pos 0) = λ j. ap (λ (ws : List ℤ). get_or ws j (pos 0)) w in
    puts_next why_of no_atom atoms k (omega arith) (p atoms w)
    (puts_as (λ i. why_line ((e ∙ same (3 * k) ∙ t.variable) i) ((f ∙ same (3 * k + 1) ∙ t.kind) i) ((g ∙ same (3 * k + 2) ∙ t.value) i)) q)
