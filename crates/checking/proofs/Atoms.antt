-- Atoms as words.
use Rattle.scheduling.proofs.Every.{every_append, every_map}
use native.Mathlib.Decide.{dec_lt, ℕ_discrete}
use mathlib.Core.Path.{◌≡◌, refl, sym, ap, ◌∙◌}
use mathlib.Core.Bool.{Bool, true, false, ◌&&◌}
use Rattle.std.specs.List.{list_all}
use Rattle.std.specs.Simd.{first_chunks}
use mathlib.Core.List.{List, [], ◌∷◌}
use mathlib.Core.Option.{some, none}
use Prim.Native.Nat.{ℕ, zero, suc, ◌+◌, ◌*◌, ◌%◌, ◌≤◌, ◌<◌}
use native.Mathlib.Omega.{arith}
use borrow.Author.Tests.{leb-true, le-leb}
use lib.IntN.{ℤ, pos, negsuc, neg_ℤ, nat_abs}
use lib.ListN.{length, get_or, drop}
use lib.Seq.{drop-cons}
use lib.Signed.{le_z, lt_z, ◌≤ℤ◌, ◌<ℤ◌}
use Rattle.integers.specs.Limits.{VARIABLES, VALUE}
use Rattle.integers.proofs.Bools.{clash, and_true, and_yes}
use Rattle.integers.proofs.Ints.{ints, up, dn, le_le_z}
use Rattle.scheduling.specs.Scheduling.{Atom, Every, negation, negated_value, given}
use Rattle.scheduling.specs.Words.{atom_words}
use Rattle.scheduling.proofs.Words.{atoms_none as no_words, atoms_more as three_words}
use Rattle.integers.specs.WholeNumbers.{Within}
use Rattle.holes.proofs.BoundSteps.{step_within, one_up, one_down}
use Rattle.integers.proofs.WholeNumbers.{wider, lt_lt_z}
use Rattle.std.specs.Prelude.{Ok}
use Rattle.std.specs.Result.{is_ok}
use Rattle.checking.specs.declared.atomic_constraint.Comparison.{Comparison}
use Rattle.checking.specs.declared.atomic_constraint.Comparison.TheVariants.{GreaterEqual, LessEqual, Equal, NotEqual}
use Rattle.checking.specs.Atoms.{kind_of, comparison_at, atom_from, atoms_of, consequent_of, atom_place, right_variable, right_atom, right_words, right_lists, RightAtom, first}

-- ---- what a right atom is
pub right_variable_is : (x : ℤ) → right_variable x ≡ true → (pos 0 ≤ℤ x) × (nat_abs x < VARIABLES)
unfolding up dn
right_variable_is x y = let (p, q) = and_true (le_z (pos 0) x) (lt_z x (pos VARIABLES)) y in (omega ints, below x p q)
  where
    below : (x : ℤ) → le_z (pos 0) x ≡ true → lt_z x (pos VARIABLES) ≡ true → nat_abs x < VARIABLES
    below (pos n) p q = omega ints
    below (negsuc n) p q = clash p refl

pub number_right : (x : ℕ) → x < VARIABLES → right_variable (pos x) ≡ true
unfolding up dn
number_right x h = and_yes _ _ (le_le_z (pos 0) (pos x) (omega ints)) (lt_lt_z (pos x) (pos VARIABLES) (omega ints))

pub right_atom_is : (x k v : ℤ) → right_atom x k v ≡ true → RightAtom x k v
unfolding right_atom
right_atom_is x k v y =
    let (p, q) = and_true _ _ y in
    let (r, s) = and_true _ _ q in
    let (a, b) = and_true (le_z (pos 0) k) (le_z k (pos 3)) r in
    let (e, f) = and_true (le_z (neg_ℤ (pos VALUE)) v) (le_z v (pos VALUE)) s in
    let (m, n) = right_variable_is x p in
    record { variable = m; known = n; kind_low = omega ints; kind_high = omega ints; value = record { low = omega ints; high = omega ints } }

pub atom_right : (x k v : ℤ) → RightAtom x k v → right_atom x k v ≡ true
unfolding right_atom up dn
atom_right x k v r = rw (
  le_le_z (pos 0) x r.variable,
  lt_lt_z x (pos VARIABLES) (below x r.variable r.known),
  le_le_z (pos 0) k r.kind_low,
  le_le_z k (pos 3) r.kind_high,
  le_le_z (neg_ℤ (pos VALUE)) v r.value.low,
  le_le_z v (pos VALUE) r.value.high,
)
  where
    below : (x : ℤ) → pos 0 ≤ℤ x → nat_abs x < VARIABLES → x <ℤ pos VARIABLES
    below (pos n) p q = omega ints
    below (negsuc n) p q = absurd (omega ints)

-- a known kind is some comparison's, and a comparison's kind is its number
pub kind_known : (k : ℤ) → pos 0 ≤ℤ k → k ≤ℤ pos 3 → is_ok (comparison_at k) ≡ true
unfolding up dn
kind_known (pos zero) p q = refl
kind_known (pos (suc zero)) p q = refl
kind_known (pos (suc (suc zero))) p q = refl
kind_known (pos (suc (suc (suc zero)))) p q = refl
kind_known (pos (suc (suc (suc (suc n))))) p q = absurd (omega ints)
kind_known (negsuc n) p q = absurd (omega ints)

pub kind_made : (k : ℤ) (c : Comparison) → comparison_at k ≡ Ok c → kind_of c ≡ nat_abs k
kind_made (pos zero) c e = let f : GreaterEqual ≡ c = cc in ap kind_of (sym f)
kind_made (pos (suc zero)) c e = let f : LessEqual ≡ c = cc in ap kind_of (sym f)
kind_made (pos (suc (suc zero))) c e = let f : Equal ≡ c = cc in ap kind_of (sym f)
kind_made (pos (suc (suc (suc zero)))) c e = let f : NotEqual ≡ c = cc in ap kind_of (sym f)
kind_made (pos (suc (suc (suc (suc n))))) c e = cc
kind_made (negsuc n) c e = cc

-- ---- three words at a time
module _ (l : List ℤ) (i : ℕ) (h : i + 3 ≤ length l) where
  pub three : drop i l ≡ get_or l i (pos 0) ∷ get_or l (i + 1) (pos 0) ∷ get_or l (i + 2) (pos 0) ∷ drop (i + 3) l
  three =
      let e₁ : suc i ≡ i + 1 = omega arith in
      let e₂ : suc (i + 1) ≡ i + 2 = omega arith in
      let e₃ : suc (i + 2) ≡ i + 3 = omega arith in
      let p = drop-cons l i (pos 0) (omega arith) ∙ ap (λ (k : ℕ). get_or l i (pos 0) ∷ drop k l) e₁ in
      let q = drop-cons l (i + 1) (pos 0) (omega arith) ∙ ap (λ (k : ℕ). get_or l (i + 1) (pos 0) ∷ drop k l) e₂ in
      let r = drop-cons l (i + 2) (pos 0) (omega arith) ∙ ap (λ (k : ℕ). get_or l (i + 2) (pos 0) ∷ drop k l) e₃ in
      p ∙ ap (λ (m : List ℤ). get_or l i (pos 0) ∷ m) (q ∙ ap (λ (m : List ℤ). get_or l (i + 1) (pos 0) ∷ m) r)

  pub words_on : right_words (drop i l) ≡ right_atom (get_or l i (pos 0)) (get_or l (i + 1) (pos 0)) (get_or l (i + 2) (pos 0)) && right_words (drop (i + 3) l)
  unfolding right_words
  words_on = ap right_words three

  pub atoms_on : atoms_of (drop i l) ≡ atom_from (get_or l i (pos 0)) (get_or l (i + 1) (pos 0)) (get_or l (i + 2) (pos 0)) ∷ atoms_of (drop (i + 3) l)
  unfolding atoms_of
  atoms_on = ap atoms_of three

-- the three words at i are an atom, and right words follow it
pub words_at : (l : List ℤ) (i : ℕ) (h : i + 3 ≤ length l) → right_words (drop i l) ≡ true
    → (right_atom (get_or l i (pos 0)) (get_or l (i + 1) (pos 0)) (get_or l (i + 2) (pos 0)) ≡ true) × (right_words (drop (i + 3) l) ≡ true)
words_at l i h y = and_true _ _ (sym (words_on l i h) ∙ y)

-- what holds of no words, and of three that are an atom before words of which it holds, holds of right words
pub words_by : (P : List ℤ → Type 0) → P [] → ((x k v : ℤ) (l : List ℤ) → right_atom x k v ≡ true → P l → P (x ∷ k ∷ v ∷ l)) → (l : List ℤ) → right_words l ≡ true → P l
unfolding right_words
words_by P n c [] y = n
words_by P n c (x ∷ []) y = clash y refl
words_by P n c (x ∷ k ∷ []) y = clash y refl
words_by P n c (x ∷ k ∷ v ∷ l) y = let (p, q) = and_true _ _ y in c x k v l p (words_by P n c l q)

pub words_short : (l : List ℤ) → 0 < length l → length l < 3 → right_words l ≡ false
unfolding right_words
words_short [] p q = absurd (omega arith)
words_short (x ∷ []) p q = refl
words_short (x ∷ k ∷ []) p q = refl
words_short (x ∷ k ∷ v ∷ l) p q = absurd (omega arith)

pub words_none : right_words [] ≡ true
unfolding right_words
words_none = refl

pub atoms_none : atoms_of [] ≡ []
unfolding atoms_of
atoms_none = refl

-- three words in an array are an atom
abbrev pub right_three : List ℤ → Bool
right_three a = right_atom (get_or a 0 (pos 0)) (get_or a 1 (pos 0)) (get_or a 2 (pos 0))

-- words that three divides are right where each three are an atom, and others are not
pub words_threes : (n : ℕ) (l : List ℤ) → length l ≡ 3 * n → right_words l ≡ list_all right_three (first_chunks 3 n l)
unfolding right_words
words_threes zero [] e = refl
words_threes zero (x ∷ l) e = absurd (omega arith)
words_threes (suc n) [] e = absurd (omega arith)
words_threes (suc n) (x ∷ []) e = absurd (omega arith)
words_threes (suc n) (x ∷ k ∷ []) e = absurd (omega arith)
words_threes (suc n) (x ∷ k ∷ v ∷ l) e = ap (λ (t : Bool). right_atom x k v && t) (words_threes n l (omega arith))

pub words_left_over : (l : List ℤ) → (length l % 3 ≡ 0 → ⊥) → right_words l ≡ false
unfolding right_words
words_left_over [] n = absurd (n refl)
words_left_over (x ∷ []) n = refl
words_left_over (x ∷ k ∷ []) n = refl
words_left_over (x ∷ k ∷ v ∷ l) n = rw (words_left_over l (λ e. n (omega arith))) (false_last (right_atom x k v))
  where
    false_last : (t : Bool) → (t && false) ≡ false
    false_last true = refl
    false_last false = refl

pub three_divides : (l : List ℤ) → right_words l ≡ true → length l % 3 ≡ 0
three_divides l y = elim (ℕ_discrete (length l % 3) 0) [ yes e ↦ e | no n ↦ clash y (words_left_over l n) ]

-- right words are at least three, or none
pub words_three : (l : List ℤ) → right_words l ≡ true → 0 < length l → 3 ≤ length l
words_three l y h = elim (dec_lt (length l) 3) [ yes s ↦ clash y (words_short l h s) | no s ↦ omega arith ]

-- every atom of right words has a known variable, and a value within the limits
abbrev pub Held : Atom → Type 0
Held a = (a.variable < VARIABLES) × Within VALUE a.value

pub words_known : (l : List ℤ) → right_words l ≡ true → Every Held (atoms_of l)
unfolding atoms_of
words_known = words_by (λ l. Every Held (atoms_of l)) tt (λ x k v l p e. let r = right_atom_is x k v p in ((r.known, r.value), e))

-- words of atoms and back
pub atoms_words : (l : List Atom) → atoms_of (atom_words l) ≡ l
unfolding atoms_of
atoms_words [] = ap atoms_of no_words
atoms_words (a ∷ l) = ap atoms_of (three_words a l) ∙ ap (λ (m : List Atom). a ∷ m) (atoms_words l)

-- a negated value lies one further out at most
pub negation_within : (k : ℕ) (v : ℤ) → Within VALUE v → Within (VALUE + 1) (negated_value k v)
negation_within zero v w = step_within VALUE v (negsuc 0) w one_down
negation_within (suc zero) v w = step_within VALUE v (pos 1) w one_up
negation_within (suc (suc k)) v w = wider VALUE (VALUE + 1) v (omega arith) w

-- ---- premises and consequent
pub right_lists_are : (p c : List ℤ) → right_lists p c ≡ true → (right_words p ≡ true) × (length c ≤ 3) × (right_words c ≡ true)
unfolding right_lists
right_lists_are p c y =
    let (a, r) = and_true _ _ y in
    let (b, d) = and_true _ _ r in
    (a, leb-true (length c) 3 b, d)

-- the consequent of no words, and of three
pub consequent_none : (c : List ℤ) → length c ≡ 0 → consequent_of c ≡ none
unfolding atoms_of
consequent_none [] e = refl
consequent_none (x ∷ c) e = absurd (omega arith)

pub consequent_one : (c : List ℤ) → length c ≡ 3 → consequent_of c ≡ some (atom_place c 0)
unfolding atoms_of
consequent_one [] e = absurd (omega arith)
consequent_one (x ∷ []) e = absurd (omega arith)
consequent_one (x ∷ k ∷ []) e = absurd (omega arith)
consequent_one (x ∷ k ∷ v ∷ c) e = refl

-- what holds of each atom of right words, and of its negation, holds of all that are given
pub given_each : (P : Atom → Type 0) → ((a : Atom) → Held a → P a) → ((a : Atom) → Held a → P (negation a)) → (p c : List ℤ) → right_lists p c ≡ true → Every P (given (atoms_of p) (consequent_of c))
given_each P f g p c y = let (q, _, r) = right_lists_are p c y in by (atoms_of c) (words_known c r) (every_map f (atoms_of p) (words_known p q))
  where
    by : (l : List Atom) → Every Held l → Every P (atoms_of p) → Every P (given (atoms_of p) (first l))
    by [] k e = e
    by (a ∷ rest) k e = every_append P (atoms_of p) (negation a ∷ []) e (g a k.0, tt)

-- ---- words of atoms within the limits
pub record WellFormed (a : Atom) : Type 0 where
  pub known : a.variable < VARIABLES
  pub kind : a.kind ≤ 3
  pub value : Within VALUE a.value

well_right : (a : Atom) → WellFormed a → right_atom (pos a.variable) (pos a.kind) a.value ≡ true
unfolding up dn
well_right a w = atom_right (pos a.variable) (pos a.kind) a.value
    (record { variable = omega ints; known = w.known; kind_low = omega ints; kind_high = omega (ints, w.kind); value = w.value })

pub words_right : (l : List Atom) → Every WellFormed l → right_words (atom_words l) ≡ true
unfolding right_words
words_right [] e = ap right_words no_words
words_right (a ∷ l) e = ap right_words (three_words a l) ∙ and_yes _ _ (well_right a e.0) (words_right l e.1)

pub lists_right : (p c : List ℤ) → right_words p ≡ true → length c ≤ 3 → right_words c ≡ true → right_lists p c ≡ true
unfolding right_lists
lists_right p c a b d = rw (a, le-leb (length c) 3 b, d)
