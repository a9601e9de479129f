-- Right words as facts, and right words one list after another.
use mathlib.Core.Path.{◌≡◌, refl, ap, ◌∙◌}
use mathlib.Core.Logic.{◌↔◌}
use mathlib.Core.Bool.{Bool, true, ◌&&◌}
use mathlib.Core.List.{List, [], ◌∷◌, ◌++◌}
use Prim.Native.Nat.{ℕ, zero, suc, ◌+◌, ◌*◌, ◌-◌, ◌<◌}
use native.Mathlib.Omega.{arith}
use lib.IntN.{ℤ, pos}
use lib.ListN.{length, get_or}
use Rattle.integers.proofs.Bools.{clash, and_true, and_yes}
use Rattle.scheduling.specs.Scheduling.{Atom, Every}
use Rattle.checking.specs.Atoms.{atom_from, atoms_of, right_atom, right_words, right_lists, RightAtom, RightWords, RightLists}
use Rattle.checking.proofs.Atoms.{words_by, right_atom_is, atom_right, right_lists_are, lists_right}

-- what holds of the k-th atom's three words
abbrev At : (ℤ → ℤ → ℤ → Type 0) → List ℤ → ℕ → Type 0
At P l k = P (get_or l (3 * k) (pos 0)) (get_or l (3 * k + 1) (pos 0)) (get_or l (3 * k + 2) (pos 0))

-- three words further on
module _ (P : ℤ → ℤ → ℤ → Type 0) (x k v : ℤ) (l : List ℤ) (j : ℕ) where
  one : 3 * suc j ≡ suc (suc (suc (3 * j)))
  one = omega arith

  two : suc (suc (suc (3 * j))) + 1 ≡ suc (suc (suc (3 * j + 1)))
  two = omega arith

  three : suc (suc (suc (3 * j))) + 2 ≡ suc (suc (suc (3 * j + 2)))
  three = omega arith

  onward : At P l j → At P (x ∷ k ∷ v ∷ l) (suc j)
  onward h = rw (one, two, three) h

  back : At P (x ∷ k ∷ v ∷ l) (suc j) → At P l j
  back h = rw (one, two, three) at h

-- Words ------------------------------------------------------------------------------------------------------------------------

words_facts : (l : List ℤ) → right_words l ≡ true → RightWords l
words_facts = words_by RightWords (record { count = 0; threes = refl; atom = λ k h. absurd (omega arith) })
    (λ x k v l p r. record { count = suc r.count; threes = omega (arith, r.threes); atom = at x k v l r p })
  where
    at : (x k v : ℤ) (l : List ℤ) (r : RightWords l) → right_atom x k v ≡ true → (j : ℕ) → j < suc r.count → At RightAtom (x ∷ k ∷ v ∷ l) j
    at x k v l r p zero h = right_atom_is x k v p
    at x k v l r p (suc j) h = onward RightAtom x k v l j (r.atom j (omega arith))

words_test : (l : List ℤ) → RightWords l → right_words l ≡ true
unfolding right_words
words_test [] w = refl
words_test (x ∷ []) w = absurd (omega (arith, w.threes))
words_test (x ∷ k ∷ []) w = absurd (omega (arith, w.threes))
words_test (x ∷ k ∷ v ∷ l) w =
    and_yes _ _ (atom_right x k v (w.atom 0 (omega (arith, w.threes))))
    (words_test l (record { count = w.count - 1; threes = omega (arith, w.threes); atom = λ j h. back RightAtom x k v l j (w.atom (suc j) (omega arith)) }))

pub words_are : (l : List ℤ) → right_words l ≡ true ↔ RightWords l
words_are l = (words_facts l, words_test l)

pub lists_are : (p c : List ℤ) → right_lists p c ≡ true ↔ RightLists p c
lists_are p c = (
  λ y. (let (a, l, b) = right_lists_are p c y in record { first = words_facts p a; short = l; second = words_facts c b }),
  λ f. lists_right p c (words_test p f.first) f.short (words_test c f.second),
)

-- what holds of every atom of right words holds of the one at a place
pub words_each : (P : Atom → Type 0) (l : List ℤ) → right_words l ≡ true → Every P (atoms_of l) → (k : ℕ) → 3 * k < length l
    → (right_atom (get_or l (3 * k) (pos 0)) (get_or l (3 * k + 1) (pos 0)) (get_or l (3 * k + 2) (pos 0)) ≡ true)
    × P (atom_from (get_or l (3 * k) (pos 0)) (get_or l (3 * k + 1) (pos 0)) (get_or l (3 * k + 2) (pos 0)))
unfolding right_words atoms_of
words_each P [] y e k h = absurd (omega arith)
words_each P (x ∷ []) y e k h = clash y refl
words_each P (x ∷ a ∷ []) y e k h = clash y refl
words_each P (x ∷ a ∷ v ∷ l) y e zero h = ((and_true (right_atom x a v) (right_words l) y).0, e.0)
words_each P (x ∷ a ∷ v ∷ l) y e (suc k) h =
    onward (λ x a v. (right_atom x a v ≡ true) × P (atom_from x a v)) x a v l k (words_each P l (and_true (right_atom x a v) (right_words l) y).1 e.1 k (omega arith))

-- One list after another -------------------------------------------------------------------------------------------------------

pub words_append : (p q : List ℤ) → right_words p ≡ true → right_words (p ++ q) ≡ right_words q
unfolding right_words
words_append p q = words_by (λ l. right_words (l ++ q) ≡ right_words q) refl (λ x k v l a e. ap (λ (t : Bool). t && right_words (l ++ q)) a ∙ e) p

pub atoms_append : (p q : List ℤ) → right_words p ≡ true → atoms_of (p ++ q) ≡ atoms_of p ++ atoms_of q
unfolding atoms_of
atoms_append p q = words_by (λ l. atoms_of (l ++ q) ≡ atoms_of l ++ atoms_of q) refl (λ x k v l a e. ap (λ (m : List Atom). atom_from x k v ∷ m) e) p
