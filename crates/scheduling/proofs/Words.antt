-- The words of atoms: of none, of one, of lists put together and of a stretch, and how many they are.
use mathlib.Core.Path.{◌≡◌, refl, sym, ap, subst, ◌∙◌}
use mathlib.Core.List.{List, [], ◌∷◌, ◌++◌, append-nil}
use Prim.Native.Nat.{ℕ, zero, suc, ◌+◌, ◌*◌, ◌<◌}
use native.Mathlib.Omega.{arith}
use lib.IntN.{ℤ, pos}
use lib.ListN.{length, get_or, set, take, drop}
use Rattle.scheduling.specs.Scheduling.{Atom}
use Rattle.scheduling.specs.Words.{atom_words, no_atom}
use lib.Seq.{sets}
use Rattle.integers.proofs.Words.{sets_append}

pub atoms_none : atom_words [] ≡ []
unfolding atom_words
atoms_none = refl

pub atoms_more : (a : Atom) (rest : List Atom) → atom_words (a ∷ rest) ≡ pos a.variable ∷ pos a.kind ∷ a.value ∷ atom_words rest
unfolding atom_words
atoms_more a rest = refl

pub atoms_append : (xs ys : List Atom) → atom_words (xs ++ ys) ≡ atom_words xs ++ atom_words ys
unfolding atom_words
atoms_append [] ys = refl
atoms_append (x ∷ xs) ys = ap (λ (l : List ℤ). pos x.variable ∷ pos x.kind ∷ x.value ∷ l) (atoms_append xs ys)

pub atoms_length : (xs : List Atom) → length (atom_words xs) ≡ 3 * length xs
unfolding atom_words
atoms_length [] = refl
atoms_length (x ∷ xs) = omega (arith, atoms_length xs)

-- the words of the atoms from the f-th on, and of the first c
pub drop_words : (f : ℕ) (xs : List Atom) → drop (3 * f) (atom_words xs) ≡ atom_words (drop f xs)
unfolding atom_words
drop_words zero xs = refl
drop_words (suc f) [] = let z : 3 * suc f ≡ suc (3 * f + 2) = omega arith in rw z refl
drop_words (suc f) (x ∷ xs) = let z : 3 * suc f ≡ suc (suc (suc (3 * f))) = omega arith in rw z (drop_words f xs)

pub take_words : (c : ℕ) (xs : List Atom) → take (3 * c) (atom_words xs) ≡ atom_words (take c xs)
unfolding atom_words
take_words zero xs = refl
take_words (suc c) [] = let z : 3 * suc c ≡ suc (3 * c + 2) = omega arith in rw z refl
take_words (suc c) (x ∷ xs) = let z : 3 * suc c ≡ suc (suc (suc (3 * c))) = omega arith in rw z (ap (λ (l : List ℤ). pos x.variable ∷ pos x.kind ∷ x.value ∷ l) (take_words c xs))

-- the three words of an atom, in a slice that goes on after the atoms
pub record Three (ws : List ℤ) (at : ℕ) (a : Atom) : Type 0 where
  pub variable : get_or ws at (pos 0) ≡ pos a.variable
  pub kind : get_or ws (at + 1) (pos 0) ≡ pos a.kind
  pub value : get_or ws (at + 2) (pos 0) ≡ a.value

pub three_words : (xs : List Atom) (tail : List ℤ) (m : ℕ) (none : Atom) → m < length xs → Three (atom_words xs ++ tail) (3 * m) (get_or xs m none)
unfolding atom_words
three_words [] tail m none h = absurd (omega arith)
three_words (x ∷ xs) tail zero none h = record { variable = refl; kind = refl; value = refl }
three_words (x ∷ xs) tail (suc m) none h =
    let r = three_words xs tail m none (omega arith) in
    let a : 3 * suc m ≡ suc (suc (suc (3 * m))) = omega arith in
    let b : 3 * suc m + 1 ≡ suc (suc (suc (3 * m + 1))) = omega arith in
    let c : 3 * suc m + 2 ≡ suc (suc (suc (3 * m + 2))) = omega arith in
    record { variable = rw a r.variable; kind = rw b r.kind; value = rw c r.value }

pub three_alone : (xs : List Atom) (m : ℕ) → m < length xs → Three (atom_words xs) (3 * m) (get_or xs m no_atom)
three_alone xs m h = subst (λ (ws : List ℤ). Three ws (3 * m) (get_or xs m no_atom)) (append-nil (atom_words xs)) (three_words xs [] m no_atom h)

-- another kind and value for an atom: two stores
pub atom_set : (xs : List Atom) (tail : List ℤ) (m : ℕ) (a none : Atom) → m < length xs → a.variable ≡ (get_or xs m none).variable
    → set (set (atom_words xs ++ tail) (3 * m + 1) (pos a.kind)) (3 * m + 2) a.value ≡ atom_words (set xs m a) ++ tail
unfolding atom_words
atom_set [] tail m a none h e = absurd (omega arith)
atom_set (x ∷ xs) tail zero a none h e = ap (λ (k : ℕ). pos k ∷ pos a.kind ∷ a.value ∷ (atom_words xs ++ tail)) (sym e)
atom_set (x ∷ xs) tail (suc m) a none h e =
    let b : 3 * suc m + 1 ≡ suc (suc (suc (3 * m + 1))) = omega arith in
    let c : 3 * suc m + 2 ≡ suc (suc (suc (3 * m + 2))) = omega arith in
    rw (b, c) (ap (λ (l : List ℤ). pos x.variable ∷ pos x.kind ∷ x.value ∷ l) (atom_set xs tail m a none (omega arith) e))

-- and one reason more in the slice of atoms: first where atoms xs stand from the k-th on,
pub atoms_stored : (l : List ℤ) (k m : ℕ) (xs ys : List Atom) → m ≡ k + length xs → sets (sets l (3 * k) (atom_words xs)) (3 * m) (atom_words ys) ≡ sets l (3 * k) (atom_words (xs ++ ys))
atoms_stored l k m xs ys e =
    let z : 3 * k + length (atom_words xs) ≡ 3 * m = omega (arith, atoms_length xs) in
    sym (ap (sets l (3 * k)) (atoms_append xs ys) ∙ sets_append (atom_words xs) (atom_words ys) l (3 * k) ∙ ap (λ (i : ℕ). sets (sets l (3 * k) (atom_words xs)) i (atom_words ys)) z)
