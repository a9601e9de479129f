-- Laws on lists at any element type: one element more, one changed, the parts.
use mathlib.Core.Path.{◌≡◌, refl, ap}
use mathlib.Core.List.{List, [], ◌∷◌, map, ◌++◌}
use Prim.Native.Nat.{ℕ, zero, suc, ◌<◌}
use lib.ListN.{set, length, length-append, get_or}
use native.Mathlib.Omega.{arith}

-- a list of which one element changes
pub map_set : {A B : Type 0} (f : A → B) (l : List A) (k : ℕ) (x : A) → map f (set l k x) ≡ set (map f l) k (f x)
map_set f [] k x = refl
map_set f (y ∷ l) zero x = refl
map_set f (y ∷ l) (suc k) x = ap (λ (r : List _). f y ∷ r) (map_set f l k x)

-- lists
pub length_snoc : {A : Type 0} (xs : List A) (x : A) → length (xs ++ (x ∷ [])) ≡ suc (length xs)
length_snoc xs x = omega (arith, length-append xs (x ∷ []))

-- a place of a mapped list
pub get_d_map_in : {A B : Type 0} (f : A → B) (l : List A) (k : ℕ) (a : A) (b : B) → k < length l → get_or (map f l) k b ≡ f (get_or l k a)
get_d_map_in f [] k a b q = absurd (omega arith)
get_d_map_in f (x ∷ xs) zero a b q = refl
get_d_map_in f (x ∷ xs) (suc k) a b q = get_d_map_in f xs k a b (omega arith)
