-- What holds of every atom of a list holds of its parts, of both lists put together, and stays true when weakened.
use mathlib.Core.List.{List, [], ◌∷◌, ◌++◌}
use Rattle.scheduling.specs.Scheduling.{Atom, Every}

pub every_append : (P : Atom → Type 0) (xs ys : List Atom) → Every P xs → Every P ys → Every P (xs ++ ys)
every_append P [] ys h k = k
every_append P (a ∷ rest) ys h k = (h.0, every_append P rest ys h.1 k)

pub every_left : (P : Atom → Type 0) (p q : List Atom) → Every P (p ++ q) → Every P p
every_left P [] q e = tt
every_left P (a ∷ p) q e = (e.0, every_left P p q e.1)

pub every_at : (P : Atom → Type 0) (p : List Atom) (a : Atom) (q : List Atom) → Every P (p ++ (a ∷ q)) → P a
every_at P [] a q e = e.0
every_at P (b ∷ p) a q e = every_at P p a q e.1

pub every_map : {P Q : Atom → Type 0} → ((a : Atom) → P a → Q a) → (atoms : List Atom) → Every P atoms → Every Q atoms
every_map f [] e = tt
every_map f (a ∷ rest) e = (f a e.0, every_map f rest e.1)

pub every_right : (P : Atom → Type 0) (xs ys : List Atom) → Every P (xs ++ ys) → Every P ys
every_right P [] ys e = e
every_right P (x ∷ xs) ys e = every_right P xs ys e.1
