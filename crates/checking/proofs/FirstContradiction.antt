-- A list of atoms that is applied is contradicted exactly at the first atom that leaves a variable no value.
use mathlib.Core.Path.{◌≡◌, refl, sym, ap, subst, ◌∙◌}
use mathlib.Core.Logic.{◌↔◌}
use mathlib.Core.List.{List, [], ◌∷◌, ◌++◌}
use Prim.Native.Nat.{ℕ, ◌<◌}
use native.Mathlib.Omega.{arith}
use native.Mathlib.Decide.{dec_lt}
use lib.IntN.{ℤ, pos}
use Rattle.integers.specs.declared.refused.Refusal.{Refusal}
use Rattle.integers.specs.Limits.{VARIABLES}
use Rattle.scheduling.specs.Scheduling.{Atom, Allows, Admits, given}
use Rattle.checking.specs.Atoms.{atoms_of, consequent_of}
use Rattle.scheduling.proofs.Every.{every_map, every_left, every_at}
use Rattle.checking.specs.Domains.{Admitted}
use Rattle.checking.proofs.Values.{some_value}
use Rattle.checking.specs.declared.variable_state.Application.{Application}
use Rattle.checking.specs.declared.variable_state.Application.TheVariants.{Consistent, Contradiction, Refused}
use Rattle.checking.specs.declared.variable_state.Applied.{Applied}
use Rattle.checking.specs.Promises.{EmptiesFirst}
use Rattle.checking.specs.States.{domain_at, empty_state, apply_all, prepared}
use Rattle.checking.proofs.Meaning.{differ, Known, all_admits, all_contradiction_at, empty_admits}
use Rattle.checking.proofs.PreparedStates.{ran, prepared_accepted, prepared_admits, prepared_right}
use Rattle.checking.proofs.Promises.{given_known}
use Rattle.checking.proofs.States.{empty_accepted}

-- no atom is on a variable past the last
free : (atoms : List Atom) → Known atoms → (y : ℕ) → (y < VARIABLES → ⊥) → (z : ℤ) → Admits atoms y z
free atoms known y q z = every_map (λ a h e. absurd (q (rw e at h))) atoms known

-- a list that begins as the atoms do, with the one that leaves x no value, admits none
kept : (atoms : List Atom) (x : ℕ) (f : EmptiesFirst atoms x) (l rest : List Atom) → l ≡ f.before ++ (f.atom ∷ rest) → (z : ℤ) → Admits l x z → ⊥
kept atoms x f l rest e z m =
    let m' = subst (λ (l : List Atom). Admits l x z) e m in
    f.none z (every_left (λ a. a.variable ≡ x → Allows a z) f.before (f.atom ∷ rest) m') (every_at (λ a. a.variable ≡ x → Allows a z) f.before f.atom rest m' f.variable)

-- Two places of a list ---------------------------------------------------------------------------------------------------------

-- they are one where neither stands past the other
places : (p : List Atom) (a : Atom) (c : List Atom) (q : List Atom) (b : Atom) (d : List Atom) → p ++ (a ∷ c) ≡ q ++ (b ∷ d)
    → ((r : List Atom) → q ≡ p ++ (a ∷ r) → ⊥) → ((r : List Atom) → p ≡ q ++ (b ∷ r) → ⊥) → a ≡ b
places [] a c [] b d e past short = cc
places [] a c (x ∷ q) b d e past short = absurd (past q (cc))
places (x ∷ p) a c [] b d e past short = absurd (short p (cc))
places (x ∷ p) a c (y ∷ q) b d e past short = let first : x ≡ y = cc in places p a c q b d (cc) (λ r z. past r (cc)) (λ r z. short r (cc))

-- only one atom is the first
pub one_first : (atoms : List Atom) (x y : ℕ) → EmptiesFirst atoms x → EmptiesFirst atoms y → x ≡ y
one_first atoms x y f g =
    let same = places f.before f.atom f.after g.before g.atom g.after (sym f.split ∙ g.split)
    (λ r e. let (z, m) = g.left x in kept atoms x f g.before r e z m) (λ r e. let (z, m) = f.left y in kept atoms y g f.before r e z m) in
    sym f.variable ∙ ap (λ (a : Atom). a.variable) same ∙ g.variable

-- A prepared list --------------------------------------------------------------------------------------------------------------

module _ (premises consequent : List ℤ) where
  abbrev atoms : List Atom
  atoms = given (atoms_of premises) (consequent_of consequent)

  -- at a contradiction an atom empties its variable first
  contradicted : (x : ℕ) → (prepared premises consequent).answer ≡ Contradiction x → EmptiesFirst atoms x
  contradicted x = ran premises consequent (λ r. r.answer ≡ Contradiction x → EmptiesFirst atoms x) (λ r e. by (given_known premises consequent r) e)
      (λ n e. differ (Refused n) (Contradiction x) e (omega arith))
    where
      by : Known atoms → (apply_all atoms empty_state).answer ≡ Contradiction x → EmptiesFirst atoms x
      by known e =
          let (p, q, _, no_value) = all_contradiction_at atoms known empty_state empty_accepted x e in
          let kb = every_left (λ a. a.variable < VARIABLES) p.before (p.atom ∷ p.after) (subst Known p.split known) in
          let there : (y : ℕ) (z : ℤ) → Admitted (domain_at p.state y) z ↔ (Admitted (domain_at empty_state y) z × Admits p.before y z)
          = λ y z. subst (λ (t : Applied). Admitted (domain_at t.state y) z ↔ (Admitted (domain_at empty_state y) z × Admits p.before y z)) p.reached
          (all_admits p.before kb empty_state empty_accepted (ap (λ (t : Applied). t.answer) p.reached) y z) in
          record {
            before = p.before;
            atom = p.atom;
            after = p.after;
            split = p.split;
            variable = q;
            left = λ y. elim (dec_lt y VARIABLES) [
              | yes h ↦ (let (z, m) = some_value (domain_at p.state y) (p.accepted_there.each y h) in (z, ((there y z).0 m).1))
              | no h ↦ (pos 0, free p.before kb y h (pos 0))
            ];
            none = λ z m. no_value z (rw q ((there x z).1 (empty_admits x (rw q at p.known_there) z, m)));
          }

  -- a consistent list leaves every variable a value
  consistent : (prepared premises consequent).answer ≡ Consistent → (x : ℕ) → EmptiesFirst atoms x → ⊥
  consistent ok x f = elim (dec_lt x VARIABLES) [
    | yes h ↦ (let (z, m) = some_value (domain_at (prepared premises consequent).state x) ((prepared_accepted premises consequent).each x h) in
        kept atoms x f atoms f.after f.split z ((prepared_admits premises consequent ok x h z).0 m))
    | no h ↦ kept atoms x f atoms f.after f.split (pos 0) (free atoms (given_known premises consequent (prepared_right premises consequent ok)) x h (pos 0))
  ]

  pub prepared_contradiction : (x : ℕ) → ((n : Refusal) → (prepared premises consequent).answer ≡ Refused n → ⊥) → (prepared premises consequent).answer ≡ Contradiction x
      ↔ EmptiesFirst (given (atoms_of premises) (consequent_of consequent)) x
  prepared_contradiction x past_refusals = (contradicted x, λ f. by (prepared premises consequent).answer refl f)
    where
      by : (w : Application) → (prepared premises consequent).answer ≡ w → EmptiesFirst atoms x → (prepared premises consequent).answer ≡ Contradiction x
      by Consistent e f = absurd (consistent e x f)
      by (Contradiction y) e f = e ∙ ap Contradiction (one_first atoms y x (contradicted y e) f)
      by (Refused n) e f = absurd (past_refusals n e)
