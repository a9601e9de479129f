-- A check of atoms, rather than of words, passes where they meet the formula.
use mathlib.Core.Path.{◌≡◌, sym, ap, subst, ◌∙◌}
use mathlib.Core.Bool.{true}
use mathlib.Core.List.{List, [], ◌∷◌}
use mathlib.Core.Option.{Option, some, none}
use Prim.Native.Nat.{ℕ, zero, suc, ◌+◌, ◌*◌, ◌≤◌, ◌<◌}
use native.Mathlib.Omega.{arith}
use lib.IntN.{ℤ}
use lib.ListN.{length}
use Rattle.integers.specs.Limits.{VARIABLES, VALUE, PREMISES}
use Rattle.integers.specs.Tests.{refusal}
use Rattle.scheduling.specs.Scheduling.{whole, Tasks, TaskSet, In, Atom, Allows, Meets, Every, Admits, given, negation, negated_kind, Bounded, PassesFormula}
use Rattle.scheduling.specs.MirroredTime.{mirror_atoms}
use Rattle.scheduling.specs.Words.{atom_words}
use Rattle.scheduling.proofs.Every.{every_append, every_map}
use Rattle.scheduling.proofs.Words.{atoms_length}
use Rattle.integers.specs.WholeNumbers.{Within}
use Rattle.checking.specs.Atoms.{atoms_of, first, consequent_of, right_words, right_lists}
use Rattle.checking.proofs.Atoms.{atoms_none, atoms_words, words_none, words_right, lists_right, WellFormed}
use Rattle.records.specs.Records.{duration_at, creation_tests}
use Rattle.checker.specs.declared.checker.Verdict.TheVariants.{Passed}
use Rattle.checker.specs.Checks.{check_of, consequent_words, tasks_with}
use Rattle.checker.specs.declared.checker.Direction.TheVariants.{Forward, Mirrored}
use Rattle.checker.specs.MirroredChecks.{mirror_if_any, check_mirrored_of}
use Rattle.checker.proofs.Soundness.{MeetsFormula, met_passes}

-- An atom of a reason: ≥ or ≤, on a known variable, with a value within the limits.
pub record Bound (a : Atom) : Type 0 where
  pub known : a.variable < VARIABLES
  pub kind : a.kind < 2
  pub value : Within VALUE a.value

-- a consequent is one, where there is one
abbrev pub BoundIfAny : Option Atom → Type 0
BoundIfAny none = Unit {0}
BoundIfAny (some a) = Bound a

bound_well : (a : Atom) → Bound a → WellFormed a
bound_well a b = record { known = b.known; kind = omega (arith, b.kind); value = b.value }

negated_kind_is : (k : ℕ) → k < 2 → negated_kind k < 3
negated_kind_is zero h = omega arith
negated_kind_is (suc zero) h = omega arith
negated_kind_is (suc (suc k)) h = absurd (omega arith)

pub words_of_reason : (as' : List Atom) → Every Bound as' → right_words (atom_words as') ≡ true
words_of_reason as' b = words_right as' (every_map bound_well as' b)

-- the consequent's words, and back
pub consequent_back : (c : Option Atom) → consequent_of (consequent_words c) ≡ c
consequent_back none = ap first atoms_none
consequent_back (some a) = ap first (atoms_words (a ∷ []))

consequent_few : (c : Option Atom) → length (consequent_words c) ≤ 3
consequent_few none = omega arith
consequent_few (some a) = omega (arith, atoms_length (a ∷ []))

consequent_right : (c : Option Atom) → BoundIfAny c → right_words (consequent_words c) ≡ true
consequent_right none b = words_none
consequent_right (some a) b = words_of_reason (a ∷ []) (b, tt)

given_kinds : (as' : List Atom) (c : Option Atom) → Every Bound as' → BoundIfAny c → Every (λ a. a.kind < 3) (given as' c)
given_kinds as' none b d = every_map (λ a q. omega (arith, q.kind)) as' b
given_kinds as' (some a) b d = every_append (λ a. a.kind < 3) as' (negation a ∷ []) (every_map (λ a q. omega (arith, q.kind)) as' b) (negated_kind_is a.kind d.kind, tt)

-- A reason whose atoms each variable can meet passes the check where it meets the formula. It passes the mirrored check where it meets the formula mirrored.
module _ (ds : List ℤ) (as' : List Atom) (c : Option Atom) (ok : refusal (creation_tests ds) ≡ 0) (few : length as' ≤ PREMISES) (b : Every Bound as') (d : BoundIfAny c)
    (w : (x : ℕ) → x < VARIABLES → (z : ℤ) × Admits (given as' c) x z) where
  back : (P : List Atom → Option Atom → Type 0) → P as' c → P (atoms_of (atom_words as')) (consequent_of (consequent_words c))
  back P h = subst (λ (o : Option Atom). P (atoms_of (atom_words as')) o) (sym (consequent_back c)) (subst (λ (l : List Atom). P l c) (sym (atoms_words as')) h)

  short : length (atom_words as') ≤ 3 * PREMISES + 2
  short = omega (arith, atoms_length as', few)

  right : right_lists (atom_words as') (consequent_words c) ≡ true
  right = lists_right (atom_words as') (consequent_words c) (words_of_reason as' b) (consequent_few c) (consequent_right c d)

  kinds : Every (λ a. a.kind < 3) (given (atoms_of (atom_words as')) (consequent_of (consequent_words c)))
  kinds = back (λ l o. Every (λ a. a.kind < 3) (given l o)) (given_kinds as' c b d)

  met : (x : ℕ) → x < VARIABLES → (z : ℤ) × Admits (given (atoms_of (atom_words as')) (consequent_of (consequent_words c))) x z
  met x h = let (z, m) = w x h in (z, back (λ l o. Admits (given l o) x z) m)

  pub reason_check : PassesFormula (tasks_with ds) as' c → check_of ds (atom_words as') (consequent_words c) ≡ Passed
  unfolding check_of
  reason_check p = met_passes Forward ds (atom_words as') (consequent_words c) ok short right kinds met (back (MeetsFormula Forward ds) p)

  pub mirrored_reason_check : PassesFormula (tasks_with ds) (mirror_atoms (duration_at ds) as') (mirror_if_any (duration_at ds) c) → check_mirrored_of ds (atom_words as') (consequent_words c) ≡ Passed
  unfolding check_mirrored_of
  mirrored_reason_check p = met_passes Mirrored ds (atom_words as') (consequent_words c) ok short right kinds met (back (MeetsFormula Mirrored ds) p)

-- The formula reads of the tasks their number and their durations.
module _ (J K : Tasks whole) (count : J.count ≡ K.count) (duration : (k : ℕ) → J.duration k ≡ K.duration k) where
  back_in : {Ω : TaskSet} {k : ℕ} → In K Ω k → In J Ω k
  back_in {Ω} {k} h = record { small = subst (λ (n : ℕ). k < n) (sym count) h.small; mem = h.mem }

  bounded_alike : (atoms : List Atom) (Ω : TaskSet) (B : Tasks whole) → Bounded J atoms Ω B → Bounded K atoms Ω B
  bounded_alike atoms Ω B b = record {
    same_count = b.same_count ∙ count;
    same_duration = λ k. b.same_duration k ∙ duration k;
    least = λ k h. b.least k (back_in h);
    greatest = λ k h. b.greatest k (back_in h);
    only = λ k q. b.only k (subst (λ (n : ℕ). k < n) (sym count) q);
  }

  pub passes_alike : (premises : List Atom) (c : Option Atom) → PassesFormula J premises c → PassesFormula K premises c
  passes_alike premises none p = record { set = p.set; ranges = p.ranges; bounded = bounded_alike premises p.set p.ranges p.bounded; formula = p.formula }
  passes_alike premises (some a) p = record { set = p.set; ranges = p.ranges; bounded = bounded_alike (given premises (some a)) _ p.ranges p.bounded; formula = p.formula }

-- Starts that meet the atoms are admitted by them.
pub meets_admits : (s : ℕ → ℤ) (as' : List Atom) → Every (Meets s) as' → (x : ℕ) → Admits as' x (s x)
meets_admits s [] h x = tt
meets_admits s (a ∷ rest) h x = (λ z. subst (λ (j : ℕ). Allows a (s j)) z h.0, meets_admits s rest h.1 x)
