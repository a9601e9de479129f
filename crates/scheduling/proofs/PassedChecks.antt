-- A check that meets the checker's formula is contradicted by no starts, of whatever range.
use mathlib.Core.Path.{sym, subst}
use mathlib.Core.List.{List, [], ◌∷◌}
use mathlib.Core.Option.{Option, some, none}
use Prim.Native.Nat.{ℕ, ◌≤◌, ◌<◌}
use lib.IntN.{ℤ}
use lib.Signed.{◌≤ℤ◌}
use Rattle.scheduling.specs.Scheduling.{whole, Tasks, TaskSet, ◌with◌, In, NoOverlap, Atom, Allows, Meets, Every, Admits, given, negation, Bounded, PassesFormula, Contradicts}
use Rattle.scheduling.proofs.Negation.{negation_is}
use Rattle.scheduling.proofs.Checks.{check_sound, overload_check}
use Rattle.scheduling.proofs.Every.{every_append}

module _ (J : Tasks whole) (s : ℕ → ℤ) where
  abbrev MetByTasks : List Atom → Type 0
  MetByTasks = Every (λ a. a.variable < J.count → Meets s a)

  -- where the atoms on tasks are met, each task's start is admitted
  pub start_admitted : (atoms : List Atom) → MetByTasks atoms → (k : ℕ) → k < J.count → Admits atoms k (s k)
  start_admitted [] h k q = tt
  start_admitted (a ∷ rest) h k q =
      (λ z. subst (λ (j : ℕ). Allows a (s j)) z (h.0 (subst (λ (j : ℕ). j < J.count) (sym z) q)), start_admitted rest h.1 k q)

  -- starts that meet the atoms lie in the ranges that these leave
  module _ (atoms : List Atom) (Ω : TaskSet) (B : Tasks whole) (b : Bounded J atoms Ω B) (met : MetByTasks atoms)
      (lasts : (k : ℕ) → k < J.count → 1 ≤ J.duration k) (apart : NoOverlap J s) where
    small : {k : ℕ} → k < B.count → k < J.count
    small {k} q = subst (λ (n : ℕ). k < n) b.same_count q

    from : (k : ℕ) → In B Ω k → B.earliest k ≤ℤ s k
    from k h = (b.least k (record { small = small h.small; mem = h.mem })).bounds (s k) (start_admitted atoms met k (small h.small))

    to : (k : ℕ) → In B Ω k → s k ≤ℤ B.latest k
    to k h = (b.greatest k (record { small = small h.small; mem = h.mem })).bounds (s k) (start_admitted atoms met k (small h.small))

    lasts_too : (k : ℕ) → k < B.count → 1 ≤ B.duration k
    lasts_too k q = rw (b.same_duration k) (lasts k (small q))

    apart_too : NoOverlap B s
    apart_too j k p q ne = rw (b.same_duration j, b.same_duration k) (apart j k (small p) (small q) ne)

  unmet_negated : (a : Atom) → (Meets s a → ⊥) → MetByTasks (negation a ∷ [])
  unmet_negated a h = (λ _. (negation_is a (s a.variable)).1 h, tt)

  -- Where a check meets the formula, no starts contradict it.
  pub passed_sound : (premises : List Atom) (consequent : Option Atom) → ((k : ℕ) → k < J.count → 1 ≤ J.duration k)
      → PassesFormula J premises consequent → Contradicts J premises consequent s → ⊥
  passed_sound premises none lasts p c =
      let m : MetByTasks premises = c.premises_met in
      overload_check p.ranges (lasts_too premises p.set p.ranges p.bounded m lasts c.apart) s
      (apart_too premises p.set p.ranges p.bounded m lasts c.apart) p.set p.formula
      (from premises p.set p.ranges p.bounded m lasts c.apart) (to premises p.set p.ranges p.bounded m lasts c.apart)
  passed_sound premises (some a) lasts p c =
      let atoms : List Atom = given premises (some a) in
      let Ω : TaskSet = p.set with a.variable in
      let m : MetByTasks atoms = every_append (λ a. a.variable < J.count → Meets s a) premises (negation a ∷ []) c.premises_met (unmet_negated a c.consequent_not) in
      check_sound p.ranges (lasts_too atoms Ω p.ranges p.bounded m lasts c.apart) s
      (apart_too atoms Ω p.ranges p.bounded m lasts c.apart) p.set a.variable p.formula
      (from atoms Ω p.ranges p.bounded m lasts c.apart) (to atoms Ω p.ranges p.bounded m lasts c.apart)
