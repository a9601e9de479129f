-- Two lists of tasks that agree on a set have the same overloads and formulas there, and two sets with the same tasks have the same est, lct, p and ect.
use mathlib.Core.Path.{◌≡◌, refl, sym, ap, subst, ◌∙◌}
use mathlib.Core.Bool.{true}
use mathlib.Core.Logic.{◌↔◌}
use Prim.Native.Nat.{ℕ, ◌<◌}
use Rattle.scheduling.specs.Scheduling.{Clock, Tasks, TaskSet, In, Subset, Est, Lct, processing, Ect, Overloads, RuleFormula}
use Rattle.scheduling.proofs.Correspondence.{wider, Correspondence, Alike, known, processing_alike, est_carried, lct_carried, ect_carried, overloads_carried, formula_carried}

pub same_order : {A : Type 0} (R : A → A → Type 0) {a b x y : A} → a ≡ x → b ≡ y → R a b ↔ R x y
same_order {A} R {a} {b} {x} {y} h k = (λ q. subst (λ (s : A). R s y) h (subst (R a) k q), λ q. subst (λ (s : A). R s b) (sym h) (subst (R x) (sym k) q))

-- each moment corresponds to itself
abbrev pub itself : (C : Clock) → Correspondence C C
itself C = record {
  is = ◌≡◌;
  upto = same_order C.upto;
  before = same_order C.before;
  later = λ d h. ap (λ (t : C.Moment). C.later t d) h;
  one = λ h k. sym h ∙ k;
  one_back = λ h k. h ∙ sym k;
}

-- The same count and durations, and on X the same ranges.
pub record Agree {C : Clock} (J K : Tasks C) (X : TaskSet) : Type 0 where
  pub count : J.count ≡ K.count
  pub duration : (k : ℕ) → J.duration k ≡ K.duration k
  pub earliest : (k : ℕ) → In J X k → J.earliest k ≡ K.earliest k
  pub latest : (k : ℕ) → In J X k → J.latest k ≡ K.latest k

module _ {C : Clock} (J K : Tasks C) (X : TaskSet) (a : Agree J K X) (S : TaskSet) where
  alike : Subset J S X → Alike (itself C) J K S S
  alike sub = search (a.earliest, a.latest, wider J S X sub)

  pub overloads→ : Subset J S X → Overloads J S → Overloads K S
  overloads→ sub = overloads_carried (alike sub)

  pub formula→ : (i : ℕ) → Subset J S X → X i ≡ true → RuleFormula J S i → RuleFormula K S i
  formula→ i sub y c = let h : In J X i = record { small = c.outside.small; mem = y } in formula_carried (alike sub) i (a.earliest i h) (a.latest i h) c

-- Sets that have the same tasks.
module _ {C : Clock} (J : Tasks C) (S Ω : TaskSet) (same : (k : ℕ) → k < J.count → S k ≡ Ω k) where
  pub same_sets : Alike (itself C) J J S Ω
  same_sets = record { count = refl; duration = λ k. refl; same = same; earliest = λ k h. refl; latest = λ k h. refl }

  pub set_processing : processing J S ≡ processing J Ω
  set_processing = processing_alike same_sets

  pub set_est : (v : C.Moment) → Est J S v → Est J Ω v
  set_est v = known (itself C) (est_carried same_sets) v v refl

  pub set_lct : (v : C.Moment) → Lct J S v → Lct J Ω v
  set_lct v = known (itself C) (lct_carried same_sets) v v refl

  pub set_ect : (v : C.Moment) → Ect J S v → Ect J Ω v
  set_ect v = known (itself C) (ect_carried same_sets) v v refl

  pub set_overloads : Overloads J S → Overloads J Ω
  set_overloads = overloads_carried same_sets

  pub set_formula : (i : ℕ) → RuleFormula J S i → RuleFormula J Ω i
  set_formula i = formula_carried same_sets i refl refl
