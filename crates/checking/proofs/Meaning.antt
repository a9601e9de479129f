-- What one atom, and a list of atoms, make of the values that a state admits.
use mathlib.Core.Path.{◌≡◌, refl, sym, ap, ◌∙◌, subst}
use mathlib.Core.Logic.{◌↔◌}
use mathlib.Core.Bool.{true, cond}
use mathlib.Core.List.{List, [], ◌∷◌, ◌++◌}
use Prim.Native.Nat.{ℕ, ◌<◌}
use native.Mathlib.Decide.{ℕ_discrete}
use native.Mathlib.Omega.{arith}
use lib.IntN.{ℤ}
use lib.ListN.{get_or-replicate}
use Rattle.integers.specs.Limits.{VARIABLES}
use Rattle.integers.specs.declared.refused.Refusal.{Refusal}
use Rattle.integers.specs.declared.refused.Refusal.TheVariants as refusal
use Rattle.scheduling.specs.Scheduling.{Atom, Allows, Every, Admits}
use Rattle.integers.proofs.WholeNumbers.{has_none}
use Rattle.checking.specs.declared.domain.Domain.{Domain}
use Rattle.checking.specs.Domains.{Admitted, every_integer, applied}
use Rattle.checking.specs.declared.int_ext.IntExt.TheVariants.{NegativeInf, PositiveInf}
use Rattle.checking.proofs.NarrowedDomains.{applied_leaves, made_admits}
use Rattle.checking.proofs.Values.{crossed_none, some_value}
use Rattle.checking.specs.declared.variable_state.VariableState.{VariableState}
use Rattle.checking.specs.declared.variable_state.Application.{Application}
use Rattle.checking.specs.declared.variable_state.Application.TheVariants.{Consistent, Contradiction, Refused}
use Rattle.checking.specs.declared.variable_state.Applied.{Applied}
use Rattle.checking.specs.States.{AcceptedState, no_domain, domain_at, put, empty_state, stepped, apply_all}
use Rattle.checking.specs.Answers.{application_numbers}
use Rattle.checking.specs.Promises.{Narrows, Excludes, lacks_room}
use Rattle.checking.proofs.States.{put_same, put_other, stepped_case, stepped_accepted, all_case, all_end, all_consistent}

-- ---- answers differ
abbrev pub code : Application → ℕ
code Consistent = 0
code (Contradiction x) = 1
code (Refused n) = 2

pub differ {ℓ} : {X : Type ℓ} (a b : Application) → a ≡ b → (code a ≡ code b → ⊥) → X
differ a b e n = absurd (n (ap code e))

-- ---- one atom
module _ (s : VariableState) (a : Atom) (acc : AcceptedState s) (known : a.variable < VARIABLES) where
  abbrev d : Domain
  d = domain_at s a.variable

  abbrev d' : Domain
  d' = applied d a.kind a.value

  at_put : domain_at (put s a.variable d') a.variable ≡ d'
  at_put = put_same s a.variable d' (omega (arith, acc.size))

  pub step_consistent : (stepped s a).answer ≡ Consistent → Narrows s a (stepped s a).state
  step_consistent = stepped_case s a (λ r. r.answer ≡ Consistent → Narrows s a r.state)
      (λ _ e. differ (Refused refusal.Holes) Consistent e (omega arith))
      (λ p q _.
      let l = applied_leaves d a.kind a.value (acc.each a.variable known).tight p in
      record {
        admits = λ z. rw at_put (l.to z, λ m. l.of z m.0 m.1);
        left = rw at_put (some_value d' (record { tight = l.tight; ordered = q }));
        others = λ y n. put_other s a.variable y d' n;
      })
      (λ _ _ e. differ (Contradiction a.variable) Consistent e (omega arith))

  pub step_contradiction : (y : ℕ) → (stepped s a).answer ≡ Contradiction y → (y ≡ a.variable) × ((stepped s a).state ≡ s) × Excludes s a
  step_contradiction y = stepped_case s a (λ r. r.answer ≡ Contradiction y → (y ≡ a.variable) × (r.state ≡ s) × Excludes s a)
      (λ _ e. differ (Refused refusal.Holes) (Contradiction y) e (omega arith))
      (λ _ _ e. differ Consistent (Contradiction y) e (omega arith))
      (λ p q e. (cc, refl, λ z m h. crossed_none d' q z ((applied_leaves d a.kind a.value (acc.each a.variable known).tight p).of z m h)))

  pub step_refused : (n : Refusal) → (stepped s a).answer ≡ Refused n → (n ≡ refusal.Holes) × ((stepped s a).state ≡ s) × (lacks_room s a ≡ true)
  step_refused n = stepped_case s a (λ r. r.answer ≡ Refused n → (n ≡ refusal.Holes) × (r.state ≡ s) × (lacks_room s a ≡ true))
      (λ p e. (cc, refl, p))
      (λ _ _ e. differ Consistent (Refused n) e (omega arith))
      (λ _ _ e. differ (Contradiction a.variable) (Refused n) e (omega arith))

  pub step_number : (application_numbers (stepped s a).answer).number ≡ cond (lacks_room s a) 21 0
  step_number = stepped_case s a (λ r. (application_numbers r.answer).number ≡ cond (lacks_room s a) 21 0) (λ p. rw p) (λ p _. rw p) (λ p _. rw p)

  -- what each variable then admits
  pub step_admits : (stepped s a).answer ≡ Consistent → (x : ℕ) (z : ℤ) → Admitted (domain_at (stepped s a).state x) z ↔ (Admitted (domain_at s x) z × (a.variable ≡ x → Allows a z))
  step_admits e x z = elim (ℕ_discrete x a.variable) [
    | yes q ↦ (let r = (step_consistent e).admits z in rw q (λ m. ((r.0 m).0, λ _. (r.0 m).1), λ m. r.1 (m.0, m.1 refl)))
    | no n ↦ rw ((step_consistent e).others x n) (λ m. (m, λ q. absurd (n (sym q))), λ m. m.0)
  ]

-- ---- a list of atoms
abbrev pub Known : List Atom → Type 0
Known = Every (λ a. a.variable < VARIABLES)

pub all_admits : (atoms : List Atom) → Known atoms → (s : VariableState) → AcceptedState s → (apply_all atoms s).answer ≡ Consistent
    → (x : ℕ) (z : ℤ) → Admitted (domain_at (apply_all atoms s).state x) z ↔ (Admitted (domain_at s x) z × Admits atoms x z)
all_admits [] k s acc e x z = subst (λ (r : Applied). Admitted (domain_at r.state x) z ↔ (Admitted (domain_at s x) z × Unit {0})) (sym (all_end s)) (λ m. (m, tt), λ m. m.0)
all_admits (a ∷ rest) k s acc e x z =
    all_case s a rest (λ r. r.answer ≡ Consistent → Admitted (domain_at r.state x) z ↔ (Admitted (domain_at s x) z × ((a.variable ≡ x → Allows a z) × Admits rest x z)))
    (λ n q.
    let i = all_admits rest k.1 (stepped s a).state (stepped_accepted s a acc k.0) q x z in
    let j = step_admits s a acc k.0 n x z in
    (λ m. let (u, w) = i.0 m in let (f, g) = j.0 u in (f, (g, w)), λ m. i.1 (j.1 (m.0, m.1.0), m.1.1)))
    (λ y _ q. differ (Contradiction y) Consistent q (omega arith)) (λ y _ q. differ (Refused y) Consistent q (omega arith)) e

-- a consistent list, and then others
pub all_append : (xs ys : List Atom) (s t : VariableState) → apply_all xs s ≡ record { answer = Consistent; state = t } → apply_all (xs ++ ys) s ≡ apply_all ys t
all_append [] ys s t e = ap (apply_all ys) (ap (λ (r : Applied). r.state) (sym (all_end s) ∙ e))
all_append (a ∷ xs) ys s t e = all_case s a xs (λ r. r ≡ record { answer = Consistent; state = t } → apply_all (a ∷ xs ++ ys) s ≡ apply_all ys t)
    (λ n q. all_consistent s a (xs ++ ys) n ∙ all_append xs ys (stepped s a).state t q)
    (λ x _ q. differ (Contradiction x) Consistent (ap (λ (r : Applied). r.answer) q) (omega arith)) (λ m _ q. differ (Refused m) Consistent (ap (λ (r : Applied). r.answer) q) (omega arith)) e

-- where a list stops
pub record Stops (atoms : List Atom) (s : VariableState) : Type 0 where
  pub before : List Atom
  pub atom : Atom
  pub after : List Atom
  pub split : atoms ≡ before ++ (atom ∷ after)
  pub state : VariableState
  pub reached : apply_all before s ≡ record { answer = Consistent; state = state }
  pub accepted_there : AcceptedState state
  pub known_there : atom.variable < VARIABLES

abbrev here_stops : (a : Atom) (rest : List Atom) (s : VariableState) → AcceptedState s → a.variable < VARIABLES → Stops (a ∷ rest) s
here_stops a rest s acc k = record { before = []; atom = a; after = rest; split = refl; state = s; reached = all_end s; accepted_there = acc; known_there = k }

abbrev later_stops : (a : Atom) (rest : List Atom) (s : VariableState) → (stepped s a).answer ≡ Consistent → Stops rest (stepped s a).state → Stops (a ∷ rest) s
later_stops a rest s n p = record {
  before = a ∷ p.before;
  atom = p.atom;
  after = p.after;
  split = ap (λ (l : List Atom). a ∷ l) p.split;
  state = p.state;
  reached = all_consistent s a p.before n ∙ p.reached;
  accepted_there = p.accepted_there;
  known_there = p.known_there;
}

pub all_contradiction_at : (atoms : List Atom) → Known atoms → (s : VariableState) → AcceptedState s → (y : ℕ) → (apply_all atoms s).answer ≡ Contradiction y
    → (p : Stops atoms s) × (p.atom.variable ≡ y) × (p.state ≡ (apply_all atoms s).state) × Excludes p.state p.atom
all_contradiction_at [] k s acc y = λ e. differ Consistent (Contradiction y) (sym (ap (λ (r : Applied). r.answer) (all_end s)) ∙ e) (omega arith)
all_contradiction_at (a ∷ rest) k s acc y =
    all_case s a rest (λ r. r.answer ≡ Contradiction y → (p : Stops (a ∷ rest) s) × (p.atom.variable ≡ y) × (p.state ≡ r.state) × Excludes p.state p.atom)
    (λ n q. let (p, u, v, w) = all_contradiction_at rest k.1 (stepped s a).state (stepped_accepted s a acc k.0) y q in (later_stops a rest s n p, u, v, w))
    (λ x n q. let (u, v, w) = step_contradiction s a acc k.0 x n in let e : x ≡ y = cc in (here_stops a rest s acc k.0, sym u ∙ e, refl, w))
    (λ m _ q. differ (Refused m) (Contradiction y) q (omega arith))

pub all_refused_at : (atoms : List Atom) → Known atoms → (s : VariableState) → AcceptedState s → (n : Refusal) → (apply_all atoms s).answer ≡ Refused n
    → (n ≡ refusal.Holes) × ((apply_all atoms s).state ≡ empty_state) × (p : Stops atoms s) × (lacks_room p.state p.atom ≡ true)
all_refused_at [] k s acc n = λ e. differ Consistent (Refused n) (sym (ap (λ (r : Applied). r.answer) (all_end s)) ∙ e) (omega arith)
all_refused_at (a ∷ rest) k s acc n =
    all_case s a rest (λ r. r.answer ≡ Refused n → (n ≡ refusal.Holes) × (r.state ≡ empty_state) × (p : Stops (a ∷ rest) s) × (lacks_room p.state p.atom ≡ true))
    (λ m q. let (u, v, p, w) = all_refused_at rest k.1 (stepped s a).state (stepped_accepted s a acc k.0) n q in (u, v, later_stops a rest s m p, w))
    (λ x _ q. differ (Contradiction x) (Refused n) q (omega arith))
    (λ m e q. let (u, v, w) = step_refused s a acc k.0 m e in (cc, refl, here_stops a rest s acc k.0, w))

-- ---- from the empty state
pub empty_admits : (x : ℕ) → x < VARIABLES → (z : ℤ) → Admitted (domain_at empty_state x) z
empty_admits x h z = rw (get_or-replicate VARIABLES x every_integer no_domain h) any
  where
    any : Admitted every_integer z
    any = made_admits NegativeInf PositiveInf [] z refl refl (has_none z)
