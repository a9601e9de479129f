-- The open calls' definitions keep the promises.
use mathlib.Core.Path.{◌≡◌, refl, sym, ap, ◌∙◌, subst}
use mathlib.Core.Logic.{◌↔◌}
use mathlib.Core.Bool.{Bool, true, false}
use mathlib.Core.List.{List, [], ◌∷◌}
use Prim.Native.Nat.{ℕ, ◌+◌, ◌*◌, ◌≤◌, ◌<◌}
use native.Mathlib.Omega.{arith}
use borrow.Author.Tests.{ltb-true, ltb-false}
use lib.Dec.{ltb}
use lib.IntN.{ℤ, pos, negsuc, nat_abs}
use lib.ListN.{length}
use lib.Seq.{ext_get_or}
use Rattle.integers.specs.Answers.{answered, refused_by}
use Rattle.integers.specs.Limits.{VARIABLES, PREMISES}
use Rattle.integers.proofs.Bools.{clash}
use Rattle.scheduling.specs.Scheduling.{Atom, given}
use Rattle.checking.proofs.Choices.{choice}
use Rattle.checking.specs.Atoms.{atom_from, atoms_of, consequent_of, right_variable, right_atom, right_lists}
use Rattle.checking.proofs.Atoms.{right_atom_is, right_variable_is, given_each}
use Rattle.checking.specs.declared.int_ext.IntExt.{IntExt}
use Rattle.checking.specs.declared.int_ext.IntExt.TheVariants.{Int, NegativeInf, PositiveInf}
use Rattle.checking.specs.declared.domain.Domain.{Domain}
use Rattle.checking.specs.Domains.{Admitted, true_of}
use Rattle.checking.proofs.Values.{lower_least, upper_largest, lower_none, upper_none, never_is, true_all, true_not, same_values}
use Rattle.checking.specs.declared.variable_state.VariableState.{VariableState}
use Rattle.checking.specs.declared.variable_state.Application.TheVariants.{Consistent, Contradiction, Refused}
use Rattle.checking.specs.declared.variable_state.Applied.{Applied}
use Rattle.std.specs.Prelude.{Result, Ok, Err}
use Rattle.integers.specs.declared.refused.Refusal.{Refusal}
use Rattle.integers.specs.declared.refused.Refusal.TheVariants as refusal
use Rattle.integers.specs.Refused.{number_of}
use Rattle.checking.specs.declared.variable_state.Side.TheVariants.{Lower, Upper}
use Rattle.checking.specs.Answers.{application_numbers, AppliedAs, numbers_of_truth, numbers_of_bound}
use Rattle.checking.specs.States.{AcceptedState, Sized, no_domain, domain_at, empty_state, accepted, stepped, applied_to, truth_of, bound_of, lower_of, upper_of, apply_all, prepared}
use Rattle.checking.specs.Promises.{apply_refusal, query_refusal, EmptyMeans, ApplyMeans, TruthMeans, LowerMeans, UpperMeans, Reaches, PrepareMeans}
use Rattle.checking.proofs.StateNumbers.{other_kind, applications_apart, refused_as, ext_number, exts_apart}
use Rattle.checking.proofs.AcceptedStates.{state_accepted, proper_state}
use Rattle.checking.proofs.Meaning.{step_consistent, step_contradiction, step_refused, step_number, Known, all_admits, Stops, all_contradiction_at, all_refused_at, empty_admits}
use Rattle.checking.proofs.States.{stepped_accepted, all_accepted, empty_accepted}

-- ---- the empty state
pub empty_promise : (r : VariableState) → r ≡ empty_state → (r ≡ empty_state) × EmptyMeans r
empty_promise r e = (e, subst EmptyMeans (sym e) (record { any = empty_admits; again = state_accepted empty_state.domains empty_accepted }))

-- ---- apply
applied_as : {r t : Applied} → r ≡ t → AppliedAs t r
applied_as e = record { answer = ap (λ (a : Applied). application_numbers a.answer) e; state = ap (λ (a : Applied). a.state) e }

module _ (s : VariableState) (x k v : ℤ) (proper : accepted s.domains ≡ true → AcceptedState s) where
  is_refused : (why : Refusal) → number_of why ≡ apply_refusal s x k v → ApplyMeans s x k v (record { answer = Refused why; state = s })
  is_refused why e = record {
    number = e;
    refused = λ _ _. refl;
    contradiction = λ y q. other_kind (refused_by (number_of why)) (answered 2 (pos y ∷ [])) q (omega arith);
    consistent = λ q. other_kind (refused_by (number_of why)) (answered 0 []) q (omega arith);
    again = λ y. y;
  }

  went : accepted s.domains ≡ true → right_atom x k v ≡ true → ApplyMeans s x k v (stepped s (atom_from x k v))
  went y r =
      let acc = proper y in
      let known = (right_atom_is x k v r).known in
      record {
        number = rw (y, r) (step_number s (atom_from x k v) acc known);
        refused = λ n q. let (why, a, _) = refused_as _ n q in (step_refused s (atom_from x k v) acc known why a).1;
        contradiction = λ w q. step_contradiction s (atom_from x k v) acc known w (applications_apart _ (Contradiction w) q);
        consistent = λ q. step_consistent s (atom_from x k v) acc known (applications_apart _ Consistent q);
        again = λ _. state_accepted (stepped s (atom_from x k v)).state.domains (stepped_accepted s (atom_from x k v) acc known);
      }

  pub apply_means : ApplyMeans s x k v (applied_to s x k v)
  unfolding applied_to
  apply_means = choice (ApplyMeans s x k v) (accepted s.domains)
      (λ p. choice (ApplyMeans s x k v) (right_atom x k v) (λ q. went p q) (λ q. is_refused refusal.Atoms (rw (p, q)))) (λ p. is_refused refusal.State (rw p))

  pub apply_promise : (r : Applied) → r ≡ applied_to s x k v → record { equals : AppliedAs (applied_to s x k v) r; means : ApplyMeans s x k v r }
  apply_promise r e = record { equals = applied_as e; means = subst (ApplyMeans s x k v) (sym e) apply_means }

-- ---- is_true
module _ (s : VariableState) (x k v : ℤ) (proper : accepted s.domains ≡ true → AcceptedState s) where
  truth_back : (why : Refusal) → number_of why ≡ query_refusal s (right_atom x k v) → TruthMeans s x k v (Err why)
  truth_back why e = record {
    number = e;
    holds = λ q. other_kind (refused_by (number_of why)) (answered 0 []) q (omega arith);
    fails = λ q. other_kind (refused_by (number_of why)) (answered 1 []) q (omega arith);
  }

  truth_case : (b : Bool) → (b ≡ true → TruthMeans s x k v (Ok true)) → (b ≡ false → TruthMeans s x k v (Ok false)) → TruthMeans s x k v (Ok b)
  truth_case true f g = f refl
  truth_case false f g = g refl

  pub truth_means : TruthMeans s x k v (truth_of s x k v)
  unfolding truth_of
  truth_means = choice (TruthMeans s x k v) (accepted s.domains)
      (λ p. choice (TruthMeans s x k v) (right_atom x k v) (λ q. truth_case (true_of (domain_at s (nat_abs x)) (nat_abs k) v)
      (λ t. record {
        number = rw (p, q);
        holds = λ _. true_all (domain_at s (nat_abs x)) ((proper p).each (nat_abs x) (right_atom_is x k v q).known) (nat_abs k) v t;
        fails = λ e. other_kind (answered 0 []) (answered 1 []) e (omega arith);
      })
      (λ t. record {
        number = rw (p, q);
        holds = λ e. other_kind (answered 1 []) (answered 0 []) e (omega arith);
        fails = λ _. true_not (domain_at s (nat_abs x)) ((proper p).each (nat_abs x) (right_atom_is x k v q).known) (nat_abs k) v t;
      }))
      (λ q. truth_back refusal.Atoms (rw (p, q)))) (λ p. truth_back refusal.State (rw p))

  pub truth_promise : (r : Result Bool Refusal) → r ≡ truth_of s x k v → record { equals : numbers_of_truth r ≡ numbers_of_truth (truth_of s x k v); means : TruthMeans s x k v r }
  truth_promise r e = record { equals = ap numbers_of_truth e; means = subst (TruthMeans s x k v) (sym e) truth_means }

-- ---- bounds
module _ (s : VariableState) (x : ℤ) (proper : accepted s.domains ≡ true → AcceptedState s) where
  abbrev d : Domain
  d = domain_at s (nat_abs x)

  bound_case : (side : Domain → IntExt) (P : Result IntExt Refusal → Type 0) → (accepted s.domains ≡ true → right_variable x ≡ true → P (Ok (side d)))
      → ((why : Refusal) → number_of why ≡ query_refusal s (right_variable x) → P (Err why)) → P (bound_of side s x)
  unfolding bound_of
  bound_case side P f g = choice P (accepted s.domains) (λ p. choice P (right_variable x) (λ q. f p q) (λ q. g refusal.Atoms (rw (p, q)))) (λ p. g refusal.State (rw p))

  pub lower_means : LowerMeans s x (bound_of lower_of s x)
  lower_means = bound_case lower_of (LowerMeans s x)
      (λ p q. let w = (proper p).each (nat_abs x) (right_variable_is x q).1 in record {
        number = rw (p, q) (ext_number (lower_of d));
        least = λ u e. lower_least d w u (exts_apart (lower_of d) (Int u) e);
        unbounded = λ e. lower_none d w (exts_apart (lower_of d) NegativeInf e);
        never = λ e. never_is d w Lower (exts_apart (lower_of d) PositiveInf e);
      })
      (λ why e. record {
        number = e;
        least = λ u q. other_kind (refused_by (number_of why)) (answered 0 (pos 0 ∷ u ∷ [])) q (omega arith);
        unbounded = λ q. other_kind (refused_by (number_of why)) (answered 0 (negsuc 0 ∷ [])) q (omega arith);
        never = λ q. other_kind (refused_by (number_of why)) (answered 0 (pos 1 ∷ [])) q (omega arith);
      })

  pub upper_means : UpperMeans s x (bound_of upper_of s x)
  upper_means = bound_case upper_of (UpperMeans s x)
      (λ p q. let w = (proper p).each (nat_abs x) (right_variable_is x q).1 in record {
        number = rw (p, q) (ext_number (upper_of d));
        largest = λ u e. upper_largest d w u (exts_apart (upper_of d) (Int u) e);
        unbounded = λ e. upper_none d w (exts_apart (upper_of d) PositiveInf e);
        never = λ e. never_is d w Upper (exts_apart (upper_of d) NegativeInf e);
      })
      (λ why e. record {
        number = e;
        largest = λ u q. other_kind (refused_by (number_of why)) (answered 0 (pos 0 ∷ u ∷ [])) q (omega arith);
        unbounded = λ q. other_kind (refused_by (number_of why)) (answered 0 (pos 1 ∷ [])) q (omega arith);
        never = λ q. other_kind (refused_by (number_of why)) (answered 0 (negsuc 0 ∷ [])) q (omega arith);
      })

  pub lower_promise : (r : Result IntExt Refusal) → r ≡ bound_of lower_of s x → record { equals : numbers_of_bound r ≡ numbers_of_bound (bound_of lower_of s x); means : LowerMeans s x r }
  lower_promise r e = record { equals = ap numbers_of_bound e; means = subst (LowerMeans s x) (sym e) lower_means }

  pub upper_promise : (r : Result IntExt Refusal) → r ≡ bound_of upper_of s x → record { equals : numbers_of_bound r ≡ numbers_of_bound (bound_of upper_of s x); means : UpperMeans s x r }
  upper_promise r e = record { equals = ap numbers_of_bound e; means = subst (UpperMeans s x) (sym e) upper_means }

-- ---- prepare_for_conflict_check
module _ (premises consequent : List ℤ) where
  abbrev atoms : List Atom
  atoms = given (atoms_of premises) (consequent_of consequent)

  -- every atom is on a known variable
  pub given_known : right_lists premises consequent ≡ true → Known atoms
  given_known = given_each (λ a. a.variable < VARIABLES) (λ a h. h.0) (λ a h. h.0) premises consequent

  abbrev reaches : Stops atoms empty_state → Reaches atoms
  reaches p = record { before = p.before; atom = p.atom; after = p.after; split = p.split; state = p.state; reached = p.reached }

  -- refused by 7 or 6
  list_back : (why : Refusal) → (3 * PREMISES + 2 < length premises → number_of why ≡ 7) → (length premises ≤ 3 * PREMISES + 2 → right_lists premises consequent ≡ false → number_of why ≡ 6)
      → (length premises ≤ 3 * PREMISES + 2 → right_lists premises consequent ≡ true → ⊥) → PrepareMeans premises consequent (record { answer = Refused why; state = empty_state })
  list_back why f g h = record {
    many = λ l. ap refused_by (f l);
    malformed = λ l r. ap refused_by (g l r);
    refused = λ _ _. refl;
    room = λ l r. absurd (h l r);
    contradiction = λ y q. other_kind (refused_by (number_of why)) (answered 2 (pos y ∷ [])) q (omega arith);
    consistent = λ q. other_kind (refused_by (number_of why)) (answered 0 []) q (omega arith);
    again = state_accepted empty_state.domains empty_accepted;
  }

  list_went : length premises ≤ 3 * PREMISES + 2 → right_lists premises consequent ≡ true → PrepareMeans premises consequent (apply_all atoms empty_state)
  list_went l r =
      let known = given_known r in
      record {
        many = λ m. absurd (omega arith);
        malformed = λ _ n. clash r n;
        refused = λ n q. let (why, a, _) = refused_as _ n q in (all_refused_at atoms known empty_state empty_accepted why a).1;
        room = λ _ _ n q. let (why, a, number) = refused_as _ n q in let (u, v, p, w) = all_refused_at atoms known empty_state empty_accepted why a in (sym number ∙ ap number_of u, (reaches p, w));
        contradiction = λ y q. let (p, u, v, w) = all_contradiction_at atoms known empty_state empty_accepted y (applications_apart _ (Contradiction y) q) in (reaches p, u, v, w);
        consistent = λ q x h z. let (to, of) = all_admits atoms known empty_state empty_accepted (applications_apart _ Consistent q) x z in (λ m. (to m).1, λ m. of (empty_admits x h z, m));
        again = state_accepted (apply_all atoms empty_state).state.domains (all_accepted atoms known empty_state empty_accepted);
      }

  pub prepare_means : PrepareMeans premises consequent (prepared premises consequent)
  unfolding prepared
  prepare_means = choice (PrepareMeans premises consequent) (ltb (3 * PREMISES + 2) (length premises))
      (λ p. let l = ltb-true (3 * PREMISES + 2) (length premises) p in list_back refusal.Premises (λ _. refl) (λ m _. absurd (omega arith)) (λ m _. omega arith))
      (λ p. let l = ltb-false (3 * PREMISES + 2) (length premises) p in choice (PrepareMeans premises consequent) (right_lists premises consequent) (λ q. list_went l q)
      (λ q. list_back refusal.Atoms (λ m. absurd (omega arith)) (λ _ _. refl) (λ _ r. clash r q)))

  pub prepare_promise : (r : Applied) → r ≡ prepared premises consequent → record { equals : AppliedAs (prepared premises consequent) r; means : PrepareMeans premises consequent r }
  prepare_promise r e = record { equals = applied_as e; means = subst (PrepareMeans premises consequent) (sym e) prepare_means }

-- ---- canonical: two accepted states admit the same values for every variable exactly when they are equal
pub same_state : (s t : VariableState) → AcceptedState s → AcceptedState t → ((x : ℕ) → x < VARIABLES → (z : ℤ) → Admitted (domain_at s x) z ↔ Admitted (domain_at t x) z) → s ≡ t
same_state s t a b same = λ i. record {
  domains = ext_get_or no_domain s.domains t.domains (a.size ∙ sym b.size)
      (λ x h. let l : x < VARIABLES = omega (arith, a.size) in same_values (domain_at s x) (domain_at t x) (a.each x l) (b.each x l) (λ z. (same x l z).0) (λ z. (same x l z).1)) i;
}

pub canonical : (s t : VariableState) → Sized s → Sized t → accepted s.domains ≡ true → accepted t.domains ≡ true
    → ((x : ℕ) → x < VARIABLES → (z : ℤ) → Admitted (domain_at s x) z ↔ Admitted (domain_at t x) z) ↔ (s ≡ t)
canonical s t m n p q = (
  same_state s t (proper_state s.domains m.size m.places p) (proper_state t.domains n.size n.places q),
  λ e x h z. subst (λ (r : VariableState). Admitted (domain_at s x) z ↔ Admitted (domain_at r x) z) e (λ a. a, λ a. a),
)
