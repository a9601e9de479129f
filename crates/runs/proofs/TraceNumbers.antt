-- The numbers of an answer show how the trace ended and how many posts and atoms it has, and different outcomes have different numbers.
use mathlib.Core.Path.{◌≡◌, refl, sym, ap, subst, ◌∙◌}
use mathlib.Core.List.{List}
use mathlib.Core.Logic.{◌↔◌}
use Prim.Native.Nat.{ℕ, zero, suc, ◌<◌}
use native.Mathlib.Omega.{arith}
use lib.IntN.{pos, nat_abs}
use lib.ListN.{length, get_or}
use Rattle.integers.specs.Answers.{Answer}
use Rattle.scheduling.specs.Scheduling.{Atom}
use Rattle.runs.specs.Traces.{End, done, overload, emptied, Trace}
use Rattle.runs.specs.Words.{reasons}
use Rattle.runs.specs.declared.outcome.Outcome.{Outcome}
use Rattle.runs.specs.declared.outcome.Outcome.TheVariants as outcome
use Rattle.runs.specs.Outcomes.{outcome_numbers, value_of, first_of, count_of}
use Rattle.runs.specs.EndNumbers.{end_numbers, trace_numbers}
use Rattle.integers.specs.Reasons.{reason_of}
use Rattle.integers.proofs.RefusalNumbers.{reason_is}

-- an outcome, read back from its numbers
abbrev outcome_at : ℕ → Answer → Outcome
outcome_at zero a = outcome.Done (nat_abs (get_or a.values 0 (pos 0)))
outcome_at (suc zero) a = outcome.Overload (nat_abs (get_or a.values 0 (pos 0))) (nat_abs (get_or a.values 1 (pos 0))) (nat_abs (get_or a.values 2 (pos 0)))
outcome_at (suc (suc zero)) a = outcome.Emptied (nat_abs (get_or a.values 0 (pos 0)))
outcome_at (suc (suc (suc k))) a = outcome.Refused (reason_of a.number)

outcome_back : (o : Outcome) → outcome_at (outcome_numbers o).kind (outcome_numbers o) ≡ o
outcome_back (outcome.Done posts) = refl
outcome_back (outcome.Overload posts first count) = refl
outcome_back (outcome.Emptied posts) = refl
outcome_back (outcome.Refused why) = ap outcome.Refused (reason_is why)

pub outcomes_apart : (o o' : Outcome) → outcome_numbers o ≡ outcome_numbers o' → o ≡ o'
outcomes_apart o o' e = sym (outcome_back o) ∙ ap (λ (a : Answer). outcome_at a.kind a) e ∙ outcome_back o'

-- An overload, and where its reason stands after the atoms of the posts.
pub record Overloaded (r : Outcome) (t : Trace) : Type 0 where
  pub reason : List Atom
  pub ended : t.end ≡ overload reason
  pub first : first_of r ≡ length (reasons t.posts)
  pub count : count_of r ≡ length reason

-- an answer with the numbers of a trace
module _ (r : Outcome) (t : Trace) (is : outcome_numbers r ≡ trace_numbers t) where
  abbrev value : ℕ → Answer → ℕ
  value k a = nat_abs (get_or a.values k (pos 0))

  pub not_refused : (outcome_numbers r).kind < 3
  not_refused = subst (λ (a : Answer). a.kind < 3) (sym is) (each t.end)
    where
      each : (e : End) → (end_numbers (length t.posts) (length (reasons t.posts)) e).kind < 3
      each done = omega arith
      each (overload r) = omega arith
      each emptied = omega arith

  pub posts_made : value_of r 0 ≡ length t.posts
  posts_made = ap (value 0) is ∙ each t.end
    where
      each : (e : End) → value 0 (end_numbers (length t.posts) (length (reasons t.posts)) e) ≡ length t.posts
      each done = refl
      each (overload r) = refl
      each emptied = refl

  pub kind_done : (outcome_numbers r).kind ≡ 0 ↔ t.end ≡ done
  kind_done = subst (λ (a : Answer). a.kind ≡ 0 ↔ t.end ≡ done) (sym is) (each t.end)
    where
      each : (e : End) → (end_numbers (length t.posts) (length (reasons t.posts)) e).kind ≡ 0 ↔ e ≡ done
      each done = (λ _. refl, λ _. refl)
      each (overload r) = (λ z. absurd (omega arith), λ z. let y : ◌≡◌ {A = ℕ} 0 1 = cc in absurd (omega arith))
      each emptied = (λ z. absurd (omega arith), λ z. let y : ◌≡◌ {A = ℕ} 0 1 = cc in absurd (omega arith))

  pub kind_emptied : (outcome_numbers r).kind ≡ 2 ↔ t.end ≡ emptied
  kind_emptied = subst (λ (a : Answer). a.kind ≡ 2 ↔ t.end ≡ emptied) (sym is) (each t.end)
    where
      each : (e : End) → (end_numbers (length t.posts) (length (reasons t.posts)) e).kind ≡ 2 ↔ e ≡ emptied
      each done = (λ z. absurd (omega arith), λ z. let y : ◌≡◌ {A = ℕ} 0 1 = cc in absurd (omega arith))
      each (overload r) = (λ z. absurd (omega arith), λ z. let y : ◌≡◌ {A = ℕ} 0 1 = cc in absurd (omega arith))
      each emptied = (λ _. refl, λ _. refl)

  pub kind_overload : (outcome_numbers r).kind ≡ 1 → Overloaded r t
  kind_overload k = each t.end refl (ap (λ (a : Answer). a.kind) (sym is) ∙ k)
    where
      each : (e : End) → t.end ≡ e → (end_numbers (length t.posts) (length (reasons t.posts)) t.end).kind ≡ 1 → Overloaded r t
      each (overload reason) z y =
          let whole : outcome_numbers r ≡ end_numbers (length t.posts) (length (reasons t.posts)) (overload reason) = is ∙ ap (end_numbers (length t.posts) (length (reasons t.posts))) z in
          record { reason = reason; ended = z; first = ap (value 1) whole; count = ap (value 2) whole }
      each done z y = absurd (omega (arith, ap (λ (e : End). (end_numbers (length t.posts) (length (reasons t.posts)) e).kind) z))
      each emptied z y = absurd (omega (arith, ap (λ (e : End). (end_numbers (length t.posts) (length (reasons t.posts)) e).kind) z))
