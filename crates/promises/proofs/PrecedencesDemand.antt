-- The contract of the open pass by precedences says every sentence of request (h) about it.
use mathlib.Core.Path.{◌≡◌, ap, ◌∙◌}
use mathlib.Core.List.{List}
use mathlib.Core.Logic.{◌⊎◌, ◌↔◌, inl, inr, ⊎_elim}
use Prim.Native.Nat.{ℕ}
use native.Mathlib.Omega.{arith}
use lib.IntN.{pos}
use lib.ListN.{get_or}
use Rattle.integers.specs.Answers.{Answer}
use Rattle.scheduling.specs.Scheduling.{whole, Tasks}
use Rattle.records.specs.declared.record.DisjunctivePropagator.{DisjunctivePropagator}
use Rattle.precedences.specs.declared.answers.Precedences.{Precedences}
use Rattle.precedences.specs.Numbers.{numbers_of_precedences}
use Rattle.precedences.specs.Precedences.{NoneEmptied}
use Rattle.ranges.specs.declared.range.Range.{Range}
use Rattle.ranges.specs.Ranges.{latests}
use Rattle.ranges.proofs.StoredStarts.{latests_with}
use Rattle.promises.specs.Promise.{tasks_lent}
use Rattle.promises.specs.PrecedencesLent.{ranges_number, PrecedencesLent}
use Rattle.promises.specs.PrecedencesDemand.{PrecedencesDemand}
use Rattle.promises.proofs.PrecedencesEnd.{pass_ends}

module _ {before : DisjunctivePropagator} {ranges : List Range} {answer : Precedences} {ranges' : List Range} (ran : PrecedencesLent before ranges answer ranges') (z : ranges_number before ranges ≡ 0) where
  abbrev J : Tasks whole
  J = tasks_lent before ranges

  abbrev kind : Answer → ℕ
  kind a = a.kind

  -- it is Done, or Emptied
  ends : ((numbers_of_precedences answer).kind ≡ 0) ⊎ ((numbers_of_precedences answer).kind ≡ 1)
  ends = ⊎_elim (λ e. inl (ap kind e)) (λ x. inr (ap kind x.1)) (pass_ends J answer (ran.accepted z).left)

  done : (numbers_of_precedences answer).kind ≡ 0 ↔ NoneEmptied J
  done = (
    λ e. ⊎_elim (λ d. (ran.accepted z).left.done.0 d) (λ x. absurd (omega (arith, e, ap kind x.1))) (pass_ends J answer (ran.accepted z).left),
    λ n. ap kind ((ran.accepted z).left.done.1 n),
  )

  pub precedences_demand : PrecedencesDemand before ranges answer ranges'
  precedences_demand = let a = ran.accepted z in record {
    outcomes = ⊎_elim (λ e. omega arith) (λ e. omega arith) ends;
    all_before = a.left.before;
    exactly = done;
    starts = λ e k q. (get_or a.raised k (pos 0), a.left.starts e k q, a.first e k q);
    lowest = λ e. ⊎_elim (λ d. absurd (omega (arith, e, ap kind d)))
        (λ x. (let (i, is) = x in let f = (a.left.emptied i).0 is in (i, is, f.small, (f.bound, f.is_bound, f.passes), f.lowest))) (pass_ends J answer a.left);
    no_change = a.same_emptied;
    no_schedule = a.left.no_schedule;
    none_lost = λ s h k q. ⊎_elim (λ e. a.none_lost e s h k q) (λ e. absurd (a.left.no_schedule e s h.schedule)) ends;
    same_latests = ap latests a.stored ∙ latests_with ranges a.raised;
  }
