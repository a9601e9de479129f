-- Once the starts that the pass by precedences leaves are stored in the ranges, the open pass's contract holds.
use mathlib.Core.Path.{◌≡◌, refl, ap, ◌∙◌}
use mathlib.Core.Bool.{true}
use mathlib.Core.List.{List, []}
use Prim.Native.Nat.{ℕ, ◌<◌}
use native.Mathlib.Omega.{arith}
use lib.IntN.{ℤ, pos}
use lib.ListN.{length, get_or}
use lib.Signed.{◌≤ℤ◌}
use Rattle.integers.specs.Answers.{answered}
use Rattle.scheduling.specs.Scheduling.{whole, Tasks}
use Rattle.records.specs.declared.record.DisjunctivePropagator.{DisjunctivePropagator}
use Rattle.records.specs.Refusals.{AcceptedInput}
use Rattle.records.proofs.RefusedRuns.{accepted_input}
use Rattle.precedences.specs.declared.answers.Precedences.{Precedences}
use Rattle.precedences.specs.declared.answers.Precedences.TheVariants.{Done, Emptied, Refused}
use Rattle.precedences.specs.Numbers.{numbers_of_precedences}
use Rattle.precedences.specs.Precedences.{LeftPrecedences, RanPrecedences}
use Rattle.ranges.specs.declared.range.Range.{Range}
use Rattle.ranges.specs.Bars.{all_bars_are_fit}
use Rattle.ranges.specs.Permitted.{FirstPermitted, PermittedSchedule}
use Rattle.ranges.specs.Ranges.{earliests, latests, any_range, with_starts}
use Rattle.ranges.proofs.StoredStarts.{own_starts}
use Rattle.promises.specs.Promise.{tasks_lent}
use Rattle.promises.specs.PrecedencesLent.{AcceptedPrecedencesLent, PrecedencesLent}
use Rattle.promises.proofs.Largest.{between}
use Rattle.promises.proofs.StoredStarts.{few, moved_on}

is_done : (r : Precedences) → (numbers_of_precedences r).kind ≡ 0 → numbers_of_precedences r ≡ answered 0 []
is_done Done z = refl
is_done (Emptied i) z = absurd (omega (arith, z))
is_done (Refused number) z = absurd (omega (arith, z))

module _ (before : DisjunctivePropagator) (ys : List Range) (r : Precedences) (es' : List ℤ) (size : length es' ≡ length ys) where
  abbrev J : Tasks whole
  J = tasks_lent before ys

  module _ (ok : AcceptedInput before (earliests ys) (latests ys)) (fit : all_bars_are_fit ys ≡ true) (left : LeftPrecedences J (earliests ys) r es') where
    first : (numbers_of_precedences r).kind ≡ 0 → (k : ℕ) → k < J.count → FirstPermitted (get_or ys k any_range) (get_or es' k (pos 0)) (get_or (earliests (with_starts ys es')) k (pos 0))
    first z k q = moved_on before ys es' ok.counts size k q fit refl
        (between (left.starts z k q) (left.done.0 (is_done r z) k q) (ok.ranges k (omega (arith, few before ys k q, ok.counts.earliest))))

    none_lost : (numbers_of_precedences r).kind ≡ 0 → (s : ℕ → ℤ) → PermittedSchedule J ys s → (k : ℕ) → k < J.count → get_or (earliests (with_starts ys es')) k (pos 0) ≤ℤ s k
    none_lost z s h k q = (first z k q).bounds (s k) (h.permitted k q, left.holds z s h.schedule k q)

    accepted_lent : AcceptedPrecedencesLent before ys r (with_starts ys es')
    accepted_lent =
        let same_emptied : (numbers_of_precedences r).kind ≡ 1 → with_starts ys es' ≡ ys = λ z. ap (with_starts ys) (left.kept z) ∙ own_starts ys in
        search (left, first, none_lost, same_emptied)

  pub lent_precedences : RanPrecedences before (earliests ys) (latests ys) (all_bars_are_fit ys) r es' → PrecedencesLent before ys r (with_starts ys es')
  lent_precedences ran = record {
    refused = λ n. (let k = ran.refused n in record { number = k.answer; same_ranges = ap (with_starts ys) k.starts ∙ own_starts ys });
    accepted = λ z. (let (ok, fit) = (accepted_input before (earliests ys) (latests ys) (all_bars_are_fit ys)).0 z in accepted_lent ok fit (ran.ran z));
  }
