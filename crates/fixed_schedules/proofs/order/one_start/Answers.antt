-- Two lists are equal exactly where each place has two equal numbers.
use Rattle.std.proofs.Common.{ap, get_or, length, ℤ, pos, List}
use Rattle.std.proofs.lemmas.List.{ext_get_or}
use Rattle.std.proofs.lemmas.Slice.Eq.{slice_eq-Decides}
use Rattle.std.proofs.lemmas.Bool.Decides.{Decides-int_eq}
use Rattle.integers.proofs.Bools.{same_tests}
use Rattle.integers.proofs.Tests.{all_at, all_show}
use Rattle.integers.proofs.WholeNumbers.{eq_z_same, same_eq_z}
use Rattle.fixed_schedules.specs.FixedSchedules.{one_start_at}
use Rattle.fixed_schedules.proofs.order.one_start.Goals as goal

pub returns : goal.returns
returns c =
    let es = c.args.earliest.now in
    let ls = c.args.latest.now in
    let same = slice_eq-Decides Decides-int_eq es ls _ c.eq.ensures in
    same_tests _ _
    (λ h. all_show (one_start_at es ls) (length es) (λ k q. same_eq_z (ap (λ (l : List ℤ). get_or l k (pos 0)) (same.0 h))))
    (λ h. same.1 (ext_get_or (pos 0) es ls c.requires (λ k q. eq_z_same _ _ (all_at (one_start_at es ls) (length es) h k q))))
