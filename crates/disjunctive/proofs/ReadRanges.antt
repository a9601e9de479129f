-- What a core says of starts that were read off lent ranges is said of the ranges.
use mathlib.Core.Bool.{Bool}
use mathlib.Core.List.{List, []}
use mathlib.Core.Path.{◌≡◌}
use Prim.Native.Nat.{◌<◌}
use lib.IntN.{ℤ}
use lib.ListN.{length}
use Rattle.integers.specs.Limits.{TASKS}
use Rattle.ranges.specs.declared.range.Range.{Range}
use Rattle.ranges.specs.declared.starts.StartsWithBars.{StartsWithBars}
use Rattle.ranges.specs.Bars.{all_bars_are_fit}
use Rattle.ranges.specs.Ranges.{earliests, latests}
use Rattle.ranges.specs.TakenApart.{starts_and_bars, first_earliest, first_latest}
use Rattle.ranges.proofs.TakenApart.{bars_of, apart, starts_of_are}

-- where the bars' answer was read too
pub said_with_bars : (Said : List ℤ → List ℤ → Bool → Type 0) (ys : List Range) (s : StartsWithBars) → s ≡ starts_and_bars ys
    → (TASKS < length (earliests ys) → Said [] [] (all_bars_are_fit ys) → Said (earliests ys) (latests ys) (all_bars_are_fit ys))
    → Said (first_earliest s.starts) (first_latest s.starts) s.bars_fit → Said (earliests ys) (latests ys) (all_bars_are_fit ys)
said_with_bars Said ys s e as_none c = apart (λ es ls. Said es ls (all_bars_are_fit ys)) ys s.starts (starts_of_are ys s e) as_none
    (bars_of ys s e (λ bars. Said (first_earliest s.starts) (first_latest s.starts) bars) c)
