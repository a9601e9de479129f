-- Numbers within the limits have at most ten bytes.
use mathlib.Core.Path.{◌≡◌}
use Prim.Native.Nat.{ℕ, ◌-◌, ◌≤◌}
use lib.IntN.{ℤ, pos, ◌-ℤ◌}
use lib.ListN.{length}
use Rattle.integers.specs.Limits.{START, DURATIONS}
use Rattle.integers.proofs.Ints.{ints, up, dn, sumℤ, subℤ, up_neg, dn_neg}
use Rattle.text.specs.DecimalText.{decimal}
use Rattle.pages.proofs.RightAligned.{decimal_fits}
use Rattle.conflict_pages.specs.Sayable.{OverloadSayable}

pub count_fits : (d : ℕ) → d ≤ DURATIONS → length (decimal (pos d)) ≤ 10
unfolding up dn
count_fits d h = decimal_fits (pos d) (omega ints) (omega ints)

-- ---- a span that is exceeded
module _ (est : ℤ) (p : ℕ) (lct : ℤ) (excess : ℕ) (x : OverloadSayable est p lct excess) where
  -- it is as long as the work less the excess
  pub span_is : pos (p - excess) ≡ lct -ℤ est
  unfolding up dn
  span_is = omega (ints, x.sum, x.less, sumℤ est (pos p), sumℤ lct (pos excess), subℤ lct est)

  pub lct_fits : length (decimal lct) ≤ 10
  unfolding up dn
  lct_fits = decimal_fits lct
      (omega (ints, x.sum, x.less, x.short, x.start.low, x.start.high, sumℤ est (pos p), sumℤ lct (pos excess), up_neg (pos START), dn_neg (pos START)))
      (omega (ints, x.sum, x.less, x.short, x.start.low, x.start.high, sumℤ est (pos p), sumℤ lct (pos excess), up_neg (pos START), dn_neg (pos START)))
