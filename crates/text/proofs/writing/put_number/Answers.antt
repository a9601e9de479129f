-- The magnitude has at most 10 digits, and a minus sign goes before that of a number below zero.
use mathlib.Core.Bool.{true, false}
use mathlib.Core.Path.{◌≡◌, sym, ap, ◌∙◌}
use Prim.Native.Nat.{◌≤◌}
use native.Mathlib.Omega.{arith}
use lib.IntN.{ℤ, pos, nat_abs}
use lib.ListN.{length, length-set}
use lib.Signed.{lt_z}
use Rattle.integers.proofs.Ints.{back}
use Rattle.text.specs.DecimalText.{natural}
use Rattle.text.proofs.Decimals.{natural_fits, decimal_natural, decimal_negative}
use Rattle.text.proofs.PutBytes.{puts_one, puts_append}
use Rattle.text.proofs.writing.put_number.Goals.{After-unsigned_abs-magnitude}
use Rattle.text.proofs.writing.put_number.Goals as goal

magnitude_is : (c : After-unsigned_abs-magnitude) → c.unsigned_abs-magnitude.result ≡ nat_abs c.args.x
magnitude_is c = c.unsigned_abs-magnitude.ensures.value ∙ ap nat_abs (back c.ranges.x)

few : (c : After-unsigned_abs-magnitude) → length (natural c.unsigned_abs-magnitude.result) ≤ 10
few c = natural_fits 9 c.unsigned_abs-magnitude.result (omega (arith, c.unsigned_abs-magnitude.ensures.bound))

pub put_digits-requires : goal.put_digits-requires
put_digits-requires c = simp length-set (omega (arith, few (goal.at.put_digits-requires c).After-unsigned_abs-magnitude))

pub returns-then-x-lt0 : goal.returns-then-x-lt0
returns-then-x-lt0 c =
    let s = (goal.at.returns-then-x-lt0 c).After-unsigned_abs-magnitude in
    let below : lt_z c.args.x (pos 0) ≡ true = ap (λ (z : ℤ). lt_z z (pos 0)) (sym (back c.ranges.x)) ∙ c.if-x-lt0.true in record {
      text = rw (decimal_negative c.args.x below, ← magnitude_is s) (puts_append (puts_one _ _ _) c.put_digits.ensures);
      within = omega (arith, c.put_digits.ensures.end, few s);
    }

pub put_digits-requires-2 : goal.put_digits-requires-2
put_digits-requires-2 c = omega (arith, few (goal.at.put_digits-requires-2 c).After-unsigned_abs-magnitude)

pub returns : goal.returns
returns c =
    let s = (goal.at.returns c).After-unsigned_abs-magnitude in
    let above : lt_z c.args.x (pos 0) ≡ false = ap (λ (z : ℤ). lt_z z (pos 0)) (sym (back c.ranges.x)) ∙ c.if-x-lt0.false in record {
      text = rw (decimal_natural c.args.x above, ← magnitude_is s) c.put_digits-2.ensures;
      within = omega (arith, c.put_digits-2.ensures.end, few s);
    }
