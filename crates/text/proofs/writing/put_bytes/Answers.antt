use mathlib.Core.Path.{◌≡◌, refl, ap, ◌∙◌}
use Prim.Native.Nat.{ℕ, ◌+◌}
use native.Mathlib.Omega.{arith}
use lib.ListN.{length, take, set, get_or, length-set}
use lib.Seq.{sets, take-length}
use Rattle.text.proofs.PutBytes.{puts_more}
use Rattle.text.proofs.writing.put_bytes.Goals as goal

pub loop-i-init : goal.loop-i-init
loop-i-init c = (refl, refl)

pub loop-i-preserved : goal.loop-i-preserved
loop-i-preserved c =
    let l = c.loop-i in (
      length-set l.out (c.args.at + l.i) _ ∙ l.invariant.0,
      ap (λ o. set o (c.args.at + l.i) (get_or c.args.bytes.now l.i 0)) l.invariant.1 ∙ puts_more c.args.out.now c.args.bytes.now c.args.at l.i c.loop-i-test.true,
    )

pub returns : goal.returns
returns c =
    let l = c.loop-i in
    let e : l.i ≡ length c.args.bytes.now = omega arith in
    record {
      text = l.invariant.1 ∙ ap (sets c.args.out.now c.args.at) (ap (λ (k : ℕ). take k c.args.bytes.now) e ∙ take-length c.args.bytes.now);
      end = refl;
    }
