-- The first bytes of a buffer that was written from its front on.
use mathlib.Core.Path.{◌≡◌, ◌∙◌}
use mathlib.Core.List.{List}
use Prim.Native.Nat.{ℕ, ◌≤◌}
use native.Mathlib.Omega.{arith}
use lib.ListN.{length, take}
use lib.Seq.{take-append_seam}
use Rattle.integers.proofs.Words.{overwrites}
use Rattle.text.specs.DecimalText.{Puts}
use Rattle.text.proofs.PutBytes.{puts_length}
use Rattle.plan_cli.specs.Printed.{TextWritten}

-- what was put from the front of a buffer on, and ends inside it, is what its first bytes are
pub written : {before after text : List ℕ} {next : ℕ} → Puts before after 0 text next → next ≤ length before → TextWritten after next text
written {before} {after} {text} {next} p h =
    let e : next ≡ length text = omega (arith, p.end) in
    let w = p.text ∙ overwrites before text (omega arith) in
    record { count = e; bytes = (λ i. take (e i) (w i)) ∙ take-append_seam text _; inside = omega (arith, puts_length p) }
