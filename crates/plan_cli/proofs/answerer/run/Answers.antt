-- The text that was read is the one whose answer is written.
use mathlib.Core.Path.{subst}
use mathlib.Core.List.{List}
use Prim.Native.Nat.{ℕ}
use Rattle.std.specs.Io.KnownBytes.{Appends}
use Rattle.std.proofs.lemmas.Result.{on_ok_weaker}
use Rattle.text.specs.Numbers.{numbers_in}
use Rattle.plan_cli.proofs.FirstBytes as first_bytes
use Rattle.plan_cli.proofs.answerer.run.Goals as goal

pub returns : goal.returns
returns g c =
    let t = c.read_numbers.ensures in
    let e = c.put-n.ensures in
    let front = first_bytes.written (e.text (numbers_in t.0) t.1) e.within in
    on_ok_weaker c.write_all.result
    (λ w. record { text = t.0; read = t.2; written = subst (λ (bytes : List ℕ). Appends (g.W.Write.contents c.args.output.now) (g.W.Write.contents c.write_all.new.self) bytes) front.bytes w })
    c.write_all.ensures.bytes
