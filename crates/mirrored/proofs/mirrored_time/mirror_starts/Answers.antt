use mathlib.Core.Path.{◌≡◌, refl, sym, ap, ap₂, ◌∙◌}
use Prim.Native.Nat.{ℕ, ◌+◌}
use native.Mathlib.Omega.{arith}
use lib.IntN.{pos}
use lib.ListN.{length, get_or, take}
use lib.Seq.{get_or-take, length-take-le}
use mir.Syntax.{w32}
use Rattle.integers.specs.FilledLists.{filled}
use Rattle.integers.proofs.FilledLists.{filled_none, filled_store, filled_length}
use Rattle.integers.proofs.Ints.{back_of}
use Rattle.scheduling.specs.MirroredTime.{start_mirrored}
use Rattle.mirrored.proofs.MirroredLoops.{starts_filled}
use Rattle.mirrored.proofs.mirrored_time.mirror_starts.Invariants.{mirrored_at}
use borrow.Author.Rules.{rules}
use Rattle.mirrored.proofs.mirrored_time.mirror_starts.Goals as goal

pub loop-k-init : goal.loop-k-init
loop-k-init c = let a = c.args in (omega arith, refl, sym (filled_none (mirrored_at a.starts.now a.durations.now) a.out.now))

pub loop-k-preserved : goal.loop-k-preserved
loop-k-preserved c =
    let loop = c.loop-k in
    let k = loop.k in
    let x = get_or c.args.starts.now k (pos 0) in
    let d = c.args.durations.now in
    let stored = filled_store (mirrored_at c.args.starts.now d) c.args.out.now loop.out k _ loop.invariant.2
    (back_of w32 c.mirror_start.result c.mirror_start.type_inv ∙ c.mirror_start.ensures
    ∙ ap₂ start_mirrored (sym (get_or-take (length c.args.starts.now) d k 0 (omega arith))) (back_of w32 x (search rules))) in
    (omega arith, ap length stored ∙ filled_length (mirrored_at c.args.starts.now d) (k + 1) c.args.out.now, stored)

pub returns : goal.returns
returns c =
    let a = c.args in
    let p = c.requires in
    let l = c.loop-k in
    let e : l.k ≡ length a.starts.now = omega arith in
    l.invariant.2 ∙ ap (λ (j : ℕ). filled (mirrored_at a.starts.now a.durations.now) j a.out.now) e
    ∙ starts_filled (take (length a.starts.now) a.durations.now) a.starts.now a.out.now
    (sym (length-take-le (length a.starts.now) a.durations.now (omega (arith, p.few, p.long)))) p.places
