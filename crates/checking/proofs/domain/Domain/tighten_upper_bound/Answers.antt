-- Where the bound falls, the holes before its place are those that are kept.
use Rattle.std.proofs.Common.{◌≡◌, ◌∙◌, ap, false, List, ℤ, take, to_z, of_z, w32, rules}
use Rattle.integers.proofs.Ints.{back_of}
use Rattle.holes.specs.Holes.{below, rank, last_at_or_before}
use Rattle.checking.specs.declared.domain.Domain.{Domain}
use Rattle.checking.specs.declared.int_ext.IntExt.TheVariants.{Int}
use Rattle.checking.specs.Domains.{le_ext, holes_of, tightened_upper}
use Rattle.checking.proofs.Domains.{cut_below}
use Rattle.checking.proofs.ReadWords.{as_read}
use Rattle.checking.proofs.domain.Domain.tighten_upper_bound.Goals as goal

pub returns : goal.returns
unfolding tightened_upper
returns c =
    let d : Domain = c.args.self in
    let v : ℤ = to_z w32 (of_z w32 c.args.bound) in
    let hs : List ℤ = c.holes-holes.result.now in
    let f = c.last_up_to-lowered in
    let e : f.result ≡ last_at_or_before v (holes_of d) = f.ensures ∙ ap (last_at_or_before v) c.holes-holes.ensures in
    let read = back_of w32 f.result f.type_inv in
    let place : c.place-to.result ≡ rank f.result (holes_of d) = c.place-to.ensures.value ∙ (λ i. rank (read i) (c.holes-holes.ensures i)) in
    let (cut, count) = cut_below d c.requires.0 f.result place in
    let kept : take c.place-to.result hs ≡ below f.result (holes_of d) = rw c.holes-holes.ensures cut in
    let moves : le_ext d.upper_bound (Int v) ≡ false = search rules in
    as_read (tightened_upper d) c.ranges.bound (rw (moves, c.padded.ensures, kept, count, read, ← e))
