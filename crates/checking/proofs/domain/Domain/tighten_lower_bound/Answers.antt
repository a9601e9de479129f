-- Where the bound rises, the holes from its place on are those that are kept.
use Rattle.std.proofs.Common.{◌≡◌, ◌∙◌, ap, true, false, List, ℤ, ◌-◌, length, take, drop, to_z, of_z, w32, rules}
use Rattle.std.proofs.Math.Seq.{take-length}
use Rattle.std.proofs.lemmas.List.{length-drop}
use Rattle.integers.specs.WholeNumbers.{has}
use Rattle.integers.proofs.Ints.{back_of}
use Rattle.holes.specs.Holes.{above, rank, first_at_or_after}
use Rattle.holes.proofs.Ascending.{first_is}
use Rattle.checking.specs.declared.domain.Domain.{Domain}
use Rattle.checking.specs.declared.int_ext.IntExt.TheVariants.{Int}
use Rattle.checking.specs.Domains.{le_ext, holes_of, tightened_lower}
use Rattle.checking.proofs.Domains.{cut_above}
use Rattle.checking.proofs.ReadWords.{as_read}
use Rattle.checking.proofs.domain.Domain.tighten_lower_bound.Goals as goal

pub returns : goal.returns
unfolding tightened_lower
returns c =
    let d : Domain = c.args.self in
    let v : ℤ = to_z w32 (of_z w32 c.args.bound) in
    let hs : List ℤ = c.holes-holes.result.now in
    let f = c.first_from-raised in
    let e : f.result ≡ first_at_or_after v (holes_of d) = f.ensures ∙ ap (first_at_or_after v) c.holes-holes.ensures in
    let read = back_of w32 f.result f.type_inv in
    let place : c.place-from.result ≡ rank f.result (holes_of d) = c.place-from.ensures.value ∙ (λ i. rank (read i) (c.holes-holes.ensures i)) in
    let free : has (holes_of d) f.result ≡ true → ⊥ = rw e (first_is v (holes_of d) c.requires.0.order).free in
    let (cut, count) = cut_above d c.requires.0 f.result place free in
    let all : take (length hs - c.place-from.result) (drop c.place-from.result hs) ≡ drop c.place-from.result hs = rw (← length-drop c.place-from.result hs) (take-length _) in
    let kept : drop c.place-from.result hs ≡ above f.result (holes_of d) = rw c.holes-holes.ensures cut in
    let moves : le_ext (Int v) d.lower_bound ≡ false = search rules in
    as_read (tightened_lower d) c.ranges.bound (rw (moves, c.padded.ensures, all, kept, count, read, ← e))
