-- Not crowded, strictly between the bounds and no hole yet: there is room for one more.
use Rattle.std.proofs.Common.{◌≡◌, ◌∙◌, sym, ap, true, false, List, ℤ, ◌<◌, to_z, of_z, w32, arith}
use borrow.Author.Tests.{leb-false}
use Rattle.integers.specs.Limits.{HOLES}
use Rattle.integers.proofs.Bools.{clash}
use Rattle.integers.proofs.Ints.{back}
use Rattle.integers.specs.WholeNumbers.{has}
use Rattle.checking.specs.declared.domain.Domain.{Domain}
use Rattle.checking.specs.Domains.{holes_of, between, crowded, hole_added}
use Rattle.checking.proofs.Domains.{put_in, put_again, used}
use Rattle.checking.proofs.ReadWords.{as_read}
use Rattle.checking.proofs.domain.Domain.with_hole.Goals.{Else-contains, then-not-is_between-via-then-not-is_between, then-not-is_between-via-else-not-is_between+then-contains}
use Rattle.checking.proofs.domain.Domain.with_hole.Goals as goal

pub returns-then-not-is_between : goal.returns-then-not-is_between
unfolding hole_added
returns-then-not-is_between c =
    let d : Domain = c.args.self in
    let v : ℤ = to_z w32 (of_z w32 c.args.value) in
    as_read (hole_added d) c.ranges.value (elim c.then-not-is_between.branch [
      | then-not-is_between-via-then-not-is_between w ↦ rw (sym c.is_between.ensures ∙ w.if-not-is_between.true)
      | then-not-is_between-via-else-not-is_between+then-contains w ↦ rw (sym c.is_between.ensures ∙ w.if-not-is_between.false)
          (sym (put_again d c.requires.0 v (sym (w.contains.ensures ∙ ap (λ (hs : List ℤ). has hs v) c.holes-holes.ensures) ∙ w.if-contains.true)))
    ])

-- no hole yet, and room for one more
module _ (c : Else-contains) where
  inside : between c.args.self (to_z w32 (of_z w32 c.args.value)) ≡ true
  inside = sym c.is_between.ensures ∙ c.if-not-is_between.false

  new : has (holes_of c.args.self) (to_z w32 (of_z w32 c.args.value)) ≡ false
  new = sym (c.contains.ensures ∙ ap (λ (hs : List ℤ). has hs (to_z w32 (of_z w32 c.args.value))) c.holes-holes.ensures) ∙ c.if-contains.false

  room : c.args.self.count < HOLES
  unfolding crowded
  room = leb-false HOLES c.args.self.count (rw (inside, new) at (ap (crowded c.args.self) (back c.ranges.value) ∙ c.requires.1))

pub insert-requires : goal.insert-requires
insert-requires c = rw c.holes-holes.ensures (rw (used c.args.self c.requires.0) (room c), c.requires.0.order, new c)

pub overflow_add-result : goal.overflow_add-result
overflow_add-result c = omega (arith, room (goal.at.overflow_add-result c).Else-contains)

pub returns : goal.returns
unfolding hole_added
returns c =
    let d : Domain = c.args.self in
    let o = (goal.at.returns c).Else-contains in
    as_read (hole_added d) c.ranges.value
    (rw (inside o, c.insert.ensures, c.holes-holes.ensures) (put_in d c.requires.0 d.lower_bound d.upper_bound _ (λ y. clash y (new o))))
