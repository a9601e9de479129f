-- The first '%' from a place of a text on.
use mathlib.Core.Path.{◌≡◌, sym}
use mathlib.Core.List.{List}
use Prim.Native.Nat.{ℕ, suc, ◌+◌, ◌≤◌, ◌<◌}
use native.Mathlib.Numerals.{add-one}
use lib.ListN.{length, get_or, drop, drop_of_length-le}
use lib.Seq.{drop-cons}
use borrow.Author.Tests.{eq-eqb, ne_eqb}
use Rattle.plan_cli.specs.Inputs.{first_mark}

module _ (bs : List ℕ) (i : ℕ) where
  pub mark_none : length bs ≤ i → first_mark (drop i bs) ≡ 0
  unfolding first_mark
  mark_none h = rw (drop_of_length-le bs h)

  pub mark_here : i < length bs → get_or bs i 0 ≡ 37 → first_mark (drop i bs) ≡ 0
  unfolding first_mark
  mark_here h d = rw (drop-cons bs i 0 h, eq-eqb (get_or bs i 0) 37 d, first_mark)

  pub mark_later : i < length bs → (get_or bs i 0 ≡ 37 → ⊥) → first_mark (drop i bs) ≡ first_mark (drop (i + 1) bs) + 1
  unfolding first_mark
  mark_later h d = rw (add-one i, drop-cons bs i 0 h, ne_eqb (get_or bs i 0) 37 d, first_mark) (sym (add-one (first_mark (drop (suc i) bs))))
