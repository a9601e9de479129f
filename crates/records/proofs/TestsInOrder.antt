-- Tests tried in their order by code that returns at the first broken one. `search` reads the number off the branches by these rules, and a test as a fact.
use mathlib.Core.Path.{◌≡◌, sym, ap, ◌∙◌}
use mathlib.Core.Bool.{Bool, true, false, not, ◌&&◌}
use mathlib.Core.List.{List, [], ◌∷◌}
use Prim.Native.Nat.{ℕ}
use lib.IntN.{ℤ}
use lib.Signed.{le_z}
use mir.Syntax.{w32}
use mir.Val.{SFits, to_z, of_z}
use borrow.Author.Tests.{not-true, not-false, eqb-true, eq-eqb, ne_eqb, leb-true, le-leb, lt-leb, ltb-true, lt-ltb, le-ltb}
use Rattle.integers.specs.Tests.{Test, test, refusal}
use Rattle.integers.proofs.Bools.{and_true, and_left, and_right, and_yes, and_is}
use Rattle.integers.proofs.Ints.{le_z_true, le_le_z, back}
use Rattle.integers.proofs.Tests.{refusal_here, refusal_next, refusal_none}

-- what a call answers of a test that it was asked
pub said_no : {p r : Bool} → r ≡ p → not r ≡ true → p ≡ false
said_no {p} {r} e h = sym e ∙ not-true r h

pub said_yes : {p r : Bool} → r ≡ p → not r ≡ false → p ≡ true
said_yes {p} {r} e h = sym e ∙ not-false r h

-- a call reads its number from bits, which are those of the number given
pub at_most_word : (a z : ℤ) {r : Bool} → SFits w32 z → r ≡ le_z a (to_z w32 (of_z w32 z)) → r ≡ le_z a z
at_most_word a z f e = e ∙ ap (le_z a) (back f)

-- a list of tests: its first is broken, or passed, or there is none
pub stops : (n : ℕ) (p : Bool) (ts : List Test) → p ≡ false → n ≡ refusal (test n p ∷ ts)
stops n p ts h = sym (refusal_here (test n p) ts h)

pub goes_on : (m n : ℕ) (p : Bool) (ts : List Test) → p ≡ true → m ≡ refusal ts → m ≡ refusal (test n p ∷ ts)
goes_on m n p ts h e = e ∙ sym (refusal_next (test n p) ts h)

pub ends : 0 ≡ refusal []
ends = sym refusal_none

-- tests of which all are to pass: one that does not, one that does before others
pub one_fails : (p : Bool) → p ≡ false → false ≡ p
one_fails p h = sym h

-- both hold: each does
pub both_first : (a b : Bool) → a && b ≡ true → a ≡ true
both_first a b h = (and_true a b h).0

pub both_second : (a b : Bool) → a && b ≡ true → b ≡ true
both_second a b h = (and_true a b h).1

pub ruleset in_order = (stops, goes_on, ends, said_no, said_yes, and_left, and_right, and_yes, eq-eqb, ne_eqb, le-leb, lt-leb, lt-ltb, le-ltb, at_most_word)

pub ruleset as_facts = (both_first, both_second, eqb-true, leb-true, ltb-true, le_z_true)

pub ruleset as_tests = (and_yes, eq-eqb, le-leb, le_le_z)
