-- The two sides of a domain: what is argued of its lower bound, counting up, is argued of its upper bound, counting down.
use mathlib.Core.Path.{◌≡◌, refl}
use mathlib.Core.Logic.{⊎_elim}
use mathlib.Core.Bool.{Bool, true, false, not}
use mathlib.Core.List.{List}
use lib.IntN.{ℤ, pos, negsuc, ◌+ℤ◌}
use lib.Signed.{le_z, ◌≤ℤ◌}
use Rattle.integers.specs.WholeNumbers.{has}
use Rattle.integers.proofs.Bools.{bool, and_left, and_right}
use Rattle.integers.proofs.Ints.{ints, up, dn, sumℤ, le_le_z}
use Rattle.integers.proofs.WholeNumbers.{lt_le_z}
use Rattle.holes.specs.Holes.{Ascending, first_at_or_after, last_at_or_before}
use Rattle.holes.proofs.Ascending.{first_is, last_is}
use Rattle.checking.specs.declared.int_ext.IntExt.{IntExt}
use Rattle.checking.specs.declared.int_ext.IntExt.TheVariants.{Int, NegativeInf, PositiveInf}
use Rattle.checking.specs.declared.domain.Domain.{Domain}
use Rattle.checking.specs.declared.variable_state.Side.{Side}
use Rattle.checking.specs.declared.variable_state.Side.TheVariants.{Lower, Upper}
use Rattle.checking.specs.Domains.{le_ext, eq_ext, holes_of, Admitted}
use Rattle.checking.specs.States.{side_of}
use Rattle.checking.proofs.DomainBounds.{le_trans, le_total, read_le, show_le}

abbrev pub other : Side → Side
other Lower = Upper
other Upper = Lower

-- The order -----------------------------------------------------------------------------------------------------------------------

-- counted from a side, a does not come after b
abbrev pub le_on : Side → IntExt → IntExt → Bool
le_on Lower a b = le_ext a b
le_on Upper a b = le_ext b a

abbrev pub Past : Side → ℤ → ℤ → Type 0
Past Lower a b = a ≤ℤ b
Past Upper a b = b ≤ℤ a

-- no bound
abbrev pub open_on : Side → IntExt
open_on Lower = NegativeInf
open_on Upper = PositiveInf

pub open_first : (s : Side) (z : ℤ) → le_on s (open_on s) (Int z) ≡ true
open_first Lower z = refl
open_first Upper z = refl

pub open_last : (s : Side) (z : ℤ) → le_on s (Int z) (open_on (other s)) ≡ true
open_last Lower z = refl
open_last Upper z = refl

pub open_not : (s : Side) (z : ℤ) → le_on s (open_on (other s)) (Int z) ≡ false
open_not Lower z = refl
open_not Upper z = refl

pub on_trans : (s : Side) (a b c : IntExt) → le_on s a b ≡ true → le_on s b c ≡ true → le_on s a c ≡ true
on_trans Lower a b c p q = le_trans a b c p q
on_trans Upper a b c p q = le_trans c b a q p

pub on_total : (s : Side) (a b : IntExt) → le_on s a b ≡ false → le_on s b a ≡ true
on_total Lower a b n = le_total a b n
on_total Upper a b n = le_total b a n

pub on_read : (s : Side) (a b : ℤ) → le_on s (Int a) (Int b) ≡ true → Past s a b
on_read Lower a b p = read_le a b p
on_read Upper a b p = read_le b a p

pub on_show : (s : Side) (a b : ℤ) → Past s a b → le_on s (Int a) (Int b) ≡ true
on_show Lower a b p = show_le a b p
on_show Upper a b p = show_le b a p

pub on_same : (s : Side) (a b : ℤ) → le_on s (Int a) (Int b) ≡ true → le_on s (Int b) (Int a) ≡ true → a ≡ b
on_same Lower a b p q = omega ints
on_same Upper a b p q = omega ints

pub on_refl : (s : Side) (a : ℤ) → le_on s (Int a) (Int a) ≡ true
on_refl Lower a = show_le a a (omega ints)
on_refl Upper a = show_le a a (omega ints)

-- a bound that is not reached is not met
pub off_on : (s : Side) (a b : IntExt) → le_on s a b ≡ false → eq_ext a b ≡ false
off_on Lower a b n = and_left (le_ext a b) (le_ext b a) n
off_on Upper a b n = and_right (le_ext a b) (le_ext b a) n

-- the value after v
abbrev pub after_on : Side → ℤ → ℤ
after_on Lower v = v +ℤ pos 1
after_on Upper v = v +ℤ negsuc 0

pub after_is : (s : Side) (v z : ℤ) → le_on s (Int (after_on s v)) (Int z) ≡ not (le_on s (Int z) (Int v))
unfolding up dn
after_is Lower v z = ⊎_elim (λ y. rw y (lt_le_z (v +ℤ pos 1) z (omega (ints, sumℤ v (pos 1))))) (λ n. rw n (le_le_z (v +ℤ pos 1) z (omega (ints, sumℤ v (pos 1))))) (bool (le_z z v))
after_is Upper v z = ⊎_elim (λ y. rw y (lt_le_z z (v +ℤ negsuc 0) (omega (ints, sumℤ v (negsuc 0))))) (λ n. rw n (le_le_z z (v +ℤ negsuc 0) (omega (ints, sumℤ v (negsuc 0))))) (bool (le_z v z))

-- Admitted values -----------------------------------------------------------------------------------------------------------------

pub near_side : (s : Side) {d : Domain} {z : ℤ} → Admitted d z → le_on s (side_of s d) (Int z) ≡ true
near_side Lower a = a.from
near_side Upper a = a.to

pub far_side : (s : Side) {d : Domain} {z : ℤ} → Admitted d z → le_on s (Int z) (side_of (other s) d) ≡ true
far_side Lower a = a.to
far_side Upper a = a.from

pub admitted : (s : Side) (d : Domain) (z : ℤ) → le_on s (side_of s d) (Int z) ≡ true → le_on s (Int z) (side_of (other s) d) ≡ true → has (holes_of d) z ≡ false → Admitted d z
admitted Lower d z p q n = record { from = p; to = q; no_hole = n }
admitted Upper d z p q n = record { from = q; to = p; no_hole = n }

-- Bounds that move past holes -----------------------------------------------------------------------------------------------------

abbrev pub moved_onward : Side → ℤ → List ℤ → ℤ
moved_onward Lower v hs = first_at_or_after v hs
moved_onward Upper v hs = last_at_or_before v hs

-- b is the first value from v on that is no hole
pub record Moved (s : Side) (v : ℤ) (hs : List ℤ) (b : ℤ) : Type 0 where
  pub from : le_on s (Int v) (Int b) ≡ true
  pub free : has hs b ≡ true → ⊥
  pub passed : (z : ℤ) → le_on s (Int v) (Int z) ≡ true → le_on s (Int b) (Int z) ≡ false → has hs z ≡ true

pub moved_is : (s : Side) (v : ℤ) (hs : List ℤ) → Ascending hs → Moved s v hs (moved_onward s v hs)
moved_is Lower v hs a = let f = first_is v hs a in record { from = show_le v _ f.from; free = f.free; passed = λ z p n. f.passed z (omega ints) (omega ints) }
moved_is Upper v hs a = let f = last_is v hs a in record { from = show_le _ v f.to; free = f.free; passed = λ z p n. f.passed z (omega ints) (omega ints) }
