-- Domains: the values that a variable may take, and what an atom makes of them. The definitions follow the source.
use Rattle.std.specs.Prelude.{◌≡◌, Bool, true, false, cond, not, ◌&&◌, ◌||◌, List, [], ◌∷◌, ℕ, zero, suc, ◌≤◌, leb, ℤ, pos, negsuc, ◌+ℤ◌, length, take, drop}
use Rattle.std.specs.Int.Signed.{le_z}
use Rattle.integers.specs.Limits.{HOLES}
use Rattle.holes.specs.Holes.{Ascending, zeros, below, above, inserted, padded, first_at_or_after, last_at_or_before}
use Rattle.integers.specs.WholeNumbers.{has}
use Rattle.checking.specs.declared.int_ext.IntExt.{IntExt}
use Rattle.checking.specs.declared.int_ext.IntExt.TheVariants.{Int, NegativeInf, PositiveInf}
use Rattle.checking.specs.declared.domain.Domain.{Domain}
use Rattle.checking.specs.declared.domain.Effect.TheVariants.{Narrowed, Emptied, Full}
use Rattle.checking.specs.declared.domain.Reduced.{Reduced}

-- Whole numbers and infinities -------------------------------------------------------------------------------------------------

-- a ≤ b
abbrev pub le_ext : IntExt → IntExt → Bool
le_ext (Int x) (Int y) = le_z x y
le_ext (Int x) NegativeInf = false
le_ext (Int x) PositiveInf = true
le_ext NegativeInf b = true
le_ext PositiveInf (Int y) = false
le_ext PositiveInf NegativeInf = false
le_ext PositiveInf PositiveInf = true

-- a < b
abbrev pub lt_ext : IntExt → IntExt → Bool
lt_ext a b = not (le_ext b a)

-- a = b
abbrev pub eq_ext : IntExt → IntExt → Bool
eq_ext a b = le_ext a b && le_ext b a

-- Domains ----------------------------------------------------------------------------------------------------------------------

-- the holes in use
abbrev pub holes_of : Domain → List ℤ
holes_of d = take d.count d.holes

-- the domain with these bounds and holes
abbrev pub domain_of : IntExt → IntExt → List ℤ → Domain
domain_of lower upper holes = record { lower_bound = lower; upper_bound = upper; holes = padded holes; count = length holes }

-- all integers
abbrev pub every_integer : Domain
every_integer = domain_of NegativeInf PositiveInf []

-- The domain admits z: lower ≤ z ≤ upper, and z is no hole.
pub record Admitted (d : Domain) (z : ℤ) : Type 0 where
  pub from : le_ext d.lower_bound (Int z) ≡ true
  pub to : le_ext (Int z) d.upper_bound ≡ true
  pub no_hole : has (holes_of d) z ≡ false

-- is_consistent
abbrev pub consistent : Domain → Bool
consistent d = le_ext d.lower_bound d.upper_bound

-- Which domains are accepted ---------------------------------------------------------------------------------------------------

-- the holes ascend strictly, and lie strictly between the bounds
unfoldable pub ascend : IntExt → List ℤ → IntExt → Bool
ascend lower [] upper = true
ascend lower (h ∷ hs) upper = lt_ext lower (Int h) && (lt_ext (Int h) upper && ascend (Int h) hs upper)

-- The bounds are not crossed, the lower one is not plus infinity and the upper one not minus infinity; there are at most HOLES holes,
-- in their order and between the bounds; and unused places are 0.
unfoldable pub accepted_domain : Domain → Bool
accepted_domain d =
    le_ext d.lower_bound d.upper_bound
    && (lt_ext d.lower_bound PositiveInf
    && (lt_ext NegativeInf d.upper_bound
    && (leb d.count HOLES && (ascend d.lower_bound (holes_of d) d.upper_bound && zeros (drop d.count d.holes)))))

-- What holds of an accepted domain but that its bounds may have crossed: so it is while an atom is applied.
pub record Tight (d : Domain) : Type 0 where
  pub lower_finite : lt_ext d.lower_bound PositiveInf ≡ true
  pub upper_finite : lt_ext NegativeInf d.upper_bound ≡ true
  pub few : d.count ≤ HOLES
  pub unused : d.holes ≡ padded (holes_of d)
  pub order : Ascending (holes_of d)
  pub inside : (h : ℤ) → has (holes_of d) h ≡ true → (lt_ext d.lower_bound (Int h) ≡ true) × (lt_ext (Int h) d.upper_bound ≡ true)

-- What an accepted domain is: in form, and its bounds not crossed.
pub record Proper (d : Domain) : Type 0 where
  pub tight : Tight d
  pub ordered : consistent d ≡ true

-- What an atom makes of a domain -----------------------------------------------------------------------------------------------

-- tighten_lower_bound: the bound goes up past holes, and the holes that it passes are dropped
unfoldable pub tightened_lower : Domain → ℤ → Domain
tightened_lower d v =
    cond (le_ext (Int v) d.lower_bound) d
    (let b : ℤ = first_at_or_after v (holes_of d) in domain_of (Int b) d.upper_bound (above b (holes_of d)))

-- tighten_upper_bound: the bound goes down past holes, and the holes that it passes are dropped
unfoldable pub tightened_upper : Domain → ℤ → Domain
tightened_upper d v =
    cond (le_ext d.upper_bound (Int v)) d
    (let b : ℤ = last_at_or_before v (holes_of d) in domain_of d.lower_bound (Int b) (below b (holes_of d)))

-- ≠ v: a bound that is v moves on, and a v strictly between the bounds becomes a hole
unfoldable pub less_lower : Domain → ℤ → Domain
less_lower d v = cond (eq_ext d.lower_bound (Int v)) (tightened_lower d (v +ℤ pos 1)) d

unfoldable pub less_upper : Domain → ℤ → Domain
less_upper d v = cond (eq_ext d.upper_bound (Int v)) (tightened_upper d (v +ℤ negsuc 0)) d

-- v lies strictly between the bounds
abbrev pub between : Domain → ℤ → Bool
between d v = lt_ext d.lower_bound (Int v) && lt_ext (Int v) d.upper_bound

unfoldable pub hole_added : Domain → ℤ → Domain
hole_added d v = cond (between d v) (domain_of d.lower_bound d.upper_bound (inserted v (holes_of d))) d

unfoldable pub without : Domain → ℤ → Domain
without d v = hole_added (less_upper (less_lower d v) v) v

-- the domain with an atom applied, by its kind: 0 is ≥, 1 is ≤, 2 is =, 3 is ≠
abbrev pub applied : Domain → ℕ → ℤ → Domain
applied d zero v = tightened_lower d v
applied d (suc zero) v = tightened_upper d v
applied d (suc (suc zero)) v = tightened_upper (tightened_lower d v) v
applied d (suc (suc (suc k))) v = without d v

-- a ≠ atom needs a hole too many
unfoldable pub crowded : Domain → ℤ → Bool
crowded d v = between d v && (not (has (holes_of d) v) && leb HOLES d.count)

abbrev pub needs_room : Domain → ℕ → ℤ → Bool
needs_room d zero v = false
needs_room d (suc zero) v = false
needs_room d (suc (suc zero)) v = false
needs_room d (suc (suc (suc k))) v = crowded d v

-- the domain after an atom, and whether a value is left in it
unfoldable pub settled : Domain → Reduced
settled d = cond (consistent d) (record { effect = Narrowed; domain = d }) (record { effect = Emptied; domain = d })

-- what applying an atom does to a domain
unfoldable pub reduced : Domain → ℕ → ℤ → Reduced
reduced d kind v = cond (needs_room d kind v) (record { effect = Full; domain = d }) (settled (applied d kind v))

-- is_true: every admitted value meets the atom
abbrev pub true_of : Domain → ℕ → ℤ → Bool
true_of d zero v = le_ext (Int v) d.lower_bound
true_of d (suc zero) v = le_ext d.upper_bound (Int v)
true_of d (suc (suc zero)) v = le_ext (Int v) d.lower_bound && le_ext d.upper_bound (Int v)
true_of d (suc (suc (suc k))) v = lt_ext (Int v) d.lower_bound || (lt_ext d.upper_bound (Int v) || has (holes_of d) v)
