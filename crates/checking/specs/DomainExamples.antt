-- The definitions at small domains.
use Rattle.std.specs.Prelude.{◌≡◌, refl, [], pos}
use Rattle.holes.specs.Holes.{kept, inserted, first_at_or_after}
use Rattle.checking.specs.declared.int_ext.IntExt.TheVariants.{Int, PositiveInf}
use Rattle.checking.specs.Domains.{every_integer, domain_of, tightened_lower, less_lower, less_upper, hole_added, without}

-- x ≠ 5, then x ≥ 5: the bound passes the hole, which is dropped
past_the_hole : tightened_lower (without every_integer (pos 5)) (pos 5) ≡ domain_of (Int (pos 6)) PositiveInf []
unfolding tightened_lower less_lower less_upper hole_added without kept inserted first_at_or_after
past_the_hole = refl
