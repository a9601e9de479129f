-- The arrays are filled with the moments of the ranges.
use borrow.Author.Rules.{rules}
use Rattle.precedences.proofs.AcceptedArrays.{holds_ranges}
use Rattle.precedences.proofs.range_moments.range_moments.Goals as goal

pub returns : goal.returns
returns c = search (holds_ranges, rules)
