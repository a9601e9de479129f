-- The mirrored pass at two tasks, by computing. The second must end before the first begins: around zero, at the late end of the limits, and at the early end.
use Rattle.std.specs.Prelude.{◌≡◌, refl, List, [], ◌∷◌, map, ◌-◌, ℤ, pos, negsuc, neg_ℤ, ◌+ℤ◌}
use Rattle.integers.specs.Limits.{START}
use Rattle.integers.specs.Orders.{sort, insert, index, numbers}
use Rattle.trees.specs.Ects.{decoded}
use Rattle.trees.specs.Leaves.{root, responsible, theta}
use Rattle.trees.specs.Nodes.{join_of, is_empty}
use Rattle.trees.specs.Descents.{gray, tested, descent_by_p, descent_by_ect}
use Rattle.trees.specs.Searches.{step_p, step_ect, search_p, search_ect, theta_of}
use Rattle.trees.specs.Shapes.{width, height_from, node_over}
use Rattle.runs.specs.Traces.{Trace}
use Rattle.runs.specs.Runs.{propagate, run, outer, inner, conflict, propagation, bounds, within, tabulate}
use Rattle.runs.specs.Mirrored.{mirrored_pass}

-- the first starts at 0 or 1 from z and lasts 4, the second starts from −10 to 2 from z and lasts 2
abbrev pass : ℤ → Trace
pass z = mirrored_pass (4 ∷ 2 ∷ []) (z ∷ (z +ℤ negsuc 9) ∷ []) ((z +ℤ pos 1) ∷ (z +ℤ pos 2) ∷ [])

-- the starts that it leaves
abbrev left : ℤ → List ℤ
left z = (pass z).starts

pub falls : map left (pos 0 ∷ pos (START - 2) ∷ neg_ℤ (pos (START - 10)) ∷ [])
    ≡ (pos 1 ∷ negsuc 0 ∷ []) ∷ (pos (START - 1) ∷ pos (START - 3) ∷ []) ∷ (neg_ℤ (pos (START - 11)) ∷ neg_ℤ (pos (START - 9)) ∷ []) ∷ []
unfolding propagate run outer inner decoded conflict propagation bounds within tabulate height_from sort insert index
    numbers width root responsible theta join_of
    is_empty gray tested descent_by_p descent_by_ect step_p step_ect search_p search_ect theta_of node_over
falls = refl

-- Around zero the second starts at −1 or earlier, since the first starts from 0 to 1 and the second by 3: even a latest start that is later than the second's
-- own is enough.
pub mirrored_back : (pass (pos 0)).posts ≡ record {
  task = 1;
  bound = negsuc 0;
  reason = record { variable = 0; kind = 1; value = pos 1 } ∷ record { variable = 0; kind = 0; value = pos 0 } ∷ record
      { variable = 1; kind = 1; value = pos 3 } ∷ [];
} ∷ []
unfolding propagate run outer inner decoded conflict propagation bounds within tabulate height_from sort insert index
    numbers width root responsible theta join_of
    is_empty gray tested descent_by_p descent_by_ect step_p step_ect search_p search_ect theta_of node_over
mirrored_back = refl
