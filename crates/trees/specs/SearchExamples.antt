-- The search at small leaves, where two gray tasks serve equally.
use Rattle.std.specs.Prelude.{◌≡◌, refl, [], ◌∷◌, get_or}
use Rattle.std.proofs.Math.Option.{some}
use Rattle.scheduling.specs.Scheduling.{natural, Tasks}
use Rattle.trees.specs.Nodes.{join_of, is_empty}
use Rattle.trees.specs.Descents as descents
use Rattle.trees.specs.Descents.{tested, descent_by_p, descent_by_ect}
use Rattle.trees.specs.Searches.{step_p, step_ect, search_p, search_ect}
use Rattle.trees.specs.Shapes.{width, height_from, node_over}
use Rattle.trees.specs.Leaves.{white, gray, responsible}

-- tasks by earliest start: 0 to 4 without a pause, and two of one unit each
four : Tasks natural
four = record { count = 4; earliest = λ k. get_or (0 ∷ 0 ∷ 0 ∷ 1 ∷ []) k 0; latest = λ k. 0; duration = λ k. get_or (3 ∷ 1 ∷ 1 ∷ 1 ∷ []) k 0 }

-- Leaves 2 and 3 are gray, and either gives the ect_bar: the lower place is found.
lower_place_first : responsible four (0 ∷ 1 ∷ 2 ∷ 3 ∷ []) (white ∷ white ∷ gray ∷ gray ∷ []) ≡ some 2
unfolding four height_from width responsible join_of is_empty descents.gray tested descent_by_p descent_by_ect step_p step_ect search_p search_ect node_over
lower_place_first = refl

-- Leaves 1 and 3 are gray: as the right child is asked first, the higher place is found.
right_child_first : responsible four (0 ∷ 1 ∷ 2 ∷ 3 ∷ []) (white ∷ gray ∷ white ∷ gray ∷ []) ≡ some 3
unfolding four height_from width responsible join_of is_empty descents.gray tested descent_by_p descent_by_ect step_p step_ect search_p search_ect node_over
right_child_first = refl
