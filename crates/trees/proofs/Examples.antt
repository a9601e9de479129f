-- The definitions compute: three tasks, 0..6 for 4, 1..5 for 5 and 0..20 for 3, the third of them in Λ and the others in Θ.
use mathlib.Core.Path.{◌≡◌, refl}
use mathlib.Core.List.{List, [], ◌∷◌}
use mathlib.Core.Option.{some, none}
use Prim.Native.Nat.{ℕ}
use lib.ListN.{get_or}
use Rattle.scheduling.specs.Scheduling.{natural, Tasks}
use Rattle.trees.specs.Ects.{decoded}
use Rattle.trees.specs.Nodes.{join_of, is_empty}
use Rattle.trees.specs.Descents as descents
use Rattle.trees.specs.Shapes.{width, height_from, node_over}
use Rattle.trees.specs.Searches as searches
use Rattle.trees.specs.Leaves.{Leaf, white, gray, empty, ect, ect_bar_of, sum, root, responsible, theta}

abbrev J : Tasks natural
J = record { count = 3; earliest = λ k. get_or (0 ∷ 1 ∷ 0 ∷ []) k 0; latest = λ k. get_or (6 ∷ 5 ∷ 20 ∷ []) k 0; duration = λ k. get_or (4 ∷ 5 ∷ 3 ∷ []) k 0 }

-- by earliest start
abbrev est_order : List ℕ
est_order = 0 ∷ 2 ∷ 1 ∷ []

abbrev ls : List Leaf
ls = white ∷ gray ∷ white ∷ []

-- ect(Θ) is 9, with one task of Λ 12, and the third task, at place 1, is responsible
example : (ect J est_order ls ≡ some 9) × (ect_bar_of J est_order ls ≡ some 12) × (sum J est_order ls ≡ 9) × (responsible J est_order ls ≡ some 1) × (theta J est_order ls ≡ 0 ∷ 1 ∷ [])
unfolding root responsible theta width height_from node_over decoded join_of is_empty descents.gray descents.tested descents.descent_by_p descents.descent_by_ect searches.step_p searches.step_ect searches.search_p
    searches.search_ect searches.theta_of
example = (refl, refl, refl, refl, refl)

-- a task of Λ alone: Θ has no ect, and with that task it has one; where neither has a task there is none
gray_alone : (ect J est_order (empty ∷ gray ∷ empty ∷ []) ≡ none) × (ect_bar_of J est_order (empty ∷ gray ∷ empty ∷ []) ≡ some 3) × (ect_bar_of J est_order (empty ∷ empty ∷ empty ∷ []) ≡ none)
unfolding root width height_from node_over decoded join_of
gray_alone = (refl, refl, refl)
