-- Runs, by computing: posts, reasons, how each ended, starts and leaf changes. A to G are the paper's.
use Rattle.std.specs.Prelude.{◌≡◌, refl, List, [], ◌∷◌, map, ℕ, pos, get_or}
use Rattle.integers.specs.Orders.{sort, insert, index, numbers}
use Rattle.scheduling.specs.Scheduling.{natural, Tasks, Atom}
use Rattle.trees.specs.Ects.{decoded}
use Rattle.trees.specs.Leaves.{root, responsible, theta}
use Rattle.trees.specs.Nodes.{join_of, is_empty}
use Rattle.trees.specs.Descents.{gray, tested, descent_by_p, descent_by_ect}
use Rattle.trees.specs.Searches.{step_p, step_ect, search_p, search_ect, theta_of}
use Rattle.trees.specs.Shapes.{width, height_from, node_over}
use Rattle.runs.specs.Traces.{Post, End, done, overload, emptied, Trace}
use Rattle.runs.specs.Runs.{propagate, run, outer, inner, conflict, propagation, bounds, within, tabulate, earliest_order, completion_order}
use Rattle.runs.specs.Costliest.{costliest_starts, costliest_durations}

-- task k starts at v or later; at v or earlier
abbrev pub at_least : ℕ → ℕ → Atom
at_least k v = record { variable = k; kind = 0; value = pos v }

abbrev pub at_most : ℕ → ℕ → Atom
at_most k v = record { variable = k; kind = 1; value = pos v }

-- earliest, latest, duration of each task
abbrev pub Input : Type 0
Input = List (ℕ × ℕ × ℕ)

abbrev answer : Input → Trace
answer ts = propagate (map (λ (t : ℕ × ℕ × ℕ). t.2) ts) (map (λ (t : ℕ × ℕ × ℕ). pos t.0) ts)
    (map (λ (t : ℕ × ℕ × ℕ). pos t.1) ts)

abbrev trace : List Post → End → List ℕ → ℕ → Trace
trace ps end ss c = record { posts = ps; end = end; starts = map pos ss; changes = c }

-- Tasks, and what a run on them leaves.
pub record Instance : Type 0 where
  pub tasks : Input
  pub leaves : Trace

abbrev instance : Input → List Post → End → List ℕ → ℕ → Instance
instance ts ps end ss c = record { tasks = ts; leaves = trace ps end ss c }

-- the tasks of A, and the reason of its post
abbrev pub A : Input
A = (0, 6, 4) ∷ (1, 5, 5) ∷ (0, 20, 3) ∷ []

abbrev pub five : List Atom
five = at_least 0 0 ∷ at_most 0 7 ∷ at_least 1 0 ∷ at_most 1 6 ∷ at_least 2 0 ∷ []

-- the post of E and F
abbrev six : Post
six = record { task = 0; bound = pos 6; reason = at_least 1 1 ∷ at_most 1 2 ∷ at_least 0 0 ∷ [] }

-- A to G, in this order.
abbrev pub paper : List Instance
paper =
    instance A (record { task = 2; bound = pos 9; reason = five } ∷ []) done (0 ∷ 1 ∷ 9 ∷ []) 8
    ∷ instance ((0, 2, 4) ∷ (1, 2, 4) ∷ []) [] (overload (at_least 0 0 ∷ at_most 0 3 ∷ at_least 1 0 ∷ at_most 1 3 ∷ [])) (0 ∷ 1 ∷ []) 2
    ∷ instance ((0, 4, 4) ∷ (1, 4, 4) ∷ []) [] done (0 ∷ 1 ∷ []) 4
    ∷ instance ((0, 13, 1) ∷ (10, 11, 3) ∷ (10, 11, 3) ∷ []) [] (overload (at_least 1 10 ∷ at_most 1 12 ∷ at_least 2 10 ∷ at_most 2 12 ∷ []))
    (0 ∷ 10 ∷ 10 ∷ []) 3
    ∷ instance ((0, 5, 3) ∷ (1, 1, 5) ∷ []) (six ∷ []) emptied (0 ∷ 1 ∷ []) 4
    ∷ instance ((0, 6, 3) ∷ (1, 1, 5) ∷ []) (six ∷ []) done (6 ∷ 1 ∷ []) 5
    ∷ instance ((7, 7, 1) ∷ []) [] done (7 ∷ []) 1
    ∷ []

pub instances : map (λ (i : Instance). answer i.tasks) paper ≡ map (λ (i : Instance). i.leaves) paper
unfolding propagate run outer inner decoded conflict propagation bounds within tabulate height_from sort insert index numbers width root responsible theta join_of
    is_empty gray tested descent_by_p descent_by_ect step_p step_ect search_p search_ect theta_of node_over
instances = refl

-- None of the paper's. The reason takes the first task's own latest start, 8, and not a later one.
abbrev later : Input
later = (0, 8, 1) ∷ (5, 5, 4) ∷ (0, 20, 5) ∷ []

pub own_latest_start : answer later ≡ trace
    (record { task = 2; bound = pos 9; reason = at_least 0 0 ∷ at_most 0 8 ∷ at_least 1 5 ∷ at_most 1 5 ∷ at_least 2 0 ∷ [] } ∷ []) done
    (0 ∷ 5 ∷ 9 ∷ []) 8
unfolding propagate run outer inner decoded conflict propagation bounds within tabulate height_from sort insert index numbers width root responsible theta join_of
    is_empty gray tested descent_by_p descent_by_ect step_p step_ect search_p search_ect theta_of node_over
own_latest_start = refl

-- And two tasks are raised, each by its own post.
abbrev both : Input
both = (0, 6, 4) ∷ (1, 5, 5) ∷ (0, 20, 3) ∷ (0, 30, 3) ∷ []

abbrev nine : ℕ → Post
nine i = record { task = i; bound = pos 9; reason = at_least 0 0 ∷ at_most 0 7 ∷ at_least 1 0 ∷ at_most 1 6 ∷ at_least i 0 ∷ [] }

pub two_raised : answer both ≡ trace (nine 3 ∷ nine 2 ∷ []) done (0 ∷ 1 ∷ 9 ∷ 9 ∷ []) 12
unfolding propagate run outer inner decoded conflict propagation bounds within tabulate height_from sort insert index numbers width root responsible theta join_of
    is_empty gray tested descent_by_p descent_by_ect step_p step_ect search_p search_ect theta_of node_over
two_raised = refl

-- What a post raised stays raised when the run then overloads, and when a later post empties a range: B and E with one task more.
abbrev eight : ℕ → ℕ → Post
eight high₀ high₁ = record {
  task = 2;
  bound = pos 8;
  reason =
      at_least 0 0 ∷ at_most 0 high₀ ∷ at_least 1 0 ∷ at_most 1 high₁ ∷ at_least 2 0 ∷ [];
}

abbrev kept : List Instance
kept =
    instance ((0, 2, 4) ∷ (1, 2, 4) ∷ (0, 20, 3) ∷ []) (eight 6 6 ∷ [])
    (overload (at_least 0 0 ∷ at_most 0 3 ∷ at_least 1 0 ∷ at_most 1 3 ∷ [])) (0 ∷ 1 ∷ 8 ∷ []) 6
    ∷ instance ((0, 5, 3) ∷ (1, 1, 5) ∷ (0, 30, 2) ∷ []) (eight 6 4 ∷ six ∷ []) emptied (0 ∷ 1 ∷ 8 ∷ []) 8
    ∷ []

pub starts_kept : map (λ (i : Instance). answer i.tasks) kept ≡ map (λ (i : Instance). i.leaves) kept
unfolding propagate run outer inner decoded conflict propagation bounds within tabulate height_from sort insert index numbers width root responsible theta join_of
    is_empty gray tested descent_by_p descent_by_ect step_p step_ect search_p search_ect theta_of node_over
starts_kept = refl

-- What no law about reasons or bounds decides, and the source does: how an overflow of two is shared out; the propagated task's own start in its reason, and
-- that of a task before ω', where it is later than r; which of two equal gray tasks is found first.
abbrev undecided : List Instance
undecided =
    instance ((1, 1, 3) ∷ (1, 1, 3) ∷ []) [] (overload (at_least 0 0 ∷ at_most 0 2 ∷ at_least 1 0 ∷ at_most 1 2 ∷ [])) (1 ∷ 1 ∷ []) 2
    ∷ instance ((0, 0, 2) ∷ (1, 2, 1) ∷ []) (record { task = 1; bound = pos 2; reason = at_least 0 0 ∷ at_most 0 0 ∷ at_least 1 0 ∷ [] } ∷ []) done (0 ∷ 2 ∷ []) 5
    ∷ instance ((1, 1, 1) ∷ (0, 3, 5) ∷ (3, 3, 1) ∷ [])
    (record { task = 1; bound = pos 4; reason = at_least 0 0 ∷ at_most 0 5 ∷ at_least 2 3 ∷ at_most 2 5 ∷ at_least 1 0 ∷ [] } ∷ []) emptied (1 ∷ 0 ∷ 3 ∷ []) 5
    ∷ instance ((0, 1, 3) ∷ (0, 0, 1) ∷ (0, 6, 1) ∷ (1, 7, 1) ∷ [])
    (record { task = 2; bound = pos 4; reason = at_least 0 0 ∷ at_most 0 1 ∷ at_least 1 0 ∷ at_most 1 3 ∷ at_least 2 0 ∷ [] }
    ∷ record { task = 3; bound = pos 4; reason = at_least 0 0 ∷ at_most 0 1 ∷ at_least 1 0 ∷ at_most 1 3 ∷ at_least 3 0 ∷ [] }
    ∷ record { task = 0; bound = pos 1; reason = at_least 1 0 ∷ at_most 1 2 ∷ at_least 0 0 ∷ [] } ∷ []) done (1 ∷ 0 ∷ 4 ∷ 4 ∷ []) 13
    ∷ []

pub as_the_source : map (λ (i : Instance). answer i.tasks) undecided ≡ map (λ (i : Instance). i.leaves) undecided
unfolding propagate run outer inner decoded conflict propagation bounds within tabulate height_from sort insert index numbers width root responsible theta join_of
    is_empty gray tested descent_by_p descent_by_ect step_p step_ect search_p search_ect theta_of node_over
as_the_source = refl

-- Three of the costliest tasks: 4 · 3 − 3 leaf changes.
pub three_costliest : propagate (costliest_durations 3) (costliest_starts 3) (costliest_starts 3) ≡ trace [] done (0 ∷ 10 ∷ 20 ∷ []) 9
unfolding propagate run outer inner decoded conflict propagation bounds within tabulate height_from sort insert index numbers width root responsible theta join_of
    is_empty gray tested descent_by_p descent_by_ect step_p step_ect search_p search_ect theta_of node_over
three_costliest = refl

-- Three tasks with one earliest start, two of them with one latest completion: ties go to the lower number in both orders.
abbrev tied : Tasks natural
tied = record { count = 3; earliest = λ k. 0; latest = λ k. get_or (0 ∷ 5 ∷ 5 ∷ []) k 0; duration = λ k. 1 }

pub ties_by_number : (earliest_order tied ≡ 0 ∷ 1 ∷ 2 ∷ []) × (completion_order tied ≡ 1 ∷ 2 ∷ 0 ∷ [])
unfolding sort insert numbers
ties_by_number = (refl, refl)
