-- The inner loop: what it has got to, and how a turn goes on from there.
use mathlib.Core.Path.{◌≡◌, refl, sym, ap, ◌∙◌}
use mathlib.Core.Bool.{Bool, true}
use mathlib.Core.List.{List}
use mathlib.Core.Logic.{inl, inr}
use mathlib.Core.Option.{Option, some, none}
use Prim.Native.Nat.{ℕ, suc}
use lib.IntN.{ℤ}
use lib.ListN.{get_or}
use Rattle.std.specs.Prelude.{Some, None, Result, Ok, Err}
use Rattle.std.specs.Prelude as code
use Rattle.integers.specs.Moments.{zero_at}
use Rattle.integers.proofs.Bools.{bool, clash}
use Rattle.scheduling.specs.Scheduling.{completion}
use Rattle.trees.specs.Ects.{exceeds}
use Rattle.trees.specs.declared.disjunctive_task.LocalId.{LocalId}
use Rattle.trees.specs.Leaves as leaves
use Rattle.trees.specs.ArraySearches.{responsible_of}
use Rattle.runs.specs.Runs.{State}
use Rattle.runs.specs.Reached.{Reached, turned}
use Rattle.runs.proofs.InnerLoop.{inner_end, inner_off, inner_none}
use Rattle.propagator.specs.declared.disjunctive_propagator.Written.{Written}
use Rattle.propagator.specs.declared.disjunctive_propagator.Emptied.{Emptied}
use Rattle.propagator.specs.declared.task_arrays.TaskArrays.{TaskArrays}
use Rattle.propagator.specs.Candidates.{Proposes, Considerable, AtNow, turns, Considered, AllConsidered, ResponsibleFor}
use Rattle.propagator.proofs.PostWords.{candidate_none, candidate_some}
use Rattle.propagator.proofs.ConsideredTask as considering
use Rattle.propagator.proofs.ConsideredTask.{shown, tall}

-- what a search answered
some_task : (reverse_mapping : List ℕ) (u : Option ℕ) (id : LocalId) → Some id ≡ responsible_of reverse_mapping u → (x : ℕ) × (u ≡ some x) × (id.0 ≡ get_or reverse_mapping x 0)
some_task reverse_mapping none id z = clash {b = true} refl (cc)
some_task reverse_mapping (some x) id z = (x, refl, (cc))

no_task : (reverse_mapping : List ℕ) (u : Option ℕ) → None ≡ responsible_of reverse_mapping u → u ≡ none
no_task reverse_mapping none z = refl
no_task reverse_mapping (some x) z = cc

module _ {tasks : TaskArrays} {lct : ℕ} {words : List ℕ} {es posts atoms : List ℤ} {w : Written} (s : Considerable tasks lct words es posts atoms w) where
  abbrev n : ℕ
  n = tasks.size.leaves

  abbrev reverse_mapping : List ℕ
  reverse_mapping = tasks.reverse_mapping.now

  -- `left` of `all` turns are left, and slices and tree are at a state from which the definition's loop has as many left
  pub record Turned (all left : ℕ) (words' : List ℕ) (es' posts' atoms' : List ℤ) (w' : Written) : Type 0 where
    pub st : State
    pub reached : Reached zero_at s.J s.est_order s.lct_order s.level st
    pub at : AtNow s st words' es' posts' atoms' w'
    pub rest : turns s all s.st ≡ turns s left st

  pub none_yet : {all left : ℕ} → all ≡ left → Turned all left words es posts atoms w
  none_yet z = record { st = s.st; reached = s.reached; at = s.at; rest = ap (λ (f : ℕ). turns s f s.st) z }

  module _ {all left : ℕ} {words' : List ℕ} {es' posts' atoms' : List ℤ} {w' : Written} (r : Turned all left words' es' posts' atoms' w') where
    abbrev pub still_considerable : Considerable tasks lct words' es' posts' atoms' w'
    still_considerable = record {
      J = s.J;
      est_order = s.est_order;
      lct_order = s.lct_order;
      level = s.level;
      st = r.st;
      posts₀ = s.posts₀;
      atoms₀ = s.atoms₀;
      ordered = s.ordered;
      arrays = s.arrays;
      latest = s.latest;
      small = s.small;
      ends = s.ends;
      post_room = s.post_room;
      atom_room = s.atom_room;
      reached = r.reached;
      at = r.at;
    }

    abbrev bar : Option ℕ
    bar = leaves.ect_bar_of s.J s.est_order r.st.leaves

    abbrev found : Option ℕ
    found = leaves.responsible s.J s.est_order r.st.leaves

    -- no turn is left
    pub ended : left ≡ 0 → AllConsidered s all (Ok w') words' es' posts' atoms'
    ended z = (r.st, r.at, r.rest ∙ ap (λ (f : ℕ). turns s f r.st) z ∙ inner_end zero_at s.J s.est_order s.lct_order 0 s.level r.st)

    -- the test, by the level's lct
    test_is : {v : Bool} → exceeds bar lct ≡ v → exceeds bar (completion s.J (get_or s.lct_order s.level 0)) ≡ v
    test_is y = ap (exceeds bar) (sym s.ends) ∙ y

    -- there is a task to consider
    pub one_left : {next : code.Option LocalId} {id : LocalId} → next ≡ Some id → Proposes tasks words' lct next → (x : ℕ) × ResponsibleFor still_considerable id.0 x
    one_left {id = id} is said = let z = said (shown still_considerable) (tall still_considerable) in
        elim (bool (exceeds bar lct)) [
          | inr y ↦ clash {b = true} refl (cc (candidate_none reverse_mapping lct bar found y))
          | inl y ↦ (let (x, u, v) = some_task reverse_mapping found id (sym is ∙ z ∙ sym (candidate_some reverse_mapping lct bar found y)) in
              (x, record { over = y; found = u; task = v ∙ s.arrays.reverse_mapping_is.at x (considering.found_inside still_considerable x u) }))
        ]

    -- a turn is taken
    module _ {f : ℕ} (some_left : left ≡ suc f) where
      rest_is : turns s all s.st ≡ turns s (suc f) r.st
      rest_is = r.rest ∙ ap (λ (f : ℕ). turns s f r.st) some_left

      -- there is no task to consider
      pub nothing_left : {next : code.Option LocalId} → next ≡ None → Proposes tasks words' lct next → AllConsidered s all (Ok w') words' es' posts' atoms'
      nothing_left is said = let z = said (shown still_considerable) (tall still_considerable) in (
        r.st,
        r.at,
        rest_is ∙ elim (bool (exceeds bar lct)) [
          | inr y ↦ inner_off zero_at s.J s.est_order s.lct_order f s.level r.st (test_is y)
          | inl y ↦ inner_none zero_at s.J s.est_order s.lct_order f s.level r.st (test_is y)
              (no_task reverse_mapping found (sym is ∙ z ∙ sym (candidate_some reverse_mapping lct bar found y)))
        ],
      )

      -- one was considered
      pub one_less : {words'' : List ℕ} {es'' posts'' atoms'' : List ℤ} {w'' : Written} {u : Result Written Emptied} → u ≡ Ok w'' → Considered still_considerable u words'' es'' posts'' atoms''
          → Turned all f words'' es'' posts'' atoms'' w''
      one_less is told =
          let (st', a, next) = rw is at told in
          record { st = st'; reached = turned s.level r.st st' r.reached (next 0 ∙ inner_end zero_at s.J s.est_order s.lct_order 0 s.level st'); at = a; rest = rest_is ∙ next f }

      pub one_emptied : {words'' : List ℕ} {es'' posts'' atoms'' : List ℤ} {at : Emptied} {u : Result Written Emptied} → u ≡ Err at → Considered still_considerable u words'' es'' posts'' atoms''
          → AllConsidered s all (Err at) words'' es'' posts'' atoms''
      one_emptied is told = let (st', a, next) = rw is at told in (st', a, rest_is ∙ next f)
