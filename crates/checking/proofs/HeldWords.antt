-- The words of a state's bounds: an atom that makes no hole makes of them what it makes of the state.
use mathlib.Core.Path.{◌≡◌, refl, sym, ap, ◌∙◌, subst}
use mathlib.Core.Bool.{Bool, true, false}
use mathlib.Core.List.{List}
use Prim.Native.Nat.{ℕ, ◌+◌, ◌≤◌, ◌<◌}
use native.Mathlib.Omega.{arith}
use native.Mathlib.Decide.{ℕ_discrete}
use lib.ListN.{length, set, replicate, length-set, length-replicate, get_or-replicate}
use lib.Seq.{get_or-set_same, get_or-set_other}
use Rattle.integers.specs.Limits.{VARIABLES, TASKS, VALUE}
use Rattle.integers.specs.WholeNumbers.{Within}
use Rattle.integers.proofs.FilledLists.{get_d_fresh}
use Rattle.scheduling.specs.Scheduling.{Atom}
use Rattle.checking.specs.declared.domain.Domain.{Domain}
use Rattle.checking.specs.declared.bound_words.BoundWords.{BoundWords}
use Rattle.checking.specs.declared.variable_state.VariableState.{VariableState}
use Rattle.checking.specs.declared.variable_state.Application.TheVariants.{Consistent, Contradiction}
use Rattle.checking.specs.Domains.{every_integer, consistent, applied, Tight}
use Rattle.checking.specs.BoundWords.{no_words, words_of, applied_words, consistent_words, bounds_of_task_in_words, words_at, bounds_in_words, HoleFree, HeldWords}
use Rattle.checking.specs.States.{no_domain, domain_at, put, empty_state, stepped}
use Rattle.checking.specs.TaskBounds.{bounds_at, bounds_among}
use Rattle.checking.proofs.BoundLimits.{no_int, no_int'}
use Rattle.checking.proofs.BoundWords.{applied_free, applied_words_are, words_consistent, words_bounds}
use Rattle.checking.proofs.Bounds.{bounds_at_are}
use Rattle.checking.proofs.FilledBounds.{bounds_same}
use Rattle.checking.proofs.NarrowedDomains.{applied_leaves}
use Rattle.integers.proofs.Bools.{clash}
use Rattle.checking.proofs.PreparedStates.{no_room}
use Rattle.checking.proofs.States.{empty_accepted, put_same, put_other, put_each, put_accepted, stepped_case}

-- Without bounds ---------------------------------------------------------------------------------------------------------------

all_free : HoleFree every_integer
all_free = record { none = refl; lower = λ u e. absurd (no_int u e); upper = λ u e. absurd (no_int' u e) }

pub none_held : (words : List BoundWords) → words ≡ replicate VARIABLES no_words → HeldWords empty_state words
none_held words p = record {
  size = ap length p ∙ length-replicate VARIABLES no_words;
  accepted = empty_accepted;
  free = λ x h. subst HoleFree (sym (any x h)) all_free;
  each = λ x h. ap (λ (l : List BoundWords). words_at l x) p ∙ get_d_fresh no_words VARIABLES x ∙ ap words_of (sym (any x h));
}
  where
    any : (x : ℕ) → x < VARIABLES → domain_at empty_state x ≡ every_integer
    any x h = get_or-replicate VARIABLES x every_integer no_domain h

-- One atom ---------------------------------------------------------------------------------------------------------------------

module _ (s : VariableState) (words : List BoundWords) (held : HeldWords s words) (a : Atom) (known : a.variable < VARIABLES) (kind : a.kind < 3) (near : Within (VALUE + 1) a.value) where
  abbrev d : Domain
  d = domain_at s a.variable

  abbrev d' : Domain
  d' = applied d a.kind a.value

  abbrev w : BoundWords
  w = applied_words (words_at words a.variable) a.kind a.value

  tight : Tight d
  tight = (held.accepted.each a.variable known).tight

  tight' : Tight d'
  tight' = (applied_leaves d a.kind a.value tight (no_room d a.kind a.value kind)).tight

  free' : HoleFree d'
  free' = applied_free d tight (held.free a.variable known) a.kind kind a.value near

  words' : w ≡ words_of d'
  words' = ap (λ (v : BoundWords). applied_words v a.kind a.value) (held.each a.variable known)
      ∙ sym (applied_words_are d tight (held.free a.variable known) a.kind kind a.value near)

  leaves : {t : Bool} → consistent_words w ≡ t → consistent d' ≡ t
  leaves e = sym (words_consistent d' tight' free') ∙ ap consistent_words (sym words') ∙ e

  -- the words cross where the atom is contradicted
  pub held_contradiction : consistent_words w ≡ false → stepped s a ≡ record { answer = Contradiction a.variable; state = s }
  held_contradiction e = stepped_case s a (λ r. r ≡ record { answer = Contradiction a.variable; state = s }) (λ y. clash y (no_room d a.kind a.value kind))
      (λ _ y. clash y (leaves e)) (λ _ _. refl)

  module _ (e : consistent_words w ≡ true) where
    abbrev s' : VariableState
    s' = put s a.variable d'

    abbrev after : List BoundWords
    after = set words a.variable w

    stored : (x : ℕ) → x < VARIABLES → words_at after x ≡ words_of (domain_at s' x)
    stored x h = elim (ℕ_discrete x a.variable) [
      | yes e ↦ rw (
        e,
        get_or-set_same words a.variable w no_words (omega (arith, held.size)),
        put_same s a.variable d' (omega (arith, held.accepted.size)),
      ) words'
      | no n ↦ rw (get_or-set_other words a.variable x w no_words n, put_other s a.variable x d' n) (held.each x h)
    ]

    -- else they are the bounds of the state after it
    pub held_next : (stepped s a ≡ record { answer = Consistent; state = s' }) × HeldWords s' after
    held_next = (
      stepped_case s a (λ r. r ≡ record { answer = Consistent; state = s' }) (λ y. clash y (no_room d a.kind a.value kind)) (λ _ _. refl) (λ _ n. clash (leaves e) n),
      record {
        size = length-set words a.variable w ∙ held.size;
        accepted = put_accepted s a.variable d' held.accepted known (record { tight = tight'; ordered = leaves e });
        free = λ x h. put_each HoleFree s a.variable d' (omega (arith, held.accepted.size)) free' x (held.free x h);
        each = stored;
      },
    )

-- The tasks' bounds ------------------------------------------------------------------------------------------------------------

pub held_bounds : (s : VariableState) (words : List BoundWords) (n : ℕ) → n ≤ TASKS → HeldWords s words → bounds_in_words words n ≡ bounds_among s n
held_bounds s words n few held = bounds_same (λ k. bounds_of_task_in_words (words_at words k)) (bounds_at s) n (λ k h.
    let known : k < VARIABLES = omega arith in
    ap bounds_of_task_in_words (held.each k known) ∙ words_bounds (domain_at s k) (held.accepted.each k known).tight (held.free k known) ∙ bounds_at_are s held.accepted k known)
