-- The definitions at small tasks, where a strict order or a proper subset decides.
use Rattle.std.specs.Prelude.{◌≡◌, refl, Bool, true, false, cond, List, [], ◌∷◌, ◌⊎◌, ℕ, zero, suc, ◌+◌, ◌≤◌, ◌<◌, length, get_or}
use Rattle.std.proofs.Common.{inl, inr, arith}
use Rattle.std.proofs.Math.Option.{some, none}
use Rattle.integers.proofs.Bools.{clash, below_suc}
use Rattle.integers.specs.Orders.{sort, insert, numbers}
use Rattle.scheduling.specs.Scheduling.{natural, Tasks, TaskSet, total, ◌with◌, In, Est, processing, EstPlusP, Ect, Overloads, EdgeFindingBound}
use Rattle.scheduling.specs.Scheduling.{RuleFormula}
use Rattle.scheduling.specs.Ects.{ect_after, ect_of}

-- durations, earliest and latest starts
abbrev lined : List ℕ → List ℕ → List ℕ → Tasks natural
lined ds es ls = record { count = length ds; earliest = λ k. get_or es k 0; latest = λ k. get_or ls k 0; duration = λ k. get_or ds k 0 }

abbrev all : TaskSet
all k = true

-- what holds of 0, 1 and 2 holds below three; likewise below two
below_two : (P : ℕ → Type 0) → P 0 → P 1 → (k : ℕ) → k < 2 → P k
below_two P a b = below_suc P 1 (below_suc P 0 (λ k q. absurd (omega arith)) a) b

below_three : (P : ℕ → Type 0) → P 0 → P 1 → P 2 → (k : ℕ) → k < 3 → P k
below_three P a b c = below_suc P 2 (below_two P a b) c

-- what a task adds to a sum, whether it is in or not
abbrev part_of : Bool → ℕ → ℕ
part_of b d = cond b d 0

abbrev Adds : Bool → ℕ → Type 0
Adds b d = ((b ≡ true) × (part_of b d ≡ d)) ⊎ ((b ≡ false) × (part_of b d ≡ 0))

adds : (b : Bool) (d : ℕ) → Adds b d
adds true d = inl (refl, refl)
adds false d = inr (refl, refl)

most : (b : Bool) (d : ℕ) → part_of b d ≤ d
most true d = omega arith
most false d = omega arith

-- 0..4,4; 1..4,4 fill their span, 0 to 8, exactly, and do not overload it: the test is strict.
C : Tasks natural
C = lined (4 ∷ 4 ∷ []) (0 ∷ 1 ∷ []) (4 ∷ 4 ∷ [])

C_sum : (Ω : TaskSet) → processing C Ω ≡ part_of (Ω 0) 4 + part_of (Ω 1) 4
unfolding C processing total
C_sum Ω = omega arith

C_fits : Overloads C all → ⊥
unfolding C
C_fits o = omega (
  arith,
  C_sum all,
  o.over,
  o.est.bounds 0 (0, record { small = omega arith; mem = refl }, refl),
  o.lct.bounds 8 (0, record { small = omega arith; mem = refl }, refl),
)

-- Nor has task 0 a bound: with it, task 1 ends by its own latest completion.
C_no_bound : (b : ℕ) → EdgeFindingBound C 0 b → ⊥
unfolding C
C_no_bound b r = omega (arith, r.passes, ends, by (adds (f.part 0) 4))
  where
    f : EstPlusP C (r.set with 0) r.joint
    f = r.ect_with.holds

    ends : 8 ≤ r.end
    ends = let (k, km, e) = r.lct.holds in
        below_two (λ j. In C r.set j → C.latest j + C.duration j ≡ r.end → 8 ≤ r.end) (λ _ z. omega arith) (λ _ z. omega arith) k
        km.small km e

    late : f.start ≤ 1
    late = let (k, km, e) = f.est.holds in below_two (λ j. C.earliest j ≡ f.start → f.start ≤ 1) (λ z. omega arith) (λ z. omega arith) k
        km.small e

    by : Adds (f.part 0) 4 → r.joint ≤ 8
    by (inl a) = omega (arith, f.sum, C_sum f.part, a.1, most (f.part 1) 4, f.est.bounds 0 (0, record { small = omega arith; mem = a.0 }, refl))
    by (inr a) = omega (arith, f.sum, C_sum f.part, a.1, most (f.part 1) 4, late)

-- 0..13,1; 10..11,3; 10..11,3: ect is 16, by the last two alone.
D : Tasks natural
D = lined (1 ∷ 3 ∷ 3 ∷ []) (0 ∷ 10 ∷ 10 ∷ []) (13 ∷ 11 ∷ 11 ∷ [])

D_sum : (Ω : TaskSet) → processing D Ω ≡ part_of (Ω 0) 1 + part_of (Ω 1) 3 + part_of (Ω 2) 3
unfolding D processing total
D_sum Ω = omega arith

last_two : TaskSet
last_two zero = false
last_two (suc k) = true

D_est : Est D last_two 10
unfolding D last_two
D_est = record {
  holds = (1, record { small = omega arith; mem = refl }, refl);
  bounds = λ w h. below_three (λ j. last_two j ≡ true → D.earliest j ≡ w → 10 ≤ w) (λ y _. clash y refl) (λ _ z. omega arith)
      (λ _ z. omega arith) h.0
      h.1.small h.1.mem h.2;
}

D_ect : Ect D all 16
unfolding D last_two
D_ect = record { holds = record { part = last_two; within = λ k h. refl; start = 10; est = D_est; sum = omega (arith, D_sum last_two) }; bounds = bounds }
  where
    bounds : (w : ℕ) → EstPlusP D all w → w ≤ 16
    bounds w f = elim (adds (f.part 0) 1) [
      | inl a ↦ omega (
        arith,
        f.sum,
        D_sum f.part,
        most (f.part 0) 1,
        most (f.part 1) 3,
        most (f.part 2) 3,
        f.est.bounds 0 (0, record { small = omega arith; mem = a.0 }, refl),
      )
      | inr a ↦ omega (arith, f.sum, D_sum f.part, a.1, most (f.part 1) 3, most (f.part 2) 3, late)
    ]
      where
        late : f.start ≤ 10
        late = let (k, km, e) = f.est.holds in
            below_three (λ j. D.earliest j ≡ f.start → f.start ≤ 10) (λ z. omega arith) (λ z. omega arith) (λ z. omega arith) k km.small e

-- The recurrence waits for the start of the last two; and a set without tasks has no ect.
D_by_recurrence : (ect_of D all ≡ some 16) × (ect_of D (λ k. false) ≡ none)
unfolding D sort insert numbers ect_after
D_by_recurrence = (refl, refl)

-- It takes the tasks by earliest start and not by number: 5..5,1 comes after 0..9,4, and ends at 6.
by_start : ect_of (lined (1 ∷ 4 ∷ []) (5 ∷ 0 ∷ []) (5 ∷ 9 ∷ [])) all ≡ some 6
unfolding sort insert numbers ect_after
by_start = refl

-- 0..7,4; 0..6,5 and a third task whose start is at most 9: the first two end by 9, which does not pass 9.
L : Tasks natural
L = lined (4 ∷ 5 ∷ 3 ∷ []) (0 ∷ 0 ∷ 0 ∷ []) (7 ∷ 6 ∷ 9 ∷ [])

first_two : TaskSet
first_two zero = true
first_two (suc zero) = true
first_two (suc (suc k)) = false

L_sum : (Ω : TaskSet) → processing L Ω ≡ part_of (Ω 0) 4 + part_of (Ω 1) 5 + part_of (Ω 2) 3
unfolding L processing total
L_sum Ω = omega arith

L_not_passed : RuleFormula L first_two 2 → ⊥
unfolding L first_two
L_not_passed r = omega (arith, r.passes, ends)
  where
    f : EstPlusP L first_two r.joint
    f = r.ect.holds

    none : f.start ≡ 0
    none = let (k, km, e) = f.est.holds in
        below_three (λ j. L.earliest j ≡ f.start → f.start ≡ 0) (λ z. omega arith) (λ z. omega arith) (λ z. omega arith) k km.small e

    out : (b : Bool) → (b ≡ true → first_two 2 ≡ true) → part_of b 3 ≡ 0
    out true h = clash (h refl) refl
    out false h = refl

    ends : r.joint ≤ 9
    ends = omega (
      arith,
      f.sum,
      L_sum f.part,
      none,
      most (f.part 0) 4,
      most (f.part 1) 5,
      out (f.part 2) (λ y. f.within 2 (record { small = omega arith; mem = y })),
    )
