-- Tests over all numbers below a bound, and the first number of a list of tests that refuses an input.
use mathlib.Core.Path.{◌≡◌, refl, sym, ap, ◌∙◌}
use mathlib.Core.Bool.{Bool, true, false, not, ◌&&◌}
use mathlib.Core.Logic.{inl, inr, ◌↔◌}
use mathlib.Core.List.{List, [], ◌∷◌, ◌++◌}
use Prim.Native.Nat.{ℕ, zero, suc, ◌+◌, ◌<◌}
use native.Mathlib.Omega.{arith}
use native.Mathlib.Numerals.{add-one}
use native.Mathlib.Decide.{dec_lt}
use lib.Dec.{eqb}
use borrow.Author.Tests.{eqb-false}
use Rattle.integers.specs.Tests.{all_below, Test, refusal, AllPassed}
use Rattle.integers.proofs.Bools.{bool, clash, and_true, and_yes}

module _ (pass : ℕ → Bool) where
  all_suc : (n : ℕ) → all_below pass (suc n) ≡ all_below pass n && pass n
  unfolding all_below
  all_suc n = refl

  pub all_none : all_below pass 0 ≡ true
  unfolding all_below
  all_none = refl

  -- one number more
  pub all_more : (n : ℕ) → all_below pass n ≡ true → pass n ≡ true → all_below pass (n + 1) ≡ true
  all_more n h q = rw (add-one n, all_suc n) (and_yes (all_below pass n) (pass n) h q)

  pub all_at : (n : ℕ) → all_below pass n ≡ true → (k : ℕ) → k < n → pass k ≡ true
  all_at zero h k q = absurd (omega arith)
  all_at (suc n) h k q = elim (dec_lt k n) [ yes r ↦ all_at n both.0 k r | no r ↦ (let z : n ≡ k = omega arith in rw z at both.1) ]
    where
      both : (all_below pass n ≡ true) × (pass n ≡ true)
      both = and_true (all_below pass n) (pass n) (sym (all_suc n) ∙ h)

  pub all_show : (n : ℕ) → ((k : ℕ) → k < n → pass k ≡ true) → all_below pass n ≡ true
  all_show zero h = all_none
  all_show (suc n) h = all_suc n ∙ and_yes (all_below pass n) (pass n) (all_show n (λ k q. h k (omega arith))) (h n (omega arith))

  -- one that does not pass
  pub all_broken : (n i : ℕ) → i < n → pass i ≡ false → all_below pass n ≡ false
  all_broken n i q h = elim (bool (all_below pass n)) [ inl y ↦ clash (all_at n y i q) h | inr y ↦ y ]

-- tests that agree below n
pub all_ext : (f g : ℕ → Bool) (n : ℕ) → ((k : ℕ) → k < n → f k ≡ g k) → all_below f n ≡ all_below g n
all_ext f g zero h = all_none f ∙ sym (all_none g)
all_ext f g (suc n) h =
    all_suc f n
    ∙ ap (λ (b : Bool). b && f n) (all_ext f g n (λ k q. h k (omega arith)))
    ∙ ap (λ (b : Bool). all_below g n && b) (h n (omega arith))
    ∙ sym (all_suc g n)

-- a list of tests, from the first
pub refusal_next : (t : Test) (ts : List Test) → t.passed ≡ true → refusal (t ∷ ts) ≡ refusal ts
unfolding refusal
refusal_next t ts h = rw (h, refusal)

pub refusal_here : (t : Test) (ts : List Test) → t.passed ≡ false → refusal (t ∷ ts) ≡ t.number
unfolding refusal
refusal_here t ts h = rw (h, refusal)

pub refusal_none : refusal [] ≡ 0
unfolding refusal
refusal_none = refl

-- the number is 0 where all are passed
pub accepts : (ts : List Test) → AllPassed ts → refusal ts ≡ 0
accepts [] h = refusal_none
accepts (t ∷ ts) h = refusal_next t ts h.0 ∙ accepts ts h.1

-- tests that are passed, before others
pub refusal_after : (ts us : List Test) → AllPassed ts → refusal (ts ++ us) ≡ refusal us
refusal_after [] us h = refl
refusal_after (t ∷ ts) us h = refusal_next t (ts ++ us) h.0 ∙ refusal_after ts us h.1

-- Numbers that no test of a list has: computed, so that `refl` decides it of a list that is written out.
abbrev pub other : List Test → ℕ → Bool
other [] n = true
other (t ∷ ts) n = not (eqb t.number n) && other ts n

-- nor are they 0, which is the number of a list that is passed
abbrev pub unused : List Test → ℕ → Bool
unused ts n = other ts n && not (eqb n 0)

not_yes : (b : Bool) → not b ≡ true → b ≡ false
not_yes true h = clash h refl
not_yes false h = refl

other_cons : (t : Test) (ts : List Test) (n : ℕ) → other (t ∷ ts) n ≡ true → (t.number ≡ n → ⊥) × (other ts n ≡ true)
other_cons t ts n h = let (p, q) = and_true (not (eqb t.number n)) (other ts n) h in (eqb-false t.number n (not_yes _ p), q)

-- the number is 0 only where all are passed, as no test has the number 0
pub accepted : (ts : List Test) → other ts 0 ≡ true → refusal ts ≡ 0 → AllPassed ts
accepted [] d h = tt
accepted (t ∷ ts) d h = elim (bool t.passed) [
  | inl y ↦ (y, accepted ts (other_cons t ts 0 d).1 (sym (refusal_next t ts y) ∙ h))
  | inr y ↦ absurd ((other_cons t ts 0 d).0 (sym (refusal_here t ts y) ∙ h))
]

-- a number that is none of the tests' is not given
pub not_given : (ts : List Test) (n : ℕ) → unused ts n ≡ true → refusal ts ≡ n → ⊥
not_given ts n d = let (p, q) = and_true (other ts n) (not (eqb n 0)) d in from ts p (eqb-false n 0 (not_yes _ q))
  where
    from : (ts : List Test) → other ts n ≡ true → (n ≡ 0 → ⊥) → refusal ts ≡ n → ⊥
    from [] p z h = z (sym h ∙ refusal_none)
    from (t ∷ ts) p z h = elim (bool t.passed) [ inl y ↦ from ts (other_cons t ts n p).1 z (sym (refusal_next t ts y) ∙ h) | inr y ↦ (other_cons t ts n p).0 (sym (refusal_here t ts y) ∙ h) ]

-- a test is not passed exactly where its fact does not hold
pub broken : {F : Type 0} {b : Bool} → (b ≡ true ↔ F) → (b ≡ false ↔ (F → ⊥))
broken {F} {b} w = (λ h f. clash (w.1 f) h, λ h. elim (bool b) [ inl y ↦ absurd (h (w.0 y)) | inr y ↦ y ])

-- The sole ground for a test's number, where no later test has it: the test's fact does not hold.
pub first_refuses : (t : Test) (ts : List Test) {F : Type 0} → (t.passed ≡ true ↔ F) → unused ts t.number ≡ true → refusal (t ∷ ts) ≡ t.number ↔ (F → ⊥)
first_refuses t ts is d = (
  λ h. elim (bool t.passed) [ inl y ↦ absurd (not_given ts t.number d (sym (refusal_next t ts y) ∙ h)) | inr y ↦ (broken is).0 y ],
  λ f. refusal_here t ts ((broken is).1 f),
)

-- Tests, and others after them: a number that is none of the first is given where those are passed and the others give it.
-- What holds where the first are passed may be used for the others.
pub behind : (ts us : List Test) {n : ℕ} {F G : Type 0} → (AllPassed ts ↔ F) → other ts n ≡ true → (F → refusal us ≡ n ↔ G) → refusal (ts ++ us) ≡ n ↔ (F × G)
behind ts us {n} {F} {G} is d rest = (
  λ h. (let (p, q) = passed ts d h in (is.0 p, (rest (is.0 p)).0 q)),
  λ f. refusal_after ts us (is.1 f.0) ∙ (rest f.0).1 f.1,
)
  where
    passed : (ts : List Test) → other ts n ≡ true → refusal (ts ++ us) ≡ n → AllPassed ts × (refusal us ≡ n)
    passed [] d h = (tt, h)
    passed (t ∷ ts) d h = elim (bool t.passed) [
      | inl y ↦ (let (p, q) = passed ts (other_cons t ts n d).1 (sym (refusal_next t (ts ++ us) y) ∙ h) in ((y, p), q))
      | inr y ↦ absurd ((other_cons t ts n d).0 (sym (refusal_here t (ts ++ us) y) ∙ h))
    ]

-- one test, and others after it
pub first_holds : (t : Test) (us : List Test) {n : ℕ} {F G : Type 0} → (t.passed ≡ true ↔ F) → other (t ∷ []) n ≡ true → (F → refusal us ≡ n ↔ G) → refusal (t ∷ us) ≡ n ↔ (F × G)
first_holds t us is d rest = behind (t ∷ []) us (λ p. is.0 p.0, λ f. (is.1 f, tt)) d rest

-- these tests and one more: nothing is given where all hold, and the last one's number where it alone does not
module _ (ts : List Test) (t : Test) {F G : Type 0} (is : AllPassed ts ↔ F) (own : t.passed ≡ true ↔ G) where
  pub more_accepted : other ts 0 ≡ true → other (t ∷ []) 0 ≡ true → refusal (ts ++ (t ∷ [])) ≡ 0 ↔ (F × G)
  more_accepted d e = behind ts (t ∷ []) is d (λ _. (λ h. own.0 (accepted (t ∷ []) e h).0, λ g. accepts (t ∷ []) (own.1 g, tt)))

  pub more_refused : other ts t.number ≡ true → unused [] t.number ≡ true → refusal (ts ++ (t ∷ [])) ≡ t.number ↔ (F × (G → ⊥))
  more_refused d e = behind ts (t ∷ []) is d (λ _. first_refuses t [] own e)

-- a test after others that are passed
pub refuses : (before : List Test) (t : Test) (after : List Test) → AllPassed before → t.passed ≡ false → refusal (before ++ (t ∷ after)) ≡ t.number
refuses [] t after h q = refusal_here t after q
refuses (b ∷ bs) t after h q = refusal_next b (bs ++ (t ∷ after)) h.0 ∙ refuses bs t after h.1 q

-- tests before others: the first number that they give
pub refusal_before : (ts us : List Test) → (refusal ts ≡ 0 → ⊥) → refusal (ts ++ us) ≡ refusal ts
refusal_before [] us h = absurd (h refusal_none)
refusal_before (t ∷ ts) us h = elim (bool t.passed) [
  | inl y ↦ refusal_next t (ts ++ us) y ∙ refusal_before ts us (λ z. h (refusal_next t ts y ∙ z)) ∙ sym (refusal_next t ts y)
  | inr y ↦ refusal_here t (ts ++ us) y ∙ sym (refusal_here t ts y)
]
