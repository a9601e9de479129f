-- The reasons of posts and overloads: they hold at entry, and they pass the checker's formula.
use mathlib.Core.Path.{◌≡◌, refl}
use mathlib.Core.Bool.{true, false, cond}
use mathlib.Core.Logic.{inl, inr}
use Prim.Native.Nat.{ℕ, ◌+◌, ◌-◌, ◌≤◌, ◌<◌}
use native.Mathlib.Omega.{arith}
use lib.Dec.{eqb}
use borrow.Author.Tests.{ne_eqb, eq-eqb}
use Rattle.integers.proofs.Bools.{bool, clash}
use Rattle.scheduling.specs.Scheduling.{natural, Tasks, Proper, TaskSet, In, Outside, NonEmpty, Subset, completion, Est, processing, EstPlusP, Overloads, RuleFormula}
use Rattle.scheduling.proofs.Processing.{processing_less}
use Rattle.scheduling.proofs.Exists.{est_some, lct_some, ect_some}

-- The reason of a post of i at b: the tasks of Ω start at r or later, those of Ω' at its est or later. All of Ω ends before r + p Ω + p i, and i starts at r or later.
module _ (J : Tasks natural) (ok : Proper J) (Ω Ω' : TaskSet) (i r s' b c : ℕ) (out : Outside J Ω i) (sub : Subset J Ω' Ω) (est' : Est J Ω' s') (bound : s' + processing J Ω' ≡ b)
    (low : (k : ℕ) → In J Ω k → r ≤ J.earliest k) (low_i : r ≤ J.earliest i) (ends : (k : ℕ) → In J Ω k → completion J k ≤ c) (over : c < r + (processing J Ω + J.duration i)) where
  -- the ranges that the atoms and the negated post give
  abbrev last : ℕ
  last = (r + (processing J Ω + J.duration i)) - 1

  abbrev pub Given : Tasks natural
  Given = record { count = J.count; earliest = λ k. cond (Ω' k) s' r; latest = λ k. cond (eqb k i) (b - 1) (last - J.duration k); duration = J.duration }

  out' : Ω' i ≡ false
  out' = elim (bool (Ω' i)) [ inl y ↦ clash (sub i (record { small = out.small; mem = y })) out.mem | inr y ↦ y ]

  apart : (k : ℕ) → In J Ω k → k ≡ i → ⊥
  apart k h z = clash h.mem (rw (← z) at out.mem)

  late : (k : ℕ) → In J Ω k → Given.latest k ≡ last - J.duration k
  late k h = rw (ne_eqb k i (apart k h))

  -- They hold at entry.
  pub holds_low : (k : ℕ) → In J Ω k → Given.earliest k ≤ J.earliest k
  holds_low k h = elim (bool (Ω' k))
      [ inl y ↦ rw y (est'.bounds (J.earliest k) (k, record { small = h.small; mem = y }, refl)) | inr y ↦ rw y (low k h) ]

  pub holds_high : (k : ℕ) → In J Ω k → J.latest k ≤ Given.latest k
  holds_high k h = omega (arith, late k h, ends k h)

  -- They pass.
  in→ : {S : TaskSet} {k : ℕ} → In J S k → In Given S k
  in→ h = record { small = h.small; mem = h.mem }

  in← : {S : TaskSet} {k : ℕ} → In Given S k → In J S k
  in← h = record { small = h.small; mem = h.mem }

  processing_eq : (S : TaskSet) → processing J S ≡ processing Given S
  unfolding processing
  processing_eq S = refl

  r_s' : r ≤ s'
  r_s' = let (k, km, e) = est'.holds in omega (arith, e, low k (record { small = km.small; mem = sub k km }))

  earliest_r : (k : ℕ) → r ≤ Given.earliest k
  earliest_r k = elim (bool (Ω' k)) [ inl y ↦ rw y r_s' | inr y ↦ rw y (omega arith) ]

  at_s' : (k : ℕ) → Ω' k ≡ true → Given.earliest k ≡ s'
  at_s' k y = rw y

  fill' : EstPlusP Given Ω b
  fill' =
      let (k, km, e) = est'.holds in
      record {
        part = Ω';
        within = λ j h. sub j (in← h);
        start = s';
        sum = omega (arith, bound, processing_eq Ω');
        est = record { holds = (k, in→ km, at_s' k km.mem); bounds = λ w h. omega (arith, h.2, at_s' h.0 h.1.mem) };
      }

  pub passes : RuleFormula Given Ω i
  passes =
      let (k, km, e) = est'.holds in
      let ne : NonEmpty Given Ω = (k, record { small = km.small; mem = sub k km }) in
      let (a, ae) = est_some Given Ω ne in
      let (d, de) = lct_some Given Ω ne in
      let (v, ve) = ect_some Given Ω ne in
      let ra : r ≤ a = omega (arith, ae.holds.2, earliest_r ae.holds.0) in
      let dl : d ≤ last = omega (arith, de.holds.2, late de.holds.0 (in← de.holds.1), ends de.holds.0 (in← de.holds.1)) in
      let ri : Given.earliest i ≡ r = rw out' in
      let li : Given.latest i ≡ b - 1 = rw (eq-eqb i i refl) in
      let outside : Outside Given Ω i = record { small = out.small; mem = out.mem } in
      let over_i : d < Given.earliest i + (processing Given Ω + J.duration i) = omega (arith, processing_eq Ω, ri) in
      let over_Ω : d < a + (processing Given Ω + J.duration i) = omega (arith, processing_eq Ω) in
      let past : Given.latest i < v = omega (arith, li, ve.bounds b fill', bound, processing_less J Ω' k km, ok.lasts k km.small) in
      search (outside, ae, de, ve, over_i, over_Ω, past)

-- The reason of an overload: all of Ω starts at a − left or later and ends by c + right. What a + p Ω passes c by is left + right + 1.
module _ (J : Tasks natural) (ok : Proper J) (Ω : TaskSet) (a c left right : ℕ) (some : NonEmpty J Ω) (low : (k : ℕ) → In J Ω k → a ≤ J.earliest k) (ends : (k : ℕ) → In J Ω k → completion J k ≤ c)
    (slack : c + (left + right) + 1 ≡ a + processing J Ω) (room : left ≤ a) where
  abbrev pub Span : Tasks natural
  Span = record { count = J.count; earliest = λ _. a - left; latest = λ k. (c + right) - J.duration k; duration = J.duration }

  pub span_low : (k : ℕ) → In J Ω k → Span.earliest k ≤ J.earliest k
  span_low k h = omega (arith, low k h)

  pub span_high : (k : ℕ) → In J Ω k → J.latest k ≤ Span.latest k
  span_high k h = omega (arith, ends k h)

  span_dur : processing J Ω ≡ processing Span Ω
  unfolding processing
  span_dur = refl

  pub span_overloads : Overloads Span Ω
  span_overloads =
      let (k, km) = some in
      let ne : NonEmpty Span Ω = (k, record { small = km.small; mem = km.mem }) in
      let (x, xe) = est_some Span Ω ne in
      let (d, de) = lct_some Span Ω ne in
      let dm : In J Ω de.holds.0 = record { small = de.holds.1.small; mem = de.holds.1.mem } in
      record { start = x; end = d; est = xe; lct = de; over = omega (arith, xe.holds.2, de.holds.2, ends de.holds.0 dm, span_dur) }
