-- A page's lines, one after the other, and read back by their places.
use mathlib.Core.Path.{◌≡◌, refl, sym, ap, subst, ◌∙◌}
use mathlib.Core.Bool.{true}
use mathlib.Core.List.{List, [], ◌∷◌, ◌++◌, flat_map, append_assoc, append-nil}
use Prim.Native.Nat.{ℕ, zero, suc, ◌+◌, ◌*◌, ◌≤◌, ◌<◌}
use native.Mathlib.Nat.{mul-zero, mul-suc}
use native.Mathlib.Numerals.{add-one}
use native.Mathlib.Omega.{arith}
use lib.IntN.{ℤ}
use lib.ListN.{length, get_or, take, drop, length-append}
use lib.Seq.{take-suc, take_at, drop-append-add}
use Rattle.std.specs.Prelude.{Result, Ok, Err}
use Rattle.integers.specs.declared.refused.Refusal.{Refusal}
use Rattle.integers.specs.Answers.{refused_by}
use Rattle.integers.specs.Limits.{TASKS, DURATIONS}
use Rattle.integers.specs.Orders.{has}
use Rattle.integers.proofs.RefusalNumbers.{never_zero}
use Rattle.integers.proofs.Words.{overwrites}
use Rattle.integers.proofs.Permutations.{has_here, has_later}
use Rattle.integers.specs.Texts.{bytes_of}
use Rattle.records.specs.declared.record.DisjunctivePropagator.{DisjunctivePropagator}
use Rattle.fixed_schedules.specs.FixedSchedules.{start_at, end_at, order_of}
use Rattle.fixed_schedules.specs.Neighbours.{Sortable, Traversable, Tested}
use Rattle.fixed_schedules.proofs.ScheduleOrder.{ordered, order_length, order_permutes, front_within}
use Rattle.fixed_schedules.proofs.AcceptedSchedules.{input_of, sortable, short, traversable}
use Rattle.text.specs.DecimalText.{Puts}
use Rattle.text.proofs.PutBytes.{puts_append}
use Rattle.pages.specs.Lines.{LINE, heading}
use Rattle.pages.specs.Numbers.{numbers_of_page}
use Rattle.pages.specs.Pages.{line_at, page_of, page_number, AcceptedPage, OneLineEach, Paged}
use Rattle.pages.proofs.RightAligned.{line_length, line_once}
use Rattle.pages.proofs.PageRefused.{page_many, accepted_page}

module _ (f : ℕ → List ℕ) where
  pub flat_append : (ks js : List ℕ) → flat_map f (ks ++ js) ≡ flat_map f ks ++ flat_map f js
  unfolding flat_map
  flat_append [] js = refl
  flat_append (k ∷ ks) js = ap (λ (l : List ℕ). f k ++ l) (flat_append ks js) ∙ sym (append_assoc (f k) (flat_map f ks) (flat_map f js))

  pub flat_one : (k : ℕ) → flat_map f (k ∷ []) ≡ f k
  unfolding flat_map
  flat_one k = append-nil (f k)

  flat_cons : (k : ℕ) (ks : List ℕ) → flat_map f (k ∷ ks) ≡ f k ++ flat_map f ks
  unfolding flat_map
  flat_cons k ks = refl

  flat_front : (k : ℕ) (ks rest : List ℕ) → flat_map f (k ∷ ks) ++ rest ≡ f k ++ (flat_map f ks ++ rest)
  flat_front k ks rest = ap (λ (l : List ℕ). l ++ rest) (flat_cons k ks) ∙ append_assoc (f k) (flat_map f ks) rest

  flat_nil : flat_map f [] ≡ []
  unfolding flat_map
  flat_nil = refl

  -- ---- the loop: no line yet, and one line more
  pub puts_none : (order out : List ℕ) (at : ℕ) → Puts out out at (flat_map f (take 0 order)) at
  unfolding flat_map
  puts_none order out at = record { text = refl; end = omega arith }

  pub puts_next : {first second third : List ℕ} {from at next : ℕ} (order : List ℕ) (i : ℕ) → i < length order → Puts first second from (flat_map f (take i order)) at
      → Puts second third at (f (get_or order i 0)) next
      → Puts first third from (flat_map f (take (i + 1) order)) next
  puts_next order i q p s = rw (add-one i, take-suc order i 0 q, flat_append (take i order) (get_or order i 0 ∷ []), flat_one (get_or order i 0)) (puts_append p s)

  -- ---- lines of one length, by their places, and what stands after them
  module _ (wide : ℕ) where
    pub flat_length : (ks : List ℕ) → ((k : ℕ) → has ks k ≡ true → length (f k) ≡ wide) → length (flat_map f ks) ≡ wide * length ks
    flat_length [] each = ap length flat_nil ∙ sym (mul-zero wide)
    flat_length (k ∷ ks) each = omega (
      arith,
      ap length (flat_cons k ks),
      length-append (f k) (flat_map f ks),
      each k (has_here k ks),
      flat_length ks (λ j h. each j (has_later k j ks h)),
      mul-suc wide (length ks),
    )

    pub flat_line : (ks : List ℕ) → ((k : ℕ) → has ks k ≡ true → length (f k) ≡ wide) → (rest : List ℕ) (t : ℕ) → t < length ks → take wide (drop (wide * t) (flat_map f ks ++ rest)) ≡ f (get_or ks t 0)
    flat_line [] each rest t q = absurd (omega arith)
    flat_line (k ∷ ks) each rest zero q = rw (mul-zero wide, flat_front k ks rest) (take_at (f k) (flat_map f ks ++ rest) wide (each k (has_here k ks)))
    flat_line (k ∷ ks) each rest (suc t) q =
        let e : wide * suc t ≡ length (f k) + wide * t = omega (arith, mul-suc wide t, each k (has_here k ks)) in
        rw (e, flat_front k ks rest, drop-append-add (f k) (flat_map f ks ++ rest) (wide * t)) (flat_line ks (λ j h. each j (has_later k j ks h)) rest t (omega arith))

    -- after a heading of the same length
    pub line_after : (head : List ℕ) → length head ≡ wide → (ks : List ℕ) → ((k : ℕ) → has ks k ≡ true → length (f k) ≡ wide) → (rest : List ℕ) (t : ℕ) → t < length ks
        → take wide (drop (wide * (t + 1)) (head ++ (flat_map f ks ++ rest))) ≡ f (get_or ks t 0)
    line_after head e ks each rest t q =
        let z : wide * (t + 1) ≡ length head + wide * t = omega (arith, add-one t, mul-suc wide t) in
        rw (z, drop-append-add head (flat_map f ks ++ rest) (wide * t)) (flat_line ks each rest t q)

-- ---- the page of an accepted input
module _ (ds : List ℕ) (es : List ℤ) (s : Sortable es) (short : (k : ℕ) → k < length es → get_or ds k 0 ≤ DURATIONS) where
  pub each_line : (k : ℕ) → k < length es → length (line_at ds es k) ≡ LINE
  each_line k q = line_length k (start_at es k) (get_or ds k 0) (omega (arith, s.few)) (s.starts k q) (short k q)

  of_order : (k : ℕ) → has (order_of es) k ≡ true → length (line_at ds es k) ≡ LINE
  of_order k h = each_line k ((order_permutes es).below k h)

  -- The page has one line for each task, by start, least first.
  pub one_line_each : OneLineEach ds es (page_of ds es)
  unfolding bytes_of
  one_line_each = record {
    long = omega (arith, length-append heading (flat_map (line_at ds es) (order_of es)), flat_length (line_at ds es) LINE (order_of es) of_order, order_length es);
    first = take_at heading (flat_map (line_at ds es) (order_of es)) LINE refl;
    line = λ t q. rw append-nil at (line_after (line_at ds es) LINE heading refl (order_of es) of_order [] t (omega (arith, order_length es)));
    once = λ j k p q e. line_once j k (start_at es j) (start_at es k) (end_at ds es j) (end_at ds es k) (omega (arith, s.few)) (omega (arith, s.few)) e;
    order = ordered es;
  }

-- ---- the call
module _ (r : DisjunctivePropagator) (es ls : List ℤ) (out : List ℕ) where
  pub refused : {out' : List ℕ} (why : Refusal) → Tested es (page_number r es ls (length out)) (Err why) → out' ≡ out → Paged r es ls out (Err why) out'
  refused why t k = record {
    refused = λ h. record { answer = ap refused_by t.number; keeps = k };
    written = λ z. absurd (never_zero why (t.number ∙ z));
    lines = λ z. absurd (never_zero why (t.number ∙ z));
  }

  -- where no test fails, the order and the room are what the lines ask for, and the lines are the page
  module _ (order : List ℕ) (t : Tested es (page_number r es ls (length out)) (Ok order)) where
    held : AcceptedPage r es ls (length out)
    held = (accepted_page r es ls (length out)).0 (sym t.number)

    count : r.count ≡ length es
    count = sym held.schedule.counts.earliest

    -- the order's first places, one for each task of the record, can be lent, and are as many as the tasks
    pub within : r.count ≤ length order
    within = omega (arith, count, front_within es order t.order)

    pub fits : r.count ≡ length (take r.count order)
    fits = omega (arith, count, ap length (ap (λ (n : ℕ). take n order) count ∙ t.order), order_length es)

    pub able : (length es ≤ length order) × Traversable (take (length es) order) es r.durations × (LINE * (length es + 1) ≤ length out)
    able = (front_within es order t.order, traversable r es ls (input_of held.schedule) t.order, omega (arith, held.room, held.schedule.counts.earliest))

    pub written : {out' : List ℕ} (n : ℕ) → Puts out out' 0 (heading ++ flat_map (line_at r.durations es) (take (length es) order)) n → Paged r es ls out (Ok n) out'
    written {out'} n q = record {
      refused = λ not. absurd (not (sym t.number));
      written = λ _. record {
        answer = ap (λ (m : ℕ). numbers_of_page (Ok m)) (omega (arith, page.end, one.long, held.schedule.counts.earliest));
        text = page.text ∙ overwrites out (page_of r.durations es) (omega (arith, one.long, held.schedule.counts.earliest, held.room));
      };
      lines = λ _. one;
    }
      where
        one : OneLineEach r.durations es (page_of r.durations es)
        one = one_line_each r.durations es (sortable r es ls (input_of held.schedule)) (short r es ls (input_of held.schedule))

        page : Puts out out' 0 (page_of r.durations es) n
        page = subst (λ (l : List ℕ). Puts out out' 0 (heading ++ flat_map (line_at r.durations es) l) n) t.order q

-- too many ranges are refused as none are
pub too_many : (r : DisjunctivePropagator) (es ls : List ℤ) (out : List ℕ) (page : Result ℕ Refusal) (out' : List ℕ) → TASKS < length es → Paged r [] [] out page out' → Paged r es ls out page out'
too_many r es ls out page out' many p =
    let (same, not) = page_many r es ls (length out) many in
    let k = p.refused (λ z. not (sym same ∙ z)) in
    record { refused = λ _. record { answer = k.answer ∙ ap refused_by same; keeps = k.keeps }; written = λ z. absurd (not z); lines = λ z. absurd (not z) }
