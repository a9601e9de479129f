-- The mirrored ranges may be run on; what the run leaves may be mirrored back, and is then the mirrored pass.
use mathlib.Core.Path.{◌≡◌, refl, sym, ap, ap₂, subst, ◌∙◌}
use mathlib.Core.List.{List, [], ◌∷◌, ◌++◌}
use Prim.Native.Nat.{ℕ, ◌*◌, ◌≤◌, ◌<◌}
use native.Mathlib.Nat.{mul-le-mul}
use native.Mathlib.Omega.{arith}
use lib.IntN.{ℤ, pos}
use lib.ListN.{length, get_or, take, drop, length-map}
use lib.Seq.{length-take-le, length_front, take_at}
use lib.Signed.{◌≤ℤ◌}
use mir.Syntax.{w32}
use mir.Val.{SFits}
use Rattle.integers.specs.Limits.{TASKS, START, MIRRORED, ATOMS}
use Rattle.integers.specs.Answers.{answered}
use Rattle.integers.specs.Moments.{Above}
use Rattle.integers.proofs.Ints.{up, dn, ints, fits_show}
use Rattle.integers.proofs.MomentSums.{at_moment, more_above}
use Rattle.scheduling.specs.Scheduling.{Atom}
use Rattle.scheduling.specs.MirroredTime.{start_mirrored, mirror_atom}
use Rattle.scheduling.specs.Words.{atom_words}
use Rattle.scheduling.proofs.Words.{atoms_length}
use Rattle.runs.specs.Traces.{End, done, overload, emptied, Trace}
use Rattle.runs.specs.Words.{reasons, posts_after, atoms_after, atoms_in}
use Rattle.runs.specs.Mirrored.{starts_mirrored, duration_in, mirror_post, mirror_end, mirror_trace, mirrored_run}
use Rattle.runs.proofs.WrittenSlices.{posts_length}
use Rattle.runs.proofs.Demand as demand
use Rattle.runs.proofs.Mirrored as laws
use Rattle.runs.proofs.StartsLeft.{starts_length}
use Rattle.records.specs.declared.record.DisjunctivePropagator.{DisjunctivePropagator}
use Rattle.records.specs.Refusals.{AcceptedRun}
use Rattle.runs.specs.declared.outcome.Outcome.{Outcome}
use Rattle.runs.specs.EndNumbers.{end_numbers, trace_numbers}
use Rattle.propagator.specs.Ran.{Runnable, trace_of, RunLeft}
use Rattle.propagator.proofs.AcceptedInput as accepting
use Rattle.mirrored.specs.MirroredSlices.{StartsMirrorable, WordsMirrorable, WordsMirrored}
use Rattle.mirrored.specs.RanMirrored.{LeftMirrored}
use Rattle.mirrored.specs.RanInMirror.{RanInMirror}

-- the mirrored trace's numbers are the run's: mirroring keeps how many posts and atoms there are
same_numbers : (ds : List ℕ) (t : Trace) → trace_numbers (mirror_trace ds t) ≡ trace_numbers t
same_numbers ds t = (λ i. end_numbers (n i) (m i) (mirror_end ds t.end)) ∙ each t.end
  where
    n : length (mirror_trace ds t).posts ≡ length t.posts
    n = length-map t.posts (mirror_post ds)

    m : length (reasons (mirror_trace ds t).posts) ≡ length (reasons t.posts)
    m = ap length (laws.reasons_mirrored ds t.posts) ∙ length-map (reasons t.posts) (mirror_atom (duration_in ds))

    each : (e : End) → end_numbers (length t.posts) (length (reasons t.posts)) (mirror_end ds e) ≡ end_numbers (length t.posts) (length (reasons t.posts)) e
    each done = refl
    each (overload r) = ap (λ (k : ℕ). answered 1 (pos (length t.posts) ∷ pos (length (reasons t.posts)) ∷ pos k ∷ [])) (length-map r (mirror_atom (duration_in ds)))
    each emptied = refl

-- The pass -------------------------------------------------------------------------------------------------------------------------

-- a number between two that are near is an i32
near_fits : (a z b : ℤ) → Above MIRRORED a → a ≤ℤ z → z ≤ℤ b → b ≤ℤ pos MIRRORED → SFits w32 z
unfolding up dn
near_fits a z b h p q k = fits_show w32 z (omega (ints, at_moment MIRRORED a h)) (omega (ints, at_moment MIRRORED a h))

-- An array of TASKS places, of which the first n were lent and are now `p`.
pub record Fronted (n : ℕ) (p array : List ℤ) : Type 0 where
  pub long : length array ≡ TASKS
  pub lent : n ≤ length array
  pub size : n ≡ length (take n array)
  pub front : take n array ≡ p

pub fronted : (n : ℕ) (p old : List ℤ) → n ≤ TASKS → length old ≡ TASKS → length p ≡ length (take n old) → Fronted n p (p ++ drop n old)
fronted n p old few z kept =
    let long : length (p ++ drop n old) ≡ TASKS = length_front old p n kept ∙ z in
    let lent : n ≤ length (p ++ drop n old) = omega arith in
    record { long = long; lent = lent; size = sym (length-take-le n (p ++ drop n old) lent); front = take_at p (drop n old) n (kept ∙ length-take-le n old (omega arith)) }

module _ {before : DisjunctivePropagator} {es ls : List ℤ} {post_count count_of_atoms : ℕ} (a : AcceptedRun before es ls post_count count_of_atoms) (long : length before.durations ≡ TASKS) where
  abbrev n : ℕ
  n = before.count

  abbrev ds : List ℕ
  ds = take before.count before.durations

  abbrev early : List ℤ
  early = starts_mirrored ds ls

  abbrev late : List ℤ
  late = starts_mirrored ds es

  pub count : length ds ≡ n
  count = accepting.count before a.lawful

  pub here : demand.AcceptedTasks START ds es ls
  here = accepting.narrow before es ls post_count count_of_atoms a

  pub es_long : length es ≡ length ds
  es_long = a.counts.earliest ∙ sym count

  pub ls_long : length ls ≡ length ds
  ls_long = a.counts.latest ∙ sym count

  there : demand.AcceptedTasks MIRRORED ds early late
  there = laws.mirrored_accepted ds es ls here es_long ls_long

  run_long : length (mirrored_run ds es ls).starts ≡ length ds
  run_long = starts_length ds early late

  pub lasts_at_is : (k : ℕ) → k < n → get_or ds k 0 ≡ get_or before.durations k 0
  lasts_at_is k q = accepting.lasts_at_is before a.lawful k q

  -- starts that may be mirrored
  starts_mirrorable : (zs : List ℤ) → length zs ≡ length ds → ((k : ℕ) → k < length ds → SFits w32 (get_or (starts_mirrored ds zs) k (pos 0))) → (out : List ℤ) → length out ≡ n
      → StartsMirrorable out zs before.durations
  starts_mirrorable zs e f out l = record {
    places = omega (arith, l, e, count);
    few = omega (arith, e, count, a.lawful.few);
    long = long;
    fits = λ k q. subst (λ (p : ℕ). SFits w32 (start_mirrored p (get_or zs k (pos 0)))) (lasts_at_is k (omega (arith, e, count)))
        (subst (SFits w32) (laws.mirror_at ds zs e k) (f k (omega (arith, e))));
  }

  pub latest_mirrorable : (out : List ℤ) → length out ≡ n → StartsMirrorable out ls before.durations
  latest_mirrorable = starts_mirrorable ls ls_long
      (λ k q. near_fits (get_or early k (pos 0)) (get_or early k (pos 0)) (get_or late k (pos 0)) (there.from k q) (omega ints) (there.ranges k q) (there.to k q))

  pub earliest_mirrorable : (out : List ℤ) → length out ≡ n → StartsMirrorable out es before.durations
  earliest_mirrorable = starts_mirrorable es es_long
      (λ k q. near_fits (get_or early k (pos 0)) (get_or late k (pos 0)) (get_or late k (pos 0)) (there.from k q) (there.ranges k q) (omega ints) (there.to k q))

  -- and back
  back_fits : (k : ℕ) → k < length ds → SFits w32 (get_or (starts_mirrored ds (mirrored_run ds es ls).starts) k (pos 0))
  back_fits k q =
      let b = laws.latest_between ds es ls here es_long ls_long k q in
      near_fits (get_or es k (pos 0)) _ (get_or ls k (pos 0)) (more_above START MIRRORED (omega arith) (get_or es k (pos 0)) (here.from k q)) b.0 b.1
      (accepting.wider (get_or ls k (pos 0)) (here.to k q))

  -- the core may run in mirrored time,
  runnable : Runnable before early late post_count count_of_atoms
  runnable = record {
    lawful = a.lawful;
    counts = record { earliest = laws.mirror_length ds ls ls_long ∙ count; latest = laws.mirror_length ds es es_long ∙ count };
    from = λ k q. there.from k (omega (arith, count));
    to = λ k q. there.to k (omega (arith, count));
    ranges = λ k q. there.ranges k (omega (arith, laws.mirror_length ds ls ls_long));
    words = a.words;
  }

  -- on starts as the code holds them
  from_is : {from : List ℤ} → from ≡ starts_mirrored (take (length ls) before.durations) ls → from ≡ early
  from_is f = f ∙ ap (λ (m : ℕ). starts_mirrored (take m before.durations) ls) a.counts.latest

  to_is : {to : List ℤ} → to ≡ starts_mirrored (take (length es) before.durations) es → to ≡ late
  to_is t = t ∙ ap (λ (m : ℕ). starts_mirrored (take m before.durations) es) a.counts.earliest

  pub runnable_at : {from to : List ℤ} → from ≡ starts_mirrored (take (length ls) before.durations) ls → to ≡ starts_mirrored (take (length es) before.durations) es
      → Runnable before from to post_count count_of_atoms
  runnable_at {from} {to} f t = subst (λ (x : List ℤ). Runnable before x to post_count count_of_atoms) (sym (from_is f))
      (subst (λ (x : List ℤ). Runnable before early x post_count count_of_atoms) (sym (to_is t)) runnable)

  -- what the core leaves
  module _ {from to posts atoms from' posts' atoms' : List ℤ} {r : Outcome} {changed : ℕ} (f : from ≡ starts_mirrored (take (length ls) before.durations) ls)
      (t : to ≡ starts_mirrored (take (length es) before.durations) es)
      (l : RunLeft before from to posts atoms r changed from' posts' atoms') where
    core_is : trace_of before from to ≡ mirrored_run ds es ls
    core_is = ap₂ (λ (x y : List ℤ). trace_of before x y) (from_is f) (to_is t)

    pub left_starts : from' ≡ (mirrored_run ds es ls).starts
    left_starts = l.starts ∙ ap (λ (x : Trace). x.starts) core_is

    pub left_mirrorable : (out : List ℤ) → length out ≡ n → StartsMirrorable out from' before.durations
    left_mirrorable out e = subst (λ (zs : List ℤ). StartsMirrorable out zs before.durations) (sym left_starts) (starts_mirrorable (mirrored_run ds es ls).starts run_long back_fits out e)

    pub ran_in_mirror : {ls' : List ℤ} → ls' ≡ starts_mirrored (take (length from') before.durations) from'
        → RanInMirror before es ls posts atoms r ls' posts' atoms'
    ran_in_mirror z = record {
      answer = l.answer ∙ ap trace_numbers core_is;
      starts = z ∙ ap (λ (zs : List ℤ). starts_mirrored (take (length zs) before.durations) zs) left_starts
          ∙ ap (λ (m : ℕ). starts_mirrored (take m before.durations) (mirrored_run ds es ls).starts) (run_long ∙ count);
      post_words_are = l.post_words_are ∙ ap (posts_after posts) core_is;
      atom_words_are = l.atom_words_are ∙ ap (atoms_after atoms) core_is;
    }

  -- its words may be mirrored back
  squares : (m x : ℕ) → m ≤ TASKS → x ≤ 6 * (m * m) → x ≤ 3 * ATOMS
  squares m x h q = omega (arith, q, mul-le-mul {n₁ = m} {m₁ = m} {n₂ = TASKS} {m₂ = TASKS} h h)

  pub few_atoms : length (atoms_in (mirrored_run ds es ls)) ≤ ATOMS
  few_atoms = omega (
    arith,
    squares (length ds) (length (atom_words (atoms_in (mirrored_run ds es ls)))) here.few (laws.mirrored_atoms_fit ds es ls here es_long ls_long),
    atoms_length (atoms_in (mirrored_run ds es ls)),
  )

  module _ {posts atoms posts' atoms' ls' : List ℤ} {r : Outcome} (m : RanInMirror before es ls posts atoms r ls' posts' atoms') where
    abbrev pub words_mirrorable : WordsMirrorable r posts' atoms' before.durations
    words_mirrorable = record {
      ds = ds;
      trace = mirrored_run ds es ls;
      old_posts = posts;
      old_atoms = atoms;
      durations = record { few = omega (arith, count, a.lawful.few); same = λ k q. sym (lasts_at_is k (omega (arith, count))) };
      answer = m.answer;
      post_words_are = m.post_words_are;
      atom_words_are = m.atom_words_are;
      posts_near = laws.post_near ds es ls here es_long ls_long;
      atoms_near = laws.atoms_near ds es ls here es_long ls_long;
      few = omega (arith, laws.mirrored_posts_fit ds es ls here es_long ls_long, posts_length (mirrored_run ds es ls).posts 0, count, a.lawful.few);
      small = few_atoms;
    }

    pub left_mirrored : post_count ≤ length posts → count_of_atoms ≤ length atoms → {posts'' atoms'' : List ℤ} → WordsMirrored words_mirrorable posts'' atoms''
        → LeftMirrored before es ls posts atoms r ls' posts'' atoms''
    left_mirrored p q t = record {
      answer = m.answer ∙ sym (same_numbers ds (mirrored_run ds es ls));
      starts = m.starts;
      post_words_are = t.post_words_are;
      atom_words_are = t.atom_words_are;
      posts_fit = omega (arith, laws.post_words_length ds (mirrored_run ds es ls).posts 0, laws.mirrored_posts_fit ds es ls here es_long ls_long, count, a.words.posts);
      atoms_fit = omega (
        arith,
        ap (λ (xs : List Atom). length (atom_words xs)) (laws.atoms_mirrored ds (mirrored_run ds es ls)) ∙ laws.atom_words_length ds (atoms_in (mirrored_run ds es ls)),
        squared,
        a.words.atoms,
      );
    }
      where
        squared : length (atom_words (atoms_in (mirrored_run ds es ls))) ≤ 6 * (n * n)
        squared = subst (λ (k : ℕ). length (atom_words (atoms_in (mirrored_run ds es ls))) ≤ 6 * (k * k)) count (laws.mirrored_atoms_fit ds es ls here es_long ls_long)
