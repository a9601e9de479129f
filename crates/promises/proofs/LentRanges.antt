-- Once the starts that a core leaves are stored in the ranges, the open call's contract holds.
use mathlib.Core.Path.{◌≡◌, sym, ap, subst, ◌∙◌}
use mathlib.Core.List.{List}
use Prim.Native.Nat.{ℕ}
use lib.IntN.{ℤ}
use lib.ListN.{length}
use Rattle.records.specs.declared.record.DisjunctivePropagator.{DisjunctivePropagator}
use Rattle.records.proofs.RefusedRuns.{accepted_run}
use Rattle.runs.specs.declared.outcome.Outcome.{Outcome}
use Rattle.propagator.specs.Ran.{RunLeft, Ran}
use Rattle.propagator.proofs.ReadTrace.{handed}
use Rattle.mirrored.specs.RanMirrored.{LeftMirrored, RanMirrored}
use Rattle.ranges.specs.declared.range.Range.{Range}
use Rattle.ranges.specs.Bars.{all_bars_are_fit}
use Rattle.ranges.specs.Ranges.{earliests, latests, with_starts, with_latests}
use Rattle.ranges.proofs.StoredStarts.{own_starts, own_latests}
use Rattle.promises.specs.Promise.{Promise}
use Rattle.promises.specs.MirroredPromise.{MirroredPromise}
use Rattle.promises.specs.RanLent.{RanLent}
use Rattle.promises.specs.RanMirroredLent.{RanMirroredLent}
use Rattle.promises.proofs.PromiseKept.{promised}
use Rattle.promises.proofs.MirroredPromiseKept.{promised as promised_mirrored}

pub lent : (before : DisjunctivePropagator) (ys : List Range) (posts atoms : List ℤ) (answer : Outcome) (changed : ℕ) (after : DisjunctivePropagator) (es' posts' atoms' : List ℤ)
    → length es' ≡ length ys
    → Ran before (earliests ys) (latests ys) (all_bars_are_fit ys) posts atoms (record { «record» = after; outcome = answer; changes = changed }) es' posts' atoms'
    → RanLent before ys posts atoms answer changed after (with_starts ys es') posts' atoms'
lent before ys posts atoms answer changed after es' posts' atoms' size ran = record {
  same_record = ran.keeps;
  refused = λ n. (let k = ran.refused n in
      record { number = k.answer; no_changes = k.changes; same_ranges = ap (with_starts ys) k.starts ∙ own_starts ys; same_posts = k.post_words_are; same_atoms = k.atom_words_are });
  accepted = λ z. (let (ok, fit) = (accepted_run before (earliests ys) (latests ys) (all_bars_are_fit ys) (length posts) (length atoms)).0 z in let a = ran.accepted z in record {
    promise = subst (λ (es : List ℤ). Promise before ys answer (with_starts ys es) posts' atoms') (sym a.starts)
        (promised before ys posts' atoms' answer ok fit (ap length (sym a.starts) ∙ size) a.answer (handed _ posts atoms a.post_words_are a.atom_words_are));
    left = subst (λ (es : List ℤ). RunLeft before (earliests ys) (latests ys) posts atoms answer changed es posts' atoms') a.starts a;
    stored = ap (with_starts ys) a.starts;
  });
}

pub lent_mirrored : (before : DisjunctivePropagator) (ys : List Range) (posts atoms : List ℤ) (answer : Outcome) (ls' posts' atoms' : List ℤ) → length ls' ≡ length ys
    → RanMirrored before (earliests ys) (latests ys) (all_bars_are_fit ys) posts atoms answer ls' posts' atoms' → RanMirroredLent before ys posts atoms answer (with_latests ys ls') posts' atoms'
lent_mirrored before ys posts atoms answer ls' posts' atoms' size ran = record {
  refused = λ n. (let k = ran.refused n in record { number = k.answer; same_ranges = ap (with_latests ys) k.starts ∙ own_latests ys; same_posts = k.post_words_are; same_atoms = k.atom_words_are });
  accepted = λ z. (let (ok, fit) = (accepted_run before (earliests ys) (latests ys) (all_bars_are_fit ys) (length posts) (length atoms)).0 z in let a = ran.accepted z in record {
    promise = subst (λ (ls : List ℤ). MirroredPromise before ys answer (with_latests ys ls) posts' atoms') (sym a.starts)
        (promised_mirrored before ys posts' atoms' answer ok fit (ap length (sym a.starts) ∙ size) a.answer (handed _ posts atoms a.post_words_are a.atom_words_are));
    left = subst (λ (ls : List ℤ). LeftMirrored before (earliests ys) (latests ys) posts atoms answer ls posts' atoms') a.starts a;
    stored = ap (with_latests ys) a.starts;
  });
}
