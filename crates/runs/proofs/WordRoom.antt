-- What a run writes fits the slices that it is lent. It makes fewer posts than there are tasks: 4n words hold its posts, and 6n² the atoms of its reasons.
use mathlib.Core.Path.{◌≡◌, refl}
use mathlib.Core.List.{List, ◌++◌}
use Prim.Native.Nat.{ℕ, suc, ◌*◌, ◌≤◌}
use native.Mathlib.Nat.{mul-le-mul_right, mul_left_comm}
use native.Mathlib.Omega.{arith}
use lib.ListN.{length, get_or, length-append}
use Rattle.integers.specs.Orders.{index}
use Rattle.scheduling.specs.Scheduling.{natural, Tasks, Proper}
use Rattle.scheduling.specs.Words.{atom_words}
use Rattle.scheduling.specs.Moments.{ByEarliest, ByCompletion}
use Rattle.scheduling.proofs.Words.{atoms_length}
use Rattle.runs.specs.Traces.{End, done, overload, emptied, Trace}
use Rattle.runs.specs.Runs.{run}
use Rattle.runs.specs.Words.{post_words, reasons, end_reason}
use Rattle.runs.proofs.WrittenSlices.{posts_length}
use Rattle.runs.proofs.AtomRoom as room

module _ (o : ℕ) (J : Tasks natural) (ok : Proper J) (est_order lct_order : List ℕ) (rk : ByEarliest J (λ j. get_or est_order j 0) (λ k. index est_order k))
    (ord : ByCompletion J (λ t. get_or lct_order t 0) (λ k. index lct_order k)) where
  abbrev n : ℕ
  n = J.count

  module _ (one : 1 ≤ n) where
    abbrev tr : Trace
    tr = run o J est_order lct_order

    pub posts_fit : length (post_words 0 tr.posts) ≤ 4 * n
    posts_fit = omega (arith, posts_length tr.posts 0, (room.short_run o J ok est_order lct_order rk ord one).few)

    end_short : (e : End) → tr.end ≡ e → length (end_reason e) ≤ 2 * n
    end_short done z = omega arith
    end_short (overload r) z = (room.short_run o J ok est_order lct_order rk ord one).over r z
    end_short emptied z = omega arith

    pub atoms_fit : length (atom_words (reasons tr.posts ++ end_reason tr.end)) ≤ 6 * (n * n)
    atoms_fit = let out = room.short_run o J ok est_order lct_order rk ord one in
        omega (
          arith,
          atoms_length (reasons tr.posts ++ end_reason tr.end),
          length-append (reasons tr.posts) (end_reason tr.end),
          room.reasons_short o J ok est_order lct_order rk ord tr.posts out.goods,
          end_short tr.end refl,
          mul-le-mul_right {m = suc (length tr.posts)} {n = n} (2 * n) out.few,
          mul_left_comm n 2 n,
        )
