-- A run's report from its parts.
use mathlib.Core.Path.{◌≡◌, ap, ◌∙◌}
use mathlib.Core.List.{List}
use Prim.Native.Nat.{ℕ, suc, ◌+◌, ◌*◌, ◌≤◌, ◌<◌}
use native.Mathlib.Omega.{arith}
use native.Mathlib.Numerals.{add-one}
use lib.IntN.{ℤ}
use lib.ListN.{length, get_or, take}
use Rattle.scheduling.specs.Scheduling.{Atom}
use Rattle.scheduling.specs.Words.{atom_words}
use Rattle.scheduling.proofs.Words.{atoms_length}
use Rattle.runs.specs.Traces.{Post}
use Rattle.runs.specs.Demand.{no_post}
use Rattle.runs.specs.Words.{reasons}
use Rattle.runs.proofs.WrittenSlices.{reasons_suc, reasons_most}
use Rattle.post_words.specs.Posts.{word_of_task, bound_of, reason_words}
use Rattle.text.specs.DecimalText.{Puts}
use Rattle.text.proofs.PutBytes.{puts_append}
use Rattle.plan_cli.specs.Lines.{post_line, lines, why_lines}
use Rattle.plan_cli.specs.RunLines.{post_of}
use Rattle.plan_cli.specs.RunSlices.{PostHeld, PostsHeld, Posts}
use Rattle.plan_cli.proofs.RunLines.{puts_as, puts_first, puts_next}

-- a post's line, whose words come back from their bits, and its reason
pub puts_posted : {o₀ o₁ o₂ : List ℕ} {a₀ a₁ a₂ : ℕ} {x y : ℤ} (posts atoms words : List ℤ) (count j : ℕ) → x ≡ word_of_task posts j → y ≡ bound_of posts j → words ≡ reason_words posts atoms count j
    → Puts o₀ o₁ a₀ (post_line x y) a₁ → ((reason : List Atom) → words ≡ atom_words reason → Puts o₁ o₂ a₁ (why_lines reason) a₂)
    → (p : Post) → PostHeld posts atoms count j p → Puts o₀ o₂ a₀ (post_of p) a₂
puts_posted posts atoms words count j e f w line why p h =
    puts_append (puts_as (λ i. post_line ((e ∙ h.task) i) ((f ∙ h.bound) i)) line) (why p.reason (w ∙ h.reason))

-- ---- all posts, one by one
-- How far the buffer is written when j posts are put.
pub record Reached (out₀ : List ℕ) (posts atoms : List ℤ) (count : ℕ) (out : List ℕ) (end j : ℕ) : Type 0 where
  pub puts : (ps : List Post) → PostsHeld ps posts atoms count → Puts out₀ out 0 (lines post_of (take j ps)) end
  pub within : (ps : List Post) → PostsHeld ps posts atoms count → end ≤ 44 * j + 33 * length (reasons (take j ps))

module _ (out₀ : List ℕ) (posts atoms : List ℤ) (count : ℕ) where
  pub reached_none : Reached out₀ posts atoms count out₀ 0 0
  reached_none = record { puts = λ ps h. puts_first post_of no_post out₀ 0 ps; within = λ ps h. omega arith }

  module _ (out : List ℕ) (end j : ℕ) (r : Reached out₀ posts atoms count out end j) where
    abbrev words : List ℤ
    words = reason_words posts atoms count j

    long : (ps : List Post) → PostsHeld ps posts atoms count → j < count → length words ≡ 3 * length (get_or ps j no_post).reason
    long ps h q = ap length (h.each j q).reason ∙ atoms_length (get_or ps j no_post).reason

    -- there is room for the next
    pub reached_room : (room : ℕ) → Posts posts atoms count room → j < count → (4 * j + 4 ≤ length posts) × (end + 44 + 11 * length words ≤ room)
    reached_room room p q = (
      omega (arith, p.holds.inside),
      omega (arith, r.within p.list p.holds, long p.list p.holds q, p.holds.many, p.fits, reasons_suc p.list j (omega (arith, p.holds.many)), reasons_most p.list (suc j)),
    )

    pub reached_next : (out' : List ℕ) (end' : ℕ) → j < count → ((p : Post) → PostHeld posts atoms count j p → Puts out out' end (post_of p) end') → end' ≤ end + 44 + 11 * length words
        → Reached out₀ posts atoms count out' end' (j + 1)
    reached_next out' end' q put most = record {
      puts = λ ps h. puts_next post_of no_post ps j (omega (arith, h.many)) (r.puts ps h) (put (get_or ps j no_post) (h.each j q));
      within = λ ps h. let s = reasons_suc ps j (omega (arith, h.many)) in let w = r.within ps h in let l = long ps h q in rw (add-one j) (omega arith);
    }
