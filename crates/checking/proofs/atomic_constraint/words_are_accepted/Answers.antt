-- Where no word is left over, the words are right exactly where each three of them are.
use Rattle.std.proofs.Common.{◌≡◌, ◌∙◌, sym, ℕ, ◌/◌, List, ℤ, length, arith, rules, tests}
use Rattle.std.proofs.lemmas.Iterator.{YieldsList-from_slice}
use Rattle.std.proofs.lemmas.Iterator.Search.{all_from_yields_List}
use Rattle.checking.proofs.Atoms.{right_three, words_threes, words_left_over}
use Rattle.checking.proofs.atomic_constraint.words_are_accepted.Goals as goal

pub returns-then-is_empty : goal.returns-then-is_empty
returns-then-is_empty c =
    let words : List ℤ = c.args.words.now in
    let none : length c.as_chunks.result.1.now ≡ 0 = search (rules, tests) in
    let n : ℕ = length words / 3 in
    let threes = words_threes n words (omega (arith, c.as_chunks.ensures.back_len)) in
    all_from_yields_List right_three _ _ _ c.all.ensures.ran (YieldsList-from_slice c.as_chunks.result.0.now cc) (λ x b q k. search (rules, tests))
    ∙ rw c.as_chunks.ensures.front (sym threes)

pub returns-else-is_empty : goal.returns-else-is_empty
returns-else-is_empty c =
    let some : length c.as_chunks.result.1.now ≡ 0 → ⊥ = search (rules, tests) in
    c.if-is_empty.false ∙ sym (words_left_over c.args.words.now (λ e. some (c.as_chunks.ensures.back_len ∙ e)))
