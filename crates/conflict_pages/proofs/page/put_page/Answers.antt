-- The room of four lines is enough for the sentences, and each of them says the conflict's numbers.
use mathlib.Core.Path.{refl}
use borrow.Author.Rules.{rules}
use Rattle.integers.specs.Texts.{bytes_of}
use Rattle.conflict_pages.proofs.WrittenPages.{linable, no_sentences, overload_able, overload_page, first_able, second_able, late_page}
use Rattle.conflict_pages.proofs.page.put_page.Goals as goal

pub put_lines-at-requires : goal.put_lines-at-requires
put_lines-at-requires c = search (linable, rules)

pub put_overload-requires : goal.put_overload-requires
put_overload-requires c =
    let w = c.put_lines-at.ensures in
    overload_able _ _ _ _ _ c.requires w.text w.within (search rules) (search rules) c.in-Overload.is

pub put_sum-next-requires : goal.put_sum-next-requires
put_sum-next-requires c =
    let w = c.put_lines-at.ensures in
    first_able _ _ _ _ _ c.requires w.text w.within (search rules) (search rules) c.in-Late.is

pub put_sum-requires : goal.put_sum-requires
unfolding bytes_of
put_sum-requires c =
    let w = c.put_lines-at.ensures in
    let first = c.put_sum-next.ensures in
    second_able _ _ _ _ _ c.requires w.text w.within (search rules) (search rules) c.in-Late.is first.text first.within (search rules) (search rules)

pub returns-in-NothingFound : goal.returns-in-NothingFound
returns-in-NothingFound c =
    let w = c.put_lines-at.ensures in
    let p = no_sentences _ _ _ _ _ c.requires w.text w.within c.in-NothingFound.is refl in
    record { text = p.0; within = p.1 }

pub returns-in-Overload : goal.returns-in-Overload
unfolding bytes_of
returns-in-Overload c =
    let w = c.put_lines-at.ensures in
    let put = c.put_overload.ensures in
    let p = overload_page _ _ _ _ _ c.requires w.text w.within (search rules) (search rules) c.in-Overload.is put.text put.within in
    record { text = p.0; within = p.1 }

pub returns-in-Late : goal.returns-in-Late
unfolding bytes_of
returns-in-Late c =
    let w = c.put_lines-at.ensures in
    let first = c.put_sum-next.ensures in
    let put = c.put_sum.ensures in
    let p = late_page _ _ _ _ _ c.requires w.text w.within (search rules) (search rules) c.in-Late.is first.text first.within (search rules) (search rules) put.text put.within in
    record { text = p.0; within = p.1 }

pub returns-in-Refused : goal.returns-in-Refused
returns-in-Refused c =
    let w = c.put_lines-at.ensures in
    let p = no_sentences _ _ _ _ _ c.requires w.text w.within c.in-Refused.is refl in
    record { text = p.0; within = p.1 }
