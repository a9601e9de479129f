-- The tests in their order, by what each leaves for those after it.
use mathlib.Core.Path.{refl, sym, ◌∙◌}
use borrow.Author.Rules.{rules}
use Rattle.records.specs.Records.{lawful_record}
use Rattle.records.proofs.Lawful.{count_is}
use Rattle.records.proofs.Slices.{lawful_last, lawful_not, second_tried, first_failed}
use Rattle.records.proofs.TestsInOrder.{in_order, one_fails}
use Rattle.records.proofs.record.lawful.Goals.{then-all_last, else-all_last, then-total_true, else-total_true}
use Rattle.records.proofs.record.lawful.Goals as goal

pub returns-then-not-count_fits : goal.returns-then-not-count_fits
unfolding lawful_record
returns-then-not-count_fits c = search (one_fails, in_order, rules)

pub returns-then-record-le-DURATIONS : goal.returns-then-record-le-DURATIONS
returns-then-record-le-DURATIONS c =
    let counted = sym c.count_fits.ensures ∙ c.if-not-count_fits.false in
    lawful_last _ ((count_is c.args.«record».now.count).0 counted).1 (search rules) counted _ _ c.split_at.ensures.front c.split_at.ensures.back (elim c.if-all_last.branch [
      | then-all_last w ↦ second_tried c.all_last.ensures w.if-all_last.true w.value-is w.total_true.ensures
      | else-all_last w ↦ first_failed _ c.all_last.ensures w.if-all_last.false w.value-is
    ]) (elim c.if-total_true.branch [
      | then-total_true w ↦ second_tried refl w.if-total_true.true w.value-is refl
      | else-total_true w ↦ first_failed _ refl w.if-total_true.false w.value-is
    ]) c.if-record-le-DURATIONS.true c.all_zero.ensures

pub returns-else-record-le-DURATIONS : goal.returns-else-record-le-DURATIONS
returns-else-record-le-DURATIONS c =
    let counted = sym c.count_fits.ensures ∙ c.if-not-count_fits.false in
    lawful_not _ ((count_is c.args.«record».now.count).0 counted).1 (search rules) counted _ _ c.split_at.ensures.front c.split_at.ensures.back (elim c.if-all_last.branch [
      | then-all_last w ↦ second_tried c.all_last.ensures w.if-all_last.true w.value-is w.total_true.ensures
      | else-all_last w ↦ first_failed _ c.all_last.ensures w.if-all_last.false w.value-is
    ]) (elim c.if-total_true.branch [
      | then-total_true w ↦ second_tried refl w.if-total_true.true w.value-is refl
      | else-total_true w ↦ first_failed _ refl w.if-total_true.false w.value-is
    ]) c.if-record-le-DURATIONS.false
