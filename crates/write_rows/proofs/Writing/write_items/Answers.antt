-- `write_rows::Writing::write_items` meets its contract: the items, and the count where there is one.
use Rattle.std.proofs.Common.{[], ap, ◌∙◌, refl}
use Rattle.varint.specs.Uleb128.{uleb128}
use Rattle.emit.specs.Laws.Emitter.{emits_then, emits_as, emits_none}
use Rattle.write_rows.specs.Laws.Tests.{counted, uncounted, count_is, when_yes, when_no}
use Rattle.write_rows.specs.Walk.{items_bytes}
use Rattle.write_rows.proofs.Writing.write_items.Goals as goal

pub returns-in-Counted : goal.returns-in-Counted
unfolding items_bytes
returns-in-Counted c =
    let count = count_is c.args.row.table.now c.args.row.number c.word.ensures c.count_word.ensures c.tag-tag.ensures in
    emits_then c.write_both_items-next.ensures (emits_as (ap uleb128 count ∙ when_yes _ [] (counted _ c.in-Counted.is c.under_form.ensures c.tag-tag.ensures) refl) c.varint.ensures)

pub returns-in-Nothing : goal.returns-in-Nothing
unfolding items_bytes
returns-in-Nothing c =
    emits_then c.write_both_items-next.ensures (emits_as (when_no _ [] (uncounted _ c.in-Nothing.is c.under_form.ensures c.tag-tag.ensures) refl) (emits_none _))
