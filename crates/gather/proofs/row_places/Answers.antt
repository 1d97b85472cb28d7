-- `gather::row_places` meets its contract: the string of the first item, then that of the second.
use mathlib.Core.Path.{sym, ◌∙◌}
use native.Mathlib.Omega.{arith}
use Rattle.gather.specs.Laws.Gather.{places_record, places_other}
use Rattle.row_layout.specs.Laws.Layout.{second_word_low}
use Rattle.gather.proofs.row_places.Goals as goal

pub returns-then-tag-eq-RECORD : goal.returns-then-tag-eq-RECORD
returns-then-tag-eq-RECORD c = places_record c.args.row.table.now c.args.row.number (sym c.tag-tag.ensures ∙ c.if-tag-eq-RECORD.true)

pub item_place-second-requires : goal.item_place-second-requires
item_place-second-requires c = omega (arith, c.second_word-word.ensures, second_word_low c.tag-tag.result)

pub returns : goal.returns
returns c =
    places_other c.args.row.table.now c.args.row.number _ c.tag-tag.ensures c.if-tag-eq-RECORD.false c.first_form.ensures c.second_form.ensures c.second_word-word.ensures
    c.item_place-first.ensures c.item_place-second.ensures
