-- `scan_rows::Rows::row_fits` meets its contract: a row has two items at most; the second stands where the first ends.
use mathlib.Core.Path.{refl, sym, ◌∙◌}
use native.Mathlib.Omega.{arith}
use Rattle.payload.specs.Choice.{◌and◌, when◌then◌else◌}
use Rattle.row_layout.specs.Row.{row_word}
use Rattle.scan_rows.specs.Laws.Fits.{first_unfit, row_fits_is}
use Rattle.scan_rows.proofs.Rows.row_fits.Goals as goal

pub returns-then-not-item_fits : goal.returns-then-not-item_fits
unfolding row_word when◌then◌else◌
returns-then-not-item_fits c =
    let row = c.args.row in
    sym
    (first_unfit c.args.self.now.store.now row.table.now row.number c.tag-tag.ensures c.first_test-first.ensures c.word.ensures c.word-2.ensures (omega arith)
    (sym c.if-not-item_fits.ensures))

pub returns-then-not-item_fits-2 : goal.returns-then-not-item_fits-2
unfolding row_word when◌then◌else◌ ◌and◌
returns-then-not-item_fits-2 c =
    let row = c.args.row in
    sym
    (row_fits_is c.args.self.now.store.now row.table.now row.number c.tag-tag.ensures c.first_test-first.ensures c.word.ensures c.word-2.ensures (omega arith)
    c.second_test-second.ensures c.second_word-w.ensures c.word_inside.ensures c.word_inside-2.ensures (omega arith) refl
    ∙ rw (sym c.if-not-item_fits.ensures, sym c.if-not-item_fits-2.ensures))

pub returns : goal.returns
unfolding row_word when◌then◌else◌ ◌and◌
returns c =
    let row = c.args.row in
    c.zero_from.ensures
    ∙ sym
    (row_fits_is c.args.self.now.store.now row.table.now row.number c.tag-tag.ensures c.first_test-first.ensures c.word.ensures c.word-2.ensures (omega arith)
    c.second_test-second.ensures c.second_word-w.ensures c.word_inside.ensures c.word_inside-2.ensures (omega arith) c.used_words.ensures
    ∙ rw (sym c.if-not-item_fits.ensures, sym c.if-not-item_fits-2.ensures))
