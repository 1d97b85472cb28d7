-- `put_row` meets its contract: one text put after another.
use Rattle.listing.specs.Listing.{row_line}
use Rattle.listing.specs.Laws.Puts.{adds_then}
use Rattle.listing.proofs.Text.put_row.Goals as goal

pub returns-clause-adds : goal.returns-clause-adds
unfolding row_line
returns-clause-adds c =
    adds_then c.put_column.ensures.adds
    (adds_then c.put_column-2.ensures.adds (adds_then c.put_column-3.ensures.adds (adds_then c.put_column-4.ensures.adds
    (adds_then c.put_column-5.ensures.adds (adds_then c.put_column-6.ensures.adds c.put_bytes.ensures)))))
