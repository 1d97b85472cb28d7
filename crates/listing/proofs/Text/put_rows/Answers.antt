-- `put_rows` meets its contract: at each turn the lines of the first i rows are put.
use Rattle.std.proofs.Common.{add-one, arith}
use Rattle.listing.specs.Listing.{row_lines}
use Rattle.listing.specs.Laws.Puts.{adds_none, adds_then}
use Rattle.listing.proofs.Text.put_rows.Goals as goal

pub loop-i-init : goal.loop-i-init
unfolding row_lines
loop-i-init c = (adds_none _, omega arith)

pub loop-i-preserved : goal.loop-i-preserved
unfolding row_lines
loop-i-preserved c =
    let inv = c.loop-i.invariant in
    let row = c.put_row.ensures in
    (rw (add-one c.loop-i.i) (adds_then inv.0 row.adds), omega (arith, row.upper_bound))
