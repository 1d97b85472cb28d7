-- `put_column` meets its contract: the spaces, then the fewest digits that hold the number.
use Rattle.std.proofs.Common.{◌≡◌, ◌∙◌, length, take, sym}
use Rattle.listing.specs.Listing.{column, decimal}
use Rattle.listing.specs.Laws.Decimal.{fewest_decimal}
use Rattle.listing.specs.Laws.Puts.{adds_then}
use Rattle.listing.proofs.Text.put_column.Goals as goal

pub returns-clause-adds : goal.returns-clause-adds
unfolding column
returns-clause-adds c =
    let k = c.decimal-k.result in
    let digits = take k c.decimal-k.new.out in
    let known = c.decimal-k.ensures in
    let e : digits ≡ decimal c.args.n = known.digits ∙ fewest_decimal k c.args.n known.len in
    let l : length digits ≡ k = sym known.in_bounds.1 in
    rw (← e, l, ← c.saturating_sub.ensures) (adds_then c.put_spaces.ensures c.put_bytes.ensures)
