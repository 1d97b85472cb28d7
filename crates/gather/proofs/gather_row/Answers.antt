-- `gather::gather_row` meets its contract: the strings of the first item, then those of the second.
use mathlib.Core.Path.{refl}
use Rattle.gather.specs.Laws.Gather.{row_parts_at}
use Rattle.gather.specs.Laws.Interning.{interned_as, interned_then, interned_more}
use Rattle.gather.proofs.gather_row.Goals as goal

pub returns-in_err-more : goal.returns-in_err-more
returns-in_err-more c =
    rw c.from_residual.ensures (interned_as refl (row_parts_at c.args.store.now _ c.row_places-places.ensures) (interned_more _ _ c.in_err-more.ensures))

pub returns : goal.returns
returns c = interned_as refl (row_parts_at c.args.store.now _ c.row_places-places.ensures) (interned_then _ c.in_ok-more.ensures c.gather_string-2.ensures)
