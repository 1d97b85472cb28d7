-- `pool_check::meet_row` meets its contract: the strings of the first item, then those of the second.
use Rattle.gather.specs.Laws.Gather.{row_parts_at}
use Rattle.pool_check.specs.Laws.Order.{met_as, met_stays, meets_as, meets_then}
use Rattle.pool_check.proofs.meet_row.Goals as goal

pub returns-in_err-first : goal.returns-in_err-first
returns-in_err-first c = rw c.from_residual.ensures (met_as (row_parts_at c.args.store.now _ c.row_places-places.ensures) (met_stays _ c.in_err-first.ensures))

pub returns : goal.returns
returns c = meets_as _ c.args.pool.now _ (row_parts_at c.args.store.now _ c.row_places-places.ensures) (meets_then _ _ c.in_ok-first.ensures.0 c.meet_string-2.ensures)
