-- `pool_check::strings_met` meets its contract: the strings of the rows, then the line index's name.
use Rattle.gather.specs.Laws.Gather.{name_parts_at}
use Rattle.pool_check.specs.Laws.Order.{met_stays, meets_as, meets_then}
use Rattle.pool_check.proofs.strings_met.Goals as goal

pub returns-in_err-met : goal.returns-in_err-met
returns-in_err-met c = rw c.from_residual.ensures (met_stays _ c.in_err-met.ensures)

pub returns : goal.returns
returns c =
    let t = c.args.tables.now in
    meets_then _ _ c.in_ok-met.ensures.0 (meets_as _ c.args.pool.now _ (name_parts_at t.store.now t.flag t.name_o t.name_n c.name_place.ensures) c.meet_string.ensures)
