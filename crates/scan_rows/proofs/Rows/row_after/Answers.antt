-- `scan_rows::Rows::row_after` meets its contract: at each turn the rows that are pending end where all of them end.
use native.Mathlib.Omega.{arith}
use Rattle.scan_rows.specs.Laws.Under.{left_room, left_next, left_end}
use Rattle.scan_rows.proofs.Rows.row_after.Goals as goal

pub invariant_of-rows_under : goal.invariant_of-rows_under
invariant_of-rows_under c =
    let room = left_room c.loop-pending.invariant c.requires.by_index.0 c.requires.by_index.1 c.requires.i_bound c.loop-pending-test.true in
    record { inside = omega arith }

pub rows_under-n-requires : goal.rows_under-n-requires
rows_under-n-requires c = omega (arith, (left_room c.loop-pending.invariant c.requires.by_index.0 c.requires.by_index.1 c.requires.i_bound c.loop-pending-test.true).1)

pub overflow_add-pending : goal.overflow_add-pending
overflow_add-pending c =
    omega (arith, (left_room c.loop-pending.invariant c.requires.by_index.0 c.requires.by_index.1 c.requires.i_bound c.loop-pending-test.true).1, c.rows_under-n.ensures)

pub loop-pending-preserved : goal.loop-pending-preserved
loop-pending-preserved c = left_next c.loop-pending.invariant c.loop-pending-test.true c.rows_under-n.ensures

pub returns : goal.returns
returns c = left_end c.loop-pending.invariant c.loop-pending-test.false
