-- `pool_check::meet_rows` meets its contract: the rows passed, and those left.
use Rattle.pool_check.specs.Laws.Order.{rows_more, rows_stop, rows_end}
use Rattle.pool_check.proofs.meet_rows.Goals as goal

pub returns-in_err-met : goal.returns-in_err-met
returns-in_err-met c = rw c.from_residual.ensures (rows_stop c.loop-i.invariant.0 c.loop-i-test.true c.in_err-met.ensures)

pub loop-i-preserved : goal.loop-i-preserved
loop-i-preserved c = (rows_more c.loop-i.invariant.0 c.loop-i-test.true c.in_ok-met.ensures.0, c.in_ok-met.ensures.1)

pub returns : goal.returns
returns c = (rows_end c.loop-i.invariant.0 c.loop-i-test.false, c.loop-i.invariant.1)
