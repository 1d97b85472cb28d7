-- `gather::gather_rows` meets its contract: the rows passed are gathered.
use Rattle.gather.specs.Laws.Gather.{gathered_start, gathered_next, gathered_full, gathered_end}
use Rattle.gather.proofs.gather_rows.Goals as goal

pub loop-i-init : goal.loop-i-init
loop-i-init c = gathered_start _ _ _ c.requires

pub returns-in_err-count : goal.returns-in_err-count
returns-in_err-count c = rw c.from_residual.ensures (gathered_full c.loop-i.invariant c.loop-i-test.true c.in_err-count.ensures)

pub loop-i-preserved : goal.loop-i-preserved
loop-i-preserved c = gathered_next c.loop-i.invariant c.loop-i-test.true c.in_ok-count.ensures

pub returns : goal.returns
returns c = gathered_end c.loop-i.invariant c.loop-i-test.false
