-- `scan_rows::Rows::code_is` meets its contract: at each turn the sum of the rows passed is what was taken from the count.
use native.Mathlib.Omega.{arith}
use Rattle.scan_rows.specs.Laws.Code.{covered_next, covered_short, covered_end}
use Rattle.scan_rows.proofs.Rows.code_is.Goals as goal

pub returns-then-left-n : goal.returns-then-left-n
returns-then-left-n c = covered_short c.loop-i.invariant (omega (arith, c.count-i-end.ensures, c.loop-i-test.true)) c.code_length-n.ensures c.if-left-n.true

pub loop-i-preserved : goal.loop-i-preserved
loop-i-preserved c = covered_next c.loop-i.invariant (omega (arith, c.count-i-end.ensures, c.loop-i-test.true)) c.code_length-n.ensures c.if-left-n.false

pub returns : goal.returns
returns c = covered_end c.loop-i.invariant (omega (arith, c.count-i-end.ensures, c.loop-i-test.false))
