-- The count so far, and that of the starts still to come, make the count of all.
use native.Mathlib.Omega.{arith}
use Rattle.line_index.specs.Laws.LineCol.{above_yes, above_no, above_end}
use Rattle.line_index.proofs.not_above.Goals.{else-start-o, then-start-o}
use Rattle.line_index.proofs.not_above.Goals as goal

pub loop-start-preserved : goal.loop-start-preserved
loop-start-preserved c =
    let a = c.args in
    let i = c.loop-start.start-index in
    let go = c.loop-start-test.true in
    elim c.if-start-o.branch [
      | then-start-o w ↦ (omega arith, omega (arith, above_no a.starts.now i go a.o w.if-start-o.true))
      | else-start-o w ↦ (omega arith, omega (arith, above_yes a.starts.now i go a.o w.if-start-o.false))
    ]

pub returns : goal.returns
returns c = omega (arith, above_end c.args.starts.now c.loop-start.start-index c.loop-start-test.false c.args.o)
