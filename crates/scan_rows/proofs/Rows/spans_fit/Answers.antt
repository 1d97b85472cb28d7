-- `scan_rows::Rows::spans_fit` meets its contract: the count first; at each turn all spans are small exactly where those from here on are.
use mathlib.Core.Path.{sym, ◌∙◌}
use native.Mathlib.Omega.{arith}
use Rattle.payload.specs.Choice.{◌and◌}
use Rattle.scan_rows.specs.Code.{spans_fit}
use Rattle.scan_rows.specs.Laws.Script.{small_next, large_start, large_end, small_end}
use Rattle.scan_rows.proofs.Rows.spans_fit.Goals as goal

pub returns-then-not-code_is : goal.returns-then-not-code_is
unfolding spans_fit ◌and◌
returns-then-not-code_is c = rw (sym c.if-not-code_is.ensures)

pub returns-then-spans-i-ge9223372036854775808 : goal.returns-then-spans-i-ge9223372036854775808
unfolding spans_fit ◌and◌
returns-then-spans-i-ge9223372036854775808 c =
    let loop = c.loop-i in
    rw (sym c.if-not-code_is.ensures)
    (sym (loop.invariant ∙ large_start c.args.spans.now loop.i (omega (arith, c.loop-i-test.true, c.requires)) c.if-spans-i-ge9223372036854775808.true))

pub returns-then-spans-i-ge9223372036854775808-2 : goal.returns-then-spans-i-ge9223372036854775808-2
unfolding spans_fit ◌and◌
returns-then-spans-i-ge9223372036854775808-2 c =
    let loop = c.loop-i in
    rw (sym c.if-not-code_is.ensures)
    (sym
    (loop.invariant
    ∙ large_end c.args.spans.now loop.i (omega (arith, c.loop-i-test.true, c.requires)) c.if-spans-i-ge9223372036854775808.false c.if-spans-i-ge9223372036854775808-2.true))

pub loop-i-preserved : goal.loop-i-preserved
loop-i-preserved c =
    let loop = c.loop-i in
    loop.invariant
    ∙ small_next c.args.spans.now loop.i (omega (arith, c.loop-i-test.true, c.requires)) c.if-spans-i-ge9223372036854775808.false c.if-spans-i-ge9223372036854775808-2.false

pub returns : goal.returns
unfolding spans_fit ◌and◌
returns c =
    rw (sym c.if-not-code_is.ensures) (sym (c.loop-i.invariant ∙ small_end c.args.spans.now c.loop-i.i (omega (arith, c.loop-i-test.false, c.requires))))
