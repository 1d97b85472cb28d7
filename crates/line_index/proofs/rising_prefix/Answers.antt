-- The starts before the loop's index rise, and the prefix goes on as far as those from there rise above the last.
use Prim.Native.Nat.{◌+◌, ◌-◌}
use mathlib.Core.Path.{◌≡◌, sym, ◌∙◌}
use native.Mathlib.Omega.{arith}
use lib.ListN.{get_or}
use borrow.Author.Tests.{eqb-true}
use Rattle.line_index.specs.Laws.LineCol.{rise_none, rise_run, rise_more, rise_stop, rise_end}
use Rattle.line_index.proofs.rising_prefix.Goals as goal

pub returns-then-is_empty : goal.returns-then-is_empty
returns-then-is_empty c = sym (rise_none _ (eqb-true _ 0 (sym c.is_empty.ensures ∙ c.if-is_empty.true)))

pub loop-i-init : goal.loop-i-init
loop-i-init c =
    let b = c.rising_blocks-i in
    let before : b.result + 1 - 1 ≡ b.result = omega arith in
    rw before (rise_run _ _ b.ensures.upper_bound b.ensures.rises)

pub returns-then-starts-i : goal.returns-then-starts-i
returns-then-starts-i c = omega (arith, rise_stop c.args.starts.now c.loop-i.i c.loop-i-test.true _ c.if-starts-i.true)

pub loop-i-preserved : goal.loop-i-preserved
loop-i-preserved c =
    let at = c.loop-i in
    let before : at.i + 1 - 1 ≡ at.i = omega arith in
    rw before (omega (arith, rise_more c.args.starts.now at.i c.loop-i-test.true _ c.if-starts-i.false))

pub returns : goal.returns
returns c = omega (arith, rise_end c.args.starts.now c.loop-i.i c.loop-i-test.false (get_or c.args.starts.now (c.loop-i.i - 1) 0))
