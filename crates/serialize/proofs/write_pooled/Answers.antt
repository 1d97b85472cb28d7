-- `serialize::write_pooled` meets its contract: refusals 18, 16 and 25 in this order, then the bytes.
use Rattle.std.proofs.Common.{refl, arith, length-take-le}
use Rattle.gather.specs.Laws.Named.{row_unnamed, rows_all_named}
use Rattle.serialize.specs.Laws.Pooled.{measured_within, leaves_unnamed, leaves_large, leaves_short, leaves_written, written_front}
use Rattle.serialize.proofs.write_pooled.Goals as goal

pub returns-in-Some : goal.returns-in-Some
returns-in-Some c =
    let named = row_unnamed _ _ _ c.in-Some.ensures in
    rw c.at.ensures (leaves_unnamed _ _ _ _ _ named.0 named.1)

pub returns-then-need-gt-SIZE : goal.returns-then-need-gt-SIZE
returns-then-need-gt-SIZE c =
    let measured = rw c.of-writing.ensures at c.measure-need.ensures in
    rw c.at-then-need-gt-SIZE.ensures (leaves_large _ _ _ _ _ refl (rows_all_named _ _ _ c.in_default.ensures) measured c.if-need-gt-SIZE.true)

pub returns-then-out-need : goal.returns-then-out-need
returns-then-out-need c =
    let measured = rw c.of-writing.ensures at c.measure-need.ensures in
    rw c.at-then-out-need.ensures (leaves_short _ _ _ _ _ refl (rows_all_named _ _ _ c.in_default.ensures) measured c.if-need-gt-SIZE.false (omega arith))

pub write_out-requires : goal.write_out-requires
write_out-requires c =
    let is = measured_within c.measure-need.ensures c.if-need-gt-SIZE.false in
    let front = length-take-le _ c.args.out.now c.if-out-need.false in
    (omega (arith, is, front), omega (arith, is, front))

pub returns : goal.returns
returns c =
    let measured = rw c.of-writing.ensures at c.measure-need.ensures in
    leaves_written _ _ _ _ _ refl (rows_all_named _ _ _ c.in_default.ensures) measured c.if-need-gt-SIZE.false c.if-out-need.false
    (written_front _ _ _ _ (measured_within measured c.if-need-gt-SIZE.false) c.if-out-need.false (rw c.of-writing.ensures at c.write_out.ensures))
