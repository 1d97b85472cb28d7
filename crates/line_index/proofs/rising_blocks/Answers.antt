-- The starts rise up to the index that the loop has come to.
use Prim.Native.Nat.{◌+◌}
use native.Mathlib.Omega.{arith}
use Rattle.line_index.specs.Laws.LineCol.{rises_on}
use Rattle.line_index.proofs.rising_blocks.Goals as goal

pub loop-i-preserved : goal.loop-i-preserved
loop-i-preserved c =
    let at = c.loop-i in
    (omega arith, rises_on c.args.starts.now 0 at.i (at.i + 32) at.invariant.1 (c.block_rises.ensures c.if-block_rises.true))
