-- Each byte behind `from`, up to the loop's index, can stand after the one before it, so that whole characters stand before the last of them.
use Rattle.utf8.proofs.Skips.{skips_pairs}
use Rattle.utf8.proofs.skip_pairs.Goals as goal

pub returns-then-not-block_follows : goal.returns-then-not-block_follows
returns-then-not-block_follows c =
    let inv = c.loop-i.invariant in
    rw c.whole_end.ensures (skips_pairs _ _ _ inv.0 inv.1 inv.2 inv.3)

pub returns : goal.returns
returns c =
    let inv = c.loop-i.invariant in
    rw c.whole_end-2.ensures (skips_pairs _ _ _ inv.0 inv.1 inv.2 inv.3)
