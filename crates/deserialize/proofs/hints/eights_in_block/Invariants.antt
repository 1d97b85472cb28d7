use Prim.Native.Nat.{◌≤◌}
use Rattle.deserialize.proofs.hints.eights_in_block.Given as goal

abbrev pub invariant-loop-byte : goal.invariant-loop-byte
invariant-loop-byte l = l.count ≤ l.byte-index
