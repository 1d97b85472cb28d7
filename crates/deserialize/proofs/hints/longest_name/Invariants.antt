use Prim.Native.Nat.{◌≤◌}
use Rattle.deserialize.proofs.hints.longest_name.Given as goal

abbrev pub invariant-loop-byte : goal.invariant-loop-byte
invariant-loop-byte l = l.n ≤ l.byte-index
