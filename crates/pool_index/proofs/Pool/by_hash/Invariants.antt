use Prim.Native.Nat.{◌-◌, ◌/◌}
use lib.ListN.{length}
use Rattle.pool_index.proofs.Pool.by_hash.Given as goal

abbrev pub invariant-loop-k : goal.invariant-loop-k
invariant-loop-k l = Unit {0}

abbrev pub decreases-loop-k : goal.decreases-loop-k
decreases-loop-k l = length l.self.words.now / 2 - l.k
