use Rattle.pool_index.specs.Strings.{bytes_at}
use Rattle.gather.specs.Laws.Searching.{Looking}
use Prim.Native.Nat.{◌-◌}
use Rattle.gather.proofs.find.Given as goal

abbrev pub invariant-loop-k : goal.invariant-loop-k
invariant-loop-k l = Looking l.store l.table l.used (bytes_at l.store l.o l.n) l.path l.k

abbrev pub decreases-loop-k : goal.decreases-loop-k
decreases-loop-k l = l.used - l.k
