use Prim.Native.Nat.{◌-◌}
use Rattle.scan_rows.specs.Laws.Keys.{Searching}
use Rattle.scan_rows.proofs.Rows.key_seen.Given as goal

abbrev pub invariant-loop-k : goal.invariant-loop-k
invariant-loop-k l = Searching l.self.store.now l.self.words.now l.gap l.first l.i l.k

abbrev pub decreases-loop-k : goal.decreases-loop-k
decreases-loop-k l = l.i - l.k
