use Prim.Native.Nat.{◌-◌}
use Rattle.scan_rows.specs.Laws.Under.{Left}
use Rattle.scan_rows.specs.Row.{row_count}
use Rattle.scan_rows.proofs.Rows.row_after.Given as goal

abbrev pub invariant-loop-pending : goal.invariant-loop-pending
invariant-loop-pending l = Left l.self.words.now l.count l.i l.pending l.at

abbrev pub decreases-loop-pending : goal.decreases-loop-pending
decreases-loop-pending l = row_count l.self.words.now - l.at
