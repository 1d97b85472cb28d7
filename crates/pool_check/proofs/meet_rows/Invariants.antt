use Prim.Native.Nat.{◌/◌, ◌≤◌}
use lib.ListN.{length}
use Rattle.pool_check.specs.Laws.Order.{RowsMet}
use Rattle.pool_check.proofs.meet_rows.Given as goal

abbrev pub invariant-loop-i : goal.invariant-loop-i
invariant-loop-i l = RowsMet l.store l.rows l.pool l.i l.met × (l.met ≤ length l.pool / 2)
