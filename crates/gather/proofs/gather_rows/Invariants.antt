use Rattle.gather.specs.Laws.Gather.{RowsGathered}
use Rattle.gather.proofs.gather_rows.Given as goal

abbrev pub invariant-loop-i : goal.invariant-loop-i
invariant-loop-i l = RowsGathered l.store l.rows l.initial.table l.table l.i l.count
