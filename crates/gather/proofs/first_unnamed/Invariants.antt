use Rattle.gather.specs.Laws.Named.{Passed}
use Rattle.pool_index.specs.Strings.{pool_strings}
use Rattle.gather.proofs.first_unnamed.Given as goal

abbrev pub invariant-loop-i : goal.invariant-loop-i
invariant-loop-i l = Passed l.tables.store.now (pool_strings l.tables.store.now l.pool) l.tables.rows.now l.i
