use Rattle.pool_check.specs.Laws.Distinct.{Linking}
use Rattle.pool_check.proofs.link_distinct.Given as goal

abbrev pub invariant-loop-k : goal.invariant-loop-k
invariant-loop-k l = Linking l.store l.initial.pool l.pool l.k
