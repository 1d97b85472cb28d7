use Rattle.read_pool.proofs.Strings.{Storing}
use Rattle.read_pool.proofs.read_strings.Given as goal

abbrev pub invariant-loop-k : goal.invariant-loop-k
invariant-loop-k l = Storing l.initial.cursor l.cursor l.initial.pool l.pool l.most l.count l.k
