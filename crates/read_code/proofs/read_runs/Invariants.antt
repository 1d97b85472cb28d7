use Rattle.read_code.proofs.Runs.{Filling}
use Rattle.read_code.proofs.read_runs.Given as goal

abbrev pub invariant-loop-k : goal.invariant-loop-k
invariant-loop-k l = Filling l.fn.cursor l.here l.initial.spans l.spans l.used l.size l.count l.from l.k l.run
