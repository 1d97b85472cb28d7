use Rattle.read_lines.proofs.Starts.{Storing}
use Rattle.read_lines.proofs.read_starts.Given as goal

abbrev pub invariant-loop-k : goal.invariant-loop-k
invariant-loop-k l = Storing l.initial.cursor l.cursor l.initial.starts l.starts l.most l.count l.k l.sum
