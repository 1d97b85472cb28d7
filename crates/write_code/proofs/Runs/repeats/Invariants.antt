-- The invariant of the walk over spans in `Runs::repeats`.
use Rattle.write_code.specs.Runs.{span}
use Rattle.write_code.specs.Laws.Runs.{Repeats}
use Rattle.write_code.proofs.Runs.repeats.Given as goal

abbrev pub invariant-loop-k : goal.invariant-loop-k
invariant-loop-k l = Repeats (span l.s.start.offset l.s.end.offset) l.words l.k
