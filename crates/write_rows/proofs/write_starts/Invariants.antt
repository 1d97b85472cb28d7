use lib.ListN.{drop}
use Rattle.payload.specs.Writing.{write_starts}
use Rattle.emit.specs.Laws.Emitter.{EmitsRest}
use Rattle.write_rows.proofs.write_starts.Given as goal

abbrev pub invariant-loop-s : goal.invariant-loop-s
invariant-loop-s l = EmitsRest l.initial.emitter l.emitter (write_starts 0 l.starts) (write_starts l.last.offset (drop l.s-index l.starts))
