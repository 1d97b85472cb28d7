-- The invariant of the loop over the runs where they are written.
use Rattle.std.proofs.Common.{length}
use Rattle.payload.specs.Sound.{spans_of}
use Rattle.payload.specs.Spans.{runs_of, write_deltas}
use Rattle.emit.specs.Laws.Emitter.{EmitsRest}
use Rattle.write_code.specs.Runs.{span}
use Rattle.write_code.specs.Laws.Length.{first}
use Rattle.write_code.proofs.RunsPart.emit.Given as goal

abbrev pub invariant-loop-run : goal.invariant-loop-run
invariant-loop-run l =
    EmitsRest l.initial.emitter l.emitter (write_deltas first (runs_of (spans_of l.self.spans.now))) (write_deltas (span l.last.start.offset l.last.end.offset) (runs_of (spans_of l.rest.spans.now)))

abbrev pub decreases-loop-run : goal.decreases-loop-run
decreases-loop-run l = length (runs_of (spans_of l.rest.spans.now))
