-- The invariant of the walk over spans in `Runs::count`.
use Rattle.std.proofs.Common.{length}
use Rattle.payload.specs.Sound.{spans_of}
use Rattle.write_code.specs.Runs.{span}
use Rattle.write_code.specs.Laws.Length.{Counted}
use Rattle.write_code.proofs.Runs.count.Given as goal

abbrev pub invariant-loop-next : goal.invariant-loop-next
invariant-loop-next l = Counted (spans_of l.fn.self.spans.now) (span l.last.start.offset l.last.end.offset) (spans_of l.rest.spans.now) l.n

abbrev pub decreases-loop-next : goal.decreases-loop-next
decreases-loop-next l = length (spans_of l.rest.spans.now)
