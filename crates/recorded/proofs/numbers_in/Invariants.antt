use Rattle.recorded.specs.Laws.Recorded.{PutIn}
use Rattle.recorded.proofs.numbers_in.Given as goal

abbrev pub invariant-loop-number : goal.invariant-loop-number
invariant-loop-number g l = PutIn g.N.PartialEq.eq g.N.Number.of_bytes g.N.Number.WIDTH l.recorded l.initial.table l.table l.rest l.agrees l.number-index
