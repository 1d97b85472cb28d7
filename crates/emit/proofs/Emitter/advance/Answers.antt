-- `emit::Emitter::advance` meets its contract: no place lies beyond the stop.
use Rattle.emit.specs.Laws.Emit.{further_reach}
use Rattle.emit.proofs.Emitter.advance.Goals as goal

pub invariant_of-self : goal.invariant_of-self
invariant_of-self c = record { room = c.args.self.now.room; place = rw c.further_on-self.ensures (further_reach c.args.self.now.at c.args.n) }
