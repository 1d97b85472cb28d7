-- `emit::Emitter::only_measures` meets its contract.
use Rattle.emit.specs.Emits.{only_measures}
use Rattle.emit.proofs.Emitter.only_measures.Goals as goal

pub returns-then-is_none : goal.returns-then-is_none
unfolding only_measures
returns-then-is_none c = rw c.if-is_none.ensures

pub returns-else-is_none : goal.returns-else-is_none
unfolding only_measures
returns-else-is_none c = rw (c.if-is_none.false, c.if-is_none.ensures)
