-- `write_rows::Writing::measure` meets its contract: an empty output stores nothing, so the place is the length.
use Rattle.emit.specs.Laws.Whole.{measured}
use Rattle.write_rows.proofs.Writing.measure.Goals as goal

pub returns : goal.returns
returns c = measured c.emit_part.ensures
