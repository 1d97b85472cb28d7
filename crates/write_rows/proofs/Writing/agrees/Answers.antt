-- `write_rows::Writing::agrees` meets its contract: the place after a comparison is the payload's length exactly where the two are the same.
use Rattle.emit.specs.Laws.Whole.{compared}
use Rattle.write_rows.proofs.Writing.agrees.Goals as goal

pub returns : goal.returns
returns c = compared c.requires c.emit_part.ensures
