-- `Row::tag` meets its contract: the tag is the row's first word.
use Rattle.std.specs.Prelude.{◌*◌}
use Rattle.std.proofs.Common.{add-zero}
use Rattle.payload.specs.Rows.{row_width}
use Rattle.payload.specs.Choice.{when◌then◌else◌}
use Rattle.row_layout.specs.Row.{row_word}
use Rattle.row_layout.proofs.row.Row.tag.Goals as goal

pub returns : goal.returns
unfolding row_word when◌then◌else◌
returns c = rw (add-zero (row_width * c.args.self.number))
