-- `read_position` meets its contract: the delta leads to a position, leads out, or no varint is read.
use Rattle.std.proofs.Common.{to_z-of_z, ◌∙◌}
use Rattle.std.specs.Int.{w64}
use Rattle.refusal.specs.Laws.Errors.{same_error}
use Rattle.cursor.specs.Laws.Advances.{by_law}
use Rattle.read_items.specs.Laws.Positions.{reads_position, reads_position_stop}
use Rattle.read_items.proofs.positions.read_position.Goals as goal

pub returns-in_err-uvarint : goal.returns-in_err-uvarint
returns-in_err-uvarint c = rw (same_error c.from_residual.result _ c.from_residual.ensures.1) (by_law (reads_position_stop _) c.in_err-uvarint.ensures.advances)

pub returns : goal.returns
returns c =
    let delta = to_z-of_z {w = w64} (record { sfits = c.unzigzag-delta.type_inv }) ∙ c.unzigzag-delta.ensures in
    rw (c.ok_or.ensures.value, c.at.ensures) (by_law (reads_position _ (to_z-of_z c.ranges.old) delta c.add_delta.ensures) c.in_ok-uvarint.ensures.advances)
