-- `write_rows::Writing::write_item` meets its contract: a string is its index, and any other item one call.
use Rattle.payload.specs.Choice.{when◌then◌else◌}
use Rattle.write_rows.specs.Walk.{item_bytes}
use Rattle.write_rows.proofs.Writing.write_item.Goals as goal

pub returns-in-Text : goal.returns-in-Text
unfolding item_bytes when◌then◌else◌
returns-in-Text c = rw c.in-Text.is c.write_index.ensures
