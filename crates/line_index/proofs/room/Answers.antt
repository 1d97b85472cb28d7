-- `room` meets its contract: the capacity for starts is that of lent tables.
use Rattle.payload.specs.Tables.{capacities_of}
use Rattle.line_index.proofs.room.Goals as goal

pub returns : goal.returns
unfolding capacities_of
returns c = c.start_capacity.ensures
