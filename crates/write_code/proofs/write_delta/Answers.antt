-- `write_code::write_delta` meets its contract: the ULEB128 of the zigzag is the definition's delta.
use Rattle.std.proofs.Common.{ap}
use Rattle.varint.specs.Uleb128.{uleb128}
use Rattle.payload.specs.Spans.{write_delta}
use Rattle.emit.specs.Laws.Emitter.{emits_as}
use Rattle.write_code.proofs.write_delta.Goals as goal

pub returns : goal.returns
unfolding write_delta
returns c = emits_as (ap uleb128 c.delta_to.ensures) c.varint.ensures
