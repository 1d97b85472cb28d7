-- The writing of a `write_rows::Writing` is its payload: pool, values, line index.
use Rattle.emit.specs.Laws.Emitter.{emits_then}
use Rattle.write_rows.specs.Payload.{payload_bytes}
use Rattle.write_rows.proofs.WritingPart.emit.Goals as goal

pub returns : goal.returns
unfolding payload_bytes
returns c = emits_then c.part.ensures (emits_then c.part-2.ensures c.write_line_index.ensures)
