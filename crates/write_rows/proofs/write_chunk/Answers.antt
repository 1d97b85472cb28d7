-- `write_rows::write_chunk` meets its contract: the code, then its runs.
use Rattle.payload.specs.Spans.{write_code}
use Rattle.emit.specs.Laws.Emitter.{emits_then}
use Rattle.write_rows.proofs.write_chunk.Goals as goal

pub returns : goal.returns
unfolding write_code
returns c = emits_then c.part.ensures c.part-2.ensures
