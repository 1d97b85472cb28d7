-- `write_rows::Writing::write_out` meets its contract: the output has room for all of it.
use Rattle.std.proofs.Common.{arith}
use Rattle.emit.specs.Emit.{output_limit}
use Rattle.write_rows.specs.Laws.Payload.{written_out}
use Rattle.write_rows.proofs.Writing.write_out.Goals as goal

pub emit_part-requires : goal.emit_part-requires
unfolding output_limit
emit_part-requires c = omega arith

pub returns : goal.returns
returns c = written_out c.requires.0 c.requires.1 c.emit_part.ensures
