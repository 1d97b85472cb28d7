-- The writing of a `write_code::Code` is its bytes: the length, then the code.
use Rattle.emit.specs.Laws.Emitter.{emits_then}
use Rattle.write_code.proofs.CodePart.emit.Goals as goal

pub returns : goal.returns
returns c = emits_then c.varint.ensures c.body.ensures
