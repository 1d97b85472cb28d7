-- `Cursor::byte` meets its contract: a byte, or the end.
use Rattle.std.proofs.Common.{arith, refl}
use Rattle.cursor.specs.Laws.Advances.{stays}
use Rattle.cursor.specs.Laws.Reads.{reads_byte, reads_byte_end}
use Rattle.cursor.proofs.Cursor.byte.Goals as goal

pub returns-then-self-clause-advances : goal.returns-then-self-clause-advances
returns-then-self-clause-advances c = let s = c.args.self.now in rw c.at.ensures (stays (reads_byte_end s.payload.now s.at (omega arith)))

pub returns-clause-advances : goal.returns-clause-advances
returns-clause-advances c = let s = c.args.self.now in record { payload = refl; reads = reads_byte s.payload.now s.at (omega arith) }
