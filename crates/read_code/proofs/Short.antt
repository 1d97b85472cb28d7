-- A number of one byte.
use Rattle.std.specs.Prelude.{List, ℕ, ◌+◌, ◌<◌, get_or, length}
use Rattle.varint.specs.Laws.Varint.{varint_one}
use Rattle.payload.specs.Numbers.{varint}
use Rattle.cursor.specs.Reads.{read, Reads}
use Rattle.cursor.specs.Laws.Reads.{reads_varint}

-- a byte below 128 is a varint
pub reads_one : (p : List ℕ) (at : ℕ) → at < length p → get_or p at 0 < 128 → Reads p at varint (read (get_or p at 0) (at + 1))
reads_one p at h l = rw (varint_one p at h l) at (reads_varint p at)
