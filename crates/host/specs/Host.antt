-- What the exported calls give: the test for UTF-8 as a number, a varint's length and number, and the tables of the house check.
use Rattle.std.specs.Prelude.{Bool, cond, List, ℕ, ltb, length}
use Rattle.slices.specs.LittleEndian.{to_le_bytes}
use Rattle.answer.specs.PutIfRoom.{put_if_room}
use Rattle.payload.specs.declared.Capacities.{Capacities}
use Rattle.varint.specs.Varint.{Varint}
use Rattle.varint.specs.Varint.{Number, Refused}
use Rattle.varint.specs.Varint.{next_of}

-- 1 where a test holds, else 0
abbrev pub flag : Bool → ℕ
flag test = cond test 1 0

-- the bytes that a varint read from the front has, or 0 where the read is refused or `number` is shorter than eight bytes
abbrev pub used_of : Varint → List ℕ → ℕ
used_of read number = cond (ltb (length number) 8) 0 (next_of read)

-- what `number` then holds: its first eight bytes are the number's, where it has so many and the read is not refused
abbrev pub number_after : Varint → List ℕ → List ℕ
number_after (Number n next) number = put_if_room number 0 (to_le_bytes 8 n)
number_after (Refused refusal place) number = number

-- the tables of the house check
abbrev pub check_capacities : Capacities
check_capacities = record { rows = 512; spans = 1024; strings = 256; starts = 512 }
