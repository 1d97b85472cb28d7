-- The text that the program prints for its input.
use Rattle.std.specs.Prelude.{List, [], ℕ, ◌*◌, ltb, length}
use Rattle.payload.specs.Choice.{when◌then◌else◌}
use Rattle.payload.specs.Reader.{Result}
use Rattle.payload.specs.Reading.{Payload}
use Rattle.payload.specs.Rows.{row_width}
use Rattle.payload.specs.Tables.{capacities_of, read_answer, reading, used_rows}
use Rattle.refusal.specs.Answer as read
use Rattle.listing.specs.Listing.{listing}

-- a payload read with an empty names list into tables of 512 rows, 1,024 spans, 512 starts and 256 strings
unfoldable pub table_reading : List ℕ → Result Payload
table_reading bytes = reading (capacities_of (row_width * 512) (2 * 1024) 512 (2 * 256)) [] bytes

-- the most bytes of a payload that is listed
abbrev pub listed_limit : ℕ
listed_limit = 4096

unfoldable pub listed : List ℕ → List ℕ
listed bytes = when ltb listed_limit (length bytes) then listing (read.refused 16 0) [] else listing (read_answer (table_reading bytes)) (used_rows (table_reading bytes))
