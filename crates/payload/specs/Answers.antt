-- Document 01's number and values for each case of an answer.
use Rattle.std.specs.Prelude.{List, [], ◌∷◌, ℕ, Option, None, Some}
use Rattle.refusal.specs.Answer as answer
use Rattle.payload.specs.declared.Counts.{Counts}
use Rattle.payload.specs.declared.Extent.{Extent}
use Rattle.payload.specs.declared.Program.{Program}

---- the line flag, and the offset and length of the line index's name

abbrev pub flag_of : Option Extent → ℕ
flag_of None = 0
flag_of (Some name) = 1

abbrev pub offset_of : Option Extent → ℕ
offset_of None = 0
offset_of (Some name) = name.offset

abbrev pub length_of : Option Extent → ℕ
length_of None = 0
length_of (Some name) = name.length

-- the program record that these counts give
abbrev pub program_of : Counts → Program
program_of c = record { rows = c.rows; spans = c.spans; starts = c.starts; flag = flag_of c.name; name_o = offset_of c.name; name_n = length_of c.name }

---- a read or a check

abbrev pub Read : Type 0
Read = answer.Answer Counts

-- 0, or the refusal's number
abbrev pub read_number : Read → ℕ
read_number (answer.accepted counts) = 0
read_number (answer.refused number place) = number

-- 0, bytes consumed, used rows, spans, starts and strings, line flag, the name's offset and length; or number and place, other fields 0
abbrev pub read_fields : Read → List ℕ
read_fields (answer.accepted c) = 0 ∷ c.consumed ∷ c.rows ∷ c.spans ∷ c.starts ∷ c.strings ∷ flag_of c.name ∷ offset_of c.name ∷ length_of c.name ∷ []
read_fields (answer.refused number place) = number ∷ place ∷ 0 ∷ 0 ∷ 0 ∷ 0 ∷ 0 ∷ 0 ∷ 0 ∷ []

---- a write

abbrev pub Written : Type 0
Written = answer.Answer ℕ

-- 0, or the refusal's number
abbrev pub written_number : Written → ℕ
written_number (answer.accepted length) = 0
written_number (answer.refused number place) = number

-- 0 and the writing's length, or number and place
abbrev pub written_fields : Written → List ℕ
written_fields (answer.accepted length) = 0 ∷ length ∷ []
written_fields (answer.refused number place) = number ∷ place ∷ []
