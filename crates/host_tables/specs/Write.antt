-- What a host writes: the program whose record has its words.
use Rattle.std.specs.Prelude.{List, ℕ, length}
use Rattle.payload.specs.Tables.{capacities_of}
use Rattle.payload.specs.Write.{Writing, held_tables, program_of_words, write_tables}

-- what is written, or the refusal; the pool table has so many words, the output so much room
abbrev pub host_writing : List ℕ → List ℕ → List ℕ → List ℕ → List ℕ → ℕ → ℕ → Writing
host_writing store counts rows spans starts pool room =
    write_tables (capacities_of (length rows) (length spans) (length starts) pool) room (program_of_words counts) (held_tables store (program_of_words counts) rows spans starts)
