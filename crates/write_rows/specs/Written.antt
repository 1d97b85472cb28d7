-- What the walk over a program reads and writes.
use Rattle.std.specs.Prelude.{List, ℕ}
use Rattle.pool_index.specs.Strings.{bytes_at}
use Rattle.row_layout.specs.declared.row.Row.{Row}
use Rattle.write_rows.specs.Payload.{payload_bytes, walk_depth}
use Rattle.write_rows.specs.Walk.{Held, held, walk}
use Rattle.write_rows.specs.declared.Values.{Values}
use Rattle.write_rows.specs.declared.Writing.{Writing}

abbrev pub held_in : Writing → Held
held_in w = held w.pool.store.now w.pool.words.now w.tables.rows.now w.tables.spans.now

-- with a row's own table
abbrev pub held_at : Writing → Row → Held
held_at w row = held w.pool.store.now w.pool.words.now row.table.now w.tables.spans.now

-- the values of the program, and its payload
abbrev pub values_bytes : Values → List ℕ
values_bytes v = (walk (held_in v.writing) walk_depth 1 0 0).bytes

abbrev pub writing_bytes : Writing → List ℕ
writing_bytes w = payload_bytes (held_in w) w.tables.flag (bytes_at w.pool.store.now w.tables.name_o w.tables.name_n) w.tables.starts.now
