-- A program and its pool, as the code passes them.
use Rattle.std.specs.Prelude.{List, ℕ}
use Rattle.payload.specs.declared.Tables.{Tables}
use Rattle.pool_index.specs.Strings.{bytes_at}
use Rattle.write_rows.specs.Payload.{payload_bytes}
use Rattle.write_rows.specs.Reached.{Writable}
use Rattle.write_rows.specs.Walk.{Held, held}

-- what a walk reads of tables, with the words of their pool
abbrev pub held_tables : Tables → List ℕ → Held
held_tables t pool = held t.store.now pool t.rows.now t.spans.now

-- their payload
abbrev pub tables_bytes : Tables → List ℕ → List ℕ
tables_bytes t pool = payload_bytes (held_tables t pool) t.flag (bytes_at t.store.now t.name_o t.name_n) t.starts.now

-- they can be written
abbrev pub CanWrite : Tables → List ℕ → Type 0
CanWrite t pool = Writable t.store.now pool t.spans.now
