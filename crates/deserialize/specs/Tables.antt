-- What calls on the tables of what stands after the pool leave in them.
use Rattle.std.specs.Prelude.{List, ◌≡◌, ℕ, length, Result}
use Rattle.refusal.specs.Answer.{answer_of}
use Rattle.refusal.specs.declared.Refusal.{Refusal}
use Rattle.slices.specs.Zeros.{zeros}
use Rattle.payload.specs.declared.Counts.{Counts}
use Rattle.cursor.specs.Reads.{state_at}
use Rattle.cursor.specs.declared.Cursor.{Cursor}
use Rattle.read_values.specs.Did.{context}
use Rattle.deserialize.specs.Script.{ScriptLeaves, read_script}
use Rattle.deserialize.specs.declared.script_tables.ScriptTables.{ScriptTables}

-- the tables that s' has are those of s
pub record SameTables (s s' : ScriptTables) : Type 0 where
  pub same_rows : s'.rows.ghost_name ≡ s.rows.ghost_name
  pub same_spans : s'.spans.ghost_name ≡ s.spans.ghost_name
  pub same_starts : s'.starts.ghost_name ≡ s.starts.ghost_name

-- zeros in each
pub record Clears (s s' : ScriptTables) : Type 0 where
  pub same : SameTables s s'
  pub rows_after : s'.rows.now ≡ zeros (length s.rows.now)
  pub spans_after : s'.spans.now ≡ zeros (length s.spans.now)
  pub starts_after : s'.starts.now ≡ zeros (length s.starts.now)

-- r is what a cursor at c reads after the pool, and its words stand in the tables
pub record ReadsScript (s s' : ScriptTables) (c : Cursor) (pool names : List ℕ) (r : Result Counts Refusal) : Type 0 where
  pub same : SameTables s s'
  pub leaves : ScriptLeaves (read_script (context s.capacities c.payload.now names pool) (state_at c.payload.now c.at 0 0))
      s.rows.now s.spans.now s.starts.now s'.rows.now s'.spans.now s'.starts.now (answer_of r)
