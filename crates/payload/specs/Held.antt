-- The program in lent tables, as the code passes it.
use Rattle.payload.specs.Reader.{Part, Result}
use Rattle.payload.specs.Sound as sound
use Rattle.payload.specs.Trees.{Script}
use Rattle.payload.specs.declared.Tables.{Tables}

-- the tables of the definition
abbrev pub tables_in : Tables → sound.Tables
tables_in t = sound.tables t.store.now t.rows.now t.spans.now t.starts.now t.flag t.name_o t.name_n

-- the script that they hold, or where they break a rule
abbrev pub script_in : Tables → Result (Script Part)
script_in t = sound.script_of (tables_in t)
