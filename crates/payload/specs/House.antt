-- The house check: reads, then passes exactly if the program is sound, all bytes are consumed and its writing is the payload; else 19.
use Rattle.std.specs.Prelude.{Bool, false, true, List, ℕ, eqb}
use Rattle.slices.specs.Same.{same}
use Rattle.payload.specs.Choice.{◌and◌, when◌then◌else◌}
use Rattle.payload.specs.Reader.{Result, State, ok, refused}
use Rattle.payload.specs.Reading.{Payload}
use Rattle.payload.specs.declared.Capacities.{Capacities}
use Rattle.payload.specs.Sound.{is_nil, script_of}
use Rattle.payload.specs.Tables.{reading, tables_of}
use Rattle.payload.specs.Trees.{Script, forget_script, single, size}
use Rattle.payload.specs.Write.{named_rows}
use Rattle.payload.specs.Writing.{pool_of, writing}

unfoldable pub is_ok : {A : Type 0} → Result A → Bool
is_ok (ok a s) = true
is_ok (refused n p) = false

-- a record name that is no gathered string leaves a program without a writing
unfoldable pub all_named : Script (List ℕ) → Bool
all_named s = eqb (named_rows (pool_of s) (single s.outer)) (size (single s.outer))

unfoldable pub house_written : List ℕ → Payload → State → Bool
house_written p u s = is_nil s.rest and is_ok (script_of (tables_of p u.script)) and all_named (forget_script u.script) and same (writing (forget_script u.script)) p

unfoldable pub checked : List ℕ → Result Payload → Result Payload
checked p (ok u s) = when house_written p u s then ok u s else refused 19 0
checked p (refused n q) = refused n q

unfoldable pub house : Capacities → List ℕ → List ℕ → Result Payload
house c names p = checked p (reading c names p)
