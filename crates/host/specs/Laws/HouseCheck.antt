-- Demand 3 on the contract of the exported house check: it gives 0 exactly for the writings of sound programs that its own tables hold.
use Rattle.std.specs.Prelude.{List, ◌↔◌, ◌≡◌, ℕ}
use Rattle.std.proofs.Common.{arith}
use Rattle.slices.specs.Laws.LittleEndian.{Bytes}
use Rattle.payload.specs.Answers.{read_number}
use Rattle.payload.specs.Demand3.{HouseProgram}
use Rattle.payload.specs.House.{house}
use Rattle.payload.proofs.Laws.Contracts.{house_number}
use Rattle.payload.specs.Laws.Rules.{Small}
use Rattle.payload.specs.Sound.{Tables}
use Rattle.payload.specs.Tables.{read_answer}
use Rattle.host.specs.Host.{check_capacities}

small_tables : Small check_capacities
small_tables = record { small_rows = omega arith; small_spans_lem = omega arith; small_strings = omega arith; small_starts = omega arith }

-- What `rlc2_house_check` gives for a payload p and a names list is 0 exactly if some sound program that 512 rows, 1,024 spans, 512 starts and 256 strings
-- hold, with its native names listed, has p as its writing.
pub exported_check_passes : (names p : List ℕ) → Bytes p → {r : ℕ} → r ≡ read_number (read_answer (house check_capacities names p))
    → (r ≡ 0) ↔ ((T : Tables) × HouseProgram (record { rows = 512; spans = 1024; strings = 256; starts = 512 }) names p T)
exported_check_passes names p bytes h = rw h (house_number check_capacities small_tables names p bytes)
