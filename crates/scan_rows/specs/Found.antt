-- What the functions of the scan are asked, and what they found.
use Rattle.std.specs.Prelude.{List, ◌≡◌, ◌*◌, ℕ, length, Ok, Err}
use Rattle.std.specs.Prelude.{Result as Outcome}
use Rattle.payload.specs.Reader.{Part, Result, State, ok, refused}
use Rattle.payload.specs.Rows.{row_width}
use Rattle.payload.specs.Trees.{Script}
use Rattle.scan_rows.specs.Row.{at_row, row_count}
use Rattle.scan_rows.specs.Under.{Skip}
use Rattle.scan_rows.specs.declared.BrokenRow.{BrokenRow}

pub record WholeRows (rows : List ℕ) : Type 0 where
  pub whole : length rows ≡ row_width * row_count rows

-- the row after what was scanned, or the first row that breaks a rule
abbrev pub Scan : Type 0
Scan = Outcome ℕ BrokenRow

-- no row that breaks a rule, or the first
abbrev pub Soundness : Type 0
Soundness = Outcome (Unit {0}) BrokenRow

abbrev pub broken : ℕ → BrokenRow
broken row = record { row = row }

abbrev pub Found : {A : Type 0} → List ℕ → ℕ → ℕ → Scan → Result A → Type 0
Found {A} rows n i (Ok j) x = (a : A) × (x ≡ ok a (at_row rows j)) × Skip rows n i j
Found {A} rows n i (Err b) x = x ≡ refused 17 b.row

-- a scan that began at row i, and passed n rows with those under them, gave x
pub record Scanned {A : Type 0} (rows : List ℕ) (n i : ℕ) (r : Scan) (x : Result A) : Type 0 where
  pub found : Found rows n i r x

abbrev pub Answer : Soundness → Result (Script Part) → Type 0
Answer (Ok u) x = (script : Script Part) × (s : State) × (x ≡ ok script s)
Answer (Err b) x = x ≡ refused 17 b.row

-- the answer of the whole scan is the definition's
pub record Answers (r : Soundness) (x : Result (Script Part)) : Type 0 where
  pub answer : Answer r x
