-- What the function that reads the starts of a line index has to do with the definition's reader.
use Rattle.std.specs.Prelude.{List, ◌≡◌, ℕ, ◌≤◌, pos, length, Result, Ok, Err}
use Rattle.refusal.specs.Number.{number}
use Rattle.refusal.specs.declared.Refusal.{Refusal}
use Rattle.slices.specs.Put.{put}
use Rattle.payload.specs.Reading.{read_starts}
use Rattle.cursor.specs.Reads.{read, stopped}
use Rattle.cursor.specs.Advances.{Advances}
use Rattle.cursor.specs.declared.Cursor.{Cursor}

-- k starts in the table from its begin
pub record Stored (c c' : Cursor) (table table' : List ℕ) (most count k : ℕ) : Type 0 where
  pub starts : List ℕ
  pub reads : Advances c c' (read_starts most count 0 (pos 0)) (read starts c'.at)
  pub each : length starts ≡ k
  pub fits : k ≤ most
  pub stored : table' ≡ put table 0 starts

abbrev pub StartsOutcome : Cursor → Cursor → List ℕ → List ℕ → ℕ → ℕ → Result ℕ Refusal → Type 0
StartsOutcome c c' table table' most count (Ok k) = Stored c c' table table' most count k
StartsOutcome c c' table table' most count (Err e) = Advances c c' (read_starts most count 0 (pos 0)) (stopped (number e.reason) e.place)

pub record StartsRead (c c' : Cursor) (table table' : List ℕ) (most count : ℕ) (r : Result ℕ Refusal) : Type 0 where
  pub outcome : StartsOutcome c c' table table' most count r
