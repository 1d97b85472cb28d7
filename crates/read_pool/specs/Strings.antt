-- What the functions that read the pool's strings have to do with the definition's readers.
use Rattle.std.specs.Prelude.{List, ◌≡◌, ℕ, ◌+◌, ◌≤◌, length, Result, Ok, Err, IfOk}
use Rattle.refusal.specs.Number.{number}
use Rattle.refusal.specs.declared.Refusal.{Refusal}
use Rattle.slices.specs.Put.{put}
use Rattle.payload.specs.Reader.{Part}
use Rattle.payload.specs.Reading.{read_string, read_strings}
use Rattle.payload.specs.Tables.{parts_words}
use Rattle.payload.specs.declared.Extent.{Extent}
use Rattle.cursor.specs.Reads.{read, stopped}
use Rattle.cursor.specs.Advances.{Advances, answer_by}
use Rattle.cursor.specs.declared.Cursor.{Cursor}
use Rattle.read_items.specs.Context.{parts_of, part_in, PartsFit}

-- r is the string that a cursor at c reads
pub record ReadsString (c c' : Cursor) (r : Result Extent Refusal) : Type 0 where
  pub is : Advances c c' read_string (answer_by (part_in c.payload.now) r c'.at)
  pub inside : IfOk r (λ x. x.offset + x.length ≤ length c.payload.now)

-- strings in the table from its begin; the words stored are a pool table, whose strings are those read
pub record Stored (c c' : Cursor) (table table' : List ℕ) (most count n : ℕ) : Type 0 where
  pub parts : List Part
  pub reads : Advances c c' (read_strings most count 0) (read parts c'.at)
  pub each : length parts ≡ n
  pub fits : n ≤ most
  pub stored : table' ≡ put table 0 (parts_words parts)
  pub strings : parts_of c.payload.now (parts_words parts) ≡ parts
  pub strings_inside : PartsFit c.payload.now (parts_words parts)

abbrev pub StringsOutcome : Cursor → Cursor → List ℕ → List ℕ → ℕ → ℕ → Result ℕ Refusal → Type 0
StringsOutcome c c' table table' most count (Ok n) = Stored c c' table table' most count n
StringsOutcome c c' table table' most count (Err e) = Advances c c' (read_strings most count 0) (stopped (number e.reason) e.place)

pub record StringsRead (c c' : Cursor) (table table' : List ℕ) (most count : ℕ) (r : Result ℕ Refusal) : Type 0 where
  pub outcome : StringsOutcome c c' table table' most count r
