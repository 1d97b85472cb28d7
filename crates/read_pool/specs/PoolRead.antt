-- What reading the pool into a pool table has to do with the definition's reader.
use Rattle.std.specs.Prelude.{List, ◌≡◌, ℕ, ◌*◌, ◌≤◌, length, take, Result, Ok, Err}
use Rattle.refusal.specs.Number.{number}
use Rattle.refusal.specs.declared.Refusal.{Refusal}
use Rattle.slices.specs.Put.{put}
use Rattle.slices.specs.Zeros.{zeros}
use Rattle.payload.specs.Reader.{Part}
use Rattle.payload.specs.Reading.{read_pool}
use Rattle.payload.specs.Tables.{parts_words}
use Rattle.cursor.specs.Reads.{read, stopped}
use Rattle.cursor.specs.Advances.{Advances}
use Rattle.cursor.specs.declared.Cursor.{Cursor}
use Rattle.read_items.specs.Context.{parts_of, PartsFit}

-- n strings: their offsets and lengths stand in the table from its begin
pub record Accepted (c c' : Cursor) (table table' : List ℕ) (most n : ℕ) : Type 0 where
  pub parts : List Part
  pub is : Advances c c' (read_pool most) (read parts c'.at)
  pub each : length parts ≡ n
  pub stored : table' ≡ put table 0 (parts_words parts)
  pub fits : n ≤ most
  -- the words stored are a pool table, whose strings are those read
  pub strings : parts_of c.payload.now (take (2 * n) table') ≡ parts
  pub strings_inside : PartsFit c.payload.now (take (2 * n) table')

abbrev pub Outcome : Cursor → Cursor → List ℕ → List ℕ → ℕ → Result ℕ Refusal → Type 0
Outcome c c' table table' most (Ok n) = Accepted c c' table table' most n
Outcome c c' table table' most (Err e) = Advances c c' (read_pool most) (stopped (number e.reason) e.place)

-- r is what a cursor at c reads as a pool; nothing is said of the table after a refusal
pub record PoolFilled (c c' : Cursor) (table table' : List ℕ) (most : ℕ) (r : Result ℕ Refusal) : Type 0 where
  pub outcome : Outcome c c' table table' most r

abbrev pub Cleared : List ℕ → List ℕ → Result ℕ Refusal → Type 0
Cleared table table' (Ok n) = Unit {0}
Cleared table table' (Err e) = table' ≡ zeros (length table)

-- r is what a cursor at c reads as a pool, and `table'` is the table after it: the words stored, or zeros at a refusal
pub record PoolRead (c c' : Cursor) (table table' : List ℕ) (most : ℕ) (r : Result ℕ Refusal) : Type 0 where
  pub outcome : Outcome c c' table table' most r
  pub cleared : Cleared table table' r
