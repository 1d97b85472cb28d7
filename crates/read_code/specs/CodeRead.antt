-- What reading code and its spans into a span table has to do with the definition's reader.
use Rattle.std.specs.Prelude.{List, ◌≡◌, ℕ, ◌+◌, ◌*◌, ◌≤◌, length, Result, Ok, Err}
use Rattle.slices.specs.Put.{put}
use Rattle.slices.specs.Zeros.{zeros}
use Rattle.refusal.specs.Number.{number}
use Rattle.refusal.specs.declared.Refusal.{Refusal}
use Rattle.payload.specs.Reader.{ok, refused}
use Rattle.payload.specs.Spans.{Span, read_code}
use Rattle.payload.specs.Tables.{span_words}
use Rattle.payload.specs.declared.Extent.{Extent}
use Rattle.cursor.specs.Reads.{state_at}
use Rattle.cursor.specs.declared.Cursor.{Cursor}
use Rattle.read_items.specs.Context.{part_in}

-- code that stands at x, whose runs end at `next`: its spans stand in the table after those used
pub record Accepted (p table table' : List ℕ) (used most at : ℕ) (x : Extent) (next : ℕ) : Type 0 where
  pub spans : List Span
  pub is : (rows : ℕ) → read_code most (state_at p at rows used) ≡ ok (record { part = part_in p x; spans = spans }) (state_at p next rows (used + x.length))
  pub each : length spans ≡ x.length
  pub stored : table' ≡ put table (2 * used) (span_words spans)
  pub fits : used + x.length ≤ most
  pub inside : next ≤ length p
  pub code_inside : x.offset + x.length ≤ length p

abbrev pub Outcome : List ℕ → List ℕ → List ℕ → ℕ → ℕ → ℕ → ℕ → Result Extent Refusal → Type 0
Outcome p table table' used most at next (Ok x) = Accepted p table table' used most at x next
Outcome p table table' used most at next (Err e) = (rows : ℕ) → read_code most (state_at p at rows used) ≡ refused (number e.reason) e.place

-- r is what the definition reads where a cursor at c stands, whatever rows went before; nothing is said of the table after a refusal
pub record CodeFilled (c c' : Cursor) (table table' : List ℕ) (used most : ℕ) (r : Result Extent Refusal) : Type 0 where
  pub payload : c'.payload ≡ c.payload
  pub outcome : Outcome c.payload.now table table' used most c.at c'.at r

abbrev pub Cleared : List ℕ → List ℕ → Result Extent Refusal → Type 0
Cleared table table' (Ok x) = Unit {0}
Cleared table table' (Err e) = table' ≡ zeros (length table)

-- r is what the definition reads where a cursor at c stands, whatever rows went before, and `table'` is the table after it: the spans stored, or zeros at a refusal
pub record CodeRead (c c' : Cursor) (table table' : List ℕ) (used most : ℕ) (r : Result Extent Refusal) : Type 0 where
  pub payload : c'.payload ≡ c.payload
  pub outcome : Outcome c.payload.now table table' used most c.at c'.at r
  pub cleared : Cleared table table' r
