-- What reading the line index into a table of starts has to do with the definition's reader.
use Rattle.std.specs.Prelude.{List, ◌≡◌, ℕ, ◌≤◌, length, Result, Ok, Err}
use Rattle.std.proofs.Math.Option.{Option}
use Rattle.refusal.specs.Number.{number}
use Rattle.refusal.specs.declared.Refusal.{Refusal}
use Rattle.slices.specs.Put.{put}
use Rattle.slices.specs.Zeros.{zeros}
use Rattle.payload.specs.Reader.{Part, Reader}
use Rattle.payload.specs.Reading.{Context, read_line_index}
use Rattle.payload.specs.declared.Capacities.{Capacities}
use Rattle.payload.specs.Tables.{line_extent, line_starts}
use Rattle.payload.specs.Trees.{LineIndex}
use Rattle.cursor.specs.Reads.{Answer, read, stopped}
use Rattle.cursor.specs.Advances.{Advances}
use Rattle.cursor.specs.declared.Cursor.{Cursor}
use Rattle.read_items.specs.Context.{context_of}
use Rattle.read_items.specs.Over.{ReadsOver}
use Rattle.read_items.specs.declared.items.Items.{Items}
use Rattle.read_lines.specs.declared.Lines.{Lines}

-- the answer is what a cursor at c reads, whatever names are listed and whatever room there is for all but starts
pub record InContext {A : Type 0} (c c' : Cursor) (pool : List ℕ) (most : ℕ) (reader : Context → Reader A) (answer : Answer A) : Type 0 where
  pub reads : (cs : Capacities) (names : List ℕ) → cs.starts ≡ most → Advances c c' (reader (context_of cs c.payload.now names pool)) answer

-- a line index, or none: its starts stand in the table from its begin
pub record Accepted (c c' : Cursor) (pool table table' : List ℕ) (most : ℕ) (reader : Context → Reader (Option (LineIndex Part))) (l : Lines) : Type 0 where
  pub line : Option (LineIndex Part)
  pub is : InContext c c' pool most reader (read line c'.at)
  pub name_is : l.name ≡ line_extent line
  pub each : l.starts ≡ length (line_starts line)
  pub stored : table' ≡ put table 0 (line_starts line)
  pub fits : l.starts ≤ most

abbrev pub Outcome : Cursor → Cursor → List ℕ → List ℕ → List ℕ → ℕ → (Context → Reader (Option (LineIndex Part))) → Result Lines Refusal → Type 0
Outcome c c' pool table table' most reader (Ok l) = Accepted c c' pool table table' most reader l
Outcome c c' pool table table' most reader (Err e) = InContext c c' pool most reader (stopped (number e.reason) e.place)

-- r is what a cursor at c reads by the definition's reader; nothing is said of the table after a refusal
pub record LinesFilled (c c' : Cursor) (pool table table' : List ℕ) (most : ℕ) (reader : Context → Reader (Option (LineIndex Part))) (r : Result Lines Refusal) : Type 0 where
  pub outcome : Outcome c c' pool table table' most reader r

-- the same of the items of a payload, where the table holds as many starts as it has words
abbrev pub FillsOver : Items → Items → List ℕ → List ℕ → (Context → Reader (Option (LineIndex Part))) → Result Lines Refusal → Type 0
FillsOver s s' table table' reader r = ReadsOver s s' (λ c c' pool. LinesFilled c c' pool table table' (length table) reader r)

abbrev pub Cleared : List ℕ → List ℕ → Result Lines Refusal → Type 0
Cleared table table' (Ok l) = Unit {0}
Cleared table table' (Err e) = table' ≡ zeros (length table)

-- r is what a cursor at c reads as a line index, and `table'` is the table after it: the starts stored, or zeros at a refusal
pub record LinesRead (c c' : Cursor) (pool table table' : List ℕ) (most : ℕ) (r : Result Lines Refusal) : Type 0 where
  pub outcome : Outcome c c' pool table table' most read_line_index r
  pub cleared : Cleared table table' r
