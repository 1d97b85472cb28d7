-- The tables of a script, and lent tables: their capacities, and what an answer leaves in them.
use Rattle.std.specs.Prelude.{List, [], ◌++◌, ◌∷◌, ◌≡◌, ◌/◌, min, ℕ, ltb, length}
use Rattle.std.specs.Prelude as std
use Rattle.std.proofs.Math.Option.{Option, none, some}
use Rattle.slices.specs.Zeros.{pad_to}
use Rattle.payload.specs.Answers.{read_fields}
use Rattle.payload.specs.Choice.{when◌then◌else◌}
use Rattle.payload.specs.Names.{is_listed}
use Rattle.payload.specs.Reader.{Part, Result, State, ok, refused, start}
use Rattle.payload.specs.Reading.{Payload, read_payload}
use Rattle.payload.specs.declared.Capacities.{Capacities}
use Rattle.payload.specs.declared.Extent.{Extent}
use Rattle.payload.specs.Rows.{part_words, row_table, row_width, span_table}
use Rattle.payload.specs.Sound.{Tables}
use Rattle.payload.specs.Spans.{Span}
use Rattle.payload.specs.Trees.{LineIndex, Script, single}
use Rattle.payload.specs.declared.Counts.{Counts}
use Rattle.payload.specs.Answers.{Read}
use Rattle.refusal.specs.Answer as read

---- the tables of a script

unfoldable pub span_words : List Span → List ℕ
span_words [] = []
span_words (s ∷ ss) = s.start ∷ s.end ∷ span_words ss

unfoldable pub parts_words : List Part → List ℕ
parts_words [] = []
parts_words (b ∷ bs) = part_words b ++ parts_words bs

unfoldable pub line_flag : Option (LineIndex Part) → ℕ
line_flag none = 0
line_flag (some x) = 1

unfoldable pub line_name : Option (LineIndex Part) → Part
line_name none = record { offset = 0; bytes = [] }
line_name (some x) = x.name

unfoldable pub line_starts : Option (LineIndex Part) → List ℕ
line_starts none = []
line_starts (some x) = x.starts

-- where its name stands
abbrev pub line_extent : Option (LineIndex Part) → std.Option Extent
line_extent none = std.None
line_extent (some x) = std.Some (record { offset = x.name.offset; length = length x.name.bytes })

-- a script whose parts stand in a store
unfoldable pub tables_of : List ℕ → Script Part → Tables
tables_of store u = record {
  store = store;
  rows = row_table (single u.outer);
  spans = span_words (span_table (single u.outer));
  starts = line_starts u.line;
  flag = line_flag u.line;
  name_offset = (line_name u.line).offset;
  name_length = length (line_name u.line).bytes;
}

---- lent tables

-- the size limit of payload, text, store and writing
abbrev pub size_limit : ℕ
size_limit = 16777216

-- the most rows, spans, strings and starts that any tables hold
abbrev pub limits : Capacities
limits = record { rows = 1048576; spans = 16777216; strings = 1048576; starts = 1048576 }

-- the capacities of tables of so many words: the whole entries lent, or the limits if fewer
unfoldable pub capacities_of : ℕ → ℕ → ℕ → ℕ → Capacities
capacities_of rows spans starts pool = record {
  rows = min (rows / row_width) limits.rows;
  spans = min (spans / 2) limits.spans;
  strings = min (pool / 2) limits.strings;
  starts = min starts limits.starts;
}

---- a read's answer, and the used words of each table: none after a refusal

-- the size limit is tested first
unfoldable pub reading : Capacities → List ℕ → List ℕ → Result Payload
reading c names p = when ltb size_limit (length p) then refused 16 0 else read_payload c (is_listed names) (start p)

-- bytes consumed, used rows, spans, starts and strings, and where the line index's name stands, if there is one
abbrev pub counts_of : Payload → State → Counts
counts_of u s = record {
  consumed = s.place;
  rows = s.rows;
  spans = s.spans;
  starts = length (line_starts u.script.line);
  strings = length u.pool;
  name = line_extent u.script.line;
}

unfoldable pub read_answer : Result Payload → Read
read_answer (ok u s) = read.accepted (counts_of u s)
read_answer (refused n p) = read.refused n p

unfoldable pub used_rows : Result Payload → List ℕ
used_rows (ok u s) = row_table (single u.script.outer)
used_rows (refused n p) = []

unfoldable pub used_spans : Result Payload → List ℕ
used_spans (ok u s) = span_words (span_table (single u.script.outer))
used_spans (refused n p) = []

unfoldable pub used_starts : Result Payload → List ℕ
used_starts (ok u s) = line_starts u.script.line
used_starts (refused n p) = []

unfoldable pub used_pool : Result Payload → List ℕ
used_pool (ok u s) = parts_words u.pool
used_pool (refused n p) = []

-- document 01's number and values, where what is used is what stands in the tables
unfoldable pub fields_of : Result Payload → List ℕ
fields_of (ok u s) =
    0
    ∷ s.place
    ∷ length (used_rows (ok u s)) / row_width
    ∷ length (used_spans (ok u s)) / 2
    ∷ length (used_starts (ok u s))
    ∷ length (used_pool (ok u s)) / 2
    ∷ line_flag u.script.line
    ∷ (line_name u.script.line).offset
    ∷ length (line_name u.script.line).bytes
    ∷ []
fields_of (refused n p) = n ∷ p ∷ 0 ∷ 0 ∷ 0 ∷ 0 ∷ 0 ∷ 0 ∷ 0 ∷ []

-- What a read or a check leaves: its answer with document 01's number and values, and every word of the four tables. They were lent with so many words each.
pub record Leaves (x : Result Payload) (rows spans starts pool rows' spans' starts' pool' : List ℕ) (r : Read) : Type 0 where
  pub answer : r ≡ read_answer x
  pub fields : read_fields r ≡ fields_of x
  pub rows_are : rows' ≡ pad_to (length rows) (used_rows x)
  pub spans_are : spans' ≡ pad_to (length spans) (used_spans x)
  pub starts_are : starts' ≡ pad_to (length starts) (used_starts x)
  pub pool_is : pool' ≡ pad_to (length pool) (used_pool x)
