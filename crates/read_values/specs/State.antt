-- The states that follow a state of the reader: one function sets each field, and the others are made by them.
use Rattle.std.specs.Prelude.{List, ◌≡◌, ℕ, ◌+◌, ◌*◌}
use Rattle.slices.specs.Put.{put}
use Rattle.payload.specs.Reader as reader
use Rattle.payload.specs.Rows.{row_width}
use Rattle.cursor.specs.Reads.{state_at}
use Rattle.read_values.specs.declared.State.{State}

-- the definition's state at a state of the code
abbrev pub state_of : List ℕ → State → reader.State
state_of p s = state_at p s.at s.rows s.spans

abbrev pub start_at : ℕ → State
start_at at = record { at = at; rows = 0; spans = 0 }

abbrev pub at_place : ℕ → State → State
at_place at s = record { at = at; rows = s.rows; spans = s.spans }

abbrev pub with_rows : ℕ → State → State
with_rows n s = record { at = s.at; rows = n; spans = s.spans }

abbrev pub with_spans : ℕ → State → State
with_spans n s = record { at = s.at; rows = s.rows; spans = n }

-- a row more, and the place after it
abbrev pub after_row : ℕ → State → State
after_row next s = with_rows (s.rows + 1) (at_place next s)

abbrev pub after_spans : ℕ → State → State
after_spans n s = with_spans (s.spans + n) s

-- the next row of the table holds these words, nothing else of it changed, and r is the state after the row
pub record RowStored (rows rows' row : List ℕ) (state : State) (next : ℕ) (r : State) : Type 0 where
  pub words : rows' ≡ put rows (row_width * state.rows) row
  pub after : r ≡ after_row next state
