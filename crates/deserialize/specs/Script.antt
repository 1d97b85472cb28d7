-- What reading the outer chunk and the line index, which stand after the pool, leaves in the tables.
use Rattle.std.specs.Prelude.{List, ◌≡◌, ℕ, length}
use Rattle.slices.specs.Zeros.{pad_to}
use Rattle.payload.specs.Reader.{Reader, Result, ◌>>=◌, pure}
use Rattle.payload.specs.Reading.{Context, Payload, read_chunk, read_line_index}
use Rattle.payload.specs.Tables.{read_answer, used_rows, used_spans, used_starts}
use Rattle.payload.specs.Answers.{Read}

-- what is read after the pool
unfoldable pub read_script : Context → Reader Payload
read_script e = read_chunk e >>= λ outer. read_line_index e >>= λ line. pure (record { pool = e.pool; script = record { outer = outer; line = line } })

-- r is the answer of x, and each table has the words of x and zeros behind them
pub record ScriptLeaves (x : Result Payload) (rows spans starts rows' spans' starts' : List ℕ) (r : Read) : Type 0 where
  pub answer : r ≡ read_answer x
  pub rows_are : rows' ≡ pad_to (length rows) (used_rows x)
  pub spans_are : spans' ≡ pad_to (length spans) (used_spans x)
  pub starts_are : starts' ≡ pad_to (length starts) (used_starts x)
