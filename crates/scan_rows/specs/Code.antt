-- How many bytes of code the rows of a table have: one span each.
use Rattle.std.specs.Prelude.{Bool, List, ◌+◌, ◌/◌, suc, zero, ℕ, eqb, drop, get_or, length, if◌then◌else◌}
use Rattle.payload.specs.Choice.{◌and◌}
use Rattle.payload.specs.Rows.{row_width}
use Rattle.payload.specs.Sound.{spans_of}
use Rattle.payload.specs.Spans.{small_spans}
use Rattle.scan_rows.specs.Row.{row_count, tag_at, word_at}

-- of row i
unfoldable pub code_at : List ℕ → ℕ → ℕ
code_at rows i = if eqb (tag_at rows i) 32 then word_at rows i 2 else 0

-- n rows at the front of these words
unfoldable pub code_total : ℕ → List ℕ → ℕ
code_total zero ws = 0
code_total (suc n) ws = (if eqb (get_or ws 0 0) 32 then get_or ws 2 0 else 0) + code_total n (drop row_width ws)

-- one span for each byte of code, and every position small
unfoldable pub spans_fit : List ℕ → List ℕ → Bool
spans_fit rows spans = eqb (code_total (row_count rows) rows) (length spans / 2) and small_spans (spans_of spans)
