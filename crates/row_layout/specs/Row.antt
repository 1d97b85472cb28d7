-- The words of a row table.
use Rattle.std.specs.Prelude.{List, ℕ, ◌+◌, ◌*◌, ltb, get_or}
use Rattle.payload.specs.Choice.{when◌then◌else◌}
use Rattle.payload.specs.Rows.{row_width}

-- word k of row i; 0 past its last
unfoldable pub row_word : List ℕ → ℕ → ℕ → ℕ
row_word rows i k = when ltb k row_width then get_or rows (row_width * i + k) 0 else 0
