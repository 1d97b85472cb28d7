-- Room in the tables of what stands after the pool.
use Rattle.std.specs.Prelude.{List, ℕ, ◌*◌, ◌≤◌, length}
use Rattle.payload.specs.Rows.{row_width}
use Rattle.payload.specs.Tables.{limits}
use Rattle.payload.specs.declared.Capacities.{Capacities}

-- so many entries fit each table, and are within the limits
pub record HasRoom (c : Capacities) (rows spans starts : List ℕ) : Type 0 where
  pub rows_fit : row_width * c.rows ≤ length rows
  pub spans_fit : 2 * c.spans ≤ length spans
  pub starts_fit : c.starts ≤ length starts
  pub few_rows : c.rows ≤ limits.rows
  pub few_spans : c.spans ≤ limits.spans
